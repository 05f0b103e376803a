-- Rests on `EntryTestAnswers`: what name, extension and UIC answer, each where those before it passed; on `DifferTest`: the words of the key's number.
use mathlib.Core.Path.{sym, ◌∙◌}
use Rattle.consistency.proofs.DifferTest.{number_words}
use Rattle.consistency.proofs.EntryTestAnswers.{key_name, key_extension, key_uic}
use Rattle.consistency.proofs.is_key_right.Goals as goal

pub returns-then-not-is_name_right : goal.returns-then-not-is_name_right
returns-then-not-is_name_right c = let words = number_words _ _ _ c.key_number-key.ensures.value c.key_number-key.ensures.small_key in
    key_name _ _ _ words.0 words.1 (sym c.is_name_right.ensures ∙ c.if-not-is_name_right.true)

pub returns-then-not-is_legal_extension : goal.returns-then-not-is_legal_extension
returns-then-not-is_legal_extension c = let words = number_words _ _ _ c.key_number-key.ensures.value c.key_number-key.ensures.small_key in
    key_extension _ _ _ words.0 words.1 (sym c.is_name_right.ensures ∙ c.if-not-is_name_right.false)
    words.2 (sym c.is_legal_extension.ensures ∙ c.if-not-is_legal_extension.true)

pub returns : goal.returns
returns c = let words = number_words _ _ _ c.key_number-key.ensures.value c.key_number-key.ensures.small_key in
    key_uic _ _ _ words.0 words.1 (sym c.is_name_right.ensures ∙ c.if-not-is_name_right.false)
    words.2 (sym c.is_legal_extension.ensures ∙ c.if-not-is_legal_extension.false) _ _ words.3 c.is_listed.ensures
