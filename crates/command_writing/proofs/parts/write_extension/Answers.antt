-- Rests on `PartsLaid`: an absent extension is 0; one that is there is legal and not blank, and shows its characters behind a period.
use mathlib.Core.Path.{sym, ◌∙◌}
use Rattle.command_writing.specs.LaidText.{wrong}
use Rattle.command_writing.proofs.PartsLaid.{extension_word_law, extension_blank, extension_other, extension_absent, extension_laid}
use Rattle.command_writing.proofs.parts.write_extension.Goals as goal

pub returns-then-word-ne0 : goal.returns-then-word-ne0
returns-then-word-ne0 c = wrong (extension_word_law c.if-not-present.true c.if-word-ne0.true)

pub returns-then-not-present : goal.returns-then-not-present
returns-then-not-present c = extension_absent c.if-not-present.true c.if-word-ne0.false

pub returns-then-word-eq0 : goal.returns-then-word-eq0
returns-then-word-eq0 c = wrong (extension_blank c.if-not-present.false c.if-word-eq0.true)

pub returns-then-not-is_legal_extension : goal.returns-then-not-is_legal_extension
returns-then-not-is_legal_extension c = wrong (extension_other c.if-not-present.false (sym c.is_legal_extension.ensures ∙ c.if-not-is_legal_extension.true))

pub returns : goal.returns
returns c = let legal = sym c.is_legal_extension.ensures ∙ c.if-not-is_legal_extension.false in
    extension_laid c.if-not-present.false c.if-word-eq0.false legal c.put-next.ensures c.put_word.ensures
