-- Rests on `NamesTestFilled`: an extension by its first two codes and its third; on `NamesTest`: one whose first code is none of a letter or digit; no word is longer than 16 bits.
use mathlib.Core.Path.{refl, sym, ◌∙◌}
use native.Mathlib.Omega.{arith}
use Rattle.radix.proofs.NamesTest.{extension_end, none_named}
use Rattle.radix.proofs.NamesTestFilled.{extension_pair, extension_one}
use Rattle.radix.proofs.Radix50.is_legal_extension.Goals as goal

pub returns-then-self-ge-WORD_END : goal.returns-then-self-ge-WORD_END
returns-then-self-ge-WORD_END c = extension_end _ (omega (arith, c.if-self-ge-WORD_END.true))

pub returns-then-are_named : goal.returns-then-are_named
returns-then-are_named c = c.is_ending.ensures ∙ extension_pair _ refl (omega arith) (sym c.are_named.ensures ∙ c.if-are_named.true)

pub returns-then-is_named : goal.returns-then-is_named
returns-then-is_named c = extension_one _ refl refl (sym c.are_named.ensures ∙ c.if-are_named.false)
    c.first-a.ensures (sym c.is_named.ensures ∙ c.if-is_named.true)

pub returns : goal.returns
returns c = none_named _ c.first-a.ensures refl refl (sym c.is_named.ensures ∙ c.if-is_named.false)
