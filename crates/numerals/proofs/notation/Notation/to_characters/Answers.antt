-- Rests on the two codes and the success of `Conversion`; `DigitsLimits` has which numbers have digits, and `write_digits` writes them.
use mathlib.Core.Path.{sym, ap, ◌∙◌}
use lib.ListN.{length}
use Rattle.answers.specs.Refusals.{code_in, code_of}
use Rattle.answers.proofs.Conversion.{characters_41, characters_60, characters_given, in_parts}
use Rattle.numerals.specs.Digits.{digits}
use Rattle.numerals.proofs.DigitsLimits.{digits_large, digits_written}
use Rattle.numerals.proofs.notation.Notation.to_characters.Goals as goal

pub returns-then-buffer-PLACES : goal.returns-then-buffer-PLACES
unfolding code_in code_of
returns-then-buffer-PLACES g c =
    let both = in_parts (g.met.Self.Notation.written_is _ _ ∙ characters_41 _ _ _ _ (λ same. c.if-buffer-PLACES.true (same ∙ sym c.PLACES.ensures))) in
    record { value = both.0; characters_after = both.1 }

pub returns-then-number-gt-LARGEST : goal.returns-then-number-gt-LARGEST
unfolding code_in code_of
returns-then-number-gt-LARGEST g c =
    let both = in_parts (g.met.Self.Notation.written_is _ _
    ∙ characters_60 _ _ _ _ (c.if-buffer-PLACES.false ∙ c.PLACES.ensures) (digits_large _ _ _ c.if-number-gt-LARGEST.true)) in
    record { value = both.0; characters_after = both.1 }

pub returns : goal.returns
unfolding code_in
returns g c =
    let long = c.if-buffer-PLACES.false ∙ c.PLACES.ensures in
    let written = c.write_digits.ensures ∙ ap (λ base. digits base (length c.args.buffer.now) c.args.number) c.BASE.ensures in
    let both = in_parts (g.met.Self.Notation.written_is _ _ ∙ characters_given _ _ _ _ long (digits_written _ _ long c.if-number-gt-LARGEST.false written)) in
    record { value = both.0; characters_after = both.1 }
