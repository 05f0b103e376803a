-- What a conversion of digits answers: a number that was read or none, and digits that were written.
use Prim.Native.Nat.{ℕ}
use mathlib.Core.Path.{◌≡◌, sym, ap, ◌∙◌}
use mathlib.Core.List.{List}
use mathlib.Core.Option.{Option}
use lib.ListN.{length}
use Rattle.std.specs.Prelude.{Some, None}
use Rattle.std.specs.declared.option.Option.{Option as Answered}
use Rattle.std.specs.Option.{ok_or}
use Rattle.answers.specs.declared.Refusal.TheVariants.{NotOfSet}
use Rattle.answers.specs.Missing.{value_in}
use Rattle.answers.specs.Refusals.{code_of, code_in, number_in, answer_in}
use Rattle.answers.specs.Conversion.{to_number}
use Rattle.answers.proofs.Conversion.{number_60, number_given}

pub number_answered : (size : ℕ) (number : List ℕ → Option ℕ) (s : List ℕ) (found : Answered ℕ) → length s ≡ size → value_in found ≡ number s
    → answer_in (ok_or found NotOfSet) ≡ to_number size number s
unfolding answer_in code_in number_in code_of
number_answered size number s None same is = sym (number_60 size number s same (sym is))
number_answered size number s (Some n) same is = sym (number_given size number s same (sym is))
