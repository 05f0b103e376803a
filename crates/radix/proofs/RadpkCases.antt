-- RADPK's answer in each of its cases: another size, and three characters, of which one is outside the set or all make a word, that of three blanks too.
use Prim.Native.Nat.{ℕ}
use mathlib.Core.Path.{◌≡◌, refl, sym, ap, ◌∙◌}
use mathlib.Core.List.{List, [], ◌∷◌}
use mathlib.Core.Option.{some}
use lib.ListN.{length, get_or}
use Rattle.std.specs.Prelude.{Some, None, Err}
use Rattle.std.specs.declared.option.Option.{Option as Answered}
use Rattle.std.specs.Option.{ok_or}
use Rattle.answers.specs.declared.Refusal.TheVariants.{WrongArgument, NotOfSet}
use Rattle.answers.specs.Missing.{value_in}
use Rattle.answers.specs.Refusals.{code_of as code_of_refusal, code_in, number_in, answer_in}
use Rattle.answers.proofs.Conversion.{number_41, number_60, number_given}
use Rattle.radix.specs.Characters.{code_of}
use Rattle.radix.specs.Packing.{packed, packed_if, word_of}
use Rattle.radix.specs.Names.{blank}
use Rattle.radix.specs.Radpk.{radpk}
use Rattle.radix.proofs.Characters.{code_blank}
use Rattle.radix.proofs.Packing.{word_of_three}

module _ (s : List ℕ) (same : length s ≡ 3) where
  pub three_answered : (found : Answered ℕ) → value_in found ≡ packed_if (code_of (get_or s 0 0)) (code_of (get_or s 1 0)) (code_of (get_or s 2 0))
      → answer_in (ok_or found NotOfSet) ≡ radpk s
  unfolding radpk answer_in code_in number_in code_of_refusal
  three_answered None is = sym (number_60 3 word_of s same (word_of_three s same ∙ sym is))
  three_answered (Some w) is = sym (number_given 3 word_of s same (word_of_three s same ∙ sym is))

  pub word_given : (a b c w : ℕ) → code_of (get_or s 0 0) ≡ some a → code_of (get_or s 1 0) ≡ some b → code_of (get_or s 2 0) ≡ some c → w ≡ packed a b c
      → record { code = 0; number = w } ≡ radpk s
  unfolding radpk
  word_given a b c w first second third is = sym (number_given 3 word_of s same (word_of_three s same ∙ rw (first, second, third) (ap some (sym is))))

pub other_size : (s : List ℕ) → (length s ≡ 3 → ⊥) → answer_in (Err WrongArgument) ≡ radpk s
unfolding radpk answer_in code_in number_in code_of_refusal
other_size s other = sym (number_41 3 word_of s other)

-- "A word of three blanks is 0."
pub blanks_zero : radpk (blank ∷ (blank ∷ (blank ∷ []))) ≡ record { code = 0; number = 0 }
blanks_zero = sym (word_given (blank ∷ (blank ∷ (blank ∷ []))) refl 0 0 0 0 (code_blank blank refl) (code_blank blank refl) (code_blank blank refl) refl)
