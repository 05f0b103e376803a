-- The classes of characters: what their tests say.
use Prim.Native.Nat.{ℕ, ◌-◌, ◌≤◌, ◌<◌}
use mathlib.Core.Path.{◌≡◌, refl, sym, ◌∙◌}
use mathlib.Core.Logic.{◌⊎◌, inl, inr}
use mathlib.Core.Bool.{Bool, true, false, ◌||◌, ◌&&◌}
use native.Mathlib.Omega.{arith}
use borrow.Author.Tests.{leb-true, le-leb, lt-leb}
use lib.Dec.{leb}
use mathlib.Core.List.{List}
use mathlib.Core.Option.{some}
use Rattle.radix.specs.Names.{is_letter, is_digit, is_letter_or_digit}
use Rattle.radix.proofs.Characters.{Coded, coded, code_letter, code_digit}
use Rattle.radix.specs.Characters.{code_of, Outside}
use Rattle.command_grammar.specs.LineCharacters.{is_octal}
use Rattle.command_grammar.specs.Grammar.{All, nil, cons}

pub letter_or_digit : (x : ℕ) → is_letter_or_digit x ≡ true → ((65 ≤ x) × (x ≤ 90)) ⊎ ((48 ≤ x) × (x ≤ 57))
letter_or_digit x named = by (leb 65 x) (leb x 90) (leb 48 x) (leb x 57) refl refl refl refl named
  where
    by : (a b c d : Bool) → leb 65 x ≡ a → leb x 90 ≡ b → leb 48 x ≡ c → leb x 57 ≡ d → (a && b) || (c && d) ≡ true → ((65 ≤ x) × (x ≤ 90)) ⊎ ((48 ≤ x) × (x ≤ 57))
    by true true c d p q r s h = inl (leb-true 65 x p, leb-true x 90 q)
    by true false true true p q r s h = inr (leb-true 48 x r, leb-true x 57 s)
    by true false true false p q r s h = let z : ◌≡◌ {A = ℕ} 0 1 = cc in absurd (omega arith)
    by true false false d p q r s h = let z : ◌≡◌ {A = ℕ} 0 1 = cc in absurd (omega arith)
    by false b true true p q r s h = inr (leb-true 48 x r, leb-true x 57 s)
    by false b true false p q r s h = let z : ◌≡◌ {A = ℕ} 0 1 = cc in absurd (omega arith)
    by false b false d p q r s h = let z : ◌≡◌ {A = ℕ} 0 1 = cc in absurd (omega arith)

-- "Letters and digits all have codes"
pub named_coded : (x : ℕ) → is_letter_or_digit x ≡ true → Coded x
named_coded x named = at (letter_or_digit x named) (coded x)
  where
    at : ((65 ≤ x) × (x ≤ 90)) ⊎ ((48 ≤ x) × (x ≤ 57)) → Coded x ⊎ Outside x → Coded x
    at k (inl code) = code
    at (inl l) (inr out) = absurd (out.letter l.0 l.1)
    at (inr d) (inr out) = absurd (out.digit d.0 d.1)

pub letters_named : {s : List ℕ} → All is_letter s → All is_letter_or_digit s
letters_named nil = nil
letters_named (cons {c = x} p all) = cons {c = x} (rw p) (letters_named all)

-- letters and digits as the code comes to them: from 65 on letters only, below it digits only
module _ (x : ℕ) where
  pub high_named : 65 ≤ x → x ≤ 90 → is_letter_or_digit x ≡ true
  high_named low high = rw (le-leb 65 x low, le-leb x 90 high)

  pub high_other : 90 < x → is_letter_or_digit x ≡ false
  high_other over =
      let low : 48 ≤ x = omega arith in
      let above : 57 < x = omega arith in
      let from-letters : 65 ≤ x = omega arith in
      rw (le-leb 65 x from-letters, lt-leb x 90 over, le-leb 48 x low, lt-leb x 57 above)

  pub low_named : x < 65 → {digit answer : Bool} → digit ≡ is_digit x → digit ≡ answer → is_letter_or_digit x ≡ answer
  low_named low is told = rw (lt-leb 65 x low) (sym is ∙ told)

  -- and their codes
  pub high_code : 65 ≤ x → is_letter_or_digit x ≡ true → (code_of x ≡ some (x - 64)) × (x - 64 < 40)
  high_code low named = at (letter_or_digit x named)
    where
      at : ((65 ≤ x) × (x ≤ 90)) ⊎ ((48 ≤ x) × (x ≤ 57)) → (code_of x ≡ some (x - 64)) × (x - 64 < 40)
      at (inl l) = (code_letter x l.0 l.1, omega (arith, l.1))
      at (inr d) = absurd (omega (arith, d.1))

  pub low_code : x < 65 → is_letter_or_digit x ≡ true → (code_of x ≡ some (x - 18)) × (x - 18 < 40) × (18 ≤ x)
  low_code low named = at (letter_or_digit x named)
    where
      at : ((65 ≤ x) × (x ≤ 90)) ⊎ ((48 ≤ x) × (x ≤ 57)) → (code_of x ≡ some (x - 18)) × (x - 18 < 40) × (18 ≤ x)
      at (inl l) = absurd (omega (arith, l.0))
      at (inr d) = (code_digit x d.0 d.1, omega (arith, d.1), omega (arith, d.0))
