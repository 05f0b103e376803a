-- The laws of the character table: each code, each character, and that the two undo each other.
use Prim.Native.Nat.{ℕ, ◌+◌, ◌-◌, ◌≤◌, ◌<◌}
use mathlib.Core.Path.{◌≡◌, refl, sym, ap, ◌∙◌}
use mathlib.Core.Logic.{◌⊎◌, inl, inr, ◌↔◌}
use mathlib.Core.Bool.{Bool, true, false, ◌&&◌}
use mathlib.Core.Option.{Option, none, some}
use native.Mathlib.Omega.{arith}
use native.Mathlib.Decide.{dec_le}
use lib.Dec.{leb, ltb}
use borrow.Author.Tests.{ltb-true, leb-true, lt-ltb, le-leb}
use Rattle.radix.specs.Characters.{table, code_of, character_of, Outside}
use Rattle.radix.specs.Names.{blank, is_letter, is_digit}
use Rattle.answers.proofs.RefusalsTests.{and_left, and_right, and_both, true_not_false}

-- a number in a range of the table, and one outside it
inside : (low end x : ℕ) → low ≤ x → x < end → (leb low x && ltb x end) ≡ true
inside low end x from to = simp (le-leb low x from, lt-ltb x end to)

outside : (low end x : ℕ) → (low ≤ x → x < end → ⊥) → (leb low x && ltb x end) ≡ false
outside low end x never = at (leb low x) refl (ltb x end) refl
  where
    at : (a : Bool) → leb low x ≡ a → (b : Bool) → ltb x end ≡ b → (a && b) ≡ false
    at false p b q = refl
    at true p false q = refl
    at true p true q = absurd (never (leb-true low x p) (ltb-true x end q))

-- the code of each kind of character
pub code_blank : (x : ℕ) → x ≡ 32 → code_of x ≡ some 0
unfolding code_of table
code_blank x is = rw is

pub code_letter : (x : ℕ) → 65 ≤ x → x ≤ 90 → code_of x ≡ some (x - 64)
unfolding code_of table
code_letter x low high =
    rw (outside 32 33 x (λ a b. omega arith), inside 65 91 x low (omega arith)) (ap some (omega arith))

pub code_dollar : (x : ℕ) → x ≡ 36 → code_of x ≡ some 27
unfolding code_of table
code_dollar x is = rw is

pub code_period : (x : ℕ) → x ≡ 46 → code_of x ≡ some 28
unfolding code_of table
code_period x is = rw is

pub code_digit : (x : ℕ) → 48 ≤ x → x ≤ 57 → code_of x ≡ some (x - 18)
unfolding code_of table
code_digit x low high =
    rw (outside 32 33 x (λ a b. omega arith), outside 65 91 x (λ a b. omega arith), outside 36 37 x (λ a b. omega arith), outside 46 47 x (λ a b. omega arith), inside 48 58 x low (omega arith))
    (ap some (omega arith))

pub code_none : (x : ℕ) → Outside x → code_of x ≡ none
unfolding code_of table
code_none x out =
    rw (
      outside 32 33 x (λ a b. out.blank (omega arith)),
      outside 65 91 x (λ a b. out.letter a (omega arith)),
      outside 36 37 x (λ a b. out.dollar (omega arith)),
      outside 46 47 x (λ a b. out.period (omega arith)),
      outside 48 58 x (λ a b. out.digit a (omega arith)),
    )

-- the character of each kind of code
pub character_blank : (c : ℕ) → c ≡ 0 → character_of c ≡ some 32
unfolding character_of table
character_blank c is = rw is

pub character_letter : (c : ℕ) → 1 ≤ c → c ≤ 26 → character_of c ≡ some (c + 64)
unfolding character_of table
character_letter c low high = rw (outside 0 1 c (λ a b. omega arith), inside 1 27 c low (omega arith)) (ap some (omega arith))

pub character_dollar : (c : ℕ) → c ≡ 27 → character_of c ≡ some 36
unfolding character_of table
character_dollar c is = rw is

pub character_period : (c : ℕ) → c ≡ 28 → character_of c ≡ some 46
unfolding character_of table
character_period c is = rw is

pub character_digit : (c : ℕ) → 30 ≤ c → c ≤ 39 → character_of c ≡ some (c + 18)
unfolding character_of table
character_digit c low high =
    rw (outside 0 1 c (λ a b. omega arith), outside 1 27 c (λ a b. omega arith), outside 27 28 c (λ a b. omega arith), outside 28 29 c (λ a b. omega arith), inside 30 40 c low (omega arith))
    (ap some (omega arith))

-- "29 has no character", and no number from 40 up is a code
pub character_none : (c : ℕ) → (c ≡ 29) ⊎ (40 ≤ c) → character_of c ≡ none
unfolding character_of table
character_none c (inl is) = rw is
character_none c (inr high) =
    rw (outside 0 1 c (λ a b. omega arith), outside 1 27 c (λ a b. omega arith), outside 27 28 c (λ a b. omega arith), outside 28 29 c (λ a b. omega arith), outside 30 40 c (λ a b. omega arith))

-- a number from one to another
record Between (from to x : ℕ) : Type 0 where
  low : from ≤ x
  high : x ≤ to

between : (from to x : ℕ) → Dec (Between from to x)
between from to x = at (dec_le from x) (dec_le x to)
  where
    at : Dec (from ≤ x) → Dec (x ≤ to) → Dec (Between from to x)
    at (yes l) (yes h) = yes (record { low = l; high = h })
    at (yes l) (no h) = no (λ r. h r.high)
    at (no l) h = no (λ r. l r.low)

-- Each number has a code that leads back to it, or is outside the set.
pub record Coded (x : ℕ) : Type 0 where
  pub code : ℕ
  pub is : code_of x ≡ some code
  pub back : character_of code ≡ some x
  pub bound : code < 40

pub coded : (x : ℕ) → Coded x ⊎ Outside x
coded x = at (between 32 32 x) (between 65 90 x) (between 36 36 x) (between 46 46 x) (between 48 57 x)
  where
    at : Dec (Between 32 32 x) → Dec (Between 65 90 x) → Dec (Between 36 36 x) → Dec (Between 46 46 x) → Dec (Between 48 57 x) → Coded x ⊎ Outside x
    at (yes i) l d p n = let is : x ≡ 32 = omega arith in inl (record { code = 0; is = code_blank x is; back = rw is (character_blank 0 refl); bound = omega arith })
    at (no b) (yes i) d p n =
        inl (record { code = x - 64; is = code_letter x i.low i.high; back = character_letter (x - 64) (omega arith) (omega arith) ∙ ap some (omega arith); bound = omega arith })
    at (no b) (no l) (yes i) p n = let is : x ≡ 36 = omega arith in inl (record { code = 27; is = code_dollar x is; back = rw is (character_dollar 27 refl); bound = omega arith })
    at (no b) (no l) (no d) (yes i) n = let is : x ≡ 46 = omega arith in inl (record { code = 28; is = code_period x is; back = rw is (character_period 28 refl); bound = omega arith })
    at (no b) (no l) (no d) (no p) (yes i) =
        inl (record { code = x - 18; is = code_digit x i.low i.high; back = character_digit (x - 18) (omega arith) (omega arith) ∙ ap some (omega arith); bound = omega arith })
    at (no b) (no l) (no d) (no p) (no n) =
        inr (record {
          blank = λ is. b (record { low = omega arith; high = omega arith });
          letter = λ from to. l (record { low = from; high = to });
          dollar = λ is. d (record { low = omega arith; high = omega arith });
          period = λ is. p (record { low = omega arith; high = omega arith });
          digit = λ from to. n (record { low = from; high = to });
        })

-- Each code has a character that leads back to it, or is 29 or no code at all.
pub record Spelled (c : ℕ) : Type 0 where
  pub character : ℕ
  pub is : character_of c ≡ some character
  pub back : code_of character ≡ some c

pub spelled : (c : ℕ) → Spelled c ⊎ ((c ≡ 29) ⊎ (40 ≤ c))
spelled c = at (dec_le c 0) (dec_le c 26) (dec_le c 27) (dec_le c 28) (dec_le c 29) (dec_le c 39)
  where
    at : Dec (c ≤ 0) → Dec (c ≤ 26) → Dec (c ≤ 27) → Dec (c ≤ 28) → Dec (c ≤ 29) → Dec (c ≤ 39) → Spelled c ⊎ ((c ≡ 29) ⊎ (40 ≤ c))
    at (yes h) l d p o n = let is : c ≡ 0 = omega arith in inl (record { character = 32; is = character_blank c is; back = rw is (code_blank 32 refl) })
    at (no b) (yes h) d p o n =
        inl (record { character = c + 64; is = character_letter c (omega arith) h; back = code_letter (c + 64) (omega arith) (omega arith) ∙ ap some (omega arith) })
    at (no b) (no l) (yes h) p o n = let is : c ≡ 27 = omega arith in inl (record { character = 36; is = character_dollar c is; back = rw is (code_dollar 36 refl) })
    at (no b) (no l) (no d) (yes h) o n = let is : c ≡ 28 = omega arith in inl (record { character = 46; is = character_period c is; back = rw is (code_period 46 refl) })
    at (no b) (no l) (no d) (no p) (yes h) n = inr (inl (omega arith))
    at (no b) (no l) (no d) (no p) (no o) (yes h) =
        inl (record { character = c + 18; is = character_digit c (omega arith) h; back = code_digit (c + 18) (omega arith) (omega arith) ∙ ap some (omega arith) })
    at (no b) (no l) (no d) (no p) (no o) (no n) = inr (inr (omega arith))

-- The table read both ways: a character has a code exactly if the code has the character.
pub code_character : (x c : ℕ) → code_of x ≡ some c → character_of c ≡ some x
code_character x c is = at (coded x)
  where
    at : Coded x ⊎ Outside x → character_of c ≡ some x
    at (inl k) = let same : k.code ≡ c = cc in rw same at k.back
    at (inr out) = let never : ◌≡◌ {A = Option ℕ} none (some c) = sym (code_none x out) ∙ is in let z : ◌≡◌ {A = ℕ} 0 1 = cc in absurd (omega arith)

pub character_code : (c x : ℕ) → character_of c ≡ some x → code_of x ≡ some c
character_code c x is = at (spelled c)
  where
    at : Spelled c ⊎ ((c ≡ 29) ⊎ (40 ≤ c)) → code_of x ≡ some c
    at (inl k) = let same : k.character ≡ x = cc in rw same at k.back
    at (inr out) = let never : ◌≡◌ {A = Option ℕ} none (some x) = sym (character_none c out) ∙ is in let z : ◌≡◌ {A = ℕ} 0 1 = cc in absurd (omega arith)

pub code_bound : (x c : ℕ) → code_of x ≡ some c → c < 40
code_bound x c is = at (coded x)
  where
    at : Coded x ⊎ Outside x → c < 40
    at (inl k) = let same : k.code ≡ c = cc in omega (arith, k.bound)
    at (inr out) = let never : ◌≡◌ {A = Option ℕ} none (some c) = sym (code_none x out) ∙ is in let z : ◌≡◌ {A = ℕ} 0 1 = cc in absurd (omega arith)

-- exactly which characters and codes have none
pub code_none_iff : (x : ℕ) → code_of x ≡ none ↔ Outside x
code_none_iff x = (λ is. at (coded x) is, code_none x)
  where
    at : Coded x ⊎ Outside x → code_of x ≡ none → Outside x
    at (inl k) is = let z : ◌≡◌ {A = ℕ} 0 1 = cc in absurd (omega arith)
    at (inr out) is = out

pub character_none_iff : (c : ℕ) → character_of c ≡ none ↔ ((c ≡ 29) ⊎ (40 ≤ c))
character_none_iff c = (λ is. at (spelled c) is, character_none c)
  where
    at : Spelled c ⊎ ((c ≡ 29) ⊎ (40 ≤ c)) → character_of c ≡ none → (c ≡ 29) ⊎ (40 ≤ c)
    at (inl k) is = let z : ◌≡◌ {A = ℕ} 0 1 = cc in absurd (omega arith)
    at (inr out) is = out
