-- Writing from the right: the digits due in the first places and those written behind them are the digits of the whole number.
use Prim.Native.Nat.{ℕ, suc, ◌+◌, ◌/◌, ◌%◌, ◌≤◌, ◌<◌}
use mathlib.Core.Path.{◌≡◌}
use mathlib.Core.List.{List, ◌∷◌, append-nil}
use native.Mathlib.Omega.{arith}
use lib.ListN.{length, drop, set, length-set}
use lib.Seq.{drop-length, drop-cons, drop-set-lt, get_or-set_same, append_snoc}
use Rattle.numerals.specs.Digits.{digits}
use Rattle.numerals.specs.Remaining.{due}

pub due_all : (base n : ℕ) (s : List ℕ) → due base (length s) n s ≡ digits base (length s) n
unfolding due
due_all base n s = rw drop-length (append-nil _)

pub due_none : (base n : ℕ) (s : List ℕ) (places : ℕ) → places ≤ 0 → due base places n s ≡ s
unfolding due
due_none base n s places over = let first : places ≡ 0 = omega arith in rw first

-- what a store leaves from its place on
drop_set : (s : List ℕ) (i x : ℕ) → i < length s → drop i (set s i x) ≡ x ∷ drop (suc i) s
drop_set s i x inside =
    let stored : i < length (set s i x) = rw length-set inside in
    rw (drop-cons (set s i x) i 0, get_or-set_same, drop-set-lt (suc i) s i x (omega arith))

-- the last digit due is written, and the digits of the quotient are due
pub due_less : (base n : ℕ) (s : List ℕ) (i : ℕ) {places : ℕ} → places ≡ suc i → i < length s
    → due base places n s ≡ due base i (n / base) (set s i (48 + n % base))
unfolding due
due_less base n s i is inside = rw (is, drop_set) (append_snoc (digits base i (n / base)) (48 + n % base) (drop (suc i) s))
