-- What a reader of characters, and a look at one, finds at a place of a line, step by step.
use Prim.Native.Nat.{ℕ, suc, zero, ◌+◌, ◌-◌, ◌≤◌, ◌<◌}
use mathlib.Core.Path.{◌≡◌, sym, ap, ◌∙◌}
use mathlib.Core.List.{List}
use mathlib.Core.Bool.{Bool, true, false, ◌&&◌}
use native.Mathlib.Nat.{not-suc-le-zero, add-zero}
use native.Mathlib.Numerals.{add-one, sub-one}
use native.Mathlib.Decide.{dec_lt}
use native.Mathlib.Omega.{arith}
use borrow.Author.Tests.{ltb-true, lt-ltb}
use lib.Dec.{eqb, ltb}
use lib.ListN.{length, drop, get_or, drop_of_length-le}
use lib.Seq.{drop-cons}
use Rattle.answers.proofs.RefusalsTests.{and_left, and_right}
use Rattle.command_grammar.specs.Reader.{is, span, one_character}
use Rattle.command_cursor.specs.CursorAt.{part_at, stands_at}
use Rattle.command_cursor.specs.Part.{Read, Refused}

span_end : (t : ℕ → Bool) (m : ℕ) (s : List ℕ) (i : ℕ) → length s ≤ i → i + span t m (drop i s) ≡ i
unfolding span
span_end t zero s i h = add-zero i
span_end t (suc m) s i h = rw (drop_of_length-le s h) (add-zero i)

span_halt : (t : ℕ → Bool) (m : ℕ) (s : List ℕ) (i : ℕ) → i < length s → t (get_or s i 0) ≡ false → i + span t m (drop i s) ≡ i
unfolding span
span_halt t zero s i h e = add-zero i
span_halt t (suc m) s i h e = rw (drop-cons s i 0 h, e) (add-zero i)

span_zero : (t : ℕ → Bool) (m : ℕ) (s : List ℕ) (i : ℕ) → m ≤ 0 → i + span t m s ≡ i
unfolding span
span_zero t zero s i h = add-zero i
span_zero t (suc m) s i h = absurd (not-suc-le-zero h)

span_on : (t : ℕ → Bool) (m : ℕ) (s : List ℕ) (i : ℕ) → 0 < m → i < length s → t (get_or s i 0) ≡ true
    → i + span t m (drop i s) ≡ i + 1 + span t (m - 1) (drop (i + 1) s)
unfolding span
span_on t zero s i p h e = absurd (not-suc-le-zero p)
span_on t (suc m) s i p h e = rw (drop-cons s i 0 h, e, sub-one, add-one) (omega arith)

-- a run of at most so many characters that began at `start`, as far as `i`, which is so many on: it ends where what is left of it does
module _ (t : ℕ → Bool) (most : ℕ) (s : List ℕ) (start : ℕ) where
  pub record Runs (on i : ℕ) : Type 0 where
    pub left : start + span t most (drop start s) ≡ i + span t (most - on) (drop i s)

  module _ {on i : ℕ} (so_far : Runs on i) where
    pub runs_over : length s ≤ i → i ≡ start + span t most (drop start s)
    runs_over over = sym (so_far.left ∙ span_end t (most - on) s i over)

    pub runs_halt : i < length s → t (get_or s i 0) ≡ false → i ≡ start + span t most (drop start s)
    runs_halt within other = sym (so_far.left ∙ span_halt t (most - on) s i within other)

    pub runs_on : on < most → i < length s → t (get_or s i 0) ≡ true → Runs (on + 1) (i + 1)
    runs_on below within passes =
        let one_less : most - on - 1 ≡ most - (on + 1) = omega arith in
        record { left = so_far.left ∙ span_on t (most - on) s i (omega arith) within passes ∙ ap (λ (m : ℕ). i + 1 + span t m (drop (i + 1) s)) one_less }

    pub runs_end : most ≤ on → i ≡ start + span t most (drop start s)
    runs_end all = sym (so_far.left ∙ span_zero t (most - on) (drop i s) i (omega arith))

-- a character that stands there is passed over; where another stands, or none, it is missed
module _ (s : List ℕ) (i c : ℕ) where
  pub stands_within : stands_at s i c ≡ true → i < length s
  unfolding stands_at
  stands_within h = ltb-true i (length s) (and_left (ltb i (length s)) (eqb (get_or s i 0) c) h)

  pub stands_read : stands_at s i c ≡ true → Read (record { at = i + 1 }) ≡ part_at i (one_character (is c) (drop i s))
  unfolding stands_at one_character
  stands_read h = rw (drop-cons s i 0 (stands_within h), and_right (ltb i (length s)) (eqb (get_or s i 0) c) h)

  pub stands_refused : stands_at s i c ≡ false → Refused i ≡ part_at i (one_character (is c) (drop i s))
  unfolding stands_at one_character
  stands_refused h = by (dec_lt i (length s)) h
    where
      by : Dec (i < length s) → (ltb i (length s) && eqb (get_or s i 0) c) ≡ false → Refused i ≡ part_at i (one_character (is c) (drop i s))
      by (yes l) h = let other : eqb (get_or s i 0) c ≡ false = rw (lt-ltb i (length s) l) at h in rw (drop-cons s i 0 l, other, add-zero)
      by (no l) h = let over : length s ≤ i = omega arith in rw (drop_of_length-le s over, add-zero)
