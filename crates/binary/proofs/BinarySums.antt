-- Sums of bytes: of two parts, of a list with one byte changed, and of the stored line.
use Prim.Native.Nat.{ℕ, zero, suc, ◌+◌, ◌%◌, ◌≤◌, ◌<◌}
use mathlib.Core.Path.{◌≡◌, ap, ◌∙◌}
use mathlib.Core.List.{List, [], ◌∷◌, ◌++◌}
use native.Mathlib.Omega.{arith}
use lib.ListN.{length, take, drop, get_or, set, length-append}
use lib.Seq.{take-add, take_all, drop-cons}
use Rattle.binary.specs.BinaryLine.{sum_of, header_and_data, sum_byte, binary_line}

pub sum_append : (s t : List ℕ) → sum_of (s ++ t) ≡ sum_of s + sum_of t
unfolding sum_of
sum_append [] t = omega arith
sum_append (x ∷ s) t = omega (arith, sum_append s t)

pub sum_take_add : (k m : ℕ) (s : List ℕ) → sum_of (take (k + m) s) ≡ sum_of (take k s) + sum_of (take m (drop k s))
sum_take_add k m s = ap sum_of (take-add k m s) ∙ sum_append (take k s) (take m (drop k s))

pub sum_set : (s : List ℕ) (i y : ℕ) → i < length s → sum_of (set s i y) + get_or s i 0 ≡ sum_of s + y
unfolding sum_of
sum_set [] i y there = absurd (omega arith)
sum_set (x ∷ s) zero y there = omega arith
sum_set (x ∷ s) (suc i) y there = omega (arith, sum_set s i y (omega arith))

-- no other byte makes the sum of all 0 modulo 256
pub sum_byte_only : (s : List ℕ) (x : ℕ) → x < 256 → (sum_of s + x) % 256 ≡ 0 → x ≡ sum_byte s
sum_byte_only s x byte right = omega arith

pub line_sum : (content : List ℕ) → sum_of (binary_line content) % 256 ≡ 0
unfolding binary_line
line_sum content =
    rw (sum_append (header_and_data content) (sum_byte (header_and_data content) ∷ [])) (unfold sum_of in omega arith)

pub line_length : (content : List ℕ) → length (binary_line content) ≡ length content + 5
unfolding binary_line
line_length content = omega (arith, length-append content (sum_byte (header_and_data content) ∷ []))

-- in a loop over a part
pub sum_next : (part : List ℕ) (i : ℕ) → i < length part → {sum : ℕ} → sum ≡ sum_of (take i part) → sum + get_or part i 0 ≡ sum_of (take (i + 1) part)
sum_next part i inside so_far =
    omega (arith, so_far, sum_take_add i 1 part, ap (λ (t : List ℕ). sum_of (take 1 t)) (drop-cons part i 0 inside), one_sum (get_or part i 0))
  where
    one_sum : (x : ℕ) → sum_of (x ∷ []) ≡ x
    one_sum x = (unfold sum_of in omega arith)

pub sum_end : (part : List ℕ) (i : ℕ) → length part ≤ i → i ≤ length part → {sum : ℕ} → sum ≡ sum_of (take i part) → sum ≡ sum_of part
sum_end part i over within so_far = so_far ∙ ap sum_of (take_all i part over)
