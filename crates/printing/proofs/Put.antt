-- Pieces put into a buffer: none, one behind another, as a lent part, and from its start.
use Prim.Native.Nat.{ℕ, suc, ◌+◌, ◌-◌, ◌≤◌}
use mathlib.Core.Path.{◌≡◌, refl, sym, ap, ◌∙◌}
use mathlib.Core.List.{List, [], ◌∷◌, ◌++◌, append_assoc}
use native.Mathlib.Nat.{add-zero, add-suc, suc-add, zero-add}
use native.Mathlib.Omega.{arith}
use lib.ListN.{length, take, drop, set, length-append}
use lib.Seq.{sets, sets-eq, length-sets}
use borrow.Rule.Slice.PartMut.{put_mid, mid_of, Post-is, mid_len}
use Rattle.numerals.specs.Digits.{digits}
use Rattle.numerals.proofs.DigitsValues.{length_digits}
use Rattle.printing.specs.Put.{Put}

sets_append : (xs ys l : List ℕ) (i : ℕ) → sets l i (xs ++ ys) ≡ sets (sets l i xs) (i + length xs) ys
sets_append [] ys l i = rw add-zero
sets_append (x ∷ xs) ys l i = sets_append xs ys (set l i x) (suc i) ∙ rw (add-suc, suc-add)

pub put_nothing : (s : List ℕ) (i : ℕ) → Put s s i i []
put_nothing s i = record { text = refl; behind = omega arith }

pub put_then : {s t u : List ℕ} {i j k : ℕ} {xs ys : List ℕ} → Put s t i j xs → Put t u j k ys → Put s u i k (xs ++ ys)
put_then {s} {t} {u} {i} {j} {k} {xs} {ys} first second =
    record {
      text = second.text ∙ rw (first.text, first.behind) (sym (sets_append xs ys s i));
      behind = omega (arith, first.behind, second.behind, length-append xs ys);
    }

pub put_length : {s t : List ℕ} {i j : ℕ} {xs : List ℕ} → Put s t i j xs → length t ≡ length s
put_length {s} {t} {i} {j} {xs} put = ap length put.text ∙ length-sets s i xs

-- a part that was lent is back
pub put_part : (s v : List ℕ) (at end : ℕ) → end ≡ at + length v → end ≤ length s → Put s (put_mid at (end - at) s v) at end v
put_part s v at end is inside =
    record {
      text = ap (λ (l : List ℕ). take at s ++ (v ++ l)) (Post-is at end s (omega arith))
          ∙ rw is (sym (append_assoc (take at s) v (drop (at + length v) s)) ∙ sym (sets-eq v s at (omega arith)));
      behind = is;
    }

pub put_digits : (s v : List ℕ) (at base places number : ℕ) → at + places ≤ length s → v ≡ digits base (length (mid_of at (at + places - at) s)) number
    → Put s (put_mid at (at + places - at) s v) at (at + places) (digits base places number)
put_digits s v at base places number fits is =
    let size : length (mid_of at (at + places - at) s) ≡ places = mid_len at (at + places) s fits ∙ omega arith in
    let written : v ≡ digits base places number = is ∙ ap (λ (n : ℕ). digits base n number) size in
    let long : length (digits base places number) ≡ places = length_digits base places number in
    rw written (put_part s (digits base places number) at (at + places) (omega arith) fits)

-- what a buffer holds behind a text put at its start
pub put_first : {s t : List ℕ} {k : ℕ} {xs : List ℕ} → Put s t 0 k xs → k ≤ length s → (k ≡ length xs) × (t ≡ xs ++ drop (length xs) s)
put_first {s} {t} {k} {xs} put fits = (omega (arith, put.behind), put.text ∙ sets-eq xs s 0 (omega (arith, put.behind)) ∙ rw zero-add)
