-- Bytes laid one after another in a buffer: those that it holds stand in its front, and surplus ones lie over its last.
use Prim.Native.Nat.{ℕ, suc, ◌+◌, ◌-◌, ◌≤◌, ◌<◌, min}
use mathlib.Core.Path.{◌≡◌, refl, sym, ap, ◌∙◌}
use mathlib.Core.Bool.{Bool, true, false, cond}
use mathlib.Core.List.{List, [], ◌∷◌, ◌++◌, append-nil}
use native.Mathlib.Nat.{zero-add}
use native.Mathlib.Numerals.{add-one}
use native.Mathlib.Omega.{arith}
use lib.Dec.{leb}
use lib.ListN.{length, length-drop, take, drop, get_or, set, length-append, drop_of_length-le}
use lib.Seq.{split_at, sets, sets-eq, set-set, set_at, drop-cons, length-take-le, get_or-append-add}
use borrow.Author.Tests.{leb-true, leb-false}
use Rattle.lines.specs.LineRead.{overlaid}
use Rattle.lines.specs.LineSteps.{laid_over, laid_all}

module _ (most : ℕ) where
  pub laid_within : (buffer : List ℕ) (count : ℕ) (line : List ℕ) → count + length line ≤ most → laid_all most buffer count line ≡ sets buffer count line
  unfolding laid_all
  laid_within buffer count [] fits = refl
  laid_within buffer count (y ∷ line) fits =
      let place : min count (most - 1) ≡ count = omega arith in
      rw (place, add-one count) (laid_within (set buffer count y) (suc count) line (omega arith))

  laid_surplus : (buffer : List ℕ) (count y : ℕ) (line : List ℕ) → most ≤ count + 1
      → laid_all most buffer count (y ∷ line) ≡ set buffer (most - 1) (get_or (y ∷ line) (length line) 0)
  unfolding laid_all
  laid_surplus buffer count y [] full =
      let place : min count (most - 1) ≡ most - 1 = omega arith in
      rw place
  laid_surplus buffer count y (z ∷ line) full =
      let place : min count (most - 1) ≡ most - 1 = omega arith in
      rw place (laid_surplus (set buffer (most - 1) y) (count + 1) z line (omega arith) ∙ set-set buffer (most - 1) y (get_or (z ∷ line) (length line) 0))

  pub laid_append : (buffer : List ℕ) (count : ℕ) (line more : List ℕ)
      → laid_all most buffer count (line ++ more) ≡ laid_all most (laid_all most buffer count line) (count + length line) more
  unfolding laid_all
  laid_append buffer count [] more = ap (λ (n : ℕ). laid_all most buffer n more) (omega arith)
  laid_append buffer count (y ∷ line) more =
      let counts : count + 1 + length line ≡ count + suc (length line) = omega arith in
      rw (← counts) (laid_append (laid_over most buffer count y) (count + 1) line more)

  module _ (buffer : List ℕ) (long : length buffer ≡ most) where
    -- a line that the buffer holds
    pub laid_front : (line : List ℕ) → length line ≤ most → laid_all most buffer 0 line ≡ line ++ drop (length line) buffer
    laid_front line fits =
        laid_within buffer 0 line (omega arith) ∙ sets-eq line buffer 0 (omega arith) ∙ ap (λ (n : ℕ). line ++ drop n buffer) (zero-add (length line))

    laid_over_last : (front : List ℕ) (z : ℕ) (more : List ℕ) → length front + 1 ≡ most
        → laid_all most buffer 0 (front ++ (z ∷ more)) ≡ front ++ (get_or (z ∷ more) (length more) 0 ∷ [])
    laid_over_last front z more is =
        let fits : length front ≤ most = omega arith in
        let inside : length front < length buffer = omega arith in
        let end : length buffer ≤ suc (length front) = omega arith in
        let last = get_or (z ∷ more) (length more) 0 in
        laid_append buffer 0 front (z ∷ more)
        ∙ laid_surplus (laid_all most buffer 0 front) (0 + length front) z more (omega arith)
        ∙ ap (λ (s : List ℕ). set s (most - 1) last) (laid_front front fits ∙ ap (λ (s : List ℕ). front ++ s) (drop-cons buffer (length front) 0 inside))
        ∙ set_at front (get_or buffer (length front) 0) (drop (suc (length front)) buffer) last (most - 1) (omega arith)
        ∙ ap (λ (s : List ℕ). front ++ (last ∷ s)) (drop_of_length-le buffer end)

    -- any line: what does not fit is laid over the last byte
    pub laid_all_law : (line : List ℕ) → 0 < most → laid_all most buffer 0 line ≡ overlaid most line ++ drop (length (overlaid most line)) buffer
    laid_all_law line some = by (leb (length line) most) refl
      where
        last : ℕ
        last = get_or line (length line - 1) 0

        by : (short : Bool) → leb (length line) most ≡ short
            → laid_all most buffer 0 line
            ≡ cond short line (take (most - 1) line ++ (last ∷ [])) ++ drop (length (cond short line (take (most - 1) line ++ (last ∷ [])))) buffer
        by true is = laid_front line (leb-true (length line) most is)
        by false is =
            let over : most < length line = leb-false (length line) most is in
            let front = take (most - 1) line in
            let few : length front ≡ most - 1 = length-take-le (most - 1) line (omega arith) in
            let z = get_or line (most - 1) 0 in
            let more = drop (suc (most - 1)) line in
            let many : length more ≡ length line - most = length-drop (suc (most - 1)) line ∙ omega arith in
            let split : line ≡ front ++ (z ∷ more) = split_at line (most - 1) 0 (omega arith) in
            let far : length line - 1 ≡ length front + length more = omega arith in
            let last_is : get_or (z ∷ more) (length more) 0 ≡ last =
            sym (get_or-append-add front (z ∷ more) (length more) 0) ∙ ap (λ (s : List ℕ). get_or s (length front + length more) 0) (sym split)
            ∙ ap (λ (n : ℕ). get_or line n 0) (sym far) in
            let end : length buffer ≤ length (front ++ (last ∷ [])) = simp length-append (omega arith) in
            ap (λ (s : List ℕ). laid_all most buffer 0 s) split
            ∙ laid_over_last front z more (omega arith)
            ∙ ap (λ (n : ℕ). front ++ (n ∷ [])) last_is
            ∙ sym (append-nil (front ++ (last ∷ [])))
            ∙ ap (λ (s : List ℕ). (front ++ (last ∷ [])) ++ s) (sym (drop_of_length-le buffer end))
