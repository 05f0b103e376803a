-- A map of zeros can be lent for the check of an image if it has a place for each block that an image of that length can have.
use Prim.Native.Nat.{ℕ, ◌%◌, ◌≤◌}
use mathlib.Core.Path.{◌≡◌, refl, sym, ap, ◌∙◌}
use mathlib.Core.List.{List}
use native.Mathlib.Omega.{arith}
use native.Mathlib.Nat.{mul-le-mul_right}
use lib.ListN.{length, replicate, length-replicate}
use Rattle.words.specs.Word.{word_at}
use Rattle.pack.specs.Geometry.{geometry_of}
use Rattle.pack.specs.GeometrySized.{most_blocks, Sized}
use Rattle.pack.specs.Header.{RightHeader}
use Rattle.pack.proofs.FormBounds.{blocks_many}
use Rattle.pack.proofs.HeaderRules.{header_sized}
use Rattle.consistency.specs.Mapped.{few_bytes, few_blocks, many_bytes, many_blocks, Lent}

zeros_lent : {img map : List ℕ} (places : ℕ) → places % 16 ≡ 0 → (RightHeader img → (geometry_of img).blocks ≤ places) → map ≡ replicate places 0 → Lent map img
zeros_lent {img} {map} places whole enough zeros =
    let long : length map ≡ places = ap length zeros ∙ length-replicate {A = ℕ} places 0 in
    record { empty = zeros ∙ ap (λ (n : ℕ). replicate n 0) (sym long); enough = λ right. omega (arith, long, enough right); whole = omega (arith, long, whole) }

pub lent_most : {img map : List ℕ} → map ≡ replicate most_blocks 0 → Lent map img
lent_most {img} = zeros_lent most_blocks refl (λ right. (header_sized img right).most)

pub lent_many : {img map : List ℕ} → length img ≤ many_bytes → map ≡ replicate many_blocks 0 → Lent map img
unfolding geometry_of
lent_many {img} short =
    zeros_lent many_blocks refl
    (λ right. blocks_many (word_at img 0) (word_at img 1) right.measured.known right.measured.blocks_most (omega (arith, short, right.measured.size)))

pub lent_few : {img map : List ℕ} → length img ≤ few_bytes → map ≡ replicate few_blocks 0 → Lent map img
lent_few {img} short = zeros_lent few_blocks refl (λ right. few (header_sized img right))
  where
    few : Sized img (geometry_of img) → (geometry_of img).blocks ≤ few_blocks
    few sized =
        let one : 1 ≤ (geometry_of img).segments.0 = omega (arith, sized.some) in
        omega (arith, short, sized.long, mul-le-mul_right (geometry_of img).blocks one)
