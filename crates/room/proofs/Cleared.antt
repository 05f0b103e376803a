-- Cleared blocks: what every byte then is, that this says the whole image, and that a block more is a longer run.
use Prim.Native.Nat.{ℕ, ◌+◌, ◌*◌, ◌-◌, ◌≤◌, ◌<◌}
use mathlib.Core.Path.{◌≡◌, refl, sym, ap, subst, ◌∙◌}
use mathlib.Core.Logic.{◌⊎◌, inl, inr}
use mathlib.Core.List.{List}
use native.Mathlib.Omega.{arith}
use native.Mathlib.Nat.{mul-le-mul_right}
use native.Mathlib.Decide.{dec_lt}
use lib.ListN.{length, get_or, drop, replicate, length-drop, length-replicate, get_or-replicate}
use lib.Seq.{ext_get_or, length-take-le}
use borrow.Rule.Slice.PartMut.{put_mid}
use Rattle.pack.specs.declared.Geometry.{Geometry}
use Rattle.pack.specs.Geometry.{block_bytes}
use Rattle.pack.specs.GeometrySized.{Sized}
use Rattle.frame.proofs.ChangesWritten.{replaced_length, replaced_other, replaced_inside}
use Rattle.bodies.specs.BlockBytes.{part_of, block_start, with_part}
use Rattle.bodies.proofs.BlockBytes.{part_written, start_read}
use Rattle.room.specs.Cleared.{cleared, ClearedBlocks}

-- blocks of the pack are within the image
pub blocks_room : {img : List ℕ} {g : Geometry} → Sized img g → (b count : ℕ) → b + count ≤ g.blocks → block_start g b + count * block_bytes g ≤ length img
blocks_room {img} {g} sized b count below = omega (arith, sized.long, mul-le-mul_right g.segments.0 below)

-- so many blocks cleared, byte by byte
pub cleared_blocks : {img : List ℕ} {g : Geometry} {b count : ℕ} → block_start g b + count * block_bytes g ≤ length img
    → ClearedBlocks img (cleared img g b count) g b count
unfolding cleared
cleared_blocks {img} {g} {b} {count} fits =
    let zeros : List ℕ = replicate (count * block_bytes g) 0 in
    let size : length zeros ≡ count * block_bytes g = length-replicate {A = ℕ} (count * block_bytes g) 0 in
    let within : block_start g b + length zeros ≤ length img = omega (arith, size, fits) in
    record {
      long = replaced_length img zeros (block_start g b) within;
      zero = λ k inside. replaced_inside img zeros (block_start g b) within k (omega (arith, size, inside)) ∙ get_or-replicate (count * block_bytes g) k 0 0 inside;
      others = λ k outside. replaced_other img zeros (block_start g b) within k (subst (λ (n : ℕ). (k < block_start g b) ⊎ (block_start g b + n ≤ k)) (sym size) outside);
    }

-- "taking a block for any use shall promise that it is cleared before use": every byte of the block taken is 0, and every other byte is what it was
pub taken_cleared : {img img' : List ℕ} {g : Geometry} {b : ℕ} → Sized img g → b < g.blocks → img' ≡ cleared img g b 1 → ClearedBlocks img img' g b 1
taken_cleared {img} {img'} {g} {b} sized below is =
    subst (λ (i : List ℕ). ClearedBlocks img i g b 1) (sym is) (cleared_blocks (blocks_room sized b 1 (omega (arith, below))))

-- where each byte is said there is one such image
pub cleared_single : {img one two : List ℕ} {g : Geometry} {b count : ℕ} → ClearedBlocks img one g b count → ClearedBlocks img two g b count → one ≡ two
cleared_single {img} {one} {two} {g} {b} {count} first second =
    ext_get_or 0 one two (first.long ∙ sym second.long) (λ k inside. at k (dec_lt k (block_start g b)) (dec_lt k (block_start g b + count * block_bytes g)))
  where
    at : (k : ℕ) → Dec (k < block_start g b) → Dec (k < block_start g b + count * block_bytes g) → get_or one k 0 ≡ get_or two k 0
    at k (yes low) high = first.others k (inl low) ∙ sym (second.others k (inl low))
    at k (no not_low) (no not-high) = first.others k (inr (omega (arith, not-high))) ∙ sym (second.others k (inr (omega (arith, not-high))))
    at k (no not_low) (yes high) =
        let place : k ≡ block_start g b + (k - block_start g b) = omega (arith, not_low) in
        let inside : k - block_start g b < count * block_bytes g = omega (arith, not_low, high) in
        ap (λ (j : ℕ). get_or one j 0) place
        ∙ (first.zero (k - block_start g b) inside ∙ (sym (second.zero (k - block_start g b) inside) ∙ ap (λ (j : ℕ). get_or two j 0) (sym place)))

-- nothing is cleared yet
pub cleared_none : {img : List ℕ} {g : Geometry} {b : ℕ} → ClearedBlocks img img g b 0
cleared_none = record { long = refl; zero = λ k inside. absurd (omega (arith, inside)); others = λ k outside. refl }

-- and the block behind the cleared ones
pub cleared_then : {img one two : List ℕ} {g : Geometry} {b count : ℕ} → ClearedBlocks img one g b count → ClearedBlocks one two g (b + count) 1
    → ClearedBlocks img two g b (count + 1)
cleared_then {img} {one} {two} {g} {b} {count} first second =
    record {
      long = second.long ∙ first.long;
      zero = λ k inside. inner k inside (dec_lt k (count * block_bytes g));
      others = λ k outside. outer k outside;
    }
  where
    inner : (k : ℕ) → k < (count + 1) * block_bytes g → Dec (k < count * block_bytes g) → get_or two (block_start g b + k) 0 ≡ 0
    inner k inside (yes before) = second.others (block_start g b + k) (inl (omega (arith, before))) ∙ first.zero k before
    inner k inside (no not) =
        let place : block_start g b + k ≡ block_start g (b + count) + (k - count * block_bytes g) = omega (arith, not) in
        ap (λ (j : ℕ). get_or two j 0) place ∙ second.zero (k - count * block_bytes g) (omega (arith, inside, not))

    outer : (k : ℕ) → (k < block_start g b) ⊎ (block_start g b + (count + 1) * block_bytes g ≤ k) → get_or two k 0 ≡ get_or img k 0
    outer k (inl low) = second.others k (inl (omega (arith, low))) ∙ first.others k (inl low)
    outer k (inr high) = second.others k (inr (omega (arith, high))) ∙ first.others k (inr (omega (arith, high)))

-- what the code lent and got back cleared, where the block starts and ends by the bytes of a block as they were read
pub part_cleared : (img part : List ℕ) (g : Geometry) (b : ℕ) {bytes : ℕ} → bytes ≡ block_bytes g → b * bytes + bytes ≤ length img
    → part ≡ replicate (length (part_of img (b * bytes) (b * bytes + bytes - b * bytes))) 0
    → put_mid (b * bytes) (b * bytes + bytes - b * bytes) img part ≡ cleared img g b 1
unfolding cleared
part_cleared img part g b {bytes} is inside filled =
    let start : b * bytes ≡ block_start g b = start_read g b is in
    let size : b * bytes + bytes - b * bytes ≡ 1 * block_bytes g = omega (arith, is) in
    let long : length (part_of img (b * bytes) (b * bytes + bytes - b * bytes)) ≡ 1 * block_bytes g =
    length-take-le (b * bytes + bytes - b * bytes) (drop (b * bytes) img) (omega (arith, length-drop (b * bytes) img, inside)) ∙ size in
    let zeros : part ≡ replicate (1 * block_bytes g) 0 = filled ∙ ap (λ (n : ℕ). replicate n 0) long in
    let end : b * bytes + bytes - b * bytes ≡ b * bytes + length (replicate {A = ℕ} (1 * block_bytes g) 0) - b * bytes =
    omega (arith, is, length-replicate {A = ℕ} (1 * block_bytes g) 0) in
    ap (λ (n : ℕ). put_mid (b * bytes) n img part) end
    ∙ (part_written img (replicate (1 * block_bytes g) 0) part (b * bytes) zeros ∙ ap (λ (s : ℕ). with_part img s (replicate (1 * block_bytes g) 0)) start)
