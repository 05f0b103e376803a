-- Where the bytes of a block and of its payload stand in the image, what a part of it holds, and that no byte of a payload is one of a link.
use Prim.Native.Nat.{ℕ, min, ◌+◌, ◌*◌, ◌-◌, ◌≤◌, ◌<◌}
use mathlib.Core.Path.{◌≡◌, sym, ap, ◌∙◌}
use mathlib.Core.List.{List, ◌++◌}
use native.Mathlib.Omega.{arith}
use native.Mathlib.Nat.{min-le_left}
use native.Mathlib.Decide.{dec_lt}
use lib.ListN.{length, get_or, take, drop, length-take, length-drop}
use lib.Seq.{ext_get_or, get_or-take, get_or-drop, length-take-le, take_at, drop_at}
use borrow.Rule.Slice.PartMut.{put_mid}
use Rattle.words.proofs.WordSlices.{part_back}
use Rattle.pack.specs.declared.Geometry.{Geometry}
use Rattle.pack.specs.GeometrySized.{Sized, most_blocks, most_segments}
use Rattle.pack.specs.Geometry.{segment_bytes, block_at, block_bytes, payload_bytes}
use Rattle.pack.proofs.GeometryRoom.{block_room, few_words}
use Rattle.bodies.specs.BlockBytes.{part_of, with_part, block_start, block_of, payload_start, payload_of}

-- a block of the pack is within the image, which is not too long to count
pub record BlockRoom (img : List ℕ) (g : Geometry) (b : ℕ) : Type 0 where
  pub some : segment_bytes 1 ≤ block_bytes g
  pub few : block_bytes g ≤ segment_bytes most_segments
  pub inside : block_start g b + block_bytes g ≤ length img
  pub small : length img ≤ most_blocks * segment_bytes most_segments

pub room_of : (img : List ℕ) (g : Geometry) (b : ℕ) → Sized img g → b < g.blocks → BlockRoom img g b
room_of img g b sized below =
    record {
      some = omega (arith, sized.some);
      few = omega (arith, sized.few);
      inside = omega (arith, sized.long, block_room g.segments.0 below);
      small = omega (arith, sized.long, few_words sized.most sized.few);
    }

-- the image when the part that was lent is back, filled
pub part_written : (img put part : List ℕ) (start : ℕ) → part ≡ put → put_mid start (start + length put - start) img part ≡ with_part img start put
part_written img put part start filled =
    part_back img part start (start + length put) (omega arith) ∙ ap (λ (l : List ℕ). take start img ++ (l ++ drop (start + length put) img)) filled

-- and what is read of it there
pub part_again : (img put : List ℕ) (start size : ℕ) → start ≤ length img → length put ≡ size → part_of (with_part img start put) start size ≡ put
part_again img put start size inside long =
    ap (take size) (drop_at (take start img) (put ++ drop (start + length put) img) start (length-take-le start img inside))
    ∙ take_at put (drop (start + length put) img) size long

-- a buffer of the size of a block takes the block from its byte 0 on, one of the size of a payload takes the payload from byte 2 on
module _ (img : List ℕ) (g : Geometry) (b count : ℕ) where
  pub block_part : count ≡ block_bytes g → part_of img (block_start g b + 0) count ≡ block_of img g b
  block_part whole =
      let start : block_start g b + 0 ≡ block_start g b = omega arith in
      ap (λ (s : ℕ). part_of img s count) start ∙ ap (part_of img (block_start g b)) whole

  pub payload_part : count ≡ payload_bytes g → part_of img (block_start g b + 2) count ≡ payload_of img g b
  payload_part whole = ap (part_of img (payload_start g b)) whole

pub block_put : (img put : List ℕ) (g : Geometry) (b : ℕ) → with_part img (block_start g b + 0) put ≡ with_part img (block_start g b) put
block_put img put g b =
    let start : block_start g b + 0 ≡ block_start g b = omega arith in
    ap (λ (s : ℕ). with_part img s put) start

-- a part whose bytes are the same
pub part_same : (img img' : List ℕ) (from size : ℕ) → length img' ≡ length img → ((i : ℕ) → i < size → get_or img' (from + i) 0 ≡ get_or img (from + i) 0)
    → part_of img' from size ≡ part_of img from size
part_same img img' from size long same =
    ext_get_or 0 (take size (drop from img')) (take size (drop from img)) lengths (λ i inside. at i (omega (arith, inside, few)))
  where
    lengths : length (take size (drop from img')) ≡ length (take size (drop from img))
    lengths =
        length-take size (drop from img')
        ∙ (ap (min size) (length-drop from img' ∙ (ap (λ (n : ℕ). n - from) long ∙ sym (length-drop from img))) ∙ sym (length-take size (drop from img)))

    few : length (take size (drop from img')) ≤ size
    few = omega (arith, length-take size (drop from img'), min-le_left size (length (drop from img')))

    at : (i : ℕ) → i < size → get_or (take size (drop from img')) i 0 ≡ get_or (take size (drop from img)) i 0
    at i small =
        get_or-take size (drop from img') i 0 small
        ∙ (get_or-drop from img' i 0 ∙ (same i small ∙ (sym (get_or-drop from img i 0) ∙ sym (get_or-take size (drop from img) i 0 small))))

-- a payload whose bytes are the same, each counted from the block's first
pub payload_same : (img img' : List ℕ) (g : Geometry) (b : ℕ) → length img' ≡ length img
    → ((i : ℕ) → 2 ≤ i → i < block_bytes g → get_or img' (b * block_bytes g + i) 0 ≡ get_or img (b * block_bytes g + i) 0) → payload_of img' g b ≡ payload_of img g b
payload_same img img' g b long same = part_same img img' (payload_start g b) (payload_bytes g) long here
  where
    here : (i : ℕ) → i < payload_bytes g → get_or img' (payload_start g b + i) 0 ≡ get_or img (payload_start g b + i) 0
    here i small =
        let place : payload_start g b + i ≡ b * block_bytes g + (2 + i) = omega arith in
        ap (λ (k : ℕ). get_or img' k 0) place ∙ (same (2 + i) (omega arith) (omega arith) ∙ ap (λ (k : ℕ). get_or img k 0) (sym place))

-- a payload of the pack is whole, and its bytes are those of the image
module _ (img : List ℕ) (g : Geometry) (b : ℕ) (sized : Sized img g) (below : b < g.blocks) where
  pub payload_length : length (payload_of img g b) ≡ payload_bytes g
  payload_length =
      let room = room_of img g b sized below in
      length-take-le (payload_bytes g) (drop (payload_start g b) img) (omega (arith, length-drop (payload_start g b) img, room.inside, room.some))

  pub payload_byte : (i : ℕ) → i < payload_bytes g → get_or (payload_of img g b) i 0 ≡ get_or img (payload_start g b + i) 0
  payload_byte i inside = get_or-take (payload_bytes g) (drop (payload_start g b) img) i 0 inside ∙ get_or-drop (payload_start g b) img i 0

-- a byte behind a link is no byte of a link
pub behind_link : (g : Geometry) (b z i k : ℕ) → 2 ≤ i → i < block_bytes g → k < 2 → b * block_bytes g + i ≡ 2 * block_at g z + k → ⊥
behind_link g b z i k behind small few is = by (dec_lt b z) (dec_lt z b)
  where
    by : Dec (b < z) → Dec (z < b) → ⊥
    by (yes less) d = omega (arith, is, block_room g.segments.0 less)
    by (no low) (yes more) = omega (arith, is, block_room g.segments.0 more)
    by (no low) (no high) = let same : b ≡ z = omega (arith, low, high) in omega (arith, is, ap (λ (n : ℕ). n * g.segments.0) same)

-- where a block starts, by the bytes of a block as they were read
pub start_read : (g : Geometry) (b : ℕ) {bytes : ℕ} → bytes ≡ block_bytes g → b * bytes ≡ block_start g b
start_read g b is = ap (λ (n : ℕ). b * n) is
