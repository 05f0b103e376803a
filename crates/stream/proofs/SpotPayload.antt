-- What stands from a spot on: the rest of its block's payload, and the payloads behind it, which the byte behind its last one begins.
use Prim.Native.Nat.{ℕ, ◌+◌, ◌*◌, ◌-◌, ◌≤◌, ◌<◌}
use mathlib.Core.Path.{◌≡◌, sym, ap, ◌∙◌}
use mathlib.Core.List.{List, ◌∷◌, ◌++◌, append_assoc}
use native.Mathlib.Omega.{arith}
use lib.ListN.{length, take, drop, get_or, length-take, length-drop}
use lib.Seq.{take-add, take_at, drop-drop, drop_at}
use Rattle.pack.specs.declared.Geometry.{Geometry}
use Rattle.pack.specs.GeometrySized.{most_blocks, most_segments}
use Rattle.pack.specs.Geometry.{segment_bytes, payload_bytes}
use Rattle.pack.specs.File.{link_of}
use Rattle.bodies.specs.BlockBytes.{payload_start, part_of}
use Rattle.bodies.proofs.BlockBytes.{room_of}
use Rattle.stream.specs.declared.Spot.{Spot}
use Rattle.stream.specs.Spot.{payloads_from, bytes_from, Standing}
use Rattle.stream.proofs.SpotSteps.{payloads_some, first_below}

-- the rest of a list behind so many, of which it is a part
part_within : (s : List ℕ) (start k count size : ℕ) → start + size ≤ length s → size ≡ k + count → (more : List ℕ)
    → drop k (part_of s start size ++ more) ≡ part_of s (start + k) count ++ more
part_within s start k count size inside is more =
    let front : length (take k (drop start s)) ≡ k = omega (arith, length-take k (drop start s), length-drop start s) in
    rw (is, take-add k count (drop start s), append_assoc (take k (drop start s)), drop_at (take k (drop start s)) _ k front, drop-drop k start s)

module _ {img : List ℕ} {g : Geometry} {spot : Spot} (standing : Standing img g spot) (some : 0 < spot.left) where
  -- the places of the payload's rest in the image
  pub payload_inside : (spot.at ≤ spot.end) × (spot.end ≤ length img)
  payload_inside =
      let room = room_of img g spot.block.0 standing.chained.sized (first_below standing.chained some) in
      (omega (arith, standing.before some), omega (arith, room.inside, standing.close some))

  -- which are few enough to be counted
  pub payload_small : spot.end ≤ most_blocks * segment_bytes most_segments
  payload_small =
      let room = room_of img g spot.block.0 standing.chained.sized (first_below standing.chained some) in
      omega (arith, room.inside, room.small, standing.close some)

  pub payload_split : bytes_from img g spot
      ≡ part_of img spot.at (spot.end - spot.at) ++ payloads_from img g (spot.left - 1) (link_of img g spot.block.0)
  unfolding bytes_from
  payload_split =
      let b = spot.block.0 in
      let more = payloads_from img g (spot.left - 1) (link_of img g b) in
      let k = spot.at - payload_start g b in
      let room = room_of img g b standing.chained.sized (first_below standing.chained some) in
      let place : payload_start g b + k ≡ spot.at = omega (arith, standing.from some) in
      let size : payload_bytes g ≡ k + (spot.end - spot.at) = omega (arith, standing.from some, standing.before some, standing.close some) in
      ap (drop k) (payloads_some img g spot.left b some)
      ∙ part_within img (payload_start g b) k (spot.end - spot.at) (payload_bytes g) (omega (arith, room.inside)) size more
      ∙ ap (λ (n : ℕ). part_of img n (spot.end - spot.at) ++ more) place

-- at the last byte of the payload, and one byte on from there
abbrev pub last_in : Spot → Spot
last_in spot = record { block = spot.block; left = spot.left; at = spot.end - 1; end = spot.end }

module _ {img : List ℕ} {g : Geometry} {spot : Spot} (standing : Standing img g spot) (some : 0 < spot.left) where
  pub last_standing : Standing img g (last_in spot)
  last_standing =
      record {
        chained = standing.chained;
        from = λ more. omega (arith, standing.from some, standing.before some);
        before = λ more. omega (arith, standing.before some);
        close = standing.close;
      }

  pub behind_last : (r : List ℕ) → bytes_from img g (last_in spot) ≡ get_or img (spot.end - 1) 0 ∷ r
      → r ≡ payloads_from img g (spot.left - 1) (link_of img g spot.block.0)
  behind_last r step =
      let last = part_of img (spot.end - 1) (spot.end - (spot.end - 1)) in
      let more = payloads_from img g (spot.left - 1) (link_of img g spot.block.0) in
      let inside = payload_inside standing some in
      let one : length last ≡ 1 =
      omega (arith, length-take (spot.end - (spot.end - 1)) (drop (spot.end - 1) img), length-drop (spot.end - 1) img, inside.1, standing.before some) in
      sym (ap (drop 1) (sym (payload_split last_standing some) ∙ step)) ∙ drop_at last more 1 one

-- so many bytes on in the same payload, or through its last
abbrev pub on_by : Spot → ℕ → Spot
on_by spot count = record { block = spot.block; left = spot.left; at = spot.at + count; end = spot.end }

module _ {img : List ℕ} {g : Geometry} {spot : Spot} (standing : Standing img g spot) (some : 0 < spot.left) (count : ℕ) where
  pub on_within : spot.at + count < spot.end → (bytes_from img g (on_by spot count) ≡ drop count (bytes_from img g spot)) × Standing img g (on_by spot count)
  unfolding bytes_from
  on_within more =
      let start = payload_start g spot.block.0 in
      let place : spot.at + count - start ≡ spot.at - start + count = omega (arith, standing.from some) in (
        ap (λ (n : ℕ). drop n (payloads_from img g spot.left spot.block.0)) place
            ∙ sym (drop-drop count (spot.at - start) (payloads_from img g spot.left spot.block.0)),
        record {
          chained = standing.chained;
          from = λ left. omega (arith, standing.from some);
          before = λ left. more;
          close = standing.close;
        },
      )

  pub on_over : spot.at + count ≡ spot.end → (r : List ℕ) → r ≡ payloads_from img g (spot.left - 1) (link_of img g spot.block.0)
      → r ≡ drop count (bytes_from img g spot)
  on_over through r next =
      let part = part_of img spot.at (spot.end - spot.at) in
      let more = payloads_from img g (spot.left - 1) (link_of img g spot.block.0) in
      let inside = payload_inside standing some in
      let long : length part ≡ count =
      omega (arith, length-take (spot.end - spot.at) (drop spot.at img), length-drop spot.at img, inside.1, through) in
      next ∙ sym (ap (drop count) (payload_split standing some) ∙ drop_at part more count long)

  -- the next so many bytes, of those that are left of the payload
  pub next_bytes : spot.at + count ≤ spot.end → part_of img spot.at count ≡ take count (bytes_from img g spot)
  next_bytes within =
      let rest = spot.end - spot.at - count in
      let split : spot.end - spot.at ≡ count + rest = omega (arith, within) in
      let front = take count (drop spot.at img) in
      let more = payloads_from img g (spot.left - 1) (link_of img g spot.block.0) in
      let inside = payload_inside standing some in
      let long : length front ≡ count = omega (arith, length-take count (drop spot.at img), length-drop spot.at img, inside.1, within) in
      sym (ap (take count)
      (payload_split standing some
      ∙ ap (λ (n : ℕ). take n (drop spot.at img) ++ more) split
      ∙ ap (λ (s : List ℕ). s ++ more) (take-add count rest (drop spot.at img))
      ∙ append_assoc front (take rest (drop count (drop spot.at img))) more)
      ∙ take_at front (take rest (drop count (drop spot.at img)) ++ more) count long)
