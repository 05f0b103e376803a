-- A spot in the payloads of a linked file: how a position leads to it from block to block, the byte that stands there, and the spot behind it.
use Prim.Native.Nat.{ℕ, suc, zero, ◌+◌, ◌*◌, ◌-◌, ◌≤◌, ◌<◌}
use mathlib.Core.Path.{◌≡◌, refl, sym, ap, subst, ◌∙◌}
use mathlib.Core.List.{List, [], ◌∷◌, ◌++◌}
use native.Mathlib.Omega.{arith}
use lib.ListN.{length, drop, get_or, length-append, get_or-append}
use lib.Seq.{drop-cons, drop-nil, drop_at, drop-append-add}
use Rattle.pack.specs.declared.Geometry.{Geometry}
use Rattle.pack.specs.declared.BlockNo.{BlockNo}
use Rattle.pack.specs.declared.Entry.{Entry}
use Rattle.pack.specs.GeometrySized.{most_blocks, most_segments, Sized}
use Rattle.pack.specs.Geometry.{segment_bytes, block_bytes, payload_bytes}
use Rattle.pack.specs.File.{link_of, next_of, chain, blocks_of, count}
use Rattle.pack.proofs.FileCount.{count_same, count_more}
use Rattle.pack.proofs.FileChain.{chain_length}
use Rattle.bodies.specs.BlockBytes.{block_start, payload_start, payload_of}
use Rattle.bodies.specs.Payloads.{payloads_of}
use Rattle.bodies.proofs.BlockBytes.{room_of, payload_length, payload_byte}
use Rattle.bodies.proofs.Payloads.{payloads_length}
use Rattle.stream.specs.declared.Spot.{Spot}
use Rattle.stream.specs.Spot.{payloads_from, bytes_from, Chained, Standing, Seeking}

-- a linked file: its blocks are the links
next_is_link : (img : List ℕ) (g : Geometry) (kind : ℕ) → kind ≡ 2 → next_of img g kind ≡ link_of img g
unfolding next_of
next_is_link img g kind is = ap (next_of img g) is

pub linked_payloads : (img : List ℕ) (g : Geometry) (x : Entry) → x.kind ≡ 2 → payloads_of img g (blocks_of img g x) ≡ payloads_from img g x.length x.first.0
unfolding payloads_from blocks_of
linked_payloads img g x linked = ap (λ (next : ℕ → ℕ). payloads_of img g (chain next x.length x.first.0)) (next_is_link img g x.kind linked)

pub linked_chained : {img : List ℕ} {g : Geometry} (x : Entry) → Sized img g → ((z : ℕ) → 0 < count z (blocks_of img g x) → z < g.blocks) → x.kind ≡ 2
    → Chained img g x.length x.first.0
unfolding blocks_of
linked_chained {img} {g} x sized inside linked =
    record {
      sized = sized;
      inside = subst (λ (next : ℕ → ℕ). (z : ℕ) → 0 < count z (chain next x.length x.first.0) → z < g.blocks) (next_is_link img g x.kind linked) inside;
    }

-- how many bytes they have
pub linked_length : {img : List ℕ} {g : Geometry} (x : Entry) → Sized img g → ((z : ℕ) → 0 < count z (blocks_of img g x) → z < g.blocks)
    → length (payloads_of img g (blocks_of img g x)) ≡ x.length * payload_bytes g
unfolding blocks_of
linked_length {img} {g} x sized inside =
    payloads_length img g sized (blocks_of img g x) inside
    ∙ ap (λ (n : ℕ). n * payload_bytes g) (chain_length (next_of img g x.kind) x.length x.first.0)

payloads_none : (img : List ℕ) (g : Geometry) (left b : ℕ) → left ≡ 0 → payloads_from img g left b ≡ []
unfolding payloads_from chain payloads_of
payloads_none img g left b none = ap (λ (k : ℕ). payloads_from img g k b) none

pub payloads_some : (img : List ℕ) (g : Geometry) (left b : ℕ) → 0 < left → payloads_from img g left b ≡ payload_of img g b ++ payloads_from img g (left - 1) (link_of img g b)
unfolding payloads_from chain payloads_of
payloads_some img g zero b some = absurd (omega arith)
payloads_some img g (suc k) b some =
    let fewer : suc k - 1 ≡ k = omega arith in
    ap (λ (n : ℕ). payload_of img g b ++ payloads_of img g (chain (link_of img g) n (link_of img g b))) (sym fewer)

-- a chain with blocks
module _ {img : List ℕ} {g : Geometry} {left b : ℕ} (chained : Chained img g left b) (some : 0 < left) where
  pub first_below : b < g.blocks
  first_below = by left some chained.inside
    where
      by : (k : ℕ) → 0 < k → ((z : ℕ) → 0 < count z (chain (link_of img g) k b) → z < g.blocks) → b < g.blocks
      by zero more inside = absurd (omega arith)
      by (suc k) more inside = (unfold chain in inside b (omega (arith, count_same b b (chain (link_of img g) k (link_of img g b)) refl)))

  pub rest_chained : (next : ℕ) → next ≡ next_of img g 2 b → Chained img g (left - 1) next
  unfolding next_of
  rest_chained next is = record { sized = chained.sized; inside = rw is (by left some chained.inside) }
    where
      by : (k : ℕ) → 0 < k → ((z : ℕ) → 0 < count z (chain (link_of img g) k b) → z < g.blocks)
          → (z : ℕ) → 0 < count z (chain (link_of img g) (k - 1) (link_of img g b)) → z < g.blocks
      by zero more inside z reached = absurd (omega arith)
      by (suc k) more inside z reached =
          let fewer : suc k - 1 ≡ k = omega arith in
          let here : 0 < count z (chain (link_of img g) k (link_of img g b)) = rw fewer at reached in
          (unfold chain in inside z (omega (arith, here, count_more z b (chain (link_of img g) k (link_of img g b)))))

  pub payload_whole : length (payload_of img g b) ≡ payload_bytes g
  payload_whole = payload_length img g b chained.sized first_below

-- the way to a spot
pub seek_start : {img : List ℕ} {g : Geometry} {left b : ℕ} → Chained img g left b → (offset : ℕ) → offset ≤ left * payload_bytes g
    → Seeking img g (drop offset (payloads_from img g left b)) b offset left
seek_start chained offset within = record { chained = chained; within = within; stands = refl }

module _ {img : List ℕ} {g : Geometry} {rest : List ℕ} {b offset left payload : ℕ} (seeking : Seeking img g rest b offset left)
    (stated : payload ≡ payload_bytes g) (past : payload ≤ offset) where
  pub seek_some : 0 < left
  seek_some = by left seeking.within
    where
      by : (k : ℕ) → offset ≤ k * payload_bytes g → 0 < k
      by zero within = absurd (omega (arith, stated, past, within, seeking.chained.sized.some))
      by (suc k) within = omega arith

  pub seek_below : b < g.blocks
  seek_below = first_below seeking.chained seek_some

  -- one block is passed, and the position is less by its payload
  pub seek_next : (next : ℕ) → next ≡ next_of img g 2 b → Seeking img g rest next (offset - payload) (left - 1)
  unfolding next_of
  seek_next next is =
      rw (stated, is)
      (record {
        chained = rest_chained seeking.chained seek_some (link_of img g b) refl;
        within = by left (payload_bytes g) seek_some seeking.within;
        stands =
            sym (ap (drop offset) (payloads_some img g left b seek_some)
            ∙ ap (λ (n : ℕ). drop n (payload_of img g b ++ payloads_from img g (left - 1) (link_of img g b))) place
            ∙ drop-append-add (payload_of img g b) (payloads_from img g (left - 1) (link_of img g b)) (offset - payload_bytes g))
            ∙ seeking.stands;
      })
    where
      by : (k p : ℕ) → 0 < k → offset ≤ k * p → offset - p ≤ (k - 1) * p
      by zero p more within = absurd (omega arith)
      by (suc k) p more within = let fewer : suc k - 1 ≡ k = omega arith in rw fewer (omega arith)

      place : offset ≡ length (payload_of img g b) + (offset - payload_bytes g)
      place = omega (arith, payload_whole seeking.chained seek_some, stated, past)

-- what stands behind the bytes to pass is what stands behind the position
pub located : {img : List ℕ} {g : Geometry} {b offset left : ℕ} (x : Entry) (position : ℕ) → x.kind ≡ 2
    → Seeking img g (drop position (payloads_from img g x.length x.first.0)) b offset left
    → (r : List ℕ) → r ≡ drop offset (payloads_from img g left b) → r ≡ drop position (payloads_of img g (blocks_of img g x))
located {img} {g} x position linked seeking r entered = entered ∙ seeking.stands ∙ ap (drop position) (sym (linked_payloads img g x linked))

-- the spot so many bytes behind the start of a payload
module _ {img : List ℕ} {g : Geometry} {left : ℕ} {block : BlockNo} (chained : Chained img g left block.0) (offset : ℕ) where
  pub enter_none : left ≡ 0
      → (bytes_from img g (record { block = block; left = left; at = 0; end = 0 }) ≡ drop offset (payloads_from img g left block.0))
      × Standing img g (record { block = block; left = left; at = 0; end = 0 })
  unfolding bytes_from
  enter_none none = (
    rw (payloads_none img g left block.0 none) (drop-nil (0 - payload_start g block.0) ∙ sym (drop-nil offset)),
    record {
      chained = chained;
      from = λ some. absurd (omega (arith, some, none));
      before = λ some. absurd (omega (arith, some, none));
      close = λ some. absurd (omega (arith, some, none));
    },
  )

  module _ {bytes : ℕ} (some : left ≡ 0 → ⊥) (stated : bytes ≡ block_bytes g) where
    pub enter_room : block.0 * bytes + bytes ≤ most_blocks * segment_bytes most_segments
    enter_room =
        let room = room_of img g block.0 chained.sized (first_below chained (omega (arith, some))) in
        rw stated (omega (arith, room.inside, room.small))

    pub enter_some : offset < payload_bytes g
        → (bytes_from img g (record { block = block; left = left; at = block.0 * bytes + 2 + offset; end = block.0 * bytes + bytes })
        ≡ drop offset (payloads_from img g left block.0))
        × Standing img g (record { block = block; left = left; at = block.0 * bytes + 2 + offset; end = block.0 * bytes + bytes })
    unfolding bytes_from
    enter_some short =
        let place : block.0 * block_bytes g + 2 + offset - payload_start g block.0 ≡ offset = omega arith in
        rw stated (
          ap (λ (n : ℕ). drop n (payloads_from img g left block.0)) place,
          record {
            chained = chained;
            from = λ more. omega arith;
            before = λ more. omega (arith, short, chained.sized.some);
            close = λ more. refl;
          },
        )

-- a byte stands at a spot with blocks left, and nothing at one with none
pub spot_end : (img : List ℕ) (g : Geometry) (spot : Spot) → spot.left ≡ 0 → bytes_from img g spot ≡ []
unfolding bytes_from
spot_end img g spot none =
    ap (drop (spot.at - payload_start g spot.block.0)) (payloads_none img g spot.left spot.block.0 none)
    ∙ drop-nil (spot.at - payload_start g spot.block.0)

module _ {img : List ℕ} {g : Geometry} {spot : Spot} (standing : Standing img g spot) (some : 0 < spot.left) where
  below : spot.block.0 < g.blocks
  below = first_below standing.chained some

  abbrev passed : ℕ
  passed = spot.at - payload_start g spot.block.0

  whole : length (payload_of img g spot.block.0) ≡ payload_bytes g
  whole = payload_whole standing.chained some

  bounds : (payload_start g spot.block.0 ≤ spot.at) × (spot.at < block_start g spot.block.0 + block_bytes g)
  bounds = (standing.from some, omega (arith, standing.before some, standing.close some))

  pub spot_inside : spot.at < length img
  spot_inside = omega (arith, bounds.1, (room_of img g spot.block.0 standing.chained.sized below).inside)

  -- the byte, and what stands behind it
  byte_first : drop passed (payloads_from img g spot.left spot.block.0)
      ≡ get_or img spot.at 0 ∷ drop (suc passed) (payloads_from img g spot.left spot.block.0)
  byte_first =
      let rest = payloads_from img g (spot.left - 1) (link_of img g spot.block.0) in
      let own = payload_of img g spot.block.0 in
      let short : passed < payload_bytes g = omega (arith, bounds.0, bounds.1) in
      let place : payload_start g spot.block.0 + passed ≡ spot.at = omega (arith, bounds.0) in
      let inside : passed < length (own ++ rest) = omega (arith, short, whole, length-append own rest) in
      rw (payloads_some img g spot.left spot.block.0 some)
      (drop-cons (own ++ rest) passed 0 inside
      ∙ ap (λ (x : ℕ). x ∷ drop (suc passed) (own ++ rest))
      (get_or-append own rest 0 passed (omega (arith, short, whole))
      ∙ payload_byte img g spot.block.0 standing.chained.sized below passed short
      ∙ ap (λ (i : ℕ). get_or img i 0) place))

  -- the next byte is of the same payload
  pub step_within : spot.at + 1 < spot.end
      → (bytes_from img g spot ≡ get_or img spot.at 0 ∷ bytes_from img g (record { block = spot.block; left = spot.left; at = spot.at + 1; end = spot.end }))
      × Standing img g (record { block = spot.block; left = spot.left; at = spot.at + 1; end = spot.end })
  unfolding bytes_from
  step_within more =
      let place : suc passed ≡ spot.at + 1 - payload_start g spot.block.0 = omega (arith, bounds.0) in (
        byte_first ∙ ap (λ (n : ℕ). get_or img spot.at 0 ∷ drop n (payloads_from img g spot.left spot.block.0)) place,
        record {
          chained = standing.chained;
          from = λ left. omega (arith, bounds.0);
          before = λ left. more;
          close = standing.close;
        },
      )

  -- it is the first of the next block's, if there is one
  pub step_over : spot.end ≤ spot.at + 1 → (next : ℕ) → next ≡ next_of img g 2 spot.block.0 → (r : List ℕ)
      → r ≡ drop 0 (payloads_from img g (spot.left - 1) next)
      → bytes_from img g spot ≡ get_or img spot.at 0 ∷ r
  unfolding bytes_from next_of
  step_over over next is r entered =
      let size : length (payload_of img g spot.block.0) ≡ suc passed = omega (arith, whole, over, bounds.0, bounds.1, standing.close some) in
      byte_first
      ∙ ap (λ (s : List ℕ). get_or img spot.at 0 ∷ s)
      (ap (drop (suc passed)) (payloads_some img g spot.left spot.block.0 some)
      ∙ drop_at (payload_of img g spot.block.0) (payloads_from img g (spot.left - 1) (link_of img g spot.block.0)) (suc passed) size
      ∙ ap (payloads_from img g (spot.left - 1)) (sym is)
      ∙ sym entered)
