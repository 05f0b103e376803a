-- How often each block is held when one was added: the added block once, any other as before. So the map that the block was marked on stays right,
-- and where it was the highest that is free, none from it on is.
use Prim.Native.Nat.{ℕ, ◌+◌, ◌≤◌, ◌<◌}
use mathlib.Core.Path.{◌≡◌, sym, ap, subst, ◌∙◌}
use mathlib.Core.List.{List, [], ◌∷◌}
use native.Mathlib.Omega.{arith}
use native.Mathlib.Decide.{ℕ_discrete}
use lib.Dec.{eqb}
use lib.ListN.{length, get_or, set}
use borrow.Author.Tests.{eq-eqb}
use Rattle.pack.specs.declared.Geometry.{Geometry}
use Rattle.pack.specs.Geometry.{geometry_of, payload_bytes, slots}
use Rattle.pack.specs.GeometrySized.{Sized}
use Rattle.pack.specs.File.{one, count}
use Rattle.pack.specs.Entry.{entry_of, blocks_at}
use Rattle.pack.specs.Consistent.{held, Consistent}
use Rattle.pack.specs.Owner.{FreeBlock}
use Rattle.pack.proofs.FileCount.{count_one, count_append}
use Rattle.pack.proofs.HeaderRules.{header_sized}
use Rattle.consistency.specs.Mapped.{Mapped}
use Rattle.frame.proofs.FramedHeld.{held_one}
use Rattle.frame.proofs.FramedStays.{geometry_framed}
use Rattle.frame.proofs.GrowthConsistent.{grown_framed, grown_blocks}
use Rattle.room.specs.RoomMap.{Says, NoneFrom}
use Rattle.room.proofs.RoomMapTaken.{map_added}
use Rattle.adding.specs.LinkedAdd.{added_block, enlarged_by}
use Rattle.adding.specs.LinkedAddStage.{Ready}
use Rattle.adding.proofs.LinkedAddStage.{block_free, block_highest}
use Rattle.adding.proofs.LinkedAddEnlarged.{enlarged}

-- a free block joined to a linked file of a consistent image
pub held_enlarged : (img : List ℕ) (g : Geometry) (x b : ℕ) (payload : List ℕ) → g ≡ geometry_of img → Consistent img → Sized img g → x < slots g
    → (entry_of img g x).kind ≡ 2 → FreeBlock img b → length payload ≡ payload_bytes g
    → (z : ℕ) → held (enlarged_by img g x (entry_of img g x) b payload) z ≡ held img z + one (eqb z b)
held_enlarged img g x b payload stated right sized within linked free whole z =
    let grown = (enlarged img g x b payload stated right sized within linked free whole).grown in
    omega (
      arith,
      held_one stated right (grown_framed stated right within linked free grown) within z,
      ap (count z) (grown_blocks stated right within linked free grown),
      count_append z (blocks_at img g x) (b ∷ []),
      count_one z b,
    )

pub map_enlarged : {img map : List ℕ} {g : Geometry} {e : ℕ} {payload : List ℕ} → Ready img map g e payload → (b : ℕ) → FreeBlock img b
    → Says (set map b 1) (enlarged_by img g e (entry_of img g e) b payload)
map_enlarged {img} {map} {g} {e} {payload} ready b free =
    let sized : Sized img g = subst (Sized img) ready.measures (header_sized img ready.right.header) in
    map_added img (enlarged_by img g e (entry_of img g e) b payload) map b ready.says
    (omega (arith, ready.long, free.below, ap (λ (h : Geometry). h.blocks) ready.measures))
    (held_enlarged img g e b payload (sym ready.measures) ready.right sized ready.entry ready.linked free ready.whole) free.nobody

-- the measures stay, so the map still has a place for each block
pub mapped_enlarged : {img map : List ℕ} {g : Geometry} {e : ℕ} {payload : List ℕ} → Ready img map g e payload
    → {img' map' : List ℕ} → img' ≡ enlarged_by img g e (entry_of img g e) (added_block img) payload → length map' ≡ length map → Says map' img' → Mapped map' img'
mapped_enlarged {img} {map} {g} {e} {payload} ready {img'} {map'} image long says =
    let sized : Sized img g = subst (Sized img) ready.measures (header_sized img ready.right.header) in
    let free : FreeBlock img (added_block img) = block_free ready.right ready.free in
    let stated : g ≡ geometry_of img = sym ready.measures in
    let grown = (enlarged img g e (added_block img) payload stated ready.right sized ready.entry ready.linked free ready.whole).grown in
    let measures : geometry_of img' ≡ g =
    ap geometry_of image ∙ geometry_framed stated ready.right (grown_framed stated ready.right ready.entry ready.linked free grown) ∙ ready.measures in
    record { enough = omega (arith, ap (λ (h : Geometry). h.blocks) measures, long, ready.long); says = says }

-- the block was the highest that is free: from there on none is now
pub none_enlarged : {img map : List ℕ} {g : Geometry} {e : ℕ} {payload : List ℕ} → Ready img map g e payload
    → (map' : List ℕ) → Says map' (enlarged_by img g e (entry_of img g e) (added_block img) payload) → NoneFrom map' g (added_block img)
none_enlarged {img} {map} {g} {e} {payload} ready map' says =
    record { within = omega (arith, free.below, ap (λ (h : Geometry). h.blocks) ready.measures); never = λ b low high nobody. by b low high nobody (ℕ_discrete b (added_block img)) }
  where
    free : FreeBlock img (added_block img)
    free = block_free ready.right ready.free

    held_now : (b : ℕ) → held (enlarged_by img g e (entry_of img g e) (added_block img) payload) b ≡ held img b + one (eqb b (added_block img))
    held_now =
        held_enlarged img g e (added_block img) payload (sym ready.measures) ready.right
        (subst (Sized img) ready.measures (header_sized img ready.right.header)) ready.entry ready.linked free ready.whole

    by : (b : ℕ) → added_block img ≤ b → b < g.blocks → get_or map' b 0 ≡ 0 → Dec (b ≡ added_block img) → ⊥
    by b low high nobody (yes is) = omega (arith, says b, nobody, held_now b, ap one (eq-eqb b (added_block img) is))
    by b low high nobody (no other) =
        block_highest ready.right ready.free b (omega (arith, low, other))
        (record {
          body = omega (arith, free.body, low);
          below = omega (arith, high, ap (λ (h : Geometry). h.blocks) ready.measures);
          nobody = omega (arith, says b, nobody, held_now b);
        })
