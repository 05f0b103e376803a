-- ALLOC: its place in the table, what each answer of its stages comes to, and what there is where nothing speaks against it.
use Prim.Native.Nat.{ℕ, ◌+◌, ◌≤◌, ◌<◌}
use mathlib.Core.Path.{◌≡◌, refl, sym, ap, ◌∙◌}
use mathlib.Core.Bool.{Bool, true}
use mathlib.Core.List.{List, [], ◌∷◌}
use mathlib.Core.Option.{Option, none, some}
use native.Mathlib.Omega.{arith}
use native.Mathlib.Decide.{ℕ_discrete}
use lib.Dec.{eqb}
use lib.ListN.{length, get_or}
use borrow.Author.Tests.{eqb-false}
use Rattle.answers.specs.Refusals.{first_of, table_order, in_order}
use Rattle.answers.specs.Missing.{or_else}
use Rattle.answers.proofs.Refusals.{behind_refused, behind_clear, success_is, refusal_is}
use Rattle.pack.specs.declared.Geometry.{Geometry}
use Rattle.pack.specs.declared.BlockNo.{BlockNo}
use Rattle.pack.specs.declared.Key.{Key}
use Rattle.pack.specs.GeometrySized.{most_blocks, Sized}
use Rattle.pack.specs.Geometry.{geometry_of, slots}
use Rattle.asking.proofs.Outcome.{done_answer, refused_answer}
use Rattle.room.specs.declared.Blocks.{Blocks}
use Rattle.room.specs.RoomTest.{highest_run}
use Rattle.room.specs.Room.{HighestRun, InRun}
use Rattle.room.specs.RoomMap.{Says, FreeOn, marked_from}
use Rattle.room.specs.Cleared.{taken}
use Rattle.room.proofs.RoomHighest.{run_highest, run_inside}
use Rattle.room.proofs.RoomMapTaken.{free_on_law}
use Rattle.pack.proofs.GeometryRoom.{sized_same}
use Rattle.consistency.specs.Mapped.{MappedIf}
use Rattle.consistency.proofs.ConsistentTestIff.{consistent_iff}
use Rattle.pack.specs.EntryWords.{words_of, set_entry_words}
use Rattle.pack.specs.EntryFields.{WordFields}
use Rattle.creation.specs.CreatingRows.{creating_rows}
use Rattle.creation.specs.Creating.{new_file, entry_for, created}
use Rattle.creation.specs.AllocRows.{alloc_rows}
use Rattle.creation.specs.Rounding.{blocks_for, length_for}
use Rattle.creation.specs.Alloc.{start_for, alloc, extent_from}
use Rattle.creation.specs.AllocStage.{Allocating, Extent, Refused, allocating_of}
use Rattle.creation.specs.AllocMap.{alloc_map}
use Rattle.creation.proofs.AllocBlocks.{blocks_some}
use Rattle.creation.proofs.CreatingStage.{creating_coded, Creatable, creatable, Allowed, Forbidden}
use Rattle.creation.proofs.CreatingWritten.{created_at, writable, sized_at, inside_at}

pub alloc_ordered : (img : List ℕ) (key : Key) (caller protect segments : ℕ) → in_order table_order 0 (alloc_rows img key caller protect segments) ≡ true
unfolding alloc_rows creating_rows
alloc_ordered img key caller protect segments = refl

-- a pack in which a file may be made is consistent, and so the map of its opening says how often each block is held
pub allowed_mapped : {img map : List ℕ} {key : Key} {caller protect : ℕ} {wrong : Bool} {g : Geometry} {e : ℕ}
    → Allowed img key caller protect wrong g e → MappedIf map img → (g.blocks ≤ length map) × Says map img
allowed_mapped a mapped =
    let m = mapped ((consistent_iff _).1 (creatable _ _ _ _ _ a.clear).right) in
    (omega (arith, m.enough, ap (λ (h : Geometry). h.blocks) a.measures), m.says)

module _ (img : List ℕ) (key : Key) (caller protect segments : ℕ) where
  -- what speaks against any new file comes first, and then 42
  pub rows_forbidden : {code : ℕ} → first_of (creating_rows img key caller protect (eqb segments 0)) ≡ code → (code ≡ 0 → ⊥)
      → first_of (alloc_rows img key caller protect segments) ≡ code
  unfolding alloc_rows
  rows_forbidden first never = behind_refused _ (creating_rows img key caller protect (eqb segments 0)) first never

  pub rows_42 : first_of (creating_rows img key caller protect (eqb segments 0)) ≡ 0 → highest_run img (length_for img segments) ≡ none
      → first_of (alloc_rows img key caller protect segments) ≡ 0o42
  unfolding alloc_rows first_of
  rows_42 clear nowhere =
      behind_clear _ (creating_rows img key caller protect (eqb segments 0)) (creating_coded img key caller protect (eqb segments 0)) clear ∙ rw nowhere

  pub rows_clear : first_of (creating_rows img key caller protect (eqb segments 0)) ≡ 0 → (s : ℕ) → highest_run img (length_for img segments) ≡ some s
      → first_of (alloc_rows img key caller protect segments) ≡ 0
  unfolding alloc_rows first_of
  rows_clear clear s found =
      behind_clear _ (creating_rows img key caller protect (eqb segments 0)) (creating_coded img key caller protect (eqb segments 0)) clear ∙ rw found

  -- where no row refuses there is a run
  pub rows_both : first_of (alloc_rows img key caller protect segments) ≡ 0
      → (first_of (creating_rows img key caller protect (eqb segments 0)) ≡ 0) × (highest_run img (length_for img segments) ≡ some (start_for img segments))
  rows_both clear = by (ℕ_discrete (first_of (creating_rows img key caller protect (eqb segments 0))) 0) (highest_run img (length_for img segments)) refl
    where
      by : Dec (first_of (creating_rows img key caller protect (eqb segments 0)) ≡ 0) → (o : Option ℕ) → highest_run img (length_for img segments) ≡ o
          → (first_of (creating_rows img key caller protect (eqb segments 0)) ≡ 0) × (o ≡ some (or_else 0 o))
      by (no never) o is = absurd (never (sym (rows_forbidden refl never) ∙ clear))
      by (yes before) none is = absurd (omega (arith, rows_42 before is, clear))
      by (yes before) (some s) is = (before, refl)

  -- what there is where nothing speaks against the request
  pub record Allocatable : Type 0 where
    pub ready : Creatable img key caller protect (eqb segments 0)
    pub positive : 0 < length_for img segments
    pub extent : HighestRun img (length_for img segments) (start_for img segments)
    pub inside : start_for img segments + length_for img segments ≤ (geometry_of img).blocks

  pub segments_some : Creatable img key caller protect (eqb segments 0) → 0 < length_for img segments
  segments_some ready =
      let never = eqb-false segments 0 ready.argument in
      let some_segments : 0 < segments = omega (arith, never) in
      blocks_some (geometry_of img) segments ready.sized.some some_segments

  pub allocatable : first_of (alloc_rows img key caller protect segments) ≡ 0 → Allocatable
  allocatable clear =
      let both = rows_both clear in
      let ready = creatable img key caller protect (eqb segments 0) both.0 in
      let positive = segments_some ready in
      let extent = run_highest img (length_for img segments) positive (start_for img segments) both.1 in
      record { ready = ready; positive = positive; extent = extent; inside = run_inside img (length_for img segments) positive (start_for img segments) extent.run }

  -- each answer of the stage
  pub allocating_forbidden : (code : ℕ) → Forbidden img key caller protect (eqb segments 0) code → Refused code ≡ allocating_of img key caller protect segments
  unfolding allocating_of
  allocating_forbidden code f =
      let first = rows_forbidden f.first f.never in
      ap Refused (sym first) ∙ sym (refusal_is _ _ (λ is. f.never (sym first ∙ is)))

  module _ {g : Geometry} {e : ℕ} (a : Allowed img key caller protect (eqb segments 0) g e) (k : Blocks) (is : k.0 ≡ blocks_for g segments) where
    length_at : length_for img segments ≡ k.0
    length_at = ap (λ (h : Geometry). blocks_for h segments) a.measures ∙ sym is

    pub allocating_42 : highest_run img k.0 ≡ none → Refused 0o42 ≡ allocating_of img key caller protect segments
    unfolding allocating_of
    allocating_42 nowhere =
        let first = rows_42 a.clear (ap (highest_run img) length_at ∙ nowhere) in
        ap Refused (sym first) ∙ sym (refusal_is _ _ (λ zero. omega (arith, first, zero)))

    pub allocating_extent : (s : BlockNo) → highest_run img k.0 ≡ some s.0 → Extent g e s k ≡ allocating_of img key caller protect segments
    unfolding allocating_of
    allocating_extent s found =
        let there = ap (highest_run img) length_at ∙ found in
        let first = rows_clear a.clear s.0 there in
        let start : start_for img segments ≡ s.0 = ap (or_else 0) there in
        sym (success_is _ _ first
        ∙ (λ i. Extent (a.measures i) (a.number i) (record { 0 = start i }) (record { 0 = length_at i })))

    pub count_some : 0 < k.0
    count_some = omega (arith, length_at, segments_some (creatable img key caller protect (eqb segments 0) a.clear))

  -- what its two answers say
  pub record Chosen (g : Geometry) (e : ℕ) (s : BlockNo) (k : Blocks) : Type 0 where
    pub clear : first_of (alloc_rows img key caller protect segments) ≡ 0
    pub measures : geometry_of img ≡ g
    pub number : entry_for img ≡ e
    pub start : start_for img segments ≡ s.0
    pub length : length_for img segments ≡ k.0

  module _ (answer : Allocating) (is : answer ≡ allocating_of img key caller protect segments) where
    told_clear : first_of (alloc_rows img key caller protect segments) ≡ 0
        → answer ≡ Extent (geometry_of img) (entry_for img) (record { 0 = start_for img segments }) (record { 0 = length_for img segments })
    unfolding allocating_of
    told_clear clear = is ∙ success_is _ _ clear

    told_denied : (first_of (alloc_rows img key caller protect segments) ≡ 0 → ⊥) → answer ≡ Refused (first_of (alloc_rows img key caller protect segments))
    unfolding allocating_of
    told_denied never = is ∙ refusal_is _ _ never

    pub chosen : (g : Geometry) (e : ℕ) (s : BlockNo) (k : Blocks) → answer ≡ Extent g e s k → Chosen g e s k
    chosen g e s k told = by (ℕ_discrete (first_of (alloc_rows img key caller protect segments)) 0)
      where
        by : Dec (first_of (alloc_rows img key caller protect segments) ≡ 0) → Chosen g e s k
        by (yes clear) =
            let same = told_clear clear in
            let starts : ◌≡◌ {A = BlockNo} (record { 0 = start_for img segments }) s = cc in
            let lengths : ◌≡◌ {A = Blocks} (record { 0 = length_for img segments }) k = cc in
            record { clear = clear; measures = cc; number = cc; start = ap (λ (x : BlockNo). x.0) starts; length = ap (λ (x : Blocks). x.0) lengths }
        by (no never) = let same = told_denied never in let z : ◌≡◌ {A = ℕ} 0 1 = cc in absurd (omega arith)

    -- the answers of the request
    pub alloc_denied : (code : ℕ) → answer ≡ Refused code → (map : List ℕ)
        → (code ≡ (alloc img key caller protect segments).code)
        × (((0 ∷ []) ≡ (alloc img key caller protect segments).numbers)
        × ((img ≡ (alloc img key caller protect segments).image)
        × (map ≡ alloc_map map img key caller protect segments)))
    unfolding alloc alloc_map
    alloc_denied code told map = by (ℕ_discrete (first_of (alloc_rows img key caller protect segments)) 0)
      where
        by : Dec (first_of (alloc_rows img key caller protect segments) ≡ 0)
            → (code ≡ (alloc img key caller protect segments).code)
            × (((0 ∷ []) ≡ (alloc img key caller protect segments).numbers)
            × ((img ≡ (alloc img key caller protect segments).image)
            × (map ≡ alloc_map map img key caller protect segments)))
        by (yes clear) = let same = told_clear clear in let z : ◌≡◌ {A = ℕ} 0 1 = cc in absurd (omega arith)
        by (no never) =
            let same = told_denied never in
            let first : first_of (alloc_rows img key caller protect segments) ≡ code = cc in
            let r = refused_answer (alloc_rows img key caller protect segments) img [] _ first (λ zero. never (first ∙ zero)) in
            (r.0, (r.1, (r.2, sym (refusal_is _ _ never))))

    module _ (g : Geometry) (e : ℕ) (s : BlockNo) (k : Blocks) (told : answer ≡ Extent g e s k) where
      -- the last block is one of the pack
      pub alloc_last : (1 ≤ s.0 + k.0) × (s.0 + k.0 ≤ most_blocks)
      alloc_last =
          let c = chosen g e s k told in
          let a = allocatable c.clear in
          (omega (arith, a.positive, c.length), omega (arith, a.inside, a.ready.sized.most, c.start, c.length))

      pub alloc_ready : ((i : ℕ) → get_or img i 0 < 256)
          → Sized img g × ((e < slots g) × WordFields (new_file key protect (extent_from s.0 k.0)))
      alloc_ready bytes =
          let c = chosen g e s k told in
          let ready = (allocatable c.clear).ready in (
            sized_at ready c.measures c.number,
            (
              inside_at ready c.measures c.number,
              writable ready bytes (extent_from s.0 k.0)
                  (omega arith) (omega (arith, alloc_last)) (omega (arith, alloc_last)) (omega (arith, alloc_last)) (omega arith),
            ),
          )

      -- the blocks of the run are still free on the map when the entry is written
      pub alloc_run : (map : List ℕ) → MappedIf map img → (img' : List ℕ) → length img' ≡ length img
          → Sized img' g × (((g.blocks ≤ length map) × (s.0 + k.0 ≤ g.blocks)) × ((b : ℕ) → InRun s.0 k.0 b → FreeOn map g b))
      alloc_run map mapped img' same =
          let c = chosen g e s k told in
          let a = allocatable c.clear in
          let m = mapped ((consistent_iff img).1 a.ready.right) in
          let blocks = ap (λ (h : Geometry). h.blocks) c.measures in (
            sized_same (sized_at a.ready c.measures c.number) same,
            (
              (omega (arith, m.enough, blocks), omega (arith, a.inside, c.start, c.length, blocks)),
              λ b run.
                  free_on_law m.says c.measures
                  (a.extent.run.free b (omega (arith, run.0, c.start)) (omega (arith, run.1, c.start, c.length))),
            ),
          )

      pub alloc_done : (img' : List ℕ) → img' ≡ set_entry_words img g e 0 (words_of (new_file key protect (extent_from s.0 k.0)))
          → (img'' : List ℕ) → img'' ≡ taken img' g s.0 k.0 → (map map' : List ℕ) → map' ≡ marked_from map s.0 k.0
          → (0 ≡ (alloc img key caller protect segments).code)
          × (((s.0 ∷ []) ≡ (alloc img key caller protect segments).numbers)
          × ((img'' ≡ (alloc img key caller protect segments).image)
          × (map' ≡ alloc_map map img key caller protect segments)))
      unfolding alloc alloc_map
      alloc_done img' written img'' takes map map' marked =
          let c = chosen g e s k told in
          let extent : (s.0 ≡ start_for img segments) × (k.0 ≡ length_for img segments) = (sym c.start, sym c.length) in
          let entered : img' ≡ created img (new_file key protect (extent_from (start_for img segments) (length_for img segments))) =
          written
          ∙ ((λ i. set_entry_words img g e 0 (words_of (new_file key protect (extent_from (extent.0 i) (extent.1 i)))))
          ∙ created_at img _ g e c.measures c.number) in
          let d =
          done_answer (alloc_rows img key caller protect segments) img [] _ c.clear (s.0 ∷ []) img'' (ap (λ (x : ℕ). x ∷ []) (sym c.start))
          (takes ∙ (λ i. taken (entered i) (sym c.measures i) (extent.0 i) (extent.1 i))) in
          (d.0, (d.1, (d.2, marked ∙ ((λ i. marked_from map (extent.0 i) (extent.1 i)) ∙ sym (success_is _ _ c.clear)))))
