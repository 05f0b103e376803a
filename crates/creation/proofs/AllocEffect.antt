-- ALLOC, for all images and arguments: what a refusal keeps, when it is refused with 42, what a success makes, clears and marks, and what stays as it was.
use Prim.Native.Nat.{ℕ, ◌+◌, ◌*◌, ◌-◌, ◌/◌, ◌≤◌, ◌<◌}
use mathlib.Core.Path.{◌≡◌, refl, sym, ap, ◌∙◌}
use mathlib.Core.Logic.{◌⊎◌, inl, inr, ◌↔◌}
use mathlib.Core.List.{List, [], ◌∷◌}
use mathlib.Core.Option.{Option, none, some}
use native.Mathlib.Omega.{arith}
use native.Mathlib.Decide.{dec_le, dec_lt}
use native.Mathlib.Nat.{mul-le-mul_right}
use lib.Dec.{eqb}
use lib.ListN.{length, get_or}
use Rattle.answers.specs.Refusals.{first_of}
use Rattle.pack.specs.declared.Key.{Key}
use Rattle.pack.specs.declared.Geometry.{Geometry}
use Rattle.pack.specs.declared.Entry.{Entry}
use Rattle.pack.specs.declared.Owner.TheVariants.{Held}
use Rattle.pack.specs.Geometry.{geometry_of, block_bytes, entry_at}
use Rattle.pack.specs.GeometrySized.{Sized}
use Rattle.pack.specs.EntryWords.{words_of}
use Rattle.pack.proofs.GeometryRoom.{block_room, sized_same}
use Rattle.pack.specs.File.{next_of, chain, blocks_of, count}
use Rattle.pack.specs.Entry.{entry_of, Contiguous}
use Rattle.pack.specs.Consistent.{held, Consistent}
use Rattle.pack.specs.Map.{HasMap, map_bits, map_bit}
use Rattle.pack.specs.MapSays.{MapSays, marking}
use Rattle.pack.specs.Owner.{FreeBlock, owner_of}
use Rattle.pack.specs.Untouched.{Untouched}
use Rattle.pack.proofs.MapSays.{marking_body}
use Rattle.pack.proofs.ConsistentHeld.{consistent_says}
use Rattle.pack.proofs.FileCount.{count_at}
use Rattle.pack.proofs.FileChain.{chain_length, next_contiguous}
use Rattle.frame.proofs.FileChainWays.{extent_place, extent_below, extent_above, extent_most}
use Rattle.frame.specs.Framed.{ChangesOnly, InEntry, InBlock, Only, Never, MapWord, Kept}
use Rattle.frame.proofs.FramedCompose.{entry_kept, entries_kept}
use Rattle.frame.proofs.FramedStays.{stated_framed, held_at, system_unheld}
use Rattle.frame.proofs.FramedHeld.{framed_one}
use Rattle.frame.proofs.ChangesWritten.{changes_nothing, changes_then, changes_words, Outside}
use Rattle.frame.proofs.UntouchedFramed.{untouched_refl}
use Rattle.asking.proofs.Outcome.{code_is, success_image, success_numbers, refusal_keeps, image_by}
use Rattle.asking.specs.Outcome.{Unchanged}
use Rattle.creation.specs.CreatingRows.{creating_rows}
use Rattle.creation.specs.declared.creating.Shape.{Shape}
use Rattle.creation.specs.Creating.{created, LowestEmpty, new_file, entry_for}
use Rattle.creation.specs.AllocRows.{alloc_rows}
use Rattle.creation.specs.Rounding.{length_for}
use Rattle.creation.specs.Alloc.{start_for, alloc, extent_from}
use Rattle.room.specs.RoomTest.{highest_run}
use Rattle.bodies.specs.BlockBytes.{block_start}
use Rattle.room.specs.Room.{FreeRun, HighestRun, InRun}
use Rattle.room.specs.Cleared.{taken}
use Rattle.room.proofs.Taken.{TakenOrMap, taken_kept, taken_changes, taken_zero, taken_says}
use Rattle.room.proofs.RoomHighest.{run_none}
use Rattle.creation.proofs.CreatingStage.{creatable}
use Rattle.creation.proofs.AllocStage.{rows_42, rows_clear, Allocatable, segments_some, allocatable}
use Rattle.creation.proofs.CreatingEffect.{Entered, entered, entered_kept, entered_says, entry_entered, entered_untouched, entered_consistent, entered_owner, entered_others, entered_held}

-- the blocks of the new file: `size` of them from `first` on
module _ (img : List ℕ) (g : Geometry) (key : Key) (protect first size : ℕ) where
  extent : blocks_of img g (new_file key protect (extent_from first size)) ≡ chain (next_of img g 1) size first
  unfolding blocks_of
  extent = refl

  steps : (b : ℕ) → next_of img g 1 b ≡ b + 1
  steps b = next_contiguous img g 1 b refl

  extent_counted : (b : ℕ) → count b (blocks_of img g (new_file key protect (extent_from first size))) ≤ 1
  extent_counted b = omega (arith, ap (count b) extent, extent_most (next_of img g 1) steps b size first)

  extent_inside : (b : ℕ) → 0 < count b (blocks_of img g (new_file key protect (extent_from first size))) → (first ≤ b) × (b < first + size)
  extent_inside b some-count = (
    elim (dec_le first b) [
      | yes low ↦ low
      | no not ↦ absurd (omega (arith, some-count, ap (count b) extent, extent_below (next_of img g 1) steps b size first (omega (arith, not))))
    ],
    elim (dec_lt b (first + size)) [
      | yes high ↦ high
      | no not ↦ absurd (omega (arith, some-count, ap (count b) extent, extent_above (next_of img g 1) steps b size first (omega (arith, not))))
    ],
  )

  extent_outside : (b : ℕ) → (first ≤ b → b < first + size → ⊥) → count b (blocks_of img g (new_file key protect (extent_from first size))) ≡ 0
  extent_outside b outside =
      elim (dec_lt 0 (count b (blocks_of img g (new_file key protect (extent_from first size))))) [
        | yes some-count ↦ let inside = extent_inside b some-count in absurd (outside inside.0 inside.1)
        | no not ↦ omega (arith, not)
      ]

  extent_at : (p : ℕ) → p < size
      → (p < length (blocks_of img g (new_file key protect (extent_from first size))))
      × (get_or (blocks_of img g (new_file key protect (extent_from first size))) p 0 ≡ first + p)
  extent_at p within = (
    omega (arith, within, ap length extent, chain_length (next_of img g 1) size first),
    ap (λ (blocks : List ℕ). get_or blocks p 0) extent ∙ extent_place (next_of img g 1) steps size first p within,
  )

contiguous : (key : Key) (protect first size : ℕ) → 0 < size → Contiguous (new_file key protect (extent_from first size))
contiguous key protect first size positive = record { kind = refl; length = positive; last = omega arith; writer = inl refl }

module _ (img : List ℕ) (key : Key) (caller protect segments : ℕ) where
  abbrev shape : Shape
  shape = extent_from (start_for img segments) (length_for img segments)

  -- the entry written, and the blocks of the run taken
  abbrev made : Allocatable img key caller protect segments → List ℕ
  made a = taken (entered a.ready shape) (geometry_of img) (start_for img segments) (length_for img segments)

  abbrev file : Entry
  file = new_file key protect shape

  -- "A refusal returns its code, any other number in the answer 0 .., and nothing in the image .. changes."
  pub alloc_refused : ((alloc img key caller protect segments).code ≡ 0 → ⊥)
      → Unchanged (alloc img key caller protect segments) (0 ∷ []) img []
  unfolding alloc
  alloc_refused = refusal_keeps (alloc_rows img key caller protect segments) img [] _

  pub code_rows_law : (alloc img key caller protect segments).code ≡ first_of (alloc_rows img key caller protect segments)
  unfolding alloc
  code_rows_law = code_is (alloc_rows img key caller protect segments) img [] _

  pub alloc_allocatable : (alloc img key caller protect segments).code ≡ 0 → Allocatable img key caller protect segments
  alloc_allocatable success = allocatable img key caller protect segments (sym code_rows_law ∙ success)

  -- "42: .. no free run long enough": with nothing else against it, exactly if no run of that length is free, and else it succeeds
  module _ (clear : first_of (creating_rows img key caller protect (eqb segments 0)) ≡ 0) where
    by_run : (o : Option ℕ) → highest_run img (length_for img segments) ≡ o
        → (((alloc img key caller protect segments).code ≡ 0o42) × (highest_run img (length_for img segments) ≡ none))
        ⊎ (((alloc img key caller protect segments).code ≡ 0) × (highest_run img (length_for img segments) ≡ none → ⊥))
    by_run none is = inl (code_rows_law ∙ rows_42 img key caller protect segments clear is, is)
    by_run (some s) is =
        inr (
          code_rows_law ∙ rows_clear img key caller protect segments clear s is,
          λ never. let z : ◌≡◌ {A = ℕ} 0 1 = cc in omega arith,
        )

    no_run : highest_run img (length_for img segments) ≡ none ↔ ((s : ℕ) → FreeRun img (length_for img segments) s → ⊥)
    no_run = run_none img (length_for img segments) (segments_some img key caller protect segments (creatable img key caller protect (eqb segments 0) clear))

    pub alloc_42_iff : (alloc img key caller protect segments).code ≡ 0o42 ↔ ((s : ℕ) → FreeRun img (length_for img segments) s → ⊥)
    alloc_42_iff = by (by_run (highest_run img (length_for img segments)) refl)
      where
        by : (((alloc img key caller protect segments).code ≡ 0o42) × (highest_run img (length_for img segments) ≡ none))
            ⊎ (((alloc img key caller protect segments).code ≡ 0) × (highest_run img (length_for img segments) ≡ none → ⊥))
            → (alloc img key caller protect segments).code ≡ 0o42 ↔ ((s : ℕ) → FreeRun img (length_for img segments) s → ⊥)
        by (inl refused) = (λ code. no_run.0 refused.1, λ never. refused.0)
        by (inr success) = (λ code. absurd (omega (arith, code, success.0)), λ never. absurd (success.1 (no_run.1 never)))

    pub alloc_else_0 : ((alloc img key caller protect segments).code ≡ 0o42 → ⊥) → (alloc img key caller protect segments).code ≡ 0
    alloc_else_0 other = by (by_run (highest_run img (length_for img segments)) refl)
      where
        by : (((alloc img key caller protect segments).code ≡ 0o42) × (highest_run img (length_for img segments) ≡ none))
            ⊎ (((alloc img key caller protect segments).code ≡ 0) × (highest_run img (length_for img segments) ≡ none → ⊥))
            → (alloc img key caller protect segments).code ≡ 0
        by (inl refused) = absurd (other refused.0)
        by (inr success) = success.0

  module _ (a : Allocatable img key caller protect segments) where
    sized : Sized (entered a.ready shape) (geometry_of img)
    sized = sized_same a.ready.sized (entered_kept a.ready shape {Written = Never}).long

    -- the first block of the run is a body
    body : (geometry_of img).bodies.0 ≤ start_for img segments
    body = (a.extent.run.free (start_for img segments) (omega arith) (omega (arith, a.positive))).body

    run_kept : {Named : ℕ → Type 0}
        → Kept Named (TakenOrMap (geometry_of img) (start_for img segments) (length_for img segments)) (entered a.ready shape) (made a) (geometry_of img)
    run_kept = taken_kept sized (start_for img segments) (length_for img segments) body a.inside

    made_kept : Kept (Only (entry_for img)) (TakenOrMap (geometry_of img) (start_for img segments) (length_for img segments)) img (made a) (geometry_of img)
    made_kept = changes_then (entered_kept a.ready shape) run_kept

    -- written are the entry, which was empty, and blocks that nobody held
    unheld : (b : ℕ) → TakenOrMap (geometry_of img) (start_for img segments) (length_for img segments) b → held img b ≡ 0
    unheld b (inl run) = (a.extent.run.free b run.0 run.1).nobody
    unheld b (inr on) = system_unheld img (geometry_of img) refl a.ready.right b (omega (arith, on.0, on.1))

    made_entered : Entered (TakenOrMap (geometry_of img) (start_for img segments) (length_for img segments)) img (made a) file
    made_entered =
        let inside = a.ready.entry.inside in
        record {
          framed = framed_one refl a.ready.right made_kept inside (λ b written. inr (unheld b written));
          words = λ i small. entries_kept (run_kept {Named = Never}) (entry_for img) inside (λ never. never) i small ∙ (entry_entered a.ready shape).words i small;
          entry = entry_kept (run_kept {Named = Never}) (entry_for img) inside (λ never. never) ∙ (entry_entered a.ready shape).entry;
        }

    free_block : (b : ℕ) → 0 < count b (blocks_of (made a) (geometry_of img) file) → FreeBlock img b
    free_block b some-count =
        let inside = extent_inside (made a) (geometry_of img) key protect (start_for img segments) (length_for img segments) b some-count in
        a.extent.run.free b inside.0 inside.1

    right_kind : Contiguous file
    right_kind = contiguous key protect (start_for img segments) (length_for img segments) a.positive

    once : (b : ℕ) → count b (blocks_of (made a) (geometry_of img) file) ≤ 1
    once = extent_counted (made a) (geometry_of img) key protect (start_for img segments) (length_for img segments)

    -- each block of the run is in the new file once, and no other block
    run_counted : (b : ℕ) → InRun (start_for img segments) (length_for img segments) b → count b (blocks_of (made a) (geometry_of img) file) ≡ 1
    run_counted b run =
        let at = extent_at (made a) (geometry_of img) key protect (start_for img segments) (length_for img segments) (b - start_for img segments) (omega (arith, run.0, run.1)) in
        let back : start_for img segments + (b - start_for img segments) ≡ b = omega (arith, run.0) in
        omega (arith, once b, count_at (blocks_of (made a) (geometry_of img) file) (b - start_for img segments) b at.0 (at.1 ∙ back))

    others_counted : (b : ℕ) → (InRun (start_for img segments) (length_for img segments) b → ⊥) → count b (blocks_of (made a) (geometry_of img) file) ≡ 0
    others_counted b outside =
        extent_outside (made a) (geometry_of img) key protect (start_for img segments) (length_for img segments) b (λ low high. outside (low, high))

    -- nobody held the blocks of the run, so none was marked
    run_unmarked : (b : ℕ) → InRun (start_for img segments) (length_for img segments) b → marking img (geometry_of img) b ≡ 0
    run_unmarked b run =
        let free = a.extent.run.free b run.0 run.1 in
        omega (arith, free.nobody, held_at img (geometry_of img) b refl, marking_body img (geometry_of img) b free.body)

    -- and the map then has the bits of the run besides those that it had
    made_says : MapSays (made a) (geometry_of img) (λ b. marking img (geometry_of img) b + count b (blocks_of (made a) (geometry_of img) file))
    made_says =
        taken_says sized (start_for img segments) (length_for img segments) body a.inside (entered_says a.ready shape)
        (λ b run. omega (arith, run_unmarked b run, run_counted b run)) (λ b outside. omega (arith, others_counted b outside))

    made_consistent : Consistent (made a)
    made_consistent =
        entered_consistent a.ready shape made_entered
        (inl right_kind) (omega arith) once free_block made_says

    made_owner : (b : ℕ) → start_for img segments ≤ b → b < start_for img segments + length_for img segments
        → owner_of (made a) b ≡ Held (entry_for img) (record { 0 = b - start_for img segments })
    made_owner b low high =
        let at = extent_at (made a) (geometry_of img) key protect (start_for img segments) (length_for img segments) (b - start_for img segments) (omega arith) in
        let back : start_for img segments + (b - start_for img segments) ≡ b = omega arith in
        entered_owner a.ready shape made_entered
        (inl right_kind) (omega arith) once free_block made_says (b - start_for img segments) b at.0 (at.1 ∙ back)

    made_others : (b : ℕ) → (start_for img segments ≤ b → b < start_for img segments + length_for img segments → ⊥) → owner_of (made a) b ≡ owner_of img b
    made_others b outside =
        entered_others a.ready shape made_entered b
        (extent_outside (made a) (geometry_of img) key protect (start_for img segments) (length_for img segments) b outside)

    made_stated : geometry_of img ≡ geometry_of (made a)
    made_stated = stated_framed refl a.ready.right made_entered.framed

    made_held : (b : ℕ) → held (made a) b ≡ held img b + count b (blocks_of (made a) (geometry_of img) file)
    made_held = entered_held a.ready shape made_entered

    -- nobody held the blocks of the run
    run_held : (b : ℕ) → InRun (start_for img segments) (length_for img segments) b → held (made a) b ≡ 1
    run_held b run =
        omega (arith, made_held b, run_counted b run, (a.extent.run.free b run.0 run.1).nobody)

    others_held : (b : ℕ) → (InRun (start_for img segments) (length_for img segments) b → ⊥) → held (made a) b ≡ held img b
    others_held b outside = omega (arith, made_held b, others_counted b outside)

    -- word by word
    made_changes : {May : ℕ → Type 0} → ((w : ℕ) → InEntry (geometry_of img) (entry_for img) w → May w)
        → ((b w : ℕ) → InRun (start_for img segments) (length_for img segments) b → InBlock (geometry_of img) b w ⊎ MapWord (geometry_of img) b w → May w)
        → ChangesOnly May img (made a)
    made_changes entry run =
        changes_then (changes_words (words_of file) img (geometry_of img) (entry_for img) 0 (λ j low high. entry _ (omega arith, omega arith)))
        (taken_changes sized (start_for img segments) (length_for img segments) body a.inside
        (λ b w own inside. run b w own (inl inside)) (λ b w own word. run b w own (inr word)))

  -- what was written, where nothing speaks against it
  image_is : (P : List ℕ → Type 0) → P img → ((a : Allocatable img key caller protect segments) → P (made a)) → P (alloc img key caller protect segments).image
  unfolding alloc created
  image_is P before after =
      image_by (alloc_rows img key caller protect segments) img [] _ P before (λ clear. after (allocatable img key caller protect segments clear))

  image_made : (success : (alloc img key caller protect segments).code ≡ 0) → (alloc img key caller protect segments).image ≡ made (alloc_allocatable success)
  unfolding alloc created
  image_made success = success_image (alloc_rows img key caller protect segments) img [] _ (sym code_rows_law ∙ success)

  pub alloc_consistent : Consistent img → Consistent (alloc img key caller protect segments).image
  alloc_consistent right = image_is Consistent right made_consistent

  -- nothing is written but the words of the lowest empty entry, the blocks of the run and the map, where there is one
  pub alloc_kept : Kept (Only (entry_for img)) (TakenOrMap (geometry_of img) (start_for img segments) (length_for img segments)) img
      (alloc img key caller protect segments).image (geometry_of img)
  alloc_kept =
      image_is (λ img'. Kept (Only (entry_for img)) (TakenOrMap (geometry_of img) (start_for img segments) (length_for img segments)) img img' (geometry_of img))
      changes_nothing made_kept

  -- the same word by word: of the map, those words that have the bits of the run
  pub alloc_words : {May : ℕ → Type 0}
      → (Allocatable img key caller protect segments → (w : ℕ) → InEntry (geometry_of img) (entry_for img) w → May w)
      → (Allocatable img key caller protect segments → (b w : ℕ) → InRun (start_for img segments) (length_for img segments) b
      → InBlock (geometry_of img) b w ⊎ MapWord (geometry_of img) b w → May w)
      → ChangesOnly May img (alloc img key caller protect segments).image
  alloc_words {May} entry run = image_is (ChangesOnly May img) changes_nothing (λ a. made_changes a (entry a) (run a))

  -- every file is untouched: the request's own key has none
  pub alloc_untouched : (key' : Key) → Untouched key' img (alloc img key caller protect segments).image
  alloc_untouched key' =
      image_is (Untouched key' img) (untouched_refl key' img)
      (λ a. entered_untouched a.ready shape (made_entered a) key')

  -- each block of the run is the new file's at its place, and every other block is whose it was
  pub alloc_owner : (alloc img key caller protect segments).code ≡ 0 → (b : ℕ) → start_for img segments ≤ b → b < start_for img segments + length_for img segments
      → owner_of (alloc img key caller protect segments).image b ≡ Held (entry_for img) (record { 0 = b - start_for img segments })
  alloc_owner success b low high = ap (λ (img' : List ℕ). owner_of img' b) (image_made success) ∙ made_owner (alloc_allocatable success) b low high

  pub alloc_others : (b : ℕ) → (start_for img segments ≤ b → b < start_for img segments + length_for img segments → ⊥)
      → owner_of (alloc img key caller protect segments).image b ≡ owner_of img b
  alloc_others b outside = image_is (λ img'. owner_of img' b ≡ owner_of img b) refl (λ a. made_others a b outside)

  -- each block of the run is then held once, and every other block as often as before
  pub record HeldRun : Type 0 where
    pub measures : geometry_of img ≡ geometry_of (alloc img key caller protect segments).image
    pub run : (b : ℕ) → InRun (start_for img segments) (length_for img segments) b → held (alloc img key caller protect segments).image b ≡ 1
    pub others : (b : ℕ) → (InRun (start_for img segments) (length_for img segments) b → ⊥)
        → held (alloc img key caller protect segments).image b ≡ held img b

  pub alloc_held : (alloc img key caller protect segments).code ≡ 0 → HeldRun
  alloc_held success =
      let a = alloc_allocatable success in
      record {
        measures = rw (image_made success) (made_stated a);
        run = λ b inside. rw (image_made success) (run_held a b inside);
        others = λ b outside. rw (image_made success) (others_held a b outside);
      }

  -- the lowest empty entry, the free run with the highest start, and the entry of the new file
  pub record Made : Type 0 where
    pub entry : LowestEmpty img (entry_for img)
    pub extent : HighestRun img (length_for img segments) (start_for img segments)
    pub number : (alloc img key caller protect segments).numbers ≡ start_for img segments ∷ []
    pub file : entry_of (alloc img key caller protect segments).image (geometry_of img) (entry_for img) ≡ new_file key protect (extent_from (start_for img segments) (length_for img segments))

  pub alloc_made : (alloc img key caller protect segments).code ≡ 0 → Made
  unfolding alloc
  alloc_made success =
      let a = alloc_allocatable success in
      record {
        entry = a.ready.entry;
        extent = a.extent;
        number = success_numbers (alloc_rows img key caller protect segments) img [] _ (sym code_rows_law ∙ success);
        file =
            ap (λ (img' : List ℕ). entry_of img' (geometry_of img) (entry_for img)) (image_made success)
            ∙ (made_entered a).entry;
      }

  -- document 02 §7: the map, where there is one, has the bit of each block of the run, and of any other block that which it had
  pub record MarkedRun : Type 0 where
    pub run : (b : ℕ) → InRun (start_for img segments) (length_for img segments) b
        → map_bit (alloc img key caller protect segments).image (geometry_of img) b ≡ 1
    pub others : (b : ℕ) → b < map_bits (geometry_of img) → (InRun (start_for img segments) (length_for img segments) b → ⊥)
        → map_bit (alloc img key caller protect segments).image (geometry_of img) b ≡ map_bit img (geometry_of img) b

  pub alloc_bits : (alloc img key caller protect segments).code ≡ 0 → HasMap (geometry_of img) → MarkedRun
  alloc_bits success there =
      let a = alloc_allocatable success in
      record {
        run = λ b inside.
            rw (image_made success)
            ((made_says a).is there b (omega (arith, inside.1, a.inside, a.ready.sized.map)) ∙ omega (arith, run_unmarked a b inside, run_counted a b inside));
        others = λ b within outside.
            rw (image_made success)
            ((made_says a).is there b within
            ∙ omega (arith, others_counted a b outside, (consistent_says img (geometry_of img) refl a.ready.right).is there b within));
      }

  -- document 02 §2: "ALLOC shall leave every block it takes all zero", and every other byte is what it was but those of the entry and of the map's words that
  -- have the bits of these blocks
  pub record Cleared : Type 0 where
    pub zero : (k : ℕ) → k < length_for img segments * block_bytes (geometry_of img)
        → get_or (alloc img key caller protect segments).image (block_start (geometry_of img) (start_for img segments) + k) 0 ≡ 0
    pub others : (k : ℕ) → Outside (block_start (geometry_of img) (start_for img segments)) (length_for img segments * block_bytes (geometry_of img)) k
        → Outside (2 * entry_at (geometry_of img) (entry_for img)) 32 k
        → ((b : ℕ) → InRun (start_for img segments) (length_for img segments) b → MapWord (geometry_of img) b (k / 2) → ⊥)
        → get_or (alloc img key caller protect segments).image k 0 ≡ get_or img k 0

  pub alloc_cleared : (alloc img key caller protect segments).code ≡ 0 → Cleared
  alloc_cleared success =
      let a = alloc_allocatable success in
      record {
        zero = λ k inside. rw (image_made success) (taken_zero (sized a) (start_for img segments) (length_for img segments) (body a) a.inside k inside);
        others = λ k out entry words.
            (alloc_words
            {May = λ w. InEntry (geometry_of img) (entry_for img) w
            ⊎ ((b : ℕ) × (InRun (start_for img segments) (length_for img segments) b × (InBlock (geometry_of img) b w ⊎ MapWord (geometry_of img) b w)))}
            (λ made w own. inl own) (λ made b w run of. inr (b, (run, of)))).bytes k (never k out entry words);
      }
    where
      in_block : (b k : ℕ) → InRun (start_for img segments) (length_for img segments) b → InBlock (geometry_of img) b (k / 2)
          → Outside (block_start (geometry_of img) (start_for img segments)) (length_for img segments * block_bytes (geometry_of img)) k → ⊥
      in_block b k run inside (inl less) = omega (arith, less, inside.0, mul-le-mul_right (geometry_of img).segments.0 run.0)
      in_block b k run inside (inr more) = omega (arith, more, inside.1, block_room (geometry_of img).segments.0 run.1)

      in_entry : (k : ℕ) → InEntry (geometry_of img) (entry_for img) (k / 2) → Outside (2 * entry_at (geometry_of img) (entry_for img)) 32 k → ⊥
      in_entry k own (inl less) = omega (arith, less, own.0)
      in_entry k own (inr more) = omega (arith, more, own.1)

      never : (k : ℕ) → Outside (block_start (geometry_of img) (start_for img segments)) (length_for img segments * block_bytes (geometry_of img)) k
          → Outside (2 * entry_at (geometry_of img) (entry_for img)) 32 k
          → ((b : ℕ) → InRun (start_for img segments) (length_for img segments) b → MapWord (geometry_of img) b (k / 2) → ⊥)
          → InEntry (geometry_of img) (entry_for img) (k / 2)
          ⊎ ((b : ℕ) × (InRun (start_for img segments) (length_for img segments) b × (InBlock (geometry_of img) b (k / 2) ⊎ MapWord (geometry_of img) b (k / 2)))) → ⊥
      never k out entry words (inl own) = in_entry k own entry
      never k out entry words (inr (b, (run, inl inside))) = in_block b k run inside out
      never k out entry words (inr (b, (run, inr word))) = words b run word
