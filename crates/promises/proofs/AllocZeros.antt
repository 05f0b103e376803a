-- A new file reads as zeros: ALLOC, OPENI and BLOCK input of any place below its length, each with code 0, give a block all zero.
use Prim.Native.Nat.{ℕ, ◌+◌, ◌*◌, ◌≤◌, ◌<◌}
use mathlib.Core.Path.{◌≡◌, refl, sym, ap, subst, ◌∙◌}
use mathlib.Core.Bool.{false, not}
use mathlib.Core.List.{List, []}
use native.Mathlib.Omega.{arith}
use lib.ListN.{length, get_or, drop, replicate, length-drop, length-replicate, get_or-replicate}
use lib.Seq.{ext_get_or, get_or-take, get_or-drop, length-take-le}
use borrow.Author.Tests.{eq-eqb}
use Rattle.pack.specs.declared.Geometry.{Geometry}
use Rattle.pack.specs.declared.Entry.{Entry}
use Rattle.pack.specs.declared.Key.{Key}
use Rattle.pack.specs.Geometry.{geometry_of, block_bytes}
use Rattle.pack.specs.Entry.{entry_of}
use Rattle.pack.specs.Key.{key_in, SameKey}
use Rattle.pack.specs.Consistent.{Consistent}
use Rattle.pack.proofs.GeometryRoom.{block_room}
use Rattle.asking.specs.declared.Right.TheVariants.{Read}
use Rattle.asking.specs.Asked.{file_of}
use Rattle.asking.specs.Rights.{May}
use Rattle.asking.proofs.Keys.{keyed_used}
use Rattle.asking.proofs.Rights.{may_iff}
use Rattle.asking.proofs.AskedCleared.{Cleared}
use Rattle.asking.proofs.AccessRows.{Accessed}
use Rattle.frame.proofs.FramedCompose.{block_kept}
use Rattle.frame.proofs.FramedStays.{entries_at, bodies_behind}
use Rattle.owners.proofs.OwnerSearch.{measured_sized}
use Rattle.opening.specs.declared.Opening.TheVariants.{Input}
use Rattle.opening.specs.Open.{with_opens, opened}
use Rattle.opening.proofs.OpenWords.{OpensSet, opens_entry, opens_framed}
use Rattle.opening.proofs.OpenEffect.{open_consistent}
use Rattle.bodies.specs.BlockBytes.{part_of, block_start, block_of}
use Rattle.bodies.specs.BufferSizes.{wrong_block}
use Rattle.bodies.proofs.BlockBytes.{part_same}
use Rattle.room.specs.Room.{FreeRun}
use Rattle.room.proofs.Cleared.{blocks_room}
use Rattle.creation.specs.Rounding.{length_for}
use Rattle.creation.specs.Creating.{new_file, entry_for}
use Rattle.creation.specs.Alloc.{start_for, extent_from, alloc}
use Rattle.creation.proofs.AllocStage.{Allocatable}
use Rattle.creation.proofs.AllocEffect.{alloc_allocatable, alloc_consistent, alloc_untouched, alloc_made, alloc_cleared}
use Rattle.transfer.specs.BlockRows.{open_for_input}
use Rattle.transfer.specs.Block.{block_at_place, block_in}
use Rattle.transfer.proofs.BlockStage.{open_reader}
use Rattle.transfer.proofs.BlockIn.{block_in_given}
use Rattle.promises.specs.GivenWhen.{GivesCode}
use Rattle.promises.specs.Codes.{CreatingCases}
use Rattle.promises.specs.AllocZeros.{allocated_image, readable_image, zero_block}
use Rattle.promises.proofs.CodesRoom.{room_given}
use Rattle.promises.proofs.FileOpened.{own, asked, file_set, file_opens, opened_set}

-- a part whose bytes are 0
part_zero : (img : List ℕ) (from size : ℕ) → from + size ≤ length img → ((i : ℕ) → i < size → get_or img (from + i) 0 ≡ 0) → part_of img from size ≡ replicate size 0
part_zero img from size inside zero =
    ext_get_or 0 (part_of img from size) (replicate size 0) (long ∙ sym (length-replicate {A = ℕ} size 0)) (λ i small. at i (omega (arith, small, long)))
  where
    long : length (part_of img from size) ≡ size
    long = length-take-le size (drop from img) (omega (arith, length-drop from img, inside))

    at : (i : ℕ) → i < size → get_or (part_of img from size) i 0 ≡ get_or (replicate size 0) i 0
    at i small = get_or-take size (drop from img) i 0 small ∙ (get_or-drop from img i 0 ∙ (zero i small ∙ sym (get_or-replicate size i 0 0 small)))

module _ (img : List ℕ) (key : Key) (caller protect segments : ℕ) (done : (alloc img key caller protect segments).code ≡ 0) where
  abbrev img₁ : List ℕ
  img₁ = allocated_image img key caller protect segments

  abbrev file : Entry
  file = new_file key protect (extent_from (start_for img segments) (length_for img segments))

  possible : Allocatable img key caller protect segments
  possible = alloc_allocatable img key caller protect segments done

  entry_made : entry_of img₁ (geometry_of img) (entry_for img) ≡ file
  entry_made = (alloc_made img key caller protect segments done).file

  right_made : Consistent img₁
  right_made = alloc_consistent img key caller protect segments possible.ready.right

  -- the new file, as the requests find it
  there : Cleared img₁ key (geometry_of img) (entry_for img)
  there =
      let same = alloc_untouched img key caller protect segments key in
      let measures : geometry_of img ≡ geometry_of img₁ = sym same.measures in
      let keyed = subst (λ (x : Entry). SameKey (key_in x) key) (sym entry_made) (record { name1 = refl; name2 = refl; extension = refl; uic = refl }) in
      record {
        right = right_made;
        measures = measures;
        sized = measured_sized right_made (sym measures);
        inside = possible.ready.entry.inside;
        legal = possible.ready.legal;
        keyed = keyed;
        used = keyed_used img₁ (geometry_of img) key (entry_for img) possible.ready.legal keyed
            (entries_at img₁ (geometry_of img) measures right_made (entry_for img) possible.ready.entry.inside);
      }

  -- its blocks are within the pack
  block_inside : (place : ℕ) → place < length_for img segments → start_for img segments + place < (geometry_of img).blocks
  block_inside place few = omega (arith, possible.inside, few)

  -- each is all zero
  block_zero : (place : ℕ) → place < length_for img segments → block_of img₁ (geometry_of img) (start_for img segments + place) ≡ zero_block img
  block_zero place few =
      part_zero img₁ (block_start (geometry_of img) (start_for img segments + place)) (block_bytes (geometry_of img))
      (omega (arith, blocks_room there.sized (start_for img segments + place) 1 (omega (arith, block_inside place few))))
      (λ i small.
      let at : block_start (geometry_of img) (start_for img segments + place) + i
      ≡ block_start (geometry_of img) (start_for img segments) + (place * block_bytes (geometry_of img) + i) = omega arith in
      ap (λ (k : ℕ). get_or img₁ k 0) at
      ∙ (alloc_cleared img key caller protect segments done).zero (place * block_bytes (geometry_of img) + i)
      (omega (arith, small, block_room (geometry_of img).segments.0 few)))

  module _ (reader : ℕ) (readable : May reader key.uic protect Read) where
    abbrev img₂ : List ℕ
    img₂ = readable_image img key caller protect segments reader

    granted : May reader (entry_of img₁ (geometry_of img) (entry_for img)).uic (entry_of img₁ (geometry_of img) (entry_for img)).protect Read
    granted = rw entry_made readable

    no_writer : (entry_of img₁ (geometry_of img) (entry_for img)).writer ≡ 0
    no_writer = ap (λ (x : Entry). x.writer) entry_made

    no_reader : (entry_of img₁ (geometry_of img) (entry_for img)).readers ≡ 0
    no_reader = ap (λ (x : Entry). x.readers) entry_made

    -- it is closed, and can be opened
    pub alloc_opens : (opened Input (allocated_image img key caller protect segments) key reader).code ≡ 0
    alloc_opens = file_opens there granted no_writer (omega (arith, no_reader))

    set : OpensSet img₁ img₂ (geometry_of img) (entry_for img) (entry_of img₁ (geometry_of img) (entry_for img)).writer
        ((entry_of img₁ (geometry_of img) (entry_for img)).readers + 1)
    set = opened_set there granted no_writer (omega (arith, no_reader))

    ready : Cleared img₂ key (geometry_of img) (entry_for img)
    ready = file_set there set (open_consistent Input img₁ key reader right_made)

    entry_opened : entry_of img₂ (geometry_of img) (entry_for img) ≡ with_opens file 0 1
    entry_opened = opens_entry there set ∙ rw entry_made refl

    -- its bytes are those that ALLOC left
    bytes_same : (place : ℕ) → place < length_for img segments
        → block_of img₂ (geometry_of img) (start_for img segments + place) ≡ block_of img₁ (geometry_of img) (start_for img segments + place)
    bytes_same place few =
        part_same img₁ img₂ (block_start (geometry_of img) (start_for img segments + place)) (block_bytes (geometry_of img)) set.only.long
        (block_kept (opens_framed there set).kept (start_for img segments + place)
        (omega (
          arith,
          (possible.extent.run.free (start_for img segments + place) (omega arith) (omega (arith, few))).body,
          bodies_behind img (geometry_of img) refl,
        )) (λ never. never))

    pub alloc_reads : (place : ℕ) → place < length_for img segments → (lent : List ℕ) → length lent ≡ block_bytes (geometry_of img)
        → block_in (readable_image img key caller protect segments reader) key reader place lent
        ≡ record { code = 0; numbers = []; image = readable_image img key caller protect segments reader; buffer = zero_block img }
    alloc_reads place few lent long =
        block_in_given img₂ key reader place lent
        (record { file = asked ready (wrong_block img₂ lent) argument; entry = sym (own ready); access = access })
        (omega (arith, few, ap (λ (x : Entry). x.length) entry_opened))
        ∙ ap (λ (bytes : List ℕ). record { code = 0; numbers = []; image = img₂; buffer = bytes }) given
      where
        argument : wrong_block img₂ lent ≡ false
        argument = rw (eq-eqb (length lent) (block_bytes (geometry_of img₂)) (long ∙ ap block_bytes ready.measures))

        access : Accessed (entry_of img₂ (geometry_of img) (entry_for img)) reader Read 2 (not (open_for_input (entry_of img₂ (geometry_of img) (entry_for img))))
        access =
            let open-now : 0 < (entry_of img₂ (geometry_of img) (entry_for img)).readers = omega (arith, ap (λ (x : Entry). x.readers) entry_opened) in
            record {
              right_given = rw entry_opened ((may_iff Read reader key.uic protect).1 readable);
              kind = λ is. omega (arith, is, ap (λ (x : Entry). x.kind) entry_opened);
              opened = ap not (sym (open_reader (entry_of img₂ (geometry_of img) (entry_for img)) open-now));
            }

        given : block_of img₂ (geometry_of img₂) (block_at_place (file_of img₂ key) place) ≡ zero_block img
        given =
            ap (λ (x : Entry). block_of img₂ (geometry_of img₂) (block_at_place x place)) (own ready ∙ entry_opened)
            ∙ (ap (λ (h : Geometry). block_of img₂ h (start_for img segments + place)) (sym ready.measures) ∙ (bytes_same place few ∙ block_zero place few))

-- where nothing else speaks against ALLOC and there is room
module _ (img : List ℕ) (key : Key) (caller protect segments : ℕ) (clear : GivesCode (CreatingCases img key caller protect (segments ≡ 0)) 0)
    (s : ℕ) (room : FreeRun img (length_for img segments) s) (reader : ℕ) (readable : May reader key.uic protect Read) where
  pub alloc_zeros : ((alloc img key caller protect segments).code ≡ 0)
      × ((opened Input (allocated_image img key caller protect segments) key reader).code ≡ 0)
      × ((place : ℕ) → place < length_for img segments → (lent : List ℕ) → length lent ≡ block_bytes (geometry_of img)
      → block_in (readable_image img key caller protect segments reader) key reader place lent
      ≡ record { code = 0; numbers = []; image = readable_image img key caller protect segments reader; buffer = zero_block img })
  alloc_zeros =
      let done = room_given img key caller protect segments clear s room in
      (done, alloc_opens img key caller protect segments done reader readable, alloc_reads img key caller protect segments done reader readable)
