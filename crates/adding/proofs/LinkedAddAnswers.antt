-- What an answer of the stage of linked add comes to: that the block can be added, and the code, the number and the image of the request.
use Prim.Native.Nat.{ℕ, ◌+◌, ◌≤◌, ◌<◌}
use mathlib.Core.Path.{◌≡◌, refl, sym, ap, subst, ◌∙◌}
use mathlib.Core.Bool.{not}
use mathlib.Core.List.{List, [], ◌∷◌}
use mathlib.Core.Option.{Option, some}
use native.Mathlib.Omega.{arith}
use native.Mathlib.Decide.{dec_lt}
use lib.Dec.{eqb}
use lib.ListN.{length, set}
use Rattle.answers.specs.Refusals.{Row}
use Rattle.pack.specs.declared.Geometry.{Geometry}
use Rattle.pack.specs.declared.BlockNo.{BlockNo}
use Rattle.pack.specs.declared.Entry.{Entry}
use Rattle.pack.specs.declared.Key.{Key}
use Rattle.pack.specs.GeometrySized.{Sized}
use Rattle.pack.specs.Geometry.{geometry_of, payload_bytes, slots}
use Rattle.pack.specs.Entry.{entry_of}
use Rattle.pack.specs.Consistent.{Consistent}
use Rattle.pack.specs.Owner.{FreeBlock}
use Rattle.pack.proofs.HeaderRules.{header_sized}
use Rattle.pack.proofs.ConsistentTotal.{total_has}
use Rattle.consistency.specs.Mapped.{Mapped, MappedIf}
use Rattle.consistency.proofs.ConsistentTestIff.{consistent_iff}
use Rattle.owners.proofs.OwnerSum.{sum_of_blocks}
use Rattle.asking.specs.AskedStage.{Asked, File, Refused, stage_of}
use Rattle.asking.specs.Asked.{file_of}
use Rattle.asking.proofs.Outcome.{done_answer, refused_answer}
use Rattle.asking.proofs.AskedStage.{Given, stage_is_refused, stage_is_file}
use Rattle.room.specs.RoomMap.{Says, FreeOn, SomeBelow, NoneFrom, run_on}
use Rattle.room.specs.Cleared.{taken}
use Rattle.room.proofs.RoomMapRun.{one_from, run_is}
use Rattle.room.proofs.RoomMapTaken.{free_on_law}
use Rattle.bodies.specs.BufferSizes.{wrong_payload}
use Rattle.bodies.proofs.BufferSizes.{payload_fits}
use Rattle.bodies.proofs.EntryChainLinked.{last_body}
use Rattle.adding.specs.LinkedAddRows.{linked_add_rows}
use Rattle.adding.specs.LinkedAdd.{added_block, added, enlarged_by, linked_add}
use Rattle.adding.specs.LinkedAddStage.{Adding, Block, Denied, block_in, adding_of, Addable, Ready}
use Rattle.adding.proofs.LinkedAddStage.{Admitted, admitted, free_block, block_free}
use Rattle.adding.proofs.LinkedAddMap.{map_enlarged, none_enlarged}
use Rattle.adding.proofs.LinkedAddTaken.{taken_entry, taken_addable}

-- what an answer with the block in it says of the stage
refused_in : (b : ℕ) {code : ℕ} (asked : Asked) → block_in b asked ≡ Denied code → asked ≡ Refused code
refused_in b (File g e x) told = let z : ◌≡◌ {A = ℕ} 0 1 = cc in absurd (omega arith)
refused_in b {code} (Refused other) told = let same : other ≡ code = cc in ap Refused same

record GivenBlock (rows : List Row) (img : List ℕ) (key : Key) (g : Geometry) (e b c : ℕ) : Type 0 where
  given : Given rows img key g e (file_of img key)
  block : c ≡ b

given_in : (rows : List Row) (img : List ℕ) (key : Key) (b : ℕ) {e : ℕ} {g : Geometry} {c : BlockNo} (asked : Asked) → stage_of rows img key ≡ asked
    → block_in b asked ≡ Block g e c → GivenBlock rows img key g e b c.0
given_in rows img key b {e} {g} {c} (File h i x) is told =
    let f = stage_is_file rows img key h i x is in
    let measures : h ≡ g = cc in
    let number : i ≡ e = cc in
    let same : record { 0 = b } ≡ c = cc in
    record {
      given = record { clear = f.clear; measures = f.measures ∙ measures; number = f.number ∙ number; file = refl };
      block = sym (ap (λ (d : BlockNo). d.0) same);
    }
given_in rows img key b (Refused code) is told = let z : ◌≡◌ {A = ℕ} 0 1 = cc in absurd (omega arith)

-- a file has no more blocks than the pack: a word can count one more
pub length_few : {img : List ℕ} (e : ℕ) → Consistent img → e < slots (geometry_of img) → (entry_of img (geometry_of img) e).length + 1 < 65536
length_few {img} e right within =
    omega (
      arith,
      total_has (λ i. (entry_of img (geometry_of img) i).length) e 0 (slots (geometry_of img)) (omega arith) (omega (arith, within)),
      sum_of_blocks right,
      (header_sized img right.header).most,
    )

-- a free block can be added to a linked file of a consistent image
pub addable : {img : List ℕ} (e b : ℕ) (payload : List ℕ) → Consistent img → e < slots (geometry_of img) → (entry_of img (geometry_of img) e).kind ≡ 2
    → FreeBlock img b → length payload ≡ payload_bytes (geometry_of img) → Addable img (geometry_of img) e b payload
addable {img} e b payload right within linked free whole =
    let sized : Sized img (geometry_of img) = header_sized img right.header in
    record {
      sized = sized;
      entry = within;
      body = free.body;
      below = free.below;
      whole = whole;
      fits = length_few e right within;
      last = last_body (geometry_of img) refl right sized e within linked;
    }

-- the highest free block taken: what the code asks and leaves
module _ {img map : List ℕ} {g : Geometry} {e : ℕ} {payload : List ℕ} (ready : Ready img map g e payload) where
  own_free : FreeBlock img (added_block img)
  own_free = block_free ready.right ready.free

  -- sought below a block from which on none is free
  module _ {from : ℕ} (none_free : NoneFrom map g from) where
    some_below : SomeBelow map g from
    some_below = record { block = added_block img; less = by (dec_lt (added_block img) from); free = here }
      where
        here : FreeOn map g (added_block img)
        here = free_on_law ready.says ready.measures own_free

        by : Dec (added_block img < from) → added_block img < from
        by (yes less) = less
        by (no not) = absurd (none_free.never (added_block img) (omega (arith, not)) here.below here.nobody)

    pub search_ready : ((g.blocks ≤ length map) × (from ≤ g.blocks)) × SomeBelow map g from
    search_ready = ((ready.long, none_free.within), some_below)

    pub sought_block : {b : ℕ} → some b ≡ run_on map g.bodies.0 g.blocks 1 from → b ≡ added_block img
    sought_block {b} is =
        let same : ◌≡◌ {A = Option ℕ} (some b) (some (added_block img)) =
        is ∙ one_from none_free ∙ run_is img map ready.says g ready.measures 1 ∙ free_block ready.right ready.free in
        let equal : b ≡ added_block img = cc in equal

  module _ {b : ℕ} (block : b ≡ added_block img) where
    block_own : FreeBlock img b
    block_own = subst (FreeBlock img) (sym block) own_free

    before : Addable img g e b payload
    before =
        rw (← ready.measures)
        (addable e b payload ready.right (subst (λ (h : Geometry). e < slots h) (sym ready.measures) ready.entry)
        (subst (λ (h : Geometry). (entry_of img h e).kind ≡ 2) (sym ready.measures) ready.linked) block_own
        (ready.whole ∙ ap payload_bytes (sym ready.measures)))

    pub take_ready : Sized img g × ((g.blocks ≤ length map) × FreeOn map g b)
    take_ready = (before.sized, (ready.long, free_on_law ready.says ready.measures block_own))

    -- the block was taken: then it can be joined, and the map is right again
    pub block_addable : (img' : List ℕ) → img' ≡ taken img g b 1 → Addable img' g e b payload
    block_addable img' is = rw is (taken_addable before.sized b before.body before.below before)

    pub block_done : (img' : List ℕ) → img' ≡ taken img g b 1 → (img'' : List ℕ) → img'' ≡ added img' g e (entry_of img' g e) b payload
        → (map' : List ℕ) → map' ≡ set map b 1 → (img'' ≡ enlarged_by img g e (entry_of img g e) (added_block img) payload) × Says map' img''
    unfolding enlarged_by
    block_done img' is img'' written map' marked =
        let image : img'' ≡ enlarged_by img g e (entry_of img g e) (added_block img) payload =
        written
        ∙ (ap (λ (i : List ℕ). added i g e (entry_of i g e) b payload) is
        ∙ (ap (λ (x : Entry). added (taken img g b 1) g e x b payload) (taken_entry before.sized b before.body before.below e before.entry)
        ∙ ap (λ (z : ℕ). added (taken img g z 1) g e (entry_of img g e) z payload) block)) in
        let says : Says map' (enlarged_by img g e (entry_of img g e) (added_block img) payload) = rw (marked, block) (map_enlarged ready (added_block img) own_free) in
        (image, rw image says)

    -- from it on none is free then
    pub none_left : {img' map' : List ℕ} → img' ≡ enlarged_by img g e (entry_of img g e) (added_block img) payload → Says map' img' → NoneFrom map' g b
    none_left {img'} {map'} image says = rw block (none_enlarged ready map' (subst (Says map') image says))

-- what the stage's two answers say; `size` is what the payload's length is compared to
module _ (img : List ℕ) (key : Key) (caller : ℕ) (payload : List ℕ) (size : ℕ) (stated : size ≡ payload_bytes (geometry_of img))
    (adding : Adding) (is : adding ≡ adding_of img key caller (not (eqb (length payload) size))) where
  abbrev rows : List Row
  rows = linked_add_rows img key caller (wrong_payload img payload) 1

  at_stated : block_in (added_block img) (stage_of rows img key) ≡ adding
  unfolding adding_of
  at_stated = sym (is ∙ ap (λ (n : ℕ). adding_of img key caller (not (eqb (length payload) n))) stated)

  pub linked_add_denied : (code : ℕ) → adding ≡ Denied code
      → (code ≡ (linked_add img key caller payload).code)
      × (((0 ∷ []) ≡ (linked_add img key caller payload).numbers)
      × (img ≡ (linked_add img key caller payload).image))
  unfolding linked_add
  linked_add_denied code told =
      let r = stage_is_refused rows img key code (refused_in (added_block img) (stage_of rows img key) (at_stated ∙ told)) in
      let a = refused_answer rows img payload _ r.first r.not_zero in
      (a.0, (a.1, a.2))

  module _ (g : Geometry) (e : ℕ) (b : BlockNo) (told : adding ≡ Block g e b) where
    own : GivenBlock rows img key g e (added_block img) b.0
    own = given_in rows img key (added_block img) (stage_of rows img key) refl (at_stated ∙ told)

    pub block_is : b.0 ≡ added_block img
    block_is = own.block

    pub linked_add_ready : (map : List ℕ) → MappedIf map img → Ready img map g e payload
    unfolding file_of
    linked_add_ready map mapped =
        let given = own.given in
        let a : Admitted img key (wrong_payload img payload) = admitted img key caller (wrong_payload img payload) 1 (omega arith) given.clear in
        let held_on : Mapped map img = mapped ((consistent_iff img).1 a.file.right) in
        record {
          right = a.file.right;
          measures = given.measures;
          entry = rw (← given.measures, ← given.number) a.file.inside;
          linked = rw (← given.measures, ← given.number) a.linked;
          whole = payload_fits img payload g a.file.argument given.measures;
          free = a.more;
          long = omega (arith, held_on.enough, ap (λ (h : Geometry). h.blocks) given.measures);
          says = held_on.says;
        }

    pub linked_add_done : (img' : List ℕ) → img' ≡ enlarged_by img g e (entry_of img g e) (added_block img) payload
        → (0 ≡ (linked_add img key caller payload).code)
        × (((b.0 ∷ []) ≡ (linked_add img key caller payload).numbers)
        × (img' ≡ (linked_add img key caller payload).image))
    unfolding linked_add file_of
    linked_add_done img' written =
        let given = own.given in
        let d =
        done_answer rows img payload _ given.clear (b.0 ∷ []) img' (ap (λ (z : ℕ). z ∷ []) block_is)
        (written
        ∙ (λ i.
        enlarged_by img (sym given.measures i) (sym given.number i) (entry_of img (sym given.measures i) (sym given.number i)) (added_block img) payload)) in
        (d.0, (d.1, d.2))
