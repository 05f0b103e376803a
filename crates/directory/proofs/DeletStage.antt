-- DELET: its rows stand in the table's order, and what the code answers at each of its returns.
use Prim.Native.Nat.{ℕ, ◌≤◌, ◌<◌}
use mathlib.Core.Path.{◌≡◌, refl, sym, ap, subst, ◌∙◌}
use mathlib.Core.Bool.{true, false}
use mathlib.Core.List.{List}
use lib.ListN.{length}
use Rattle.answers.specs.Refusals.{first_of, table_order, in_order}
use Rattle.answers.specs.Stage.{Verdict}
use Rattle.answers.specs.Stage.{Clear, Refused as Stopped}
use Rattle.answers.specs.Stage.{verdict_of}
use Rattle.answers.proofs.Refusals.{success_is, refusal_is}
use Rattle.pack.specs.declared.Geometry.{Geometry}
use Rattle.pack.specs.declared.Entry.{Entry}
use Rattle.pack.specs.declared.Key.{Key}
use Rattle.pack.specs.Geometry.{geometry_of, slots}
use Rattle.pack.specs.GeometrySized.{Sized}
use Rattle.pack.specs.File.{blocks_of, count}
use Rattle.pack.specs.Entry.{entry_of, blocks_at}
use Rattle.pack.specs.EntryWords.{clear_entry}
use Rattle.pack.specs.Map.{bits_set}
use Rattle.pack.proofs.GeometryRoom.{sized_same}
use Rattle.consistency.specs.Mapped.{MappedIf}
use Rattle.consistency.proofs.ConsistentTestIff.{consistent_iff}
use Rattle.asking.specs.declared.Right.TheVariants.{Delete}
use Rattle.asking.specs.AskedStage.{Asked}
use Rattle.asking.specs.AskedStage.{File, Refused}
use Rattle.asking.specs.AskedStage.{file_rows, asked_of, stage_of}
use Rattle.asking.specs.Asked.{entry_no, file_of}
use Rattle.asking.proofs.AskedStage.{Given, stage_clear, stage_is_refused, stage_is_file, writing_refused, writing_done}
use Rattle.asking.proofs.AskedCleared.{Cleared, FileCleared, asked_cleared, given_cleared}
use Rattle.room.specs.RoomMap.{unmarked}
use Rattle.directory.specs.PermitRows.{permit_rows}
use Rattle.directory.specs.DeletRows.{delet_rows}
use Rattle.directory.specs.Delet.{deleted, delet}
use Rattle.directory.specs.DeletMap.{delet_map}
use Rattle.directory.proofs.Deleted.{deleted_by}
use Rattle.directory.proofs.PermitStage.{permitted_refused, permitted_stopped, permitted_passed}

pub delet_ordered : (img : List ℕ) (key : Key) (caller : ℕ) → in_order table_order 0 (delet_rows img key caller) ≡ true
unfolding delet_rows file_rows
delet_ordered img key caller = refl

module _ (img : List ℕ) (key : Key) (caller : ℕ) where
  -- the file, where no row refuses
  pub delet_cleared : first_of (delet_rows img key caller) ≡ 0 → FileCleared img key
  unfolding delet_rows
  delet_cleared passed = asked_cleared (stage_clear img key false (permit_rows Delete caller) passed).file

  -- the decision
  module _ (asked : Asked) (is : asked ≡ asked_of img key false) where
    pub decide_refused : (code : ℕ) → asked ≡ Refused code → asked ≡ stage_of (delet_rows img key caller) img key
    unfolding delet_rows file_rows
    decide_refused = permitted_refused (file_rows img key false) refl img key Delete caller asked is

    module _ (g : Geometry) (e : ℕ) (x : Entry) (told : asked ≡ File g e x) (verdict : Verdict) (judged : verdict ≡ verdict_of (permit_rows Delete caller x)) where
      pub decide_stopped : (code : ℕ) → verdict ≡ Stopped code → Refused code ≡ stage_of (delet_rows img key caller) img key
      unfolding delet_rows file_rows
      decide_stopped = permitted_stopped (file_rows img key false) refl img key Delete caller asked is g e x told verdict judged

      pub decide_passed : verdict ≡ Clear → File g e x ≡ stage_of (delet_rows img key caller) img key
      unfolding delet_rows file_rows
      decide_passed = permitted_passed (file_rows img key false) refl img key Delete caller asked is g e x told verdict judged

  -- the answer behind it
  module _ (decision : Asked) (is : decision ≡ stage_of (delet_rows img key caller) img key) where
    pub deleting_refused : (code : ℕ) → decision ≡ Refused code → (map : List ℕ)
        → (code ≡ (delet img key caller).code) × ((img ≡ (delet img key caller).image) × (map ≡ delet_map map img key caller))
    unfolding delet delet_map
    deleting_refused code told map =
        let o = writing_refused (delet_rows img key caller) img key (λ g e x. deleted img g e) decision is code told in
        let r = stage_is_refused (delet_rows img key caller) img key code (sym is ∙ told) in
        (o.0, (o.1, sym (refusal_is _ map (λ zero. r.not_zero (sym r.first ∙ zero)))))

    module _ (g : Geometry) (e : ℕ) (x : Entry) (told : decision ≡ File g e x) where
      given : Given (delet_rows img key caller) img key g e x
      given = stage_is_file (delet_rows img key caller) img key g e x (sym is ∙ told)

      cleared : Cleared img key g e
      cleared = given_cleared given (delet_cleared given.clear)

      own_entry : x ≡ entry_of img g e
      unfolding file_of
      own_entry = sym given.file ∙ ap (λ (h : Geometry). entry_of img h (entry_no img key)) given.measures ∙ ap (entry_of img g) given.number

      -- its entry is cleared in an image of the same length
      pub deleting_room : {img' : List ℕ} → length img' ≡ length img → Sized img' g × (e < slots g)
      deleting_room long = (sized_same cleared.sized long, cleared.inside)

      -- what giving its blocks up asks, on the pack's own map and on that of its opening
      pub deleting_bits : Sized img g × ((z : ℕ) → 0 < count z (blocks_of img g x) → (g.bodies.0 ≤ z) × (z < g.blocks))
      deleting_bits =
          (cleared.sized, λ z some. cleared.used.bodies z (subst (λ (y : Entry). 0 < count z (blocks_of img g y)) own_entry some))

      pub deleting_held : (map : List ℕ) → MappedIf map img
          → Sized img g × ((g.blocks ≤ length map) × ((z : ℕ) → 0 < count z (blocks_of img g x) → z < g.blocks))
      deleting_held map mapped =
          let m = mapped ((consistent_iff img).1 cleared.right) in
          (cleared.sized, (subst (λ (h : Geometry). h.blocks ≤ length map) given.measures m.enough, λ z some. (deleting_bits.1 z some).1))

      pub deleting_cleared : (img' : List ℕ) → img' ≡ deleted img g e → (0 ≡ (delet img key caller).code) × (img' ≡ (delet img key caller).image)
      unfolding delet
      deleting_cleared = writing_done (delet_rows img key caller) img key (λ g e x. deleted img g e) decision is g e x told

      pub deleting_done : (mid img' : List ℕ) → mid ≡ bits_set img g (blocks_of img g x) 0 → img' ≡ clear_entry mid g e
          → (map map' : List ℕ) → map' ≡ unmarked map (blocks_of img g x)
          → (0 ≡ (delet img key caller).code) × ((img' ≡ (delet img key caller).image) × (map' ≡ delet_map map img key caller))
      unfolding delet_map
      deleting_done mid img' bits written map map' gives =
          let own : blocks_of img g x ≡ blocks_at img g e = ap (blocks_of img g) own_entry in
          let o = deleting_cleared img' (deleted_by img g e (bits ∙ ap (λ (bs : List ℕ). bits_set img g bs 0) own) written) in
          let all : blocks_at img (geometry_of img) (entry_no img key) ≡ blocks_at img g e =
          ap (λ (h : Geometry). blocks_at img h (entry_no img key)) given.measures ∙ ap (blocks_at img g) given.number in
          (o.0, (o.1, gives ∙ (ap (unmarked map) (own ∙ sym all) ∙ sym (success_is _ map given.clear))))
