-- Linked add: its place in the table, the highest free block, and what is known where nothing speaks against the request.
use Prim.Native.Nat.{ℕ, ◌≤◌, ◌<◌}
use mathlib.Core.Path.{◌≡◌, refl, sym, ap, subst, ◌∙◌}
use mathlib.Core.Bool.{Bool, true, not}
use mathlib.Core.List.{List, [], ◌∷◌}
use mathlib.Core.Option.{Option, none, some}
use native.Mathlib.Omega.{arith}
use lib.Dec.{eqb, ltb}
use borrow.Author.Tests.{ne_eqb, le-ltb, ltb-false}
use Rattle.answers.specs.Refusals.{first_of, row, table_order, in_order}
use Rattle.answers.specs.Missing.{or_else}
use Rattle.answers.proofs.Refusals.{pass, clear, none_given}
use Rattle.pack.specs.declared.Geometry.{Geometry}
use Rattle.pack.specs.declared.Entry.{Entry}
use Rattle.pack.specs.declared.Key.{Key}
use Rattle.pack.specs.Geometry.{geometry_of}
use Rattle.pack.specs.Entry.{entry_of}
use Rattle.pack.specs.Consistent.{Consistent}
use Rattle.pack.specs.Owner.{free_count, FreeBlock}
use Rattle.asking.specs.declared.Right.TheVariants.{Write}
use Rattle.asking.specs.AskedStage.{file_rows}
use Rattle.asking.specs.Asked.{entry_no, file_of}
use Rattle.asking.specs.Access.{access_rows}
use Rattle.asking.proofs.Keys.{not_empty}
use Rattle.asking.proofs.AskedStage.{FileAsked}
use Rattle.asking.proofs.AccessStage.{Reached, reached_rows, reached_clear}
use Rattle.room.proofs.RoomHighest.{run_highest}
use Rattle.room.proofs.RoomNeeds.{needs_one}
use Rattle.bodies.proofs.EntryChainLinked.{linked_kind}
use Rattle.adding.specs.LinkedAddRows.{open_for_adding, linked_add_rows}
use Rattle.adding.specs.LinkedAdd.{highest_free, added_block}

-- 40, 15, 41, 2, 6, 43, 45 and 42 stand in the order of the table
pub linked_add_ordered : (img : List ℕ) (key : Key) (caller : ℕ) (wrong : Bool) (needed : ℕ) → in_order table_order 0 (linked_add_rows img key caller wrong needed) ≡ true
unfolding linked_add_rows file_rows access_rows
linked_add_ordered img key caller wrong needed = refl

-- the highest free block of an image that has one
pub free_block : {img : List ℕ} → Consistent img → 0 < free_count img → highest_free img ≡ some (added_block img)
free_block {img} right more = by (highest_free img) refl
  where
    by : (o : Option ℕ) → highest_free img ≡ o → highest_free img ≡ some (added_block img)
    by none is = absurd (omega (arith, more, (needs_one right).1 is))
    by (some b) is = is ∙ ap some (sym (ap (or_else 0) is))

pub block_free : {img : List ℕ} → Consistent img → 0 < free_count img → FreeBlock img (added_block img)
block_free {img} right more =
    (run_highest img 1 (omega arith) (added_block img) (free_block right more)).run.free (added_block img) (omega arith) (omega arith)

pub block_highest : {img : List ℕ} → Consistent img → 0 < free_count img → (z : ℕ) → added_block img < z → FreeBlock img z → ⊥
block_highest {img} right more z above free =
    (run_highest img 1 (omega arith) (added_block img) (free_block right more)).highest z above
    (record { free = λ b low high. let same : z ≡ b = omega arith in subst (FreeBlock img) same free })

-- what is known where nothing speaks against the request
pub record Admitted (img : List ℕ) (key : Key) (wrong : Bool) : Type 0 where
  pub file : FileAsked img key wrong (geometry_of img) (entry_no img key) (file_of img key)
  pub linked : (entry_of img (geometry_of img) (entry_no img key)).kind ≡ 2
  pub more : 0 < free_count img

module _ (img : List ℕ) (key : Key) (caller : ℕ) (wrong : Bool) (needed : ℕ) where
  -- the rows before 42 are those of the stage that other requests share
  pub linked_add_rows_last : {g : Geometry} {e : ℕ} {x : Entry} → Reached img key wrong caller Write 1 (λ y. not (open_for_adding y)) g e x
      → first_of (linked_add_rows img key caller wrong needed) ≡ first_of (row (ltb (free_count img) needed) 0o42 ∷ [])
  unfolding linked_add_rows
  linked_add_rows_last reached = reached_rows img key wrong caller Write 1 (λ y. not (open_for_adding y)) _ reached

  -- no row is given: the file is there and open as needed, and enough blocks are free
  pub linked_add_clear : first_of (linked_add_rows img key caller wrong needed) ≡ 0
      → Reached img key wrong caller Write 1 (λ y. not (open_for_adding y)) (geometry_of img) (entry_no img key) (file_of img key) × (needed ≤ free_count img)
  unfolding linked_add_rows
  linked_add_clear passed =
      let r = reached_clear img key wrong caller Write 1 (λ y. not (open_for_adding y)) (row (ltb (free_count img) needed) 0o42 ∷ []) passed in
      let crowded = none_given (ltb (free_count img) needed) 0o42 [] (λ is. omega (arith, is)) r.1 in
      (r.0, ltb-false (free_count img) needed crowded.0)

  pub clear_add : {g : Geometry} {e : ℕ} {x : Entry} → Reached img key wrong caller Write 1 (λ y. not (open_for_adding y)) g e x → needed ≤ free_count img
      → first_of (linked_add_rows img key caller wrong needed) ≡ 0
  clear_add reached enough = linked_add_rows_last reached ∙ pass 0o42 [] (le-ltb (free_count img) needed enough) ∙ clear

  pub admitted : 0 < needed → first_of (linked_add_rows img key caller wrong needed) ≡ 0 → Admitted img key wrong
  unfolding file_of
  admitted positive passed =
      let r = linked_add_clear passed in
      let f = r.0.file in
      record {
        file = f;
        linked = linked_kind img (geometry_of img) (entry_no img key) (not_empty img (geometry_of img) key (entry_no img key) f.legal f.keyed)
            (ne_eqb _ 1 r.0.access.kind) (f.right.entries (entry_no img key) f.inside);
        more = omega (arith, r.1);
      }
