-- Linked read: its place in the table, its answer in each case, and what it leaves.
use Prim.Native.Nat.{ℕ, ◌+◌, ◌≤◌, ◌<◌}
use mathlib.Core.Path.{◌≡◌, refl, sym, ap, ◌∙◌}
use mathlib.Core.Bool.{Bool, true, not}
use mathlib.Core.List.{List, []}
use native.Mathlib.Omega.{arith}
use lib.Dec.{eqb}
use lib.ListN.{length, get_or}
use Rattle.answers.specs.Refusals.{table_order, in_order}
use Rattle.pack.specs.declared.Geometry.{Geometry}
use Rattle.pack.specs.declared.Entry.{Entry}
use Rattle.pack.specs.declared.Key.{Key}
use Rattle.pack.specs.Geometry.{geometry_of, block_bytes, payload_bytes}
use Rattle.pack.specs.GeometrySized.{Sized}
use Rattle.pack.specs.File.{blocks_of, count}
use Rattle.owners.proofs.OwnerSearch.{measured_sized, measured_blocks}
use Rattle.asking.specs.declared.Right.TheVariants.{Read}
use Rattle.asking.specs.AskedStage.{Asked, File, Refused}
use Rattle.asking.specs.Outcome.{Outcome, Unchanged}
use Rattle.asking.specs.AskedStage.{file_rows}
use Rattle.asking.specs.Asked.{file_of}
use Rattle.asking.specs.Access.{access_rows}
use Rattle.asking.specs.AccessStage.{accessed_of}
use Rattle.asking.proofs.AccessStage.{Reached, reached_file, outcome_unreached, outcome_stopped, outcome_passed, stage_sized}
use Rattle.asking.proofs.Outcome.{refusal_keeps}
use Rattle.bodies.specs.BlockBytes.{part_of, block_start, payload_of}
use Rattle.bodies.specs.BufferSizes.{wrong_payload}
use Rattle.bodies.proofs.BufferSizes.{payload_fits}
use Rattle.bodies.proofs.BlockBytes.{payload_part}
use Rattle.bodies.proofs.BlockWalk.{walked_below}
use Rattle.transfer.specs.LinkedReadRows.{linked_read_rows}
use Rattle.transfer.specs.LinkedRead.{linked_read}
use Rattle.transfer.proofs.BlockStage.{place_beyond, place_within}

-- 40, 15, 41, 2, 6, 43, 45 and 44 stand in the order of the table
pub linked_read_ordered : (img : List ℕ) (key : Key) (caller place : ℕ) (wrong : Bool) → in_order table_order 0 (linked_read_rows img key caller place wrong) ≡ true
unfolding linked_read_rows file_rows access_rows
linked_read_ordered img key caller place wrong = refl

-- what is known of a file that the stage gives
pub record Readable (img : List ℕ) (key : Key) (wrong : Bool) (caller : ℕ) (g : Geometry) (e : ℕ) (x : Entry) : Type 0 where
  pub reached : Reached img key wrong caller Read 1 (λ y. eqb y.readers 0) g e x
  pub sized : Sized img g
  pub blocks : (z : ℕ) → 0 < count z (blocks_of img g x) → z < g.blocks
  pub below : (p b : ℕ) → b ≡ get_or (blocks_of img g x) p 0 → p < x.length → b < g.blocks

pub readable : (img : List ℕ) (key : Key) (wrong : Bool) (caller : ℕ) (g : Geometry) (e : ℕ) (x : Entry)
    → accessed_of img key wrong caller Read 1 (λ y. eqb y.readers 0) ≡ File g e x → Readable img key wrong caller g e x
readable img key wrong caller g e x is =
    let reached = reached_file img key wrong caller Read 1 (λ y. eqb y.readers 0) g e x is in
    let f = reached.file in
    let blocks = measured_blocks f.right f.measures e f.inside x f.entry in
    record { reached = reached; sized = measured_sized f.right f.measures; blocks = blocks; below = walked_below img g x blocks }

-- each answer of the request; `size` is what the buffer's length is compared to
module _ (img : List ℕ) (key : Key) (caller place : ℕ) (buffer : List ℕ) (size : ℕ) (stated : size ≡ payload_bytes (geometry_of img))
    (asked : Asked) (is : asked ≡ accessed_of img key (not (eqb (length buffer) size)) caller Read 1 (λ x. eqb x.readers 0)) where
  at_stated : accessed_of img key (wrong_payload img buffer) caller Read 1 (λ x. eqb x.readers 0) ≡ asked
  at_stated = stage_sized img key caller Read 1 (λ x. eqb x.readers 0) buffer stated asked is

  pub linked_read_denied : (code : ℕ) → asked ≡ Refused code
      → (code ≡ (linked_read img key caller place buffer).code) × (buffer ≡ (linked_read img key caller place buffer).buffer)
  unfolding linked_read linked_read_rows
  linked_read_denied code told =
      let o = outcome_unreached img key (wrong_payload img buffer) caller Read 1 (λ x. eqb x.readers 0) _ buffer _ (at_stated ∙ told) in
      (sym (ap (λ (r : Outcome). r.code) o), sym (ap (λ (r : Outcome). r.buffer) o))

  module _ (g : Geometry) (e : ℕ) (x : Entry) (told : asked ≡ File g e x) where
    pub linked_read_file : Readable img key (wrong_payload img buffer) caller g e x
    linked_read_file = readable img key (wrong_payload img buffer) caller g e x (at_stated ∙ told)

    fits : length buffer ≡ payload_bytes g
    fits = payload_fits img buffer g linked_read_file.reached.file.argument linked_read_file.reached.file.measures

    pub linked_read_beyond : x.length ≤ place → (0o44 ≡ (linked_read img key caller place buffer).code) × (buffer ≡ (linked_read img key caller place buffer).buffer)
    unfolding linked_read linked_read_rows
    linked_read_beyond over =
        let reached = linked_read_file.reached in
        let o =
        outcome_stopped img key (wrong_payload img buffer) caller Read 1 (λ y. eqb y.readers 0) _ buffer _ reached
        (place_beyond reached.entry over) (λ zero. omega (arith, zero)) in
        (sym (ap (λ (r : Outcome). r.code) o), sym (ap (λ (r : Outcome). r.buffer) o))

    -- what `block_at` and `read_part` ask, and what is answered when they have read
    pub linked_read_walk : place < x.length → Sized img g × (((z : ℕ) → 0 < count z (blocks_of img g x) → z < g.blocks) × (place < x.length))
    linked_read_walk inside = (linked_read_file.sized, (linked_read_file.blocks, inside))

    pub linked_read_ready : place < x.length → (b : ℕ) → b ≡ get_or (blocks_of img g x) place 0 → Sized img g × ((b < g.blocks) × (2 + length buffer ≤ block_bytes g))
    linked_read_ready inside b at = (linked_read_file.sized, (linked_read_file.below place b at inside, omega (arith, fits, linked_read_file.sized.some)))

    pub linked_read_done : place < x.length → (b : ℕ) → b ≡ get_or (blocks_of img g x) place 0
        → (after : List ℕ) → after ≡ part_of img (block_start g b + 2) (length buffer)
        → (0 ≡ (linked_read img key caller place buffer).code) × (after ≡ (linked_read img key caller place buffer).buffer)
    unfolding linked_read linked_read_rows
    linked_read_done inside b at after filled =
        let reached = linked_read_file.reached in
        let o =
        outcome_passed img key (wrong_payload img buffer) caller Read 1 (λ y. eqb y.readers 0) _ buffer _ reached
        (place_within reached.entry inside) in (
          sym (ap (λ (r : Outcome). r.code) o),
          filled ∙ payload_part img g b (length buffer) fits
              ∙ ap (payload_of img g) at
              ∙ ap (λ (h : Geometry). payload_of img h (get_or (blocks_of img h x) place 0)) (sym reached.file.measures)
              ∙ ap (λ (y : Entry). payload_of img (geometry_of img) (get_or (blocks_of img (geometry_of img) y) place 0)) reached.entry
              ∙ sym (ap (λ (r : Outcome). r.buffer) o),
        )

-- a read whose conditions hold
pub linked_read_given : (img : List ℕ) (key : Key) (caller place : ℕ) (buffer : List ℕ) {g : Geometry} {e : ℕ} {x : Entry}
    → Reached img key (wrong_payload img buffer) caller Read 1 (λ y. eqb y.readers 0) g e x → place < x.length
    → linked_read img key caller place buffer
    ≡ record {
      code = 0;
      numbers = [];
      image = img;
      buffer = payload_of img (geometry_of img) (get_or (blocks_of img (geometry_of img) (file_of img key)) place 0);
    }
unfolding linked_read linked_read_rows
linked_read_given img key caller place buffer reached inside =
    outcome_passed img key (wrong_payload img buffer) caller Read 1 (λ y. eqb y.readers 0) _ buffer _ reached (place_within reached.entry inside)

-- "and nothing in the image or a lent buffer changes"
module _ (img : List ℕ) (key : Key) (caller place : ℕ) (buffer : List ℕ) where
  pub linked_read_refused : ((linked_read img key caller place buffer).code ≡ 0 → ⊥)
      → Unchanged (linked_read img key caller place buffer) [] img buffer
  unfolding linked_read
  linked_read_refused never = refusal_keeps (linked_read_rows img key caller place (wrong_payload img buffer)) img buffer _ never
