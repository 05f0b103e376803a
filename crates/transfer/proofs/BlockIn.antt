-- BLOCK input: its place in the table, its answer in each case, and what it leaves.
use Prim.Native.Nat.{ℕ, ◌+◌, ◌≤◌, ◌<◌}
use mathlib.Core.Path.{◌≡◌, refl, sym, ap, ◌∙◌}
use mathlib.Core.Bool.{true, not}
use mathlib.Core.List.{List, []}
use native.Mathlib.Omega.{arith}
use lib.Dec.{eqb}
use lib.ListN.{length}
use Rattle.answers.specs.Refusals.{table_order, in_order}
use Rattle.pack.specs.declared.Geometry.{Geometry}
use Rattle.pack.specs.declared.Entry.{Entry}
use Rattle.pack.specs.declared.Key.{Key}
use Rattle.pack.specs.Geometry.{geometry_of, block_bytes}
use Rattle.pack.specs.GeometrySized.{Sized}
use Rattle.asking.specs.declared.Right.TheVariants.{Read}
use Rattle.asking.specs.AskedStage.{Asked, File, Refused}
use Rattle.asking.specs.Outcome.{Outcome, Unchanged}
use Rattle.asking.specs.AskedStage.{file_rows}
use Rattle.asking.specs.Asked.{file_of}
use Rattle.asking.specs.Access.{access_rows}
use Rattle.asking.specs.AccessStage.{accessed_of}
use Rattle.asking.proofs.AccessStage.{Reached, reached_file, outcome_unreached, outcome_stopped, outcome_passed, stage_sized}
use Rattle.asking.proofs.Outcome.{refusal_keeps}
use Rattle.bodies.specs.BlockBytes.{part_of, block_start, block_of}
use Rattle.bodies.specs.BufferSizes.{wrong_block}
use Rattle.bodies.proofs.BlockBytes.{block_part}
use Rattle.bodies.proofs.BufferSizes.{block_fits}
use Rattle.transfer.specs.BlockRows.{open_for_input, block_in_rows}
use Rattle.transfer.specs.Block.{block_at_place, block_in}
use Rattle.transfer.proofs.BlockStage.{BlockAsked, block_asked, place_beyond, place_within}

-- 40, 15, 41, 2, 6, 43, 45 and 44 stand in the order of the table
pub block_in_ordered : (img : List ℕ) (key : Key) (caller place : ℕ) (buffer : List ℕ) → in_order table_order 0 (block_in_rows img key caller place buffer) ≡ true
unfolding block_in_rows file_rows access_rows
block_in_ordered img key caller place buffer = refl

-- each answer of the request; `size` is what the buffer's length is compared to
module _ (img : List ℕ) (key : Key) (caller place : ℕ) (buffer : List ℕ) (size : ℕ) (stated : size ≡ block_bytes (geometry_of img))
    (asked : Asked) (is : asked ≡ accessed_of img key (not (eqb (length buffer) size)) caller Read 2 (λ x. not (open_for_input x))) where
  at_stated : accessed_of img key (wrong_block img buffer) caller Read 2 (λ x. not (open_for_input x)) ≡ asked
  at_stated = stage_sized img key caller Read 2 (λ x. not (open_for_input x)) buffer stated asked is

  pub block_in_denied : (code : ℕ) → asked ≡ Refused code
      → (code ≡ (block_in img key caller place buffer).code) × (buffer ≡ (block_in img key caller place buffer).buffer)
  unfolding block_in block_in_rows
  block_in_denied code told =
      let o = outcome_unreached img key (wrong_block img buffer) caller Read 2 (λ x. not (open_for_input x)) _ buffer _ (at_stated ∙ told) in
      (sym (ap (λ (r : Outcome). r.code) o), sym (ap (λ (r : Outcome). r.buffer) o))

  module _ (g : Geometry) (e : ℕ) (x : Entry) (told : asked ≡ File g e x) where
    reached : Reached img key (wrong_block img buffer) caller Read 2 (λ y. not (open_for_input y)) g e x
    reached = reached_file img key (wrong_block img buffer) caller Read 2 (λ y. not (open_for_input y)) g e x (at_stated ∙ told)

    pub block_in_beyond : x.length ≤ place → (0o44 ≡ (block_in img key caller place buffer).code) × (buffer ≡ (block_in img key caller place buffer).buffer)
    unfolding block_in block_in_rows
    block_in_beyond over =
        let o =
        outcome_stopped img key (wrong_block img buffer) caller Read 2 (λ y. not (open_for_input y)) _ buffer _ reached
        (place_beyond reached.entry over) (λ zero. omega (arith, zero)) in
        (sym (ap (λ (r : Outcome). r.code) o), sym (ap (λ (r : Outcome). r.buffer) o))

    module _ (inside : place < x.length) where
      pub block_in_file : BlockAsked img key (wrong_block img buffer) g e x place
      block_in_file = block_asked reached inside

      fits : length buffer ≡ block_bytes g
      fits = block_fits img buffer g reached.file.argument reached.file.measures

      -- what `read_part` asks, and what is answered when it has read
      pub block_in_ready : Sized img g × ((block_at_place x place < g.blocks) × (0 + length buffer ≤ block_bytes g))
      block_in_ready = (block_in_file.sized, (block_in_file.below, omega (arith, fits)))

      pub block_in_done : (after : List ℕ) → after ≡ part_of img (block_start g (block_at_place x place) + 0) (length buffer)
          → (0 ≡ (block_in img key caller place buffer).code) × (after ≡ (block_in img key caller place buffer).buffer)
      unfolding block_in block_in_rows
      block_in_done after filled =
          let o =
          outcome_passed img key (wrong_block img buffer) caller Read 2 (λ y. not (open_for_input y)) _ buffer _ reached
          (place_within reached.entry inside) in (
            sym (ap (λ (r : Outcome). r.code) o),
            filled
                ∙ block_part img g (block_at_place x place) (length buffer) fits
                ∙ ap (λ (h : Geometry). block_of img h (block_at_place x place)) (sym reached.file.measures)
                ∙ ap (λ (y : Entry). block_of img (geometry_of img) (block_at_place y place)) reached.entry
                ∙ sym (ap (λ (r : Outcome). r.buffer) o),
          )

-- an input whose conditions hold
pub block_in_given : (img : List ℕ) (key : Key) (caller place : ℕ) (buffer : List ℕ) {g : Geometry} {e : ℕ} {x : Entry}
    → Reached img key (wrong_block img buffer) caller Read 2 (λ y. not (open_for_input y)) g e x → place < x.length
    → block_in img key caller place buffer
    ≡ record { code = 0; numbers = []; image = img; buffer = block_of img (geometry_of img) (block_at_place (file_of img key) place) }
unfolding block_in block_in_rows
block_in_given img key caller place buffer reached inside =
    outcome_passed img key (wrong_block img buffer) caller Read 2 (λ y. not (open_for_input y)) _ buffer _ reached (place_within reached.entry inside)

-- "and nothing in the image or a lent buffer changes"
module _ (img : List ℕ) (key : Key) (caller place : ℕ) (buffer : List ℕ) where
  pub block_in_refused : ((block_in img key caller place buffer).code ≡ 0 → ⊥)
      → Unchanged (block_in img key caller place buffer) [] img buffer
  unfolding block_in
  block_in_refused never = refusal_keeps (block_in_rows img key caller place buffer) img buffer _ never
