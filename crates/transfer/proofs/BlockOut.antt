-- BLOCK output: its place in the table, and its answer in each case.
use Prim.Native.Nat.{ℕ, ◌+◌, ◌≤◌, ◌<◌}
use mathlib.Core.Path.{◌≡◌, refl, sym, ap, ◌∙◌}
use mathlib.Core.Bool.{true, not}
use mathlib.Core.List.{List, []}
use native.Mathlib.Omega.{arith}
use lib.Dec.{eqb}
use lib.ListN.{length}
use Rattle.answers.specs.Refusals.{table_order, in_order}
use Rattle.pack.specs.declared.Geometry.{Geometry}
use Rattle.pack.specs.declared.Entry.{Entry}
use Rattle.pack.specs.declared.Key.{Key}
use Rattle.pack.specs.Geometry.{geometry_of, block_bytes}
use Rattle.pack.specs.GeometrySized.{Sized}
use Rattle.asking.specs.declared.Right.TheVariants.{Write}
use Rattle.asking.specs.AskedStage.{Asked, File, Refused}
use Rattle.asking.specs.Outcome.{Outcome, Unchanged}
use Rattle.asking.specs.AskedStage.{file_rows}
use Rattle.asking.specs.Access.{access_rows}
use Rattle.asking.specs.AccessStage.{accessed_of}
use Rattle.asking.proofs.AccessStage.{Reached, reached_file, outcome_unreached, outcome_stopped, outcome_passed, stage_sized}
use Rattle.asking.proofs.Outcome.{refusal_keeps}
use Rattle.bodies.specs.BlockBytes.{with_part, block_start}
use Rattle.bodies.specs.BufferSizes.{wrong_block}
use Rattle.bodies.proofs.BlockBytes.{block_put}
use Rattle.bodies.proofs.BufferSizes.{block_fits}
use Rattle.transfer.specs.BlockRows.{block_out_rows}
use Rattle.transfer.specs.Block.{block_at_place, block_out}
use Rattle.transfer.proofs.BlockStage.{BlockAsked, block_asked, place_beyond, place_within}

-- 40, 15, 41, 2, 6, 43, 45 and 44 stand in the order of the table
pub block_out_ordered : (img : List ℕ) (key : Key) (caller place : ℕ) (buffer : List ℕ) → in_order table_order 0 (block_out_rows img key caller place buffer) ≡ true
unfolding block_out_rows file_rows access_rows
block_out_ordered img key caller place buffer = refl

-- each answer of the request; `size` is what the buffer's length is compared to
module _ (img : List ℕ) (key : Key) (caller place : ℕ) (buffer : List ℕ) (size : ℕ) (stated : size ≡ block_bytes (geometry_of img))
    (asked : Asked) (is : asked ≡ accessed_of img key (not (eqb (length buffer) size)) caller Write 2 (λ x. not (eqb x.writer 1))) where
  at_stated : accessed_of img key (wrong_block img buffer) caller Write 2 (λ x. not (eqb x.writer 1)) ≡ asked
  at_stated = stage_sized img key caller Write 2 (λ x. not (eqb x.writer 1)) buffer stated asked is

  pub block_out_denied : (code : ℕ) → asked ≡ Refused code
      → (code ≡ (block_out img key caller place buffer).code) × (img ≡ (block_out img key caller place buffer).image)
  unfolding block_out block_out_rows
  block_out_denied code told =
      let o = outcome_unreached img key (wrong_block img buffer) caller Write 2 (λ x. not (eqb x.writer 1)) _ buffer _ (at_stated ∙ told) in
      (sym (ap (λ (r : Outcome). r.code) o), sym (ap (λ (r : Outcome). r.image) o))

  module _ (g : Geometry) (e : ℕ) (x : Entry) (told : asked ≡ File g e x) where
    reached : Reached img key (wrong_block img buffer) caller Write 2 (λ y. not (eqb y.writer 1)) g e x
    reached = reached_file img key (wrong_block img buffer) caller Write 2 (λ y. not (eqb y.writer 1)) g e x (at_stated ∙ told)

    pub block_out_beyond : x.length ≤ place → (0o44 ≡ (block_out img key caller place buffer).code) × (img ≡ (block_out img key caller place buffer).image)
    unfolding block_out block_out_rows
    block_out_beyond over =
        let o =
        outcome_stopped img key (wrong_block img buffer) caller Write 2 (λ y. not (eqb y.writer 1)) _ buffer _ reached
        (place_beyond reached.entry over) (λ zero. omega (arith, zero)) in
        (sym (ap (λ (r : Outcome). r.code) o), sym (ap (λ (r : Outcome). r.image) o))

    module _ (inside : place < x.length) where
      pub block_out_file : BlockAsked img key (wrong_block img buffer) g e x place
      block_out_file = block_asked reached inside

      -- what `write_part` asks, and what is answered when it has written
      pub block_out_ready : Sized img g × ((block_at_place x place < g.blocks) × (0 + length buffer ≤ block_bytes g))
      block_out_ready = (block_out_file.sized, (block_out_file.below, omega (arith, block_fits img buffer g reached.file.argument reached.file.measures)))

      pub block_out_done : (after : List ℕ) → after ≡ with_part img (block_start g (block_at_place x place) + 0) buffer
          → (0 ≡ (block_out img key caller place buffer).code) × (after ≡ (block_out img key caller place buffer).image)
      unfolding block_out block_out_rows
      block_out_done after written =
          let o =
          outcome_passed img key (wrong_block img buffer) caller Write 2 (λ y. not (eqb y.writer 1)) _ buffer _ reached
          (place_within reached.entry inside) in (
            sym (ap (λ (r : Outcome). r.code) o),
            written
                ∙ block_put img buffer g (block_at_place x place)
                ∙ ap (λ (h : Geometry). with_part img (block_start h (block_at_place x place)) buffer) (sym reached.file.measures)
                ∙ ap (λ (y : Entry). with_part img (block_start (geometry_of img) (block_at_place y place)) buffer) reached.entry
                ∙ sym (ap (λ (r : Outcome). r.image) o),
          )

-- "and nothing in the image or a lent buffer changes"
pub block_out_refused : (img : List ℕ) (key : Key) (caller place : ℕ) (buffer : List ℕ) → ((block_out img key caller place buffer).code ≡ 0 → ⊥)
    → Unchanged (block_out img key caller place buffer) [] img buffer
unfolding block_out
block_out_refused img key caller place buffer never = refusal_keeps (block_out_rows img key caller place buffer) img buffer _ never
