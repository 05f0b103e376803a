-- Rests on `LinkedReadStage`: each answer of the stage gives one of the request; `block_at` finds a block of the file, which is one of the pack.
use mathlib.Core.Path.{refl}
use Rattle.std.proofs.lemmas.Result.{err_from_is_err_and}
use Rattle.answers.specs.Refusals.{code_of, code_in}
use Rattle.transfer.proofs.LinkedReadStage.{linked_read_denied, linked_read_beyond, linked_read_done, linked_read_walk, linked_read_ready}
use Rattle.transfer.proofs.linked_read.linked_read_opened.Goals as goal

pub returns-in_err-found : goal.returns-in_err-found
unfolding code_in
returns-in_err-found c = let both = linked_read_denied _ _ _ _ _ _ c.payload_bytes_of.ensures _ c.in_err-found.ensures _ refl in
    let p = err_from_is_err_and c.from_residual.result c.from_residual.ensures.1 in
    record { value = rw (p.1, p.2) both.0; buffer_after = both.1 }

pub returns-then-x-place : goal.returns-then-x-place
unfolding code_of code_in
returns-then-x-place c = let both = linked_read_beyond _ _ _ _ _ _ c.payload_bytes_of.ensures _ c.in_ok-found.ensures _ _ _ refl c.if-x-place.true in
    record { value = both.0; buffer_after = both.1 }

pub invariant_of-view : goal.invariant_of-view
invariant_of-view c = record { sized = (linked_read_walk _ _ _ _ c.args.buffer.now _ c.payload_bytes_of.ensures _ c.in_ok-found.ensures _ _ _ refl c.if-x-place.false).0 }

pub block_at-b-requires : goal.block_at-b-requires
block_at-b-requires c = let all = linked_read_walk _ _ _ _ c.args.buffer.now _ c.payload_bytes_of.ensures _ c.in_ok-found.ensures _ _ _ refl c.if-x-place.false in
    record { by_index = all.1.0; place_lt_length = all.1.1 }

pub read_part-requires : goal.read_part-requires
read_part-requires c = record {
  b_lt_blocks = (linked_read_ready _ _ _ _ c.args.buffer.now _ c.payload_bytes_of.ensures _ c.in_ok-found.ensures _ _ _ refl c.if-x-place.false _ c.block_at-b.ensures).1;
}

pub returns : goal.returns
unfolding code_in
returns c = let both = linked_read_done _ _ _ _ _ _ c.payload_bytes_of.ensures _ c.in_ok-found.ensures _ _ _ refl c.if-x-place.false _ c.block_at-b.ensures _ c.read_part.ensures in
    record { value = both.0; buffer_after = both.1 }
