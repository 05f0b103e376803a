-- Rests on `BlockIn`: each answer of the stage gives one of the request; the block at a place of the file is a block of the pack.
use mathlib.Core.Path.{refl}
use native.Mathlib.Omega.{arith}
use Rattle.std.proofs.lemmas.Result.{err_from_is_err_and}
use Rattle.answers.specs.Refusals.{code_of, code_in}
use Rattle.transfer.proofs.BlockIn.{block_in_denied, block_in_beyond, block_in_file, block_in_done, block_in_ready}
use Rattle.transfer.proofs.block.block_in_opened.Goals as goal

pub returns-in_err-found : goal.returns-in_err-found
unfolding code_in
returns-in_err-found c = let both = block_in_denied _ _ _ _ _ _ c.block_bytes_of.ensures _ c.in_err-found.ensures _ refl in
    let p = err_from_is_err_and c.from_residual.result c.from_residual.ensures.1 in
    record { value = rw (p.1, p.2) both.0; buffer_after = both.1 }

pub returns-then-x-place : goal.returns-then-x-place
unfolding code_of code_in
returns-then-x-place c = let both = block_in_beyond _ _ _ _ _ _ c.block_bytes_of.ensures _ c.in_ok-found.ensures _ _ _ refl c.if-x-place.true in
    record { value = both.0; buffer_after = both.1 }

pub overflow_add-b : goal.overflow_add-b
overflow_add-b c = let f = block_in_file _ _ _ _ c.args.buffer.now _ c.block_bytes_of.ensures _ c.in_ok-found.ensures _ _ _ refl c.if-x-place.false in
    omega (arith, f.below, f.few)

pub invariant_of-view : goal.invariant_of-view
invariant_of-view c = record { sized = (block_in_ready _ _ _ _ c.args.buffer.now _ c.block_bytes_of.ensures _ c.in_ok-found.ensures _ _ _ refl c.if-x-place.false).0 }

pub read_part-requires : goal.read_part-requires
read_part-requires c = record { b_lt_blocks = (block_in_ready _ _ _ _ c.args.buffer.now _ c.block_bytes_of.ensures _ c.in_ok-found.ensures _ _ _ refl c.if-x-place.false).1 }

pub returns : goal.returns
unfolding code_in
returns c = let both = block_in_done _ _ _ _ _ _ c.block_bytes_of.ensures _ c.in_ok-found.ensures _ _ _ refl c.if-x-place.false _ c.read_part.ensures in
    record { value = both.0; buffer_after = both.1 }
