-- Rests on `BlockOut`: each answer of the stage gives one of the request; the block at a place of the file is a block of the pack.
use mathlib.Core.Path.{refl}
use native.Mathlib.Omega.{arith}
use Rattle.std.proofs.lemmas.Result.{err_from_is_err_and}
use Rattle.answers.specs.Refusals.{code_of, code_in}
use Rattle.transfer.proofs.BlockOut.{block_out_denied, block_out_beyond, block_out_file, block_out_done, block_out_ready}
use Rattle.transfer.proofs.block.block_out_opened.Goals as goal

pub returns-in_err-found : goal.returns-in_err-found
unfolding code_in
returns-in_err-found c = let both = block_out_denied _ _ _ _ _ _ c.block_bytes_of.ensures _ c.in_err-found.ensures _ refl in
    let p = err_from_is_err_and c.from_residual.result c.from_residual.ensures.1 in
    record { value = rw (p.1, p.2) both.0; img_after = both.1 }

pub returns-then-x-place : goal.returns-then-x-place
unfolding code_of code_in
returns-then-x-place c = let both = block_out_beyond _ _ _ _ _ _ c.block_bytes_of.ensures _ c.in_ok-found.ensures _ _ _ refl c.if-x-place.true in
    record { value = both.0; img_after = both.1 }

pub overflow_add-b : goal.overflow_add-b
overflow_add-b c = let f = block_out_file _ _ _ _ c.args.buffer.now _ c.block_bytes_of.ensures _ c.in_ok-found.ensures _ _ _ refl c.if-x-place.false in
    omega (arith, f.below, f.few)

pub write_part-requires : goal.write_part-requires
write_part-requires c = let both = block_out_ready _ _ _ _ c.args.buffer.now _ c.block_bytes_of.ensures _ c.in_ok-found.ensures _ _ _ refl c.if-x-place.false in
    record { sized = both.0; b_lt_blocks = both.1 }

pub returns : goal.returns
unfolding code_in
returns c = let both = block_out_done _ _ _ _ _ _ c.block_bytes_of.ensures _ c.in_ok-found.ensures _ _ _ refl c.if-x-place.false _ c.write_part.ensures in
    record { value = both.0; img_after = both.1 }
