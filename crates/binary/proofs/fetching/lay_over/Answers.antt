-- Rests on `DataFetched`: a byte more is laid, behind those before it or over the last of the buffer.
use lib.ListN.{length-set}
use mathlib.Core.Path.{refl}
use native.Mathlib.Omega.{arith}
use Rattle.binary.proofs.DataFetched.{laid_none, laid_next, laid_end}
use Rattle.binary.proofs.fetching.lay_over.Goals as goal

pub loop-i-init : goal.loop-i-init
loop-i-init c = (refl, laid_none _ c.args.buffer.now c.args.count c.args.part.now)

pub place_in-place-requires : goal.place_in-place-requires
place_in-place-requires c = omega (arith, c.requires.0)

pub bounds-buffer-place : goal.bounds-buffer-place
bounds-buffer-place c = omega (arith, c.place_in-place.ensures, c.loop-i.invariant.0, c.requires.0)

pub loop-i-preserved : goal.loop-i-preserved
loop-i-preserved c = (simp length-set c.loop-i.invariant.0, laid_next _ c.args.buffer.now c.args.count c.args.part.now _ c.loop-i.invariant.1 c.loop-i-test.true c.place_in-place.ensures)

pub shape_of-buffer : goal.shape_of-buffer
shape_of-buffer c = c.loop-i.invariant.0

pub returns : goal.returns
returns c = laid_end _ c.args.buffer.now c.args.count c.args.part.now _
    c.loop-i.invariant.1 c.loop-i-test.false
