-- Rests on `Parts`: what a read gave stands behind what was read before.
use Rattle.std.proofs.Common.{rules}
use Rattle.reading.proofs.Parts.{more_read}
use Rattle.reading.proofs.read_full.Goals as goal

pub loop-done-preserved : goal.loop-done-preserved
loop-done-preserved g c =
    record {
      within = search rules;
      long = search rules;
      bytes = more_read _ _ _ _ _ _ _ c.loop-done.invariant.within c.in_ok-n.ensures.bound.0 c.loop-done.invariant.bytes c.in_ok-n.ensures.bytes.0;
    }
