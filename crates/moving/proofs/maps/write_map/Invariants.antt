-- What the loop of `write_map` keeps from turn to turn.
use Rattle.consistency.specs.MapTest.{mark_on}
use Rattle.moving.specs.MovedParts.{MapWritten}
use Rattle.moving.proofs.maps.write_map.Given as goal

abbrev pub invariant-loop-w : goal.invariant-loop-w
invariant-loop-w l = MapWritten l.initial.target l.target l.h (mark_on l.marks) l.w
