-- What the loop of `clear_run` keeps from turn to turn.
use mathlib.Core.Path.{◌≡◌}
use lib.ListN.{length}
use Rattle.room.proofs.ClearedRun.{Taking}
use Rattle.room.proofs.clear_run.Given as goal

abbrev pub invariant-loop-b : goal.invariant-loop-b
invariant-loop-b l = (length l.img ≡ length l.initial.img)
    × (length l.map ≡ length l.initial.map)
    × Taking l.initial.img l.initial.map l.g l.fn.start.0 l.fn.count.0 l.img l.map l.b
