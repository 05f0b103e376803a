-- What the loop of `clear_each` keeps from turn to turn.
use Prim.Native.Nat.{◌-◌}
use Rattle.pack.specs.File.{next_of, chain}
use Rattle.pack.specs.Map.{bits_set}
use Rattle.room.proofs.MapMarking.{Freeing}
use Rattle.room.proofs.clear_each.Given as goal

abbrev pub invariant-loop : goal.invariant-loop
invariant-loop l =
    Freeing l.initial.img l.g l.fn.x.kind (bits_set l.initial.img l.g (chain (next_of l.initial.img l.g l.fn.x.kind) l.fn.x.length l.fn.x.first.0) 0) l.img
    (l.fn.x.length - l.counter) l.b.0
