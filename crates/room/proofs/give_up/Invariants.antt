-- What the loop of `give_up` keeps from turn to turn.
use Prim.Native.Nat.{◌-◌}
use mathlib.Core.Path.{◌≡◌}
use lib.ListN.{length}
use Rattle.pack.specs.File.{next_of, chain}
use Rattle.room.specs.RoomMap.{unmarked}
use Rattle.room.proofs.RoomMapGiven.{Giving}
use Rattle.room.proofs.give_up.Given as goal

abbrev pub invariant-loop : goal.invariant-loop
invariant-loop l = (length l.map ≡ length l.initial.map)
    × Giving l.view.img.now l.view.g l.fn.x.kind (unmarked l.initial.map (chain (next_of l.view.img.now l.view.g l.fn.x.kind) l.fn.x.length l.fn.x.first.0)) l.map
    (l.fn.x.length - l.counter) l.b.0
