-- What the loop of `lay_all` keeps from turn to turn.
use mathlib.Core.Path.{◌≡◌}
use lib.ListN.{length, drop}
use Rattle.stream.specs.Filling.{Laying}
use Rattle.stream.proofs.writing.lay_all.Given as goal

abbrev pub invariant-loop-byte : goal.invariant-loop-byte
invariant-loop-byte l = ((length l.img ≡ length l.initial.img) × (length l.map ≡ length l.initial.map) × (length l.gather ≡ length l.initial.gather))
    × Laying l.g l.e l.initial.img l.initial.map l.initial.gather l.initial.at l.bytes l.img l.map l.gather l.at (drop l.byte-index l.bytes)
