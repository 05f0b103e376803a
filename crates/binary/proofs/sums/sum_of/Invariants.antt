-- What the loop of `sum_of` keeps from turn to turn.
use lib.ListN.{length, take}
use Prim.Native.Nat.{◌*◌, ◌≤◌}
use mathlib.Core.Path.{◌≡◌}
use Rattle.binary.specs.BinaryLine.{sum_of}
use Rattle.binary.proofs.sums.sum_of.Given as goal

abbrev pub invariant-loop-byte : goal.invariant-loop-byte
invariant-loop-byte l = (l.byte-index ≤ length l.part) × (l.sum ≡ sum_of (take l.byte-index l.part)) × (l.sum ≤ 255 * l.byte-index)
