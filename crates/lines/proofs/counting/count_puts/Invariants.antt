-- What the loop of `count_puts` keeps from turn to turn.
use Prim.Native.Nat.{◌+◌}
use mathlib.Core.Path.{◌≡◌}
use lib.ListN.{length}
use Rattle.std.specs.Slice.Iter.{chunks_rest, chunks_size}
use Rattle.lines.specs.LineWrite.{put_all}
use Rattle.lines.proofs.counting.count_puts.Given as goal

abbrev pub invariant-loop-part : goal.invariant-loop-part
invariant-loop-part l =
    (goal.iterator-loop-part).can_next l.part-iterator
    × (goal.iterator-loop-part).is_finite l.part-iterator
    × (chunks_size l.part-iterator ≡ 96)
    × (length (put_all l.text) ≡ l.puts + length (put_all (chunks_rest l.part-iterator)))
