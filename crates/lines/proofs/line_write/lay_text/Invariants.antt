-- What the loop of `lay_text` keeps from turn to turn.
use mathlib.Core.Path.{◌≡◌}
use lib.ListN.{length}
use Rattle.std.specs.Slice.Iter.{chunks_rest, chunks_size}
use Rattle.stream.specs.Filling.{Laying}
use Rattle.lines.specs.LineWrite.{put_all}
use Rattle.lines.proofs.line_write.lay_text.Given as goal

abbrev pub invariant-loop-part : goal.invariant-loop-part
invariant-loop-part l =
    (goal.iterator-loop-part).can_next l.part-iterator
    × (goal.iterator-loop-part).is_finite l.part-iterator
    × (chunks_size l.part-iterator ≡ 32)
    × ((length l.img ≡ length l.initial.img) × (length l.map ≡ length l.initial.map) × (length l.gather ≡ length l.initial.gather))
    × Laying l.g l.e l.initial.img l.initial.map l.initial.gather l.initial.at (put_all l.text) l.img l.map l.gather l.at (put_all (chunks_rest l.part-iterator))
