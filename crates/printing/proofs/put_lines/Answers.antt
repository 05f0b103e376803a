-- Rests on `PiecesLines`: to put the lines of the entries from here on is to put all lines; each takes at most its room.
use mathlib.Core.Path.{◌∙◌}
use native.Mathlib.Omega.{arith}
use Rattle.pack.proofs.GeometryRoom.{below_count, past_count}
use Rattle.printing.proofs.Put.{put_length}
use Rattle.printing.proofs.PiecesLines.{lines_step, lines_end}
use Rattle.printing.proofs.put_lines.Goals as goal

pub loop-e-preserved : goal.loop-e-preserved
loop-e-preserved c = let below = below_count c.slot_count-e-end.ensures.value c.loop-e-test.true in (
  put_length c.put_entry-next.ensures.put ∙ c.loop-e.invariant.0,
  omega (arith, below, c.put_entry-next.ensures.upper_bound, c.loop-e.invariant.1),
  λ u k put. c.loop-e.invariant.2 u k (lines_step _ _ _ _ below c.put_entry-next.ensures.put put),
)

pub returns-clause-put : goal.returns-clause-put
returns-clause-put c = c.loop-e.invariant.2 _ _ (lines_end _ _ _ _ _ _ (past_count c.slot_count-e-end.ensures.value c.loop-e-test.false))
