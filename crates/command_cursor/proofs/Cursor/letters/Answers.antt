-- Rests on `CursorAtSteps`: each letter takes the run one on, any other character ends it.
use mathlib.Core.Path.{sym, ◌∙◌}
use Rattle.command_cursor.proofs.CursorAtSteps.{runs_over, runs_halt, runs_on, runs_end}
use Rattle.command_cursor.proofs.Cursor.letters.Goals.{then-line-here-via-then-line-here, then-line-here-via-else-line-here+then-not-is_ascii_uppercase}
use Rattle.command_cursor.proofs.Cursor.letters.Goals as goal

pub returns-then-line-here : goal.returns-then-line-here
returns-then-line-here c = elim c.then-line-here.branch [
  | then-line-here-via-then-line-here w ↦ runs_over _ _ _ _ c.loop.invariant w.if-line-here.true
  | then-line-here-via-else-line-here+then-not-is_ascii_uppercase w ↦
      runs_halt _ _ _ _ c.loop.invariant w.if-line-here.false (sym w.is_ascii_uppercase.ensures.value ∙ w.if-not-is_ascii_uppercase.true)
]

pub loop-preserved : goal.loop-preserved
loop-preserved c = runs_on _ _ _ _ c.loop.invariant c.loop-test.true c.if-line-here.false (sym c.is_ascii_uppercase.ensures.value ∙ c.if-not-is_ascii_uppercase.false)

pub returns : goal.returns
returns c = runs_end _ _ _ _ c.loop.invariant c.loop-test.false
