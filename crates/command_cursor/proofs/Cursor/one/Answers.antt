-- Rests on `CursorAtSteps`: what `stands` says is what a reader of one character finds.
use mathlib.Core.Path.{sym, ◌∙◌}
use native.Mathlib.Omega.{arith}
use Rattle.command_cursor.proofs.CursorAtSteps.{stands_within, stands_read, stands_refused}
use Rattle.command_cursor.proofs.Cursor.one.Goals as goal

pub overflow_add-result : goal.overflow_add-result
overflow_add-result c = record { fits = omega (arith, stands_within _ _ _ (sym c.stands.ensures ∙ c.if-stands.true), c.well_formed.0.1) }

pub returns-then-stands : goal.returns-then-stands
returns-then-stands c = stands_read _ _ _ (sym c.stands.ensures ∙ c.if-stands.true)

pub returns-else-stands : goal.returns-else-stands
returns-else-stands c = stands_refused _ _ _ (sym c.stands.ensures ∙ c.if-stands.false)
