-- Rests on `report_good`: a consistent image has no fault; another is looked at.
use mathlib.Core.Path.{sym, ◌∙◌}
use Rattle.faults.proofs.LookedWhole.{report_good}
use Rattle.faults.proofs.report.Goals as goal

pub returns-then-is_some : goal.returns-then-is_some
returns-then-is_some c = report_good _ c.open_pack.ensures (sym c.is_some.ensures ∙ c.if-is_some.true)
