-- Rests on `Condensed`: a dropped character lays nothing; any other is laid at `count`, which is within the characters.
use mathlib.Core.Path.{sym, ◌∙◌}
use Rattle.command.proofs.Condensed.{keep_dropped, keep_laid}
use Rattle.command.proofs.condensing.keep.Goals as goal

pub returns-then-is_dropped : goal.returns-then-is_dropped
returns-then-is_dropped c = keep_dropped _ _ _ (sym c.is_dropped.ensures ∙ c.if-is_dropped.true)

pub returns : goal.returns
returns c = keep_laid _ _ _ c.requires (sym c.is_dropped.ensures ∙ c.if-is_dropped.false)
