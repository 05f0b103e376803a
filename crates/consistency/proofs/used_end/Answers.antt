-- Rests on `EntryTestWhole`: where a stretch of words is 0 the entries in it are empty.
use mathlib.Core.Path.{sym, ◌∙◌}
use Rattle.consistency.proofs.EntryTestWhole.{used_stretch}
use Rattle.consistency.proofs.used_end.Goals as goal

pub returns-then-is_stretch_zero : goal.returns-then-is_stretch_zero
returns-then-is_stretch_zero c = used_stretch _ _ _ _ c.slot_count-end.ensures.value c.loop-e-test.true c.words.ensures (sym c.is_stretch_zero.ensures ∙ c.if-is_stretch_zero.true)
