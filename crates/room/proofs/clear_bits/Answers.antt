-- Rests on `bits_set_none`: where there is no map nothing is written.
use mathlib.Core.Path.{sym, ◌∙◌}
use Rattle.pack.proofs.MapSet.{bits_set_none}
use Rattle.room.proofs.clear_bits.Goals as goal

pub returns-else-has_map : goal.returns-else-has_map
returns-else-has_map c = sym (bits_set_none _ _ _ _ (sym c.has_map.ensures ∙ c.if-has_map.false))
