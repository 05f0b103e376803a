-- Rests on `MarkedBehind`: a part of the marks is lent to the check, and comes back one place on.
use mathlib.Core.Path.{◌∙◌}
use Rattle.moving.proofs.MarkedBehind.{behind_lent, behind_long, behind_marked}
use Rattle.moving.proofs.maps.open_behind.Goals as goal

pub open_mapped-requires : goal.open_mapped-requires
open_mapped-requires c = behind_lent c.requires

pub returns : goal.returns
returns c = record { value = c.open_mapped.ensures.value; marked_behind = λ test. behind_marked c.requires (c.open_mapped.auto.map ∙ behind_long c.requires) c.open_mapped.ensures.mapped_if test }
