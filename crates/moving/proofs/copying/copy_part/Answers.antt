-- Rests on `CopiedRuns`: what goes through the place between comes out as it was.
use mathlib.Core.Path.{sym, ap, ◌∙◌}
use lib.ListN.{length}
use lib.Seq.{length-take-le}
use Rattle.moving.proofs.CopiedRuns.{between_filled}
use Rattle.moving.proofs.copying.copy_part.Goals as goal

pub slice_bounds-copy_from_slice-end-2 : goal.slice_bounds-copy_from_slice-end-2
slice_bounds-copy_from_slice-end-2 c = sym (length-take-le _ _ c.requires.1)

pub copy_from_slice-requires : goal.copy_from_slice-requires
copy_from_slice-requires c = length-take-le _ _ c.requires.1

pub slice_bounds-copy_from_slice-end-4 : goal.slice_bounds-copy_from_slice-end-4
slice_bounds-copy_from_slice-end-4 c = sym (ap length (between_filled _ _ _ c.requires.1 c.copy_from_slice.ensures.after))

pub copy_from_slice-requires-2 : goal.copy_from_slice-requires-2
copy_from_slice-requires-2 c = c.requires.0 ∙ sym (ap length (between_filled _ _ _ c.requires.1 c.copy_from_slice.ensures.after))

pub returns : goal.returns
returns c = c.copy_from_slice-2.ensures.after ∙ between_filled _ _ _ c.requires.1 c.copy_from_slice.ensures.after
