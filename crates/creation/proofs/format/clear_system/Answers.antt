-- A block of any form has few segments.
use native.Mathlib.Omega.{arith}
use Rattle.pack.proofs.FormBounds.{segments_few}
use Rattle.creation.proofs.format.clear_system.Goals as goal

pub bytes-requires : goal.bytes-requires
bytes-requires c = omega (arith, c.segments_of-segments.ensures, segments_few c.args.form)
