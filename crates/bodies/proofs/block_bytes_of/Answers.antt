-- Rests on `BufferSizes`: word 0 states the form, and the form the segments of a block, of which there are few.
use mathlib.Core.Path.{◌∙◌}
use native.Mathlib.Omega.{arith}
use Rattle.bodies.proofs.BufferSizes.{bytes_few, bytes_stated}
use Rattle.bodies.proofs.block_bytes_of.Goals as goal

pub bytes-requires : goal.bytes-requires
bytes-requires c = omega (arith, bytes_few _ _ c.segments_of-segments.ensures)

pub returns : goal.returns
returns c = c.bytes.ensures ∙ bytes_stated _ _ _ c.form_of.ensures c.segments_of-segments.ensures
