-- A specification that keeps the bounds is whole.
use mathlib.Core.Path.{◌≡◌, refl}
use mathlib.Core.Option.{Option}
use native.Mathlib.Omega.{arith}
use Rattle.command_grammar.specs.Parsed.{Device, Uic, Specification}
use Rattle.command_grammar.specs.Bounded.{BoundedDevice, BoundedUic, BoundedSpecification}
use Rattle.command_grammar.specs.Bounded as B
use Rattle.command_cursor.proofs.CappedOctal.{capped_low}
use Rattle.command_parts.specs.CappedParts.{capped_device, capped_uic, capped_specification}

device_whole : (d : Option Device) → BoundedDevice d → capped_device d ≡ d
device_whole d B.BoundedDevice.absent = refl
device_whole d (B.BoundedDevice.device {d = x} few) = rw (capped_low x.unit (omega arith))

uic_whole : (u : Option Uic) → BoundedUic u → capped_uic u ≡ u
uic_whole u B.BoundedUic.absent = refl
uic_whole u (B.BoundedUic.uic {u = x} group user) = rw (capped_low x.group (omega arith), capped_low x.user (omega arith))

pub specification_whole : (v : Specification) → BoundedSpecification v → capped_specification v ≡ v
specification_whole v bounded = rw (device_whole v.device bounded.device, uic_whole v.uic bounded.uic)
