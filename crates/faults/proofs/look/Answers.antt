-- Rests on `LookedWhole`: the header as it was read, the entries, the blocks by number.
use mathlib.Core.Path.{refl}
use Rattle.faults.proofs.FaultNamed.{carried, fault_some}
use Rattle.faults.proofs.LookedEntry.{measures_sized}
use Rattle.faults.proofs.LookedWhole.{read_wrong, read_right, report_contents, all_right, report_behind}
use Rattle.faults.proofs.look.Goals as goal

pub look_header-requires : goal.look_header-requires
look_header-requires c = read_wrong _ c.read_header.ensures c.in_default.is

pub invariant_of-view : goal.invariant_of-view
invariant_of-view c = record { sized = measures_sized (read_right _ c.read_header.ensures c.in-Some.is) }

pub look_entries-requires : goal.look_entries-requires
look_entries-requires c = read_right _ c.read_header.ensures c.in-Some.is

pub returns-in_err-look_entries : goal.returns-in_err-look_entries
returns-in_err-look_entries c = rw (carried c.from_residual.ensures.1)
    (report_contents (read_right _ c.read_header.ensures c.in-Some.is) c.in_err-look_entries.ensures (fault_some _))

pub look_blocks-requires : goal.look_blocks-requires
look_blocks-requires c = all_right (read_right _ c.read_header.ensures c.in-Some.is) c.in_ok-look_entries.ensures refl

pub returns : goal.returns
returns c = report_behind (read_right _ c.read_header.ensures c.in-Some.is) c.in_ok-look_entries.ensures refl c.look_blocks.ensures
