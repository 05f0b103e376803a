-- Rests on `ConsistentTestOpened`: what the header and what stands behind it decide one after another, and that the map then says how often each block is held.
use native.Mathlib.Omega.{arith}
use mathlib.Core.Path.{sym, ◌∙◌}
use Rattle.consistency.proofs.ConsistentTestOpened.{open_wrong, open_header, open_few, open_sized, open_room, open_map, open_long, open_whole, open_files, open_good}
use Rattle.consistency.specs.Mapped.{Mapped}
use Rattle.consistency.proofs.open_mapped.Goals as goal

pub returns-in_err-g : goal.returns-in_err-g
returns-in_err-g c = let done = open_wrong _ _ c.read_header.ensures {A = (Mapped c.args.map.now c.args.img.now)} c.in_err-g.was in
    record { value = c.from_residual.ensures ∙ done.0; mapped_if = done.1 }

pub set_system-requires : goal.set_system-requires
set_system-requires c = open_room _ _ c.read_header.ensures _ c.in_ok-g.was c.requires

pub are_files_right-requires : goal.are_files_right-requires
are_files_right-requires c = record {
  right_header = (
    open_header _ _ c.read_header.ensures _ c.in_ok-g.was,
    open_few
        _ _ c.read_header.ensures _ c.in_ok-g.was,
  );
  map_value = (
    open_map _ _ c.read_header.ensures _ c.in_ok-g.was _ _ c.requires c.set_system.ensures,
    open_long _ _
        c.read_header.ensures _ c.in_ok-g.was _ _ c.requires c.set_system.ensures,
    open_whole _ _ c.read_header.ensures _ c.in_ok-g.was _ _ c.requires c.set_system.ensures,
  );
}

pub returns-then-not-are_files_right : goal.returns-then-not-are_files_right
returns-then-not-are_files_right c = let done = open_files _ _ c.read_header.ensures _ c.in_ok-g.was _ _ c.requires c.set_system.ensures
    {A = (Mapped c.are_files_right.new.map c.args.img.now)} (sym c.are_files_right.ensures.value ∙ c.if-not-are_files_right.true) in record { value = done.0; mapped_if = done.1 }

pub set_system-requires-2 : goal.set_system-requires-2
set_system-requires-2 c = let sized = open_sized _ _ c.read_header.ensures _ c.in_ok-g.was in
    omega (arith, c.are_files_right.auto.map, open_long _ _ c.read_header.ensures _ c.in_ok-g.was _ _ c.requires c.set_system.ensures, sized.bodies)

pub returns : goal.returns
returns c = let good = c.if-not-are_files_right.false in
    let both = open_good _ _ c.read_header.ensures _ c.in_ok-g.was _ _ c.requires c.set_system.ensures _ _ (sym c.are_files_right.ensures.value ∙ good)
    (c.are_files_right.ensures.map_after good) c.set_system-2.ensures in
    record { value = both.0; mapped_if = both.1 }

pub invariant_of-are_files_right : goal.invariant_of-are_files_right
invariant_of-are_files_right c = record { sized = open_sized _ _ c.read_header.ensures _ c.in_ok-g.was }
