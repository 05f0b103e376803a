-- Rests on `SoughtJoins`: a side is its first specification and what a comma begins; each turn goes on in the line, so that the characters left fall.
use mathlib.Core.Path.{refl, ap}
use native.Mathlib.Omega.{arith}
use Rattle.command_cursor.proofs.Carried.{carried}
use Rattle.command_sides.specs.SoughtJoined.{sought_joined}
use Rattle.command_sides.specs.Sought as Q
use Rattle.command_sides.specs.declared.SideFound.{SideFound}
use Rattle.command_sides.proofs.SoughtJoins.{none_begun, sign_passed, side_begun, side_none, went_on, countable, side_some}
use Rattle.command_sides.proofs.+read_more_read_side.Goals as goal

pub read_more-read_side-requires : goal.read_more-read_side-requires
read_more-read_side-requires t c =
    let passed = sign_passed c.args.line.now c.args.c _ _ c.in-Ok.ensures _ refl in
    (omega arith, tt)

pub read_more-returns-in-Err : goal.read_more-returns-in-Err
read_more-returns-in-Err t c = rw c.none.ensures (none_begun c.args.line.now c.args.c _ _ c.in-Err.ensures _ _ refl)

pub read_more-returns-in-Ok : goal.read_more-returns-in-Ok
read_more-returns-in-Ok t c = side_begun c.args.line.now c.args.c _ _ c.in-Ok.ensures _ refl _ _ c.read_side.ensures

pub read_side-read_more-requires : goal.read_side-read_more-requires
read_side-read_more-requires t c =
    let on = went_on _ _ _ c.in_ok-first.ensures _ _ refl in
    (omega arith, tt)

pub read_side-returns-in_err-first : goal.read_side-returns-in_err-first
read_side-returns-in_err-first t c = rw (carried c.from_residual.ensures.1) (side_none _ _ _ c.in_err-first.ensures _ _ refl)

pub read_side-returns-in_err-rest : goal.read_side-returns-in_err-rest
unfolding sought_joined
read_side-returns-in_err-rest t c = rw (carried c.from_residual-in_err-rest.ensures.1)
    (side_some _ _ _ c.in_ok-first.ensures _ _ refl _ _ _ c.saturating_sub.ensures c.in_err-rest.ensures _ refl)

pub read_side-join-requires : goal.read_side-join-requires
read_side-join-requires t c =
    countable _ _ _ c.in_ok-first.ensures _ _ refl _ _ _ c.saturating_sub.ensures c.in_ok-rest.ensures (omega arith)

pub read_side-returns : goal.read_side-returns
unfolding sought_joined
read_side-returns t c =
    side_some _ _ _ c.in_ok-first.ensures _ _ refl _ _ _ c.saturating_sub.ensures c.in_ok-rest.ensures _ (ap (λ (found : SideFound). Q.Read found c.in_ok-rest.end) c.join.ensures)
