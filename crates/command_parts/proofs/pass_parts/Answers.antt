-- Rests on `PassedParts`: the parts stand one behind the other, and the first that is refused refuses the whole.
use mathlib.Core.Path.{◌≡◌, sym}
use mathlib.Core.Bool.{Bool, true}
use Rattle.std.proofs.Common.{rules, Result, Ok, Err}
use Rattle.std.specs.Result.{MatchResult}
use Rattle.command_cursor.specs.declared.Misread.{Misread}
use Rattle.command_parts.specs.Passing.{passing_in}
use Rattle.command_parts.specs.Passed.{keeps_of}
use Rattle.command_parts.specs.declared.passing.Passed.{Passed}
use Rattle.command_cursor.proofs.Carried.{carried}
use Rattle.command_parts.proofs.PassedParts.{no_head, no_uic, no_switch, all_parts}
use Rattle.command_parts.proofs.pass_parts.Goals as goal

unit_told : (device : Result Passed Misread) {unit : Bool} {P : Passed → Type 0} → MatchResult device P (λ _. unit ≡ true) → ((x : Passed) → P x → unit ≡ x.keeps)
    → unit ≡ keeps_of (passing_in device)
unit_told (Ok x) is told = told x is
unit_told (Err misread) is told = is

pub returns-in_err-head : goal.returns-in_err-head
returns-in_err-head c = rw (carried c.from_residual.ensures.1) (no_head _ _ _ (sym c.in_err-head.ensures))

pub returns-in_err-uic : goal.returns-in_err-uic
returns-in_err-uic c = rw (carried c.from_residual-in_err-uic.ensures.1) (no_uic _ _ _ (sym c.in_ok-head.ensures) _ (sym c.in_err-uic.ensures))

pub returns-in_err-next : goal.returns-in_err-next
returns-in_err-next c = rw (carried c.from_residual-in_err-next.ensures.1) (no_switch _ _ _ (sym c.in_ok-head.ensures) _ _ (sym c.in_ok-uic.ensures) _ (sym c.in_err-next.ensures))

pub returns : goal.returns
returns c = all_parts _ _ _ (sym c.in_ok-head.ensures) _ _ (sym c.in_ok-uic.ensures) c.pass_device-device.ensures _ (sym c.in_ok-next.ensures)
    (unit_told c.pass_device-device.result c.map_or-unit_keeps.ensures (λ x is. search rules))
