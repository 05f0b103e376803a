-- Rests on `SoughtWhole`: the line is refused where a side is, or where the two sides end before it; else its numbers are those of the sides, and `choose`
-- chooses of what they have.
use mathlib.Core.Path.{refl}
use Rattle.command_cursor.proofs.Carried.{carried}
use Rattle.command_sides.proofs.SoughtWhole.{output_refused, input_refused, line_goes_on, line_large, line_ends}
use Rattle.command_sides.proofs.read_line.Goals as goal

pub returns-in_err-output : goal.returns-in_err-output
returns-in_err-output c = rw (carried c.from_residual.ensures.1) (output_refused _ _ _ _ c.in_err-output.ensures _ refl)

pub returns-in_err-input : goal.returns-in_err-input
returns-in_err-input c = rw (carried c.from_residual-in_err-input.ensures.1) (input_refused _ _ _ _ c.in_ok-output.ensures _ _ refl _ c.in_err-input.ensures _ refl)

pub returns-then-end-line : goal.returns-then-end-line
returns-then-end-line c = line_goes_on _ _ _ _ c.in_ok-output.ensures _ _ refl _ c.in_ok-input.ensures _ _ refl c.if-end-line.true

pub returns-then-not-output-input : goal.returns-then-not-output-input
returns-then-not-output-input c =
    line_large _ _ _ _ c.in_ok-output.ensures _ _ refl _ c.in_ok-input.ensures _ _ refl c.if-end-line.false c.if-not-output-input.true

pub returns : goal.returns
returns c =
    line_ends _ _ _ _ c.in_ok-output.ensures _ _ refl _ c.in_ok-input.ensures _ _ refl c.if-end-line.false c.if-not-output-input.false _ c.choose.ensures
