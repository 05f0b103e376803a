-- Rests on `NumberAt`: the digits left, behind those read as far as 256, make the whole number as far as 256, and end where all end.
use Prim.Native.Nat.{◌<◌}
use mathlib.Core.Path.{sym, ◌∙◌}
use native.Mathlib.Omega.{arith}
use lib.ListN.{length}
use Rattle.command_cursor.proofs.NumberAt.{digits_found, digits_on, digits_end, none_other}
use Rattle.command_cursor.proofs.Cursor.number.Goals as goal

pub returns-then-not-is_octal : goal.returns-then-not-is_octal
returns-then-not-is_octal c =
    let inside : c.loop-at.at < length c.args.line.now = omega arith in
    digits_found c.loop-at.invariant (none_other _ _ _ inside (sym c.is_octal.ensures ∙ c.if-not-is_octal.true))

pub loop-at-preserved : goal.loop-at-preserved
loop-at-preserved c = digits_on c.loop-at.invariant (omega arith) (sym c.is_octal.ensures ∙ c.if-not-is_octal.false) c.capped-value.ensures

pub returns : goal.returns
returns c = digits_end c.loop-at.invariant c.max-end.ensures c.loop-at-test.false (c.loop-at.auto.at-end (omega arith))
