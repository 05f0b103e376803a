-- Rests on `LineWriteCounted`: in special mode the first terminator is the last that is taken, if there is one.
use mathlib.Core.Path.{sym}
use Rattle.std.proofs.Common.{rules}
use borrow.Author.Tests.{tests}
use Rattle.std.proofs.lemmas.Iterator.{YieldsList-from_slice}
use Rattle.std.proofs.lemmas.Iterator.Search.{position_from_yields_List}
use Rattle.lines.specs.TextBytes.{is_terminator}
use Rattle.lines.proofs.LineWriteCounted.{taken_whole, taken_to, taken_all}
use Rattle.lines.proofs.counting.count_taken.Goals as goal

pub returns-in-Some : goal.returns-in-Some
returns-in-Some c =
    taken_to c.args.text.now
    (position_from_yields_List is_terminator _ _ _ c.position-end.ensures.ran (YieldsList-from_slice c.args.text.now cc) (λ x b q k. search (rules, tests)))
    c.args.mode c.is_special.ensures c.if-is_special.true c.in-Some.is

pub returns-in_default : goal.returns-in_default
returns-in_default c =
    taken_all c.args.text.now
    (position_from_yields_List is_terminator _ _ _ c.position-end.ensures.ran (YieldsList-from_slice c.args.text.now cc) (λ x b q k. search (rules, tests)))
    c.args.mode c.is_special.ensures c.if-is_special.true c.in_default.is

pub returns-else-is_special : goal.returns-else-is_special
returns-else-is_special c = taken_whole c.args.mode c.args.text.now c.is_special.ensures c.if-is_special.false
