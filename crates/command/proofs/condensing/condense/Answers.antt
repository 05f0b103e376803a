-- Rests on `Condensed`: what is laid so far is the condensed beginning; `keep` lays one character more, and there is room, since no more are laid than were read.
use native.Mathlib.Omega.{arith}
use Rattle.command.proofs.Condensed.{laid_next, laid_end}
use Rattle.command.proofs.condensing.condense.Goals as goal

pub loop-character-preserved : goal.loop-character-preserved
loop-character-preserved c = laid_next c.loop-character-test.true c.loop-character.invariant c.keep-count.ensures

pub returns : goal.returns
returns c = laid_end c.loop-character-test.false (omega (arith, c.loop-character.invariant.few, c.requires)) c.loop-character.invariant
