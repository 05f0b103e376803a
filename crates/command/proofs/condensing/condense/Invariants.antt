-- What the loop of `condense` keeps from turn to turn.
use Rattle.command.proofs.Condensed.{Laid}
use Rattle.command.proofs.condensing.condense.Given as goal

abbrev pub invariant-loop-character : goal.invariant-loop-character
invariant-loop-character l = Laid l.line l.characters l.count l.character-index
