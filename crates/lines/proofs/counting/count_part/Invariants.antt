-- What the loop of `count_part` keeps from turn to turn.
use Rattle.lines.proofs.LineWriteCounted.{Counting}
use Rattle.lines.proofs.counting.count_part.Given as goal

abbrev pub invariant-loop-character : goal.invariant-loop-character
invariant-loop-character l = Counting l.part l.character-index l.puts
