-- What the loop of `lay_characters` keeps from turn to turn.
use mathlib.Core.Path.{◌≡◌}
use lib.ListN.{length, drop}
use Rattle.stream.specs.Filling.{Laying}
use Rattle.lines.specs.LineWrite.{put_all}
use Rattle.lines.proofs.line_write.lay_characters.Given as goal

abbrev pub invariant-loop-character : goal.invariant-loop-character
invariant-loop-character l = ((length l.img ≡ length l.initial.img) × (length l.map ≡ length l.initial.map) × (length l.gather ≡ length l.initial.gather))
    × Laying l.g l.e l.initial.img l.initial.map l.initial.gather l.initial.at (put_all l.text) l.img l.map l.gather l.at (put_all (drop l.character-index l.text))
