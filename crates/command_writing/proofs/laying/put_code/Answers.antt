-- Rests on `LaidNames`: nothing is shown of a blank or of a code without a character.
use mathlib.Core.Path.{sym, ap, ◌∙◌}
use Rattle.answers.specs.Missing.{value_in}
use Rattle.command_writing.proofs.LaidPieces.{puts_nothing, puts_same}
use Rattle.command_writing.proofs.LaidNames.{shown_none, shown_blank, shown_one}
use Rattle.command_writing.proofs.laying.put_code.Goals as goal

pub returns-in_default : goal.returns-in_default
returns-in_default c = let is = sym c.character_of.ensures ∙ ap value_in c.in_default.is in
    puts_same (shown_none is) puts_nothing

pub returns-then-character-eq32 : goal.returns-then-character-eq32
returns-then-character-eq32 c = let is = sym c.character_of.ensures ∙ ap value_in c.in-Some.is in
    puts_same (shown_blank is c.if-character-eq32.true) puts_nothing

pub returns : goal.returns
returns c = let is = sym c.character_of.ensures ∙ ap value_in c.in-Some.is in
    puts_same (shown_one is c.if-character-eq32.false) c.put.ensures
