-- Rests on `StandingSwitches`: two words that are a name stand there, or no value does.
use mathlib.Core.Path.{sym, ◌∙◌}
use Rattle.command_writing.specs.LaidText.{wrong}
use Rattle.command_writing.proofs.NameTests.{refuted, unnamed}
use Rattle.command_writing.proofs.WordsIn.{no_room}
use Rattle.command_writing.proofs.StandingSwitches.{value_none, value_other, value_laid}
use Rattle.command_writing.proofs.switches.ValuesRepeated.write.Goals as goal

pub returns-then-not-stand : goal.returns-then-not-stand
returns-then-not-stand c = wrong (value_none c.requires (no_room (refuted c.stand.ensures c.if-not-stand.true)))

pub returns-then-not-is_legal_name : goal.returns-then-not-is_legal_name
returns-then-not-is_legal_name c = let room = c.stand.ensures.0 c.if-not-stand.false in
    wrong (value_other room.fits c.record_word-first.ensures c.record_word-second.ensures (unnamed (sym c.is_legal_name.ensures ∙ c.if-not-is_legal_name.true)))

pub returns : goal.returns
returns c = let room = c.stand.ensures.0 c.if-not-stand.false in
    let legal = sym c.is_legal_name.ensures ∙ c.if-not-is_legal_name.false in
    value_laid room.fits c.record_word-first.ensures c.record_word-second.ensures legal c.put-colon.ensures c.put_name-named.ensures
