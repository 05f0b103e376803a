-- Rests on `StandingSwitches`: three words with a name, and behind them what its values come to; or no switch stands there.
use Rattle.command_writing.specs.LaidText.{wrong}
use Rattle.command_writing.proofs.NameTests.{refuted}
use Rattle.command_writing.proofs.WordsIn.{no_room}
use Rattle.command_writing.proofs.StandingSwitches.{switch_none, switch_other, switch_laid}
use Rattle.command_writing.proofs.switches.SwitchesRepeated.write.Goals as goal

pub returns-then-not-stand : goal.returns-then-not-stand
returns-then-not-stand c = wrong (switch_none _ _ c.requires (no_room (refuted c.stand.ensures c.if-not-stand.true)))

pub returns-then-not-is_switch_name : goal.returns-then-not-is_switch_name
returns-then-not-is_switch_name c = let room = c.stand.ensures.0 c.if-not-stand.false in
    wrong (switch_other _ _ room.fits c.record_word-first.ensures c.record_word-second.ensures (refuted c.is_switch_name.ensures c.if-not-is_switch_name.true))

pub returns : goal.returns
returns c = let room = c.stand.ensures.0 c.if-not-stand.false in
    let name = c.is_switch_name.ensures.0 c.if-not-is_switch_name.false in
    switch_laid _ _ room.fits c.record_word-first.ensures c.record_word-second.ensures c.record_word-values.ensures name
    c.put-slash.ensures c.put_name-named.ensures c.write_repeated.ensures
