-- Rests on `StandingSpecifications`: nine words, and behind them what the switches come to.
use Rattle.command_writing.specs.LaidText.{wrong}
use Rattle.command_writing.proofs.NameTests.{refuted}
use Rattle.command_writing.proofs.WordsIn.{no_room}
use Rattle.command_writing.proofs.StandingFronts.{part_went, part_stuck}
use Rattle.command_writing.proofs.StandingSpecifications.{specification_none, specification_front, specification_laid}
use Rattle.command_writing.proofs.sides.write_specification.Goals as goal

pub returns-then-not-stand : goal.returns-then-not-stand
returns-then-not-stand c = wrong (specification_none _ _ c.requires (no_room (refuted c.stand.ensures c.if-not-stand.true)))

pub returns-in_err-next : goal.returns-in_err-next
returns-in_err-next c = let room = c.stand.ensures.0 c.if-not-stand.false in
    rw c.from_residual.ensures (wrong (specification_front _ _ room.fits (part_stuck c.write_front.ensures c.in_err-next.was)))

pub returns : goal.returns
returns c = let room = c.stand.ensures.0 c.if-not-stand.false in
    let front = part_went c.write_front.ensures c.in_ok-next.was in
    specification_laid _ _ room.fits c.record_word-switches.ensures front c.write_repeated.ensures
