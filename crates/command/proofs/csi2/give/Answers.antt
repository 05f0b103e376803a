-- Rests on `GivenAt`: the parts that `read_parts` reads are those of the specification that stands there, and its switches begin where they end.
use Rattle.command.proofs.GivenAt.{switches_begin, give_short, give_writable, give_given}
use Rattle.command.proofs.csi2.give.Goals as goal

pub lacks_room-requires : goal.lacks_room-requires
lacks_room-requires c = record { line_len_bound = c.requires.line_len_bound; switches_at = switches_begin c.requires.specification_at c.read_parts-parts.ensures }

pub returns-then-lacks_room : goal.returns-then-lacks_room
returns-then-lacks_room c = give_short c.requires.specification_at c.read_parts-parts.ensures c.lacks_room.ensures c.if-lacks_room.true

pub write_switches-requires : goal.write_switches-requires
write_switches-requires c = give_writable c.requires.specification_at c.read_parts-parts.ensures c.lacks_room.ensures c.requires.line_len_bound c.if-lacks_room.false

pub returns : goal.returns
returns c = give_given c.requires.specification_at c.read_parts-parts.ensures c.lacks_room.ensures c.if-lacks_room.false c.write_switches.ensures
