-- Rests on `GivenAt`: three bytes for each character are enough.
use Rattle.command.proofs.GivenAt.{room_enough}
use Rattle.command.proofs.csi2.lacks_room.Goals as goal

pub returns-then-line-room : goal.returns-then-line-room
returns-then-line-room c = room_enough _ c.requires.switches_at c.if-line-room.true
