-- What falls in each call within `read_more_read_side`.
use Prim.Native.Nat.{◌+◌, ◌-◌, ◌*◌}
use lib.ListN.{length}
use Rattle.command_sides.proofs.+read_more_read_side.Given as goal

abbrev pub decreases-read_more : goal.decreases-read_more
decreases-read_more l = 2 * (length l.line.now - l.c.at)

abbrev pub decreases-read_side : goal.decreases-read_side
decreases-read_side l = 2 * (length l.line.now - l.c.at) + 1
