-- Rests on `part_cleared`: the part lent to `fill` is the block, and comes back all zero; a block of the pack lies within an image that is not too long to count.
use mathlib.Core.Path.{refl}
use native.Mathlib.Omega.{arith}
use Rattle.bodies.proofs.BlockBytes.{room_of, start_read}
use Rattle.room.proofs.Cleared.{part_cleared}
use Rattle.room.proofs.clear_block.Goals as goal

pub returns : goal.returns
returns c = let inside = (room_of _ _ c.args.b.0 c.requires.sized c.requires.blocks_in_bounds.1.below).inside in
    record {
      img_after = part_cleared c.args.img.now _ c.args.g c.args.b.0 c.bytes-bytes.ensures
          (omega (arith, c.bytes-bytes.ensures, start_read c.args.g c.args.b.0 c.bytes-bytes.ensures, inside)) (c.fill.ensures.after (λ y same. same));
      map_after = refl;
    }
