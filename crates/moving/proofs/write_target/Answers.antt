-- Rests on `MovedWhole`: copied, renumbered and with its map made, the target is what the source is moved to.
use Rattle.moving.proofs.MovedWhole.{partly_sized, places_enough, moved_whole}
use Rattle.moving.proofs.write_target.Goals as goal

pub make_map-requires : goal.make_map-requires
make_map-requires c = record {
  sized = partly_sized c.requires.source.0 c.requires.source.1 c.move_entries.ensures;
  bodies_in_bounds = places_enough c.requires.source.0
      c.requires.source.1 c.requires.marked_behind;
}

pub returns : goal.returns
returns c = moved_whole c.requires.source.0 c.requires.source.1 c.requires.marked_behind c.move_entries.ensures (c.make_map.ensures.map_written, c.make_map.ensures.target_unchanged)
