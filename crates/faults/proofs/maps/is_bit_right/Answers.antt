-- Rests on `LookedMap`: the bit as it is read, and as it must be.
use Rattle.faults.proofs.LookedMap.{bit_iff}
use Rattle.faults.proofs.maps.is_bit_right.Goals as goal

pub returns : goal.returns
returns c = bit_iff _ _ _ _ c.map_bit.ensures c.due_bit.ensures
