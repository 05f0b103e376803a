-- Rests on `codes_read`: the codes of the word stand in what is held.
use Rattle.radix.proofs.UnpackingHeld.{codes_read}
use Rattle.radix.proofs.unpacking.unpack.Goals as goal

pub returns : goal.returns
returns c = let all = codes_read c.requires c.take_weights-held.ensures in
    record { first_value = all.0; second_value = all.1.0; third_value = all.1.1 }
