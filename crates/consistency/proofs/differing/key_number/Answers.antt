-- Rests on `DifferTest`: the eight bytes of an entry's key are its four words; a byte is below 256.
use Rattle.consistency.proofs.DifferTest.{number_read, key_small}
use Rattle.consistency.proofs.differing.key_number.Goals as goal

pub returns : goal.returns
returns c = record { value = number_read _ _ _ c.bytes.ensures c.eight_at.ensures.value; small_key = key_small _ _ _ c.eight_at.ensures.bytes_small }
