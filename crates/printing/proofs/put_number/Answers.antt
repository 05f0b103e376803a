-- Rests on `put_digits`: the digits that `write_digits` leaves in the lent part stand in the buffer.
use Rattle.printing.proofs.Put.{put_digits}
use Rattle.printing.proofs.put_number.Goals as goal

pub returns : goal.returns
returns c = put_digits _ _ _ _ _ _ c.requires.places_in_bounds c.write_digits.ensures
