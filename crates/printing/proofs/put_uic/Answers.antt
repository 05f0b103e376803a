-- Rests on `put_then`: group and user in their brackets, each piece put behind the one before, are the UIC.
use Rattle.printing.specs.Pieces.{uic_text}
use Rattle.printing.proofs.Put.{put_then}
use Rattle.printing.proofs.put_uic.Goals as goal

pub returns-clause-put : goal.returns-clause-put
unfolding uic_text
returns-clause-put c = put_then c.put_bytes-at.ensures
    (put_then c.put_number-at.ensures
    (put_then c.put_bytes-at-2.ensures
    (put_then c.put_number-at-2.ensures c.put_bytes.ensures)))
