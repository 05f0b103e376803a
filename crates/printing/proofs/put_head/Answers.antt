-- Rests on `put_then`: five pieces, each put behind the one before, are the head line.
use Rattle.printing.specs.Listing.{head_line}
use Rattle.printing.proofs.Put.{put_then}
use Rattle.printing.proofs.put_head.Goals as goal

pub returns-clause-put : goal.returns-clause-put
unfolding head_line
returns-clause-put c = put_then c.put_bytes-at.ensures
    (put_then c.put_number-at.ensures
    (put_then c.put_bytes-at-2.ensures
    (put_then c.put_number-at-2.ensures c.put_bytes.ensures)))
