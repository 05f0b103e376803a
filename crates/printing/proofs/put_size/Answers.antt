-- Rests on `put_then`: a blank, the kind, a blank and five digits, each put behind the one before, are the size.
use Rattle.printing.specs.Pieces.{size_text}
use Rattle.printing.proofs.Put.{put_then}
use Rattle.printing.proofs.put_size.Goals as goal

pub returns-clause-put : goal.returns-clause-put
unfolding size_text
returns-clause-put c = put_then c.put_bytes-at.ensures
    (put_then c.put_kind-at.ensures.put
    (put_then c.put_bytes-at-2.ensures c.put_number.ensures))
