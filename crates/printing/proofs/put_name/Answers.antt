-- Rests on `put_then`: two words, a period and the extension, each put behind the one before, are the name.
use Rattle.printing.specs.Pieces.{name_text}
use Rattle.printing.proofs.Put.{put_then}
use Rattle.printing.proofs.put_name.Goals as goal

pub returns-clause-put : goal.returns-clause-put
unfolding name_text
returns-clause-put c = put_then c.put_word-at.ensures.put
    (put_then c.put_word-at-2.ensures.put
    (put_then c.put_bytes-at.ensures c.put_word.ensures.put))
