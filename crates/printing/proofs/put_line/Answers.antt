-- Rests on `put_pieces`: name, size, UIC, protect code and the line end, each put behind the one before, are the line of the entry.
use Rattle.printing.proofs.PiecesLines.{put_pieces}
use Rattle.printing.proofs.put_line.Goals as goal

pub returns-clause-put : goal.returns-clause-put
returns-clause-put c = put_pieces _ c.put_name-at.ensures.put c.put_size-at.ensures.put c.put_uic-at.ensures.put c.put_number-at.ensures c.put_bytes.ensures
