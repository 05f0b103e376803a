-- Rests on `put_nothing` and `put_then`: nothing, or what it is and its five digits.
use Rattle.printing.proofs.Put.{put_nothing, put_then}
use Rattle.printing.proofs.reports.put_member.Goals as goal

pub returns-clause-put : goal.returns-clause-put
returns-clause-put c = rw c.in-Some.is (put_then c.put_bytes-at.ensures c.put_number.ensures)
