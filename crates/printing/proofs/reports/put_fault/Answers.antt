-- Rests on `put_then` and `put_fault_line`: the pieces, each put behind the one before, are the line.
use Rattle.printing.proofs.Put.{put_then}
use Rattle.printing.proofs.ReportText.{put_fault_line}
use Rattle.printing.proofs.reports.put_fault.Goals as goal

pub returns-clause-put : goal.returns-clause-put
returns-clause-put c = put_fault_line _ (put_then c.put_bytes-at.ensures (put_then c.put_rule-at.ensures.put
    (put_then (rw c.entry.ensures at c.put_member-at.ensures.put) (put_then (rw c.word.ensures at c.put_member-at-2.ensures.put)
    (put_then (rw c.block.ensures at c.put_member-at-3.ensures.put) c.put_bytes.ensures)))))
