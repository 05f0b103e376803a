-- Rests on `put_faulty`: which line, by what is told.
use Rattle.printing.specs.ReportText.{report_text}
use Rattle.faults.proofs.FaultNamed.{fault_some}
use Rattle.printing.proofs.ReportText.{put_faulty}
use Rattle.printing.proofs.reports.put_report.Goals as goal

pub returns-in-Ok-clause-put : goal.returns-in-Ok-clause-put
unfolding report_text
returns-in-Ok-clause-put c = rw c.in-Ok.is c.put_bytes.ensures

pub returns-in-Err-clause-put : goal.returns-in-Err-clause-put
returns-in-Err-clause-put c = rw c.in-Err.is (put_faulty _ (fault_some _) c.put_fault.ensures.put)
