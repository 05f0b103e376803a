-- Rests on `printed`: a text put at the start of a buffer is all that it is to hold.
use native.Mathlib.Omega.{arith}
use Rattle.printing.specs.ReportText.{too_long, told}
use Rattle.printing.proofs.ReportText.{printed}
use Rattle.printing.proofs.reports.print_report.Goals as goal

pub returns-then-img-gt-LONGEST_IMAGE : goal.returns-then-img-gt-LONGEST_IMAGE
returns-then-img-gt-LONGEST_IMAGE c = printed (too_long c.if-img-gt-LONGEST_IMAGE.true) c.put_bytes.ensures (omega (arith, c.put_bytes.ensures.behind))
    c.requires

pub returns : goal.returns
returns c = printed (told c.if-img-gt-LONGEST_IMAGE.false c.report.ensures) c.put_report.ensures.put
    (omega (arith, c.put_report.ensures.upper_bound)) c.requires
