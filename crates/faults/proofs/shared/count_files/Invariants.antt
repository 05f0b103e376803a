-- What the loop of `count_files` keeps from turn to turn.
use Rattle.pack.specs.Consistent.{held}
use Rattle.faults.specs.Counting.{Counted, files_from}
use Rattle.faults.proofs.shared.count_files.Given as goal

abbrev pub invariant-loop-e : goal.invariant-loop-e
invariant-loop-e l = Counted l.counts (files_from l.view.img.now l.view.g l.e) (held l.view.img.now)
