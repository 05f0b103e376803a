-- What the loop of `write_repeated` keeps from turn to turn.
use Prim.Native.Nat.{◌-◌, ◌≤◌}
use lib.ListN.{length}
use Rattle.command_writing.specs.Standing.{words_in}
use Rattle.command_writing.proofs.LaidMany.{Leads}
use Rattle.command_writing.proofs.repeated.write_repeated.Given as goal

abbrev pub invariant-loop : goal.invariant-loop
invariant-loop g l = let kind = g.R.Repeated in
    (l.here.at ≤ length (words_in l.records))
    × Leads kind.Says kind.words kind.text (words_in l.records) l.times l.at l.initial.line l.count (l.times - l.counter) l.here.at l.line l.here.count
