-- What the loop of `fetch_data` keeps from turn to turn, and what falls in each.
use Prim.Native.Nat.{◌-◌}
use Rattle.stream.specs.Tail.{rest, ReadFrom}
use Rattle.binary.specs.Fetching.{Fetching}
use Rattle.binary.proofs.fetching.fetch_data.Given as goal

abbrev pub invariant-loop-count : goal.invariant-loop-count
invariant-loop-count l = Fetching (rest l.initial.behind) l.limit l.initial.buffer l.buffer l.count l.sum l.behind × ReadFrom l.initial.behind.img.now l.initial.behind.g l.behind

abbrev pub decreases-loop-count : goal.decreases-loop-count
decreases-loop-count l = l.limit - l.count
