-- Means: the data bytes as the code lays and adds them, part by part.
use Rattle.std.specs.Prelude.{ℕ, ◌*◌, ◌≤◌, min, ◌≡◌, List, length, take, drop}
use Rattle.stream.specs.declared.Tail.{Tail}
use Rattle.stream.specs.Tail.{rest}
use Rattle.lines.specs.declared.LineMode.{LineMode}
use Rattle.lines.specs.declared.LineMode.TheVariants.{Normal, Special}
use Rattle.lines.specs.LineSteps.{laid_all}
use Rattle.binary.specs.declared.fetching.Fetch.{Fetch}
use Rattle.binary.specs.BinaryLine.{sum_of}

-- how many data bytes a reading takes at most: special no more than the buffer has
abbrev pub limit_of : LineMode → ℕ → ℕ → ℕ
limit_of Normal most to_come = to_come
limit_of Special most to_come = min to_come most

-- of the bytes s so many at most: counted, added, laid in the buffer one after another; and what stands behind them
pub record Fetched (s : List ℕ) (limit : ℕ) (buffer after : List ℕ) (r : Fetch) : Type 0 where
  pub counted : r.count ≡ min limit (length s)
  pub summed : r.sum ≡ sum_of (take limit s)
  pub small : r.sum ≤ 255 * r.count
  pub laid : after ≡ laid_all (length buffer) buffer 0 (take limit s)
  pub stands : rest r.behind ≡ drop limit s

-- on the way there
pub record Fetching (s : List ℕ) (limit : ℕ) (buffer after : List ℕ) (count sum : ℕ) (behind : Tail) : Type 0 where
  pub long : length after ≡ length buffer
  pub few : count ≤ limit
  pub there : count ≤ length s
  pub summed : sum ≡ sum_of (take count s)
  pub small : sum ≤ 255 * count
  pub laid : after ≡ laid_all (length buffer) buffer 0 (take count s)
  pub stands : rest behind ≡ drop count s
