-- What is free in a pack: a block, a run of blocks, and the run that a request for room gets.
use Rattle.std.specs.Prelude.{ℕ, suc, ◌+◌, ◌≤◌, ◌<◌, List}
use Rattle.pack.specs.File.{chain}
use Rattle.pack.specs.Owner.{FreeBlock}

-- `length` blocks from s on are free
pub record FreeRun (img : List ℕ) (length s : ℕ) : Type 0 where
  pub free : (b : ℕ) → s ≤ b → b < s + length → FreeBlock img b

-- "The free run with the highest start"
pub record HighestRun (img : List ℕ) (length s : ℕ) : Type 0 where
  pub run : FreeRun img length s
  pub highest : (t : ℕ) → s < t → FreeRun img length t → ⊥

-- the `length` blocks from s on, and that b is one of them
abbrev pub run_from : ℕ → ℕ → List ℕ
run_from s length = chain suc length s

abbrev pub InRun : ℕ → ℕ → ℕ → Type 0
InRun s length b = (s ≤ b) × (b < s + length)
