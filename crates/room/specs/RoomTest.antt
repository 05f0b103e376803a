-- Means: the test of a free block, and the search for the free run with the highest start; `highest_iff`, `run_none` tie it to `HighestRun`.
use Rattle.std.specs.Prelude.{ℕ, suc, zero, ◌+◌, Bool, true, cond, ◌&&◌, List, eqb, leb, ltb}
use Rattle.std.proofs.Math.Option.{Option, none, some}
use Rattle.pack.specs.Geometry.{geometry_of}
use Rattle.pack.specs.Consistent.{held}

-- "Free: above c and in no file", as a test
unfoldable pub is_free_block : List ℕ → ℕ → Bool
is_free_block img b = leb (geometry_of img).bodies.0 b && (ltb b (geometry_of img).blocks && eqb (held img b) 0)

-- `k` blocks from b on are free
unfoldable pub are_free : List ℕ → ℕ → ℕ → Bool
are_free img b zero = true
are_free img b (suc k) = is_free_block img b && are_free img (b + 1) k

-- the highest start below s of a free run of that length
unfoldable pub run_below : List ℕ → ℕ → ℕ → Option ℕ
run_below img length zero = none
run_below img length (suc s) = cond (are_free img s length) (some s) (run_below img length s)

-- "The free run with the highest start", or that there is none; `run_highest` and `run_none` tie it to the rule
unfoldable pub highest_run : List ℕ → ℕ → Option ℕ
highest_run img length = run_below img length (geometry_of img).blocks
