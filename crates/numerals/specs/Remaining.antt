-- Means: what the loops have still to do: the characters not yet read, and the digits not yet written.
use Rattle.std.specs.Prelude.{ℕ, cond, ◌&&◌, List, ◌++◌, leb, drop}
use Rattle.std.proofs.Math.Option.{Option, none, some}
use Rattle.numerals.specs.Digits.{all_digits, value_from, digits, largest}

-- the number that characters write behind a number, if they are digits and it is not too large
unfoldable pub number_from : ℕ → ℕ → List ℕ → Option ℕ
number_from base before characters =
    cond (all_digits base characters && leb (value_from base before characters) largest) (some (value_from base before characters)) none

-- the digits of a number in the first places, and behind them what stands there
unfoldable pub due : ℕ → ℕ → ℕ → List ℕ → List ℕ
due base places n s = digits base places n ++ drop places s
