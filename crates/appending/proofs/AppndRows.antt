-- The rows of APPND stand in the order of the table.
use Prim.Native.Nat.{ℕ}
use mathlib.Core.Path.{◌≡◌, refl}
use mathlib.Core.Bool.{true}
use mathlib.Core.List.{List}
use Rattle.answers.specs.Refusals.{table_order, in_order}
use Rattle.pack.specs.declared.Key.{Key}
use Rattle.appending.specs.AppndRows.{name_rows, permit_rows, appnd_rows}

pub appnd_ordered : (img : List ℕ) (first second : Key) (caller : ℕ) → in_order table_order 0 (appnd_rows img first second caller) ≡ true
unfolding appnd_rows name_rows permit_rows
appnd_ordered img first second caller = refl
