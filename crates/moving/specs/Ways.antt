-- The two ways of document 02 §8: "Convert form 1 to form 2", and "the way back".
use Rattle.std.specs.Prelude.{ℕ, ◌+◌, ◌-◌, cond, eqb}
use Rattle.moving.specs.declared.Way.{Way}
use Rattle.moving.specs.declared.Way.TheVariants.{Up, Down}

-- "The way back undoes this."
abbrev pub back : Way → Way
back Up = Down
back Down = Up

abbrev pub from_form : Way → ℕ
from_form Up = 1
from_form Down = 2

abbrev pub to_form : Way → ℕ
to_form Up = 2
to_form Down = 1

-- "one block more"; "every body moves up by one block": how many blocks there are there, and where a body is
unfoldable pub moved : Way → ℕ → ℕ
moved Up b = b + 1
moved Down b = b - 1

-- "first, last and link numbers that are not 0 rise by one"
unfoldable pub renumbered : Way → ℕ → ℕ
renumbered way number = cond (eqb number 0) 0 (moved way number)
