-- Rests on `among_found` alone: a place below the count is that of the specification found; from the count on there is none.
use mathlib.Core.Path.{◌≡◌, refl, ap, ◌∙◌}
use mathlib.Core.Bool.{Bool, true, false, cond}
use Rattle.std.specs.Prelude.{Option, Ok}
use Rattle.std.specs.Bool.{then_some}
use Rattle.command_cursor.specs.declared.Cursor.{Cursor}
use Rattle.command_sides.specs.Located.{At, Missing, located_in}
use Rattle.command_sides.specs.SoughtJoined.{among_found}
use Rattle.command_sides.proofs.among.Goals as goal

located_if : (there : Bool) (start : Cursor) → located_in (Ok (then_some there start)) ≡ cond there (At start) Missing
located_if true start = refl
located_if false start = refl

pub returns : goal.returns
unfolding among_found
returns c = ap (λ (found : Option Cursor). located_in (Ok found)) c.then_some.ensures ∙ located_if _ _
