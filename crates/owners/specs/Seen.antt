-- Means: what a search over the blocks of one file says.
use Rattle.std.specs.Prelude.{ℕ, Some, None}
use Rattle.std.specs.declared.option.Option.{Option as Answered}
use Rattle.std.proofs.Math.Option.{Option, none, some}
use Rattle.pack.specs.declared.Place.{Place}

abbrev pub seen_in : Answered Place → Option ℕ
seen_in (Some place) = some place.0
seen_in None = none
