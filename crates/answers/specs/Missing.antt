-- What may be missing: the test, what stands in its place, and the answer of the code that may find nothing.
use Rattle.std.specs.Prelude.{Bool, true, false, Some, None}
use Rattle.std.specs.declared.option.Option.{Option as Answered}
use Rattle.std.proofs.Math.Option.{Option, none, some}

-- is there nothing?
abbrev pub missing : {A : Type 0} → Option A → Bool
missing none = true
missing (some a) = false

-- what there is, or another thing
abbrev pub or_else : {A : Type 0} → A → Option A → A
or_else other none = other
or_else other (some a) = a

-- what the code found, if anything
abbrev pub value_in : {A : Type 0} → Answered A → Option A
value_in (Some a) = some a
value_in None = none
