-- The bounds of the numbers that a line says, by their values: how many digits they are typed with does not matter.
use Rattle.std.specs.Prelude.{◌≤◌, List, [], ◌∷◌}
use Rattle.std.proofs.Math.Option.{Option, none, some}
use Rattle.command_grammar.specs.Parsed.{Device, Uic, Specification, Parsed}

-- "A unit must be at most 7, .. leading zeros allowed"
pub data BoundedDevice : Option Device → Type 0 where
  absent : BoundedDevice none
  device : {d : Device} → d.unit ≤ 7 → BoundedDevice (some d)

-- "a group and a user at most 377 octal, leading zeros allowed"
pub data BoundedUic : Option Uic → Type 0 where
  absent : BoundedUic none
  uic : {u : Uic} → u.group ≤ 0o377 → u.user ≤ 0o377 → BoundedUic (some u)

pub record BoundedSpecification (v : Specification) : Type 0 where
  pub device : BoundedDevice v.device
  pub uic : BoundedUic v.uic

-- every specification of a side
pub data BoundedSide : List Specification → Type 0 where
  end : BoundedSide []
  more : {v : Specification} {vs : List Specification} → BoundedSpecification v → BoundedSide vs → BoundedSide (v ∷ vs)

pub data BoundedInput : Option (List Specification) → Type 0 where
  absent : BoundedInput none
  side : {vs : List Specification} → BoundedSide vs → BoundedInput (some vs)

-- the numbers of the whole line "keep these bounds"
pub record Bounded (said : Parsed) : Type 0 where
  pub output : BoundedSide said.output
  pub input : BoundedInput said.input
