-- What a line says: names are the characters that stand there, numbers are whole.
use Rattle.std.specs.Prelude.{ℕ, List}
use Rattle.std.proofs.Math.Option.{Option}

pub record Device : Type 0 where
  pub letters : List ℕ
  pub unit : ℕ

pub record FileName : Type 0 where
  pub name : List ℕ
  pub extension : Option (List ℕ)

pub record Uic : Type 0 where
  pub group : ℕ
  pub user : ℕ

pub record Switch : Type 0 where
  pub name : List ℕ
  pub values : List (List ℕ)

pub record Specification : Type 0 where
  pub device : Option Device
  pub file : Option FileName
  pub uic : Option Uic
  pub switches : List Switch

-- the output side, and the input side if there is one
pub record Parsed : Type 0 where
  pub output : List Specification
  pub input : Option (List Specification)
