-- Means: what the code that looks for the first fault says of a number that it sought, and what it knows where it stands.
use Rattle.std.specs.Prelude.{ℕ, ◌+◌, ◌≤◌, ◌<◌, ◌≡◌, List, Option, Some, None}
use Rattle.pack.specs.declared.Geometry.{Geometry}
use Rattle.pack.specs.declared.Entry.{Entry}
use Rattle.pack.specs.Geometry.{geometry_of, slots}
use Rattle.pack.specs.Header.{RightHeader}
use Rattle.pack.specs.Entry.{entry_of, Empty}
use Rattle.pack.specs.Key.{key_in, SameKey}
use Rattle.faults.specs.Rules.{RightField, RightExtent, chain_at, Body}
use Rattle.faults.specs.Report.{entry_order}
use Rattle.faults.specs.FirstFault.{AllHold}

-- the first number from `from` on and below `end` of which something does not hold, or `end`
pub record FirstWrong (Right : ℕ → Type 0) (from end at : ℕ) : Type 0 where
  pub low : from ≤ at
  pub high : at ≤ end
  pub before : (i : ℕ) → from ≤ i → i < at → Right i
  pub wrong : at < end → Right at → ⊥

-- where the code looks for it: the number that it found, or none
abbrev pub Sought : (ℕ → Type 0) → ℕ → ℕ → Option ℕ → Type 0
Sought Right from end (Some at) = FirstWrong Right from end at × (at < end)
Sought Right from end None = FirstWrong Right from end end

-- what is sought: among the words of an entry, the words of an extent, the entries before one
abbrev pub FieldRight : List ℕ → ℕ → Entry → ℕ → Type 0
FieldRight img e x w = RightField img e w x

abbrev pub ExtentRight : Geometry → Entry → ℕ → Type 0
ExtentRight g x w = RightExtent g w x

abbrev pub OtherKey : List ℕ → Geometry → ℕ → ℕ → Type 0
OtherKey img g e f = SameKey (key_in (entry_of img g f)) (key_in (entry_of img g e)) → ⊥

-- an image with a right header, and its measures
pub record Measures (img : List ℕ) (g : Geometry) : Type 0 where
  pub header : RightHeader img
  pub is : geometry_of img ≡ g

-- an entry in use, as it was read
pub record Here (img : List ℕ) (g : Geometry) (e : ℕ) (x : Entry) : Type 0 where
  pub measures : Measures img g
  pub inside : e < slots g
  pub used : Empty img g e → ⊥
  pub at : x ≡ entry_of img g e

-- the last block of a chain
pub record Last (img : List ℕ) (g : Geometry) (x : Entry) (b : ℕ) : Type 0 where
  pub linked : x.kind ≡ 2
  pub place : ℕ
  pub long : place + 1 ≡ x.length
  pub is : chain_at img x place ≡ b
  pub body : Body g b

-- every entry is right
pub record AllRight (img : List ℕ) (g : Geometry) : Type 0 where
  pub measures : Measures img g
  pub entries : (e : ℕ) → e < slots (geometry_of img) → AllHold img (entry_order img e)
