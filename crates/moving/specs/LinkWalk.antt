-- Means: a walk along a linked file of the source whose links are written in the target.
use Rattle.std.specs.Prelude.{ℕ, ◌≤◌, ◌<◌, ◌≡◌, List}
use Rattle.pack.specs.declared.Geometry.{Geometry}
use Rattle.pack.specs.Geometry.{slots}
use Rattle.pack.specs.File.{next_of, after}
use Rattle.pack.specs.Entry.{entry_of}
use Rattle.moving.specs.declared.Way.{Way}
use Rattle.moving.specs.MovedParts.{Source, Partly, Walked}

-- entry e is that of a linked file of so many blocks
pub record LinkedEntry (way : Way) (src : List ℕ) (g : Geometry) (e start size : ℕ) : Type 0 where
  pub source : Source way src g
  pub within : e < slots g
  pub kind : (entry_of src g e).kind ≡ 2
  pub first : (entry_of src g e).first.0 ≡ start
  pub count : (entry_of src g e).length ≡ size

pub record LinkWalk (way : Way) (src now : List ℕ) (g : Geometry) (e start size passed at : ℕ) : Type 0 where
  pub entry : LinkedEntry way src g e start size
  pub before : passed ≤ size
  pub stands : at ≡ after (next_of src g 2) passed start
  pub partly : Partly way src now g e (Walked src g e passed)
