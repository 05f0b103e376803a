-- The call of document 02 §8: its refusals in their order, and what is left in the target.
use Rattle.std.specs.Prelude.{ℕ, ◌*◌, ◌≤◌, ◌≡◌, List, length}
use Rattle.words.specs.Word.{word_at}
use Rattle.pack.specs.Form.{least_blocks, most_blocks_of, most_contents_of}
use Rattle.pack.specs.Geometry.{geometry_of, block_bytes}
use Rattle.pack.specs.Consistent.{Consistent}
use Rattle.moving.specs.declared.Way.{Way}
use Rattle.moving.specs.Ways.{from_form, to_form, moved}
use Rattle.moving.specs.Moved.{Moves}

-- else "40, source not consistent or not of that form;"
pub record RightSource (way : Way) (src : List ℕ) : Type 0 where
  pub consistent : Consistent src
  pub form : word_at src 0 ≡ from_form way

-- "or a form 2 pack whose n - 1 is not 16 to 1024 or whose c is over 8": the bounds of the other form, which on the way up always hold (`movable_up`)
pub record Movable (way : Way) (src : List ℕ) : Type 0 where
  pub source : RightSource way src
  pub blocks_least : least_blocks ≤ moved way (word_at src 1)
  pub blocks_most : moved way (word_at src 1) ≤ most_blocks_of (to_form way)
  pub contents_most : word_at src 2 ≤ most_contents_of (to_form way)

-- else "41, target of the wrong size, or .."
pub record RightTarget (way : Way) (src : List ℕ) (long : ℕ) : Type 0 where
  pub size : long ≡ moved way (word_at src 1) * block_bytes (geometry_of src)
  pub movable : Movable way src

-- "in that order": the code, and the target behind the call. A refusal leaves it as it was; else it is written whole, and what it held before is not looked at.
pub data Moving (way : Way) (src target : List ℕ) : ℕ → List ℕ → Type 0 where
  other_source : (RightSource way src → ⊥) → Moving way src target 0o40 target
  other_target : RightSource way src → (RightTarget way src (length target) → ⊥) → Moving way src target 0o41 target
  moves : {dst : List ℕ} → RightTarget way src (length target) → Moves way src dst → Moving way src target 0 dst
