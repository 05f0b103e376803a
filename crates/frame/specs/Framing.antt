-- Means: what is asked of a change of an image, so that the image stays consistent.
use Rattle.std.specs.Prelude.{ℕ, ◌<◌, ◌≡◌, List, ◌⊎◌}
use Rattle.pack.specs.declared.Geometry.{Geometry}
use Rattle.pack.specs.Geometry.{slots}
use Rattle.pack.specs.File.{count}
use Rattle.pack.specs.Entry.{entry_of, blocks_at, Empty}
use Rattle.pack.specs.Key.{key_in, SameKey}
use Rattle.frame.specs.Framed.{Kept}

-- one of two numbers
abbrev pub Either : ℕ → ℕ → ℕ → Type 0
Either x y e = (e ≡ x) ⊎ (e ≡ y)

-- all but named entries and written blocks is kept, and the written blocks are no other file's
pub record Framed (Named Written : ℕ → Type 0) (img img' : List ℕ) (g : Geometry) : Type 0 where
  pub kept : Kept Named Written img img' g
  pub apart : (b : ℕ) → Written b → (e : ℕ) → e < slots g → (Named e → ⊥) → count b (blocks_at img g e) ≡ 0

-- Entry x is like no other afterwards: it is empty, or has the name, extension and UIC that it had, or those that no other entry in use has.
pub data Distinct (img img' : List ℕ) (g : Geometry) (x : ℕ) : Type 0 where
  emptied : Empty img' g x → Distinct img img' g x
  known : SameKey (key_in (entry_of img' g x)) (key_in (entry_of img g x)) → Distinct img img' g x
  new : ((e : ℕ) → e < slots g → (e ≡ x → ⊥) → (Empty img g e → ⊥) → SameKey (key_in (entry_of img g e)) (key_in (entry_of img' g x)) → ⊥) → Distinct img img' g x
