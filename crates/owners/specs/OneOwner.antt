-- What it is for a block to have one owner.
use Rattle.std.specs.Prelude.{ℕ, ◌≤◌, ◌<◌, ◌≡◌, List}
use Rattle.pack.specs.declared.Owner.{Owner}
use Rattle.pack.specs.declared.Owner.TheVariants.{System, Free, Held}
use Rattle.pack.specs.Geometry.{geometry_of}
use Rattle.pack.specs.Consistent.{held}
use Rattle.pack.specs.Owner.{HeldAt}

-- no file has block b
pub record Unheld (img : List ℕ) (b : ℕ) : Type 0 where
  pub reached : held img b ≡ 0
  pub nowhere : (e p : ℕ) → HeldAt img e p b → ⊥

-- entry e has block b at its place p, no other entry has it, and this one has it at no other place
pub record HeldByOne (img : List ℕ) (e p b : ℕ) : Type 0 where
  pub reached : held img b ≡ 1
  pub at : HeldAt img e p b
  pub only : (f q : ℕ) → HeldAt img f q b → (f ≡ e) × (q ≡ p)

-- "each block is system, free, or held by one file": three cases, each of which rules out the other two. It is said of a block of the
-- pack, below n: then what is no system block and in no file is a free block
pub data OneOwner (img : List ℕ) (b : ℕ) : Owner → Type 0 where
  system : b < (geometry_of img).bodies.0 → Unheld img b → OneOwner img b System
  free : (geometry_of img).bodies.0 ≤ b → Unheld img b → OneOwner img b Free
  held_by : {e p : ℕ} → (geometry_of img).bodies.0 ≤ b → HeldByOne img e p b → OneOwner img b (Held e (record { 0 = p }))
