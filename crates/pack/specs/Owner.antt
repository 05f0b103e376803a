-- Whose a block is, and how many blocks are held and free.
use Rattle.std.specs.Prelude.{ℕ, suc, zero, ◌+◌, ◌≤◌, ◌<◌, ◌≡◌, Bool, true, false, cond, List, [], ◌∷◌, eqb, ltb, length, get_or}
use Rattle.std.proofs.Math.Option.{Option, none, some}
use Rattle.pack.specs.declared.Geometry.{Geometry}
use Rattle.pack.specs.declared.Owner.{Owner}
use Rattle.pack.specs.declared.Owner.TheVariants.{System, Free, Held}
use Rattle.pack.specs.Geometry.{geometry_of, slots}
use Rattle.pack.specs.Entry.{entry_of, blocks_at}
use Rattle.pack.specs.Consistent.{held, total}
use Rattle.pack.specs.File.{one}

-- the first place of a block in a list of blocks, counted from p
abbrev pub place_from : ℕ → ℕ → List ℕ → Option ℕ
place_from b p [] = none
place_from b p (x ∷ xs) = cond (eqb b x) (some p) (place_from b (p + 1) xs)

-- what a place found in entry e says, or what the other entries say
abbrev pub held_or : ℕ → Owner → Option ℕ → Owner
held_or e other none = other
held_or e other (some p) = Held e (record { 0 = p })

-- the first of `k` entries from e on whose file reaches b, or nobody; "Free: .. in no file"
unfoldable pub holder : List ℕ → Geometry → ℕ → ℕ → ℕ → Owner
holder img g b e zero = Free
holder img g b e (suc k) = held_or e (holder img g b (e + 1) k) (place_from b 0 (blocks_at img g e))

-- Asked of a block below n of a consistent pack: from n up it would say Free. Crate `owners` proves what each answer means.
unfoldable pub owner_of : List ℕ → ℕ → Owner
owner_of img b = cond (ltb b (geometry_of img).bodies.0) System (holder img (geometry_of img) b 0 (slots (geometry_of img)))

-- the file of entry e has block b at its place p (an empty entry has no blocks)
pub record HeldAt (img : List ℕ) (e p b : ℕ) : Type 0 where
  pub entry : e < slots (geometry_of img)
  pub place : p < length (blocks_at img (geometry_of img) e)
  pub is : get_or (blocks_at img (geometry_of img) e) p 0 ≡ b

-- "Free: above c and in no file."
pub record FreeBlock (img : List ℕ) (b : ℕ) : Type 0 where
  pub body : (geometry_of img).bodies.0 ≤ b
  pub below : b < (geometry_of img).blocks
  pub nobody : held img b ≡ 0

abbrev pub is_free : Owner → Bool
is_free System = false
is_free Free = true
is_free (Held e p) = false

-- "the stored lengths", summed
unfoldable pub stored_lengths : List ℕ → ℕ
stored_lengths img = total (λ e. (entry_of img (geometry_of img) e).length) 0 (slots (geometry_of img))

-- "the free blocks counted one by one"
unfoldable pub free_below : List ℕ → ℕ → ℕ
free_below img zero = 0
free_below img (suc b) = free_below img b + one (is_free (owner_of img b))

abbrev pub free_count : List ℕ → ℕ
free_count img = free_below img (geometry_of img).blocks
