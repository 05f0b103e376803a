-- "Free bodies and contiguous ones are copied untouched", and so is every payload: read from the definition, which speaks of linked files alone.
use Prim.Native.Nat.{ℕ, ◌+◌, ◌*◌, ◌≤◌, ◌<◌}
use mathlib.Core.Path.{◌≡◌}
use mathlib.Core.List.{List}
use native.Mathlib.Omega.{arith}
use native.Mathlib.Decide.{ℕ_discrete}
use lib.ListN.{get_or}
use Rattle.pack.specs.declared.Geometry.{Geometry}
use Rattle.pack.specs.Geometry.{geometry_of, block_bytes, slots}
use Rattle.pack.specs.File.{count}
use Rattle.pack.specs.Entry.{entry_of, blocks_at}
use Rattle.pack.specs.Consistent.{held_in}
use Rattle.pack.proofs.ConsistentTotal.{total_has, total_two}
use Rattle.pack.proofs.ConsistentHeld.{right_bodies}
use Rattle.frame.proofs.FramedStays.{held_at}
use Rattle.moving.specs.declared.Way.{Way}
use Rattle.moving.specs.Ways.{moved}
use Rattle.moving.specs.Moved.{OfLinked, Moved}
use Rattle.moving.specs.Moving.{Movable}
use Rattle.moving.proofs.SourceNumbers.{right_source}

module _ {way : Way} {src dst : List ℕ} {g : Geometry} (stated : g ≡ geometry_of src) (movable : Movable way src) (m : Moved way src dst g) where
  -- a block that is free is in no linked file
  pub free_untouched : (b : ℕ) → g.bodies.0 ≤ b → b < g.blocks → held_in src g b ≡ 0 → (i : ℕ) → i < block_bytes g
      → get_or dst (moved way b * block_bytes g + i) 0 ≡ get_or src (b * block_bytes g + i) 0
  free_untouched b low high free i small =
      m.bodies b low high i small
      (λ less linked.
      omega (
        arith,
        free,
        linked.has,
        total_has (λ e. count b (blocks_at src g e)) linked.entry 0 (slots g) (omega arith) (omega (arith, linked.within)),
      ))

  -- nor is one of a contiguous file, as no block is held twice
  contiguous_alone : (e : ℕ) → e < slots g → (entry_of src g e).kind ≡ 1 → (b : ℕ) → 0 < count b (blocks_at src g e) → OfLinked src g b → ⊥
  contiguous_alone e within kind b has linked = by (ℕ_discrete e linked.entry)
    where
      by : Dec (e ≡ linked.entry) → ⊥
      by (yes is) = let same : (entry_of src g e).kind ≡ (entry_of src g linked.entry).kind = λ j. (entry_of src g (is j)).kind in omega (arith, kind, linked.kind, same)
      by (no other) =
          omega (
            arith,
            has,
            linked.has,
            total_two (λ f. count b (blocks_at src g f)) e linked.entry 0 (slots g) other (omega arith) (omega arith) (omega arith) (omega (arith, linked.within)),
            held_at src g b stated,
            movable.source.consistent.once b,
          )

  pub contiguous_untouched : (e : ℕ) → e < slots g → (entry_of src g e).kind ≡ 1 → (b : ℕ) → 0 < count b (blocks_at src g e) → (i : ℕ) → i < block_bytes g
      → get_or dst (moved way b * block_bytes g + i) 0 ≡ get_or src (b * block_bytes g + i) 0
  contiguous_untouched e within kind b has i small =
      let range = right_bodies src g e b (right_source stated movable e within) has in
      m.bodies b range.0 range.1 i small (λ less. contiguous_alone e within kind b has)

  -- all but a link is copied, whosever the block is
  pub payload_untouched : (b : ℕ) → g.bodies.0 ≤ b → b < g.blocks → (i : ℕ) → 2 ≤ i → i < block_bytes g
      → get_or dst (moved way b * block_bytes g + i) 0 ≡ get_or src (b * block_bytes g + i) 0
  payload_untouched b low high i behind small = m.bodies b low high i small (λ less linked. omega (arith, less, behind))
