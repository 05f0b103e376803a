-- The system's blocks, the stored lengths and the free blocks counted one by one make up a consistent pack.
use Prim.Native.Nat.{ℕ, suc, zero, ◌+◌, ◌<◌}
use mathlib.Core.Path.{◌≡◌, sym, ap, ◌∙◌}
use mathlib.Core.List.{List}
use native.Mathlib.Omega.{arith}
use lib.Dec.{ltb}
use borrow.Author.Tests.{lt-ltb, le-ltb}
use Rattle.pack.specs.declared.Owner.{Owner}
use Rattle.pack.specs.Geometry.{geometry_of, slots}
use Rattle.pack.specs.File.{one, count}
use Rattle.pack.specs.Entry.{entry_of, blocks_at}
use Rattle.pack.specs.Consistent.{total, held, Consistent}
use Rattle.pack.specs.Owner.{owner_of, is_free, free_below, free_count}
use Rattle.pack.proofs.HeaderRules.{header_sized}
use Rattle.pack.proofs.ConsistentTotal.{total_none, total_same, total_add, total_each, total_last, total_exchange, count_all, total_below}
use Rattle.owners.specs.OneOwner.{OneOwner}
use Rattle.owners.specs.OneOwner.OneOwner.{system, free, held_by}
use Rattle.owners.proofs.EntryBlocks.{blocks_length, reaches_bodies}
use Rattle.owners.proofs.OneOwner.{one_owner}

-- 1 for a free block, 0 for any other
abbrev pub one_free : List ℕ → ℕ → ℕ
one_free img b = one (is_free (owner_of img b))

pub free_total : (img : List ℕ) (n : ℕ) → free_below img n ≡ total (one_free img) 0 n
unfolding free_below
free_total img zero = sym (total_none (one_free img) 0)
free_total img (suc n) =
    let place : 0 + n ≡ n = omega arith in
    omega (arith, free_total img n, total_last (one_free img) 0 n, ap (one_free img) place)

module _ {img : List ℕ} (right : Consistent img) where
  -- each block is counted once: for the system, for a file, or as free
  each_once : (b : ℕ) → one (ltb b (geometry_of img).bodies.0) + held img b + one_free img b ≡ 1
  each_once b = by (owner_of img b) (one_owner right b)
    where
      by : (o : Owner) → OneOwner img b o → one (ltb b (geometry_of img).bodies.0) + held img b + one (is_free o) ≡ 1
      by o (system below none) = omega (arith, ap one (lt-ltb b (geometry_of img).bodies.0 below), none.reached)
      by o (free body none) = omega (arith, ap one (le-ltb b (geometry_of img).bodies.0 body), none.reached)
      by o (held_by body held_one) = omega (arith, ap one (le-ltb b (geometry_of img).bodies.0 body), held_one.reached)

  counted : (e : ℕ) → e < slots (geometry_of img) → total (λ b. count b (blocks_at img (geometry_of img) e)) 0 (geometry_of img).blocks ≡ (entry_of img (geometry_of img) e).length
  counted e inside =
      count_all (blocks_at img (geometry_of img) e) (geometry_of img).blocks (λ b reached. (reaches_bodies b e right inside reached).1)
      ∙ blocks_length img (geometry_of img) e

  -- the blocks that files reach are as many as their lengths say
  held_total : total (held img) 0 (geometry_of img).blocks ≡ total (λ e. (entry_of img (geometry_of img) e).length) 0 (slots (geometry_of img))
  unfolding held
  held_total =
      total_exchange (λ e b. count b (blocks_at img (geometry_of img) e)) 0 (geometry_of img).blocks 0 (slots (geometry_of img))
      ∙ total_same (λ e. total (λ b. count b (blocks_at img (geometry_of img) e)) 0 (geometry_of img).blocks) (λ e. (entry_of img (geometry_of img) e).length) 0 (slots (geometry_of img))
      (λ e low high. counted e (omega arith))

  -- "So c + 1, the stored lengths and the free blocks counted one by one add to n.": c + 1 is where the bodies begin
  pub sum_of_blocks : (geometry_of img).bodies.0 + total (λ e. (entry_of img (geometry_of img) e).length) 0 (slots (geometry_of img)) + free_count img ≡ (geometry_of img).blocks
  sum_of_blocks =
      omega (
        arith,
        free_total img (geometry_of img).blocks,
        held_total,
        total_below (geometry_of img).bodies.0 (geometry_of img).blocks (omega (arith, (header_sized img right.header).bodies)),
        total_add (λ b. one (ltb b (geometry_of img).bodies.0)) (held img) 0 (geometry_of img).blocks,
        total_add (λ b. one (ltb b (geometry_of img).bodies.0) + held img b) (one_free img) 0 (geometry_of img).blocks,
        total_same (λ b. one (ltb b (geometry_of img).bodies.0) + held img b + one_free img b) (λ b. 1) 0 (geometry_of img).blocks (λ b low high. each_once b),
        total_each 1 0 (geometry_of img).blocks,
      )
