-- The walk along the blocks of a file to the block at a place: each block that it comes to is one of the file.
use Prim.Native.Nat.{ℕ, ◌+◌, ◌≤◌, ◌<◌}
use mathlib.Core.Path.{◌≡◌, refl, sym, ap, ◌∙◌}
use mathlib.Core.List.{List}
use native.Mathlib.Omega.{arith}
use lib.ListN.{get_or}
use Rattle.pack.specs.declared.Geometry.{Geometry}
use Rattle.pack.specs.declared.Entry.{Entry}
use Rattle.pack.specs.File.{next_of, chain, after, blocks_of, count}
use Rattle.pack.proofs.FileCount.{count_at}
use Rattle.pack.proofs.FileChain.{chain_length}
use Rattle.frame.proofs.FileChainWays.{chain_place, after_append}
use Rattle.bodies.specs.BlockWalk.{BlockWalk}

-- a block at a place of a chain is counted there
place_counted : (next : ℕ → ℕ) (k first p : ℕ) → p < k → 0 < count (after next p first) (chain next k first)
place_counted next k first p inside = count_at (chain next k first) p (after next p first) (omega (arith, chain_length next k first)) (chain_place next k first p inside)

-- a block at a place of a file is one of the pack
pub walked_below : (img : List ℕ) (g : Geometry) (x : Entry) → ((z : ℕ) → 0 < count z (blocks_of img g x) → z < g.blocks)
    → (p b : ℕ) → b ≡ get_or (blocks_of img g x) p 0 → p < x.length → b < g.blocks
unfolding blocks_of
walked_below img g x blocks p b at short = rw (at ∙ chain_place _ _ _ _ short) (blocks _ (place_counted _ _ _ _ short))

pub walk_start : (img : List ℕ) (g : Geometry) (kind first end : ℕ) → BlockWalk img g kind first end 0 first
unfolding after
walk_start img g kind first end = record { before = omega arith; stands = refl }

pub walk_next : {img : List ℕ} {g : Geometry} {kind first end passed at : ℕ} → BlockWalk img g kind first end passed at → passed < end
    → (behind : ℕ) → behind ≡ next_of img g kind at → BlockWalk img g kind first end (passed + 1) behind
unfolding after
walk_next {img} {g} {kind} {first} {end} {passed} {at} walking more behind is =
    record { before = omega arith; stands = is ∙ ap (next_of img g kind) walking.stands ∙ sym (after_append (next_of img g kind) passed 1 first) }

module _ {img : List ℕ} {g : Geometry} {end passed at : ℕ} (x : Entry) (walking : BlockWalk img g x.kind x.first.0 end passed at) (short : end < x.length) where
  -- each block that the walk comes to is one of the file
  pub walk_inside : ((z : ℕ) → 0 < count z (blocks_of img g x) → z < g.blocks) → at < g.blocks
  unfolding blocks_of
  walk_inside inside =
      rw walking.stands
      (inside (after (next_of img g x.kind) passed x.first.0)
      (place_counted (next_of img g x.kind) x.length x.first.0 passed (omega (arith, walking.before))))

  pub walk_end : end ≤ passed → at ≡ get_or (blocks_of img g x) end 0
  unfolding blocks_of
  walk_end over =
      let there : passed ≡ end = omega (arith, walking.before) in
      walking.stands ∙ ap (λ (p : ℕ). after (next_of img g x.kind) p x.first.0) there
      ∙ sym (chain_place (next_of img g x.kind) x.length x.first.0 end short)
