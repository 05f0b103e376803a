-- Segments rounded up to blocks: the two cases of the code, the quotient, and that it is the least number of blocks that has the segments.
use Prim.Native.Nat.{ℕ, ◌+◌, ◌*◌, ◌-◌, ◌/◌, ◌%◌, ◌≤◌, ◌<◌}
use mathlib.Core.Path.{◌≡◌, sym, ap}
use native.Mathlib.Omega.{arith}
use native.Mathlib.Decide.{ℕ_discrete, dec_le}
use native.Mathlib.Nat.{div-add-mod', div-eq_of_lt-le, mod-lt, mul-le-mul_right}
use borrow.Author.Tests.{lt-ltb, le-ltb}
use Rattle.pack.specs.declared.Geometry.{Geometry}
use Rattle.creation.specs.Rounding.{blocks_for}

-- products of a count of blocks
one_less : (count size : ℕ) → 0 < count → (count - 1) * size + size ≡ count * size
one_less count size some = let up : count ≡ count - 1 + 1 = omega arith in omega (arith, ap (λ (x : ℕ). x * size) up)

not_none : (count size total : ℕ) → total ≤ count * size → 0 < total → 0 < count
not_none count size total enough some = by (ℕ_discrete count 0)
  where
    by : Dec (count ≡ 0) → 0 < count
    by (yes is) = absurd (omega (arith, ap (λ (x : ℕ). x * size) is))
    by (no other) = omega (arith, other)

module _ (g : Geometry) (segments : ℕ) where
  pub blocks_whole : segments % g.segments.0 ≡ 0 → segments / g.segments.0 ≡ blocks_for g segments
  unfolding blocks_for
  blocks_whole is =
      let none : segments % g.segments.0 ≤ 0 = omega arith in
      rw (le-ltb 0 (segments % g.segments.0) none) (omega arith)

  pub blocks_begun : (segments % g.segments.0 ≡ 0 → ⊥) → segments / g.segments.0 + 1 ≡ blocks_for g segments
  unfolding blocks_for
  blocks_begun never =
      let some : 0 < segments % g.segments.0 = omega (arith, never) in
      rw (lt-ltb 0 (segments % g.segments.0) some)

  module _ (known : 0 < g.segments.0) where
    -- "N/4 blocks rounded up": as many blocks have the segments, and no whole block more than they need
    rounded : (segments ≤ blocks_for g segments * g.segments.0) × (blocks_for g segments * g.segments.0 < segments + g.segments.0)
    rounded = by (ℕ_discrete (segments % g.segments.0) 0)
      where
        by : Dec (segments % g.segments.0 ≡ 0)
            → (segments ≤ blocks_for g segments * g.segments.0) × (blocks_for g segments * g.segments.0 < segments + g.segments.0)
        by (yes is) = rw (sym (blocks_whole is)) (omega (arith, div-add-mod' segments g.segments.0, known))
        by (no never) = rw (sym (blocks_begun never)) (omega (arith, div-add-mod' segments g.segments.0, mod-lt segments known, never))

    -- so it is one quotient
    pub blocks_rounded : blocks_for g segments ≡ (segments + (g.segments.0 - 1)) / g.segments.0
    blocks_rounded = sym (div-eq_of_lt-le g.segments.0 (omega (arith, rounded.1)) (omega (arith, rounded.0)))

    module _ (some : 0 < segments) where
      pub blocks_some : 0 < blocks_for g segments
      blocks_some = not_none (blocks_for g segments) g.segments.0 segments rounded.0 some

      -- one block less has not the segments
      blocks_least : (blocks_for g segments - 1) * g.segments.0 < segments
      blocks_least = omega (arith, rounded.1, one_less (blocks_for g segments) g.segments.0 blocks_some)

      -- the least number of blocks that has the segments, by its neighbour and by all others
      pub blocks_for_least : (segments ≤ blocks_for g segments * g.segments.0) × ((blocks_for g segments - 1) * g.segments.0 < segments)
      blocks_for_least = (rounded.0, blocks_least)

      pub blocks_for_fewest : (count : ℕ) → segments ≤ count * g.segments.0 → blocks_for g segments ≤ count
      blocks_for_fewest count enough = by (dec_le (blocks_for g segments) count)
        where
          by : Dec (blocks_for g segments ≤ count) → blocks_for g segments ≤ count
          by (yes is) = is
          by (no not) =
              let fewer : count ≤ blocks_for g segments - 1 = omega (arith, not) in
              absurd (omega (arith, enough, blocks_least, mul-le-mul_right g.segments.0 fewer))
