-- The bits of the target's map, as the code marks them: none is above 1, and each is 1 exactly where the paper has it.
use Prim.Native.Nat.{ℕ, ◌≤◌, ◌<◌}
use mathlib.Core.Path.{◌≡◌, ap}
use mathlib.Core.List.{List}
use mathlib.Core.Logic.{◌⊎◌, ◌↔◌}
use native.Mathlib.Omega.{arith}
use native.Mathlib.Decide.{dec_lt}
use borrow.Author.Tests.{lt-ltb, le-ltb}
use Rattle.pack.specs.declared.Geometry.{Geometry}
use Rattle.pack.specs.Geometry.{geometry_of}
use Rattle.pack.specs.File.{one}
use Rattle.pack.specs.Consistent.{held_in}
use Rattle.frame.proofs.FramedStays.{held_at}
use Rattle.moving.specs.declared.Way.{Way}
use Rattle.moving.specs.Ways.{back, moved}
use Rattle.moving.specs.Moving.{Movable}
use Rattle.moving.specs.MovedParts.{marks}
use Rattle.moving.proofs.WayNumbers.{back_less, moved_zero}
use Rattle.moving.proofs.MovedMeasures.{bodies_high}
use Rattle.moving.proofs.SourceNumbers.{system_free}
use Rattle.moving.proofs.MapWords.{mark_iff}

module _ {way : Way} {src : List ℕ} {g : Geometry} (stated : g ≡ geometry_of src) (movable : Movable way src) where
  -- no block of the system there is held here
  pub system_marked : (b : ℕ) → b < moved way g.bodies.0 → held_in src g (moved (back way) b) ≡ 0
  system_marked b system = by (dec_lt 0 b)
    where
      high : 1 < g.bodies.0
      high = bodies_high stated movable

      by : Dec (0 < b) → held_in src g (moved (back way) b) ≡ 0
      by (yes some) = system_free stated movable (moved (back way) b) (back_less way g.bodies.0 b (omega (arith, high)) some system)
      by (no none) =
          let zero : b ≡ 0 = omega (arith, none) in
          let low : moved (back way) b ≤ 1 = omega (arith, moved_zero (back way), ap (moved (back way)) zero) in
          system_free stated movable (moved (back way) b) (omega (arith, high, low))

  pub marks_few : (b : ℕ) → marks way src g b ≤ 1
  unfolding marks
  marks_few b = by (dec_lt b (moved way g.bodies.0))
    where
      by : Dec (b < moved way g.bodies.0) → marks way src g b ≤ 1
      by (yes system) = omega (arith, ap one (lt-ltb b (moved way g.bodies.0) system), system_marked b system)
      by (no body) =
          omega
          (arith, ap one (le-ltb b (moved way g.bodies.0) (omega (arith, body))), held_at src g (moved (back way) b) stated, movable.source.consistent.once (moved (back way) b))

  -- "1 if system or held, 0 otherwise"
  pub marks_iff : (b : ℕ) {bit : ℕ} → bit ≡ marks way src g b → (bit ≡ 1) ↔ ((b < moved way g.bodies.0) ⊎ (0 < held_in src g (moved (back way) b)))
  unfolding marks
  marks_iff b is = mark_iff b (moved way g.bodies.0) (held_in src g (moved (back way) b)) _ is (omega (arith, is, marks_few b))
