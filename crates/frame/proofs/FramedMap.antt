-- Bits made 1 or 0 on the map: that no other word changes with them, and what is kept.
use Prim.Native.Nat.{ℕ, ◌+◌, ◌/◌, ◌<◌}
use mathlib.Core.Path.{refl}
use mathlib.Core.List.{List, [], ◌∷◌}
use native.Mathlib.Omega.{arith}
use Rattle.pack.specs.declared.Geometry.{Geometry}
use Rattle.pack.specs.GeometrySized.{Sized}
use Rattle.pack.specs.File.{count}
use Rattle.pack.specs.Map.{HasMap, map_at, bit_set, bits_set}
use Rattle.pack.proofs.FileCount.{count_same, count_more}
use Rattle.pack.proofs.MapSet.{bit_set_by}
use Rattle.frame.specs.Framed.{ChangesOnly, OnMap, Kept}
use Rattle.frame.specs.Framed.Within.{block}
use Rattle.frame.proofs.ChangesWritten.{changes_nothing, changes_then, changes_word}

module _ {May : ℕ → Type 0} where
  pub changes_bit : (img : List ℕ) (g : Geometry) (b v : ℕ) → (HasMap g → May (map_at g + b / 16)) → ChangesOnly May img (bit_set img g b v)
  changes_bit img g b v may = bit_set_by (ChangesOnly May img) img g b v changes_nothing (λ there. changes_word img _ _ (may there))

  pub changes_bits : (bs img : List ℕ) (g : Geometry) (v : ℕ) → ((b : ℕ) → 0 < count b bs → HasMap g → May (map_at g + b / 16)) → ChangesOnly May img (bits_set img g bs v)
  unfolding bits_set
  changes_bits [] img g v may = changes_nothing
  changes_bits (b ∷ bs) img g v may =
      changes_then (changes_bit img g b v (may b (omega (arith, count_same b b bs refl))))
      (changes_bits bs (bit_set img g b v) g v (λ i some. may i (omega (arith, some, count_more i b bs))))

-- bits of blocks of the pack are in the map's block
module _ {Named Written : ℕ → Type 0} {img : List ℕ} {g : Geometry} (s : Sized img g) (written : (z : ℕ) → OnMap g z → Written z) where
  pub kept_bit : (b v : ℕ) → b < g.blocks → Kept Named Written img (bit_set img g b v) g
  kept_bit b v below =
      changes_bit img g b v (λ there. block (g.contents + 1) (written _ (there, refl)) (omega arith) (omega arith, omega (arith, below, s.map)))

  pub kept_bits : (bs : List ℕ) (v : ℕ) → ((b : ℕ) → 0 < count b bs → b < g.blocks) → Kept Named Written img (bits_set img g bs v) g
  kept_bits bs v below =
      changes_bits bs img g v
      (λ b some there. block (g.contents + 1) (written _ (there, refl)) (omega arith) (omega arith, omega (arith, below b some, s.map)))
