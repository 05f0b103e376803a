-- Bits made 1 or 0 one block after another: those that are left make what is left of all.
use Prim.Native.Nat.{ℕ, suc, ◌+◌, ◌-◌, ◌≤◌, ◌<◌}
use mathlib.Core.Path.{◌≡◌, refl, sym, ap, ◌∙◌}
use mathlib.Core.List.{List}
use native.Mathlib.Omega.{arith}
use native.Mathlib.Decide.{dec_lt}
use lib.ListN.{length}
use Rattle.pack.specs.declared.Geometry.{Geometry}
use Rattle.pack.specs.declared.Entry.{Entry}
use Rattle.pack.specs.GeometrySized.{Sized}
use Rattle.pack.specs.File.{next_of, chain, blocks_of, count}
use Rattle.pack.specs.Map.{bit_set, bits_set}
use Rattle.pack.proofs.GeometryRoom.{sized_same}
use Rattle.pack.proofs.FileCount.{count_same, count_split}
use Rattle.pack.proofs.MapSet.{bit_set_long}
use Rattle.frame.specs.Framed.{Never, OnMap, Kept}
use Rattle.frame.proofs.ChangesWritten.{changes_nothing, changes_then}
use Rattle.frame.proofs.FramedCompose.{link_kept}
use Rattle.frame.proofs.FramedMap.{kept_bit}
use Rattle.frame.proofs.FileChainWays.{next_same, extent_below, extent_above, extent_inside}
use Rattle.room.specs.Room.{InRun, run_from}

-- a run has its blocks once each, and no others
steps : (b : ℕ) → suc b ≡ b + 1
steps b = omega arith

pub run_has : (b k z : ℕ) → InRun b k z → count z (run_from b k) ≡ 1
run_has b k z inside = extent_inside suc steps z k b inside.0 inside.1

pub run_inside : (b k z : ℕ) → 0 < count z (run_from b k) → InRun b k z
run_inside b k z some =
    elim (dec_lt z b) [
      | yes low ↦ absurd (omega (arith, some, extent_below suc steps z k b low))
      | no not ↦ elim (dec_lt z (b + k)) [
        | yes high ↦ (omega (arith, not), high)
        | no above ↦ absurd (omega (arith, some, extent_above suc steps z k b (omega (arith, above))))
      ]
    ]

-- the bits of a run, from block b on
pub record Marking (img₀ : List ℕ) (g : Geometry) (start end : ℕ) (img : List ℕ) (b : ℕ) : Type 0 where
  pub most : b ≤ end
  pub long : length img ≡ length img₀
  pub rest : bits_set img g (run_from b (end - b)) 1 ≡ bits_set img₀ g (run_from start (end - start)) 1

module _ {img₀ img : List ℕ} {g : Geometry} {start end b : ℕ} (m : Marking img₀ g start end img b) where
  pub marking_next : b < end → {img' : List ℕ} → img' ≡ bit_set img g b 1 → Marking img₀ g start end img' (b + 1)
  unfolding chain bits_set
  marking_next more {img'} set =
      let one : end - b ≡ suc (end - (b + 1)) = omega (arith, more) in
      let place : b + 1 ≡ suc b = omega arith in
      record {
        most = omega arith;
        long = ap length set ∙ bit_set_long img g b 1 ∙ m.long;
        rest =
            ap (λ (i : List ℕ). bits_set i g (run_from (b + 1) (end - (b + 1))) 1) set
            ∙ ap (λ (z : ℕ). bits_set (bit_set img g b 1) g (run_from z (end - (b + 1))) 1) place
            ∙ sym (ap (λ (k : ℕ). bits_set img g (run_from b k) 1) one) ∙ m.rest;
      }

  pub marking_end : end ≤ b → (count : ℕ) → end ≡ start + count → img ≡ bits_set img₀ g (run_from start count) 1
  unfolding chain bits_set
  marking_end all count is =
      let none : end - b ≡ 0 = omega (arith, all) in
      let whole : end - start ≡ count = omega (arith, is) in
      sym (ap (λ (k : ℕ). bits_set img g (run_from b k) 1) none) ∙ m.rest ∙ ap (λ (k : ℕ). bits_set img₀ g (run_from start k) 1) whole

-- the bits of a file's blocks, `left` of them, from block b on: the links that lead on are as they were
pub record Freeing (img₀ : List ℕ) (g : Geometry) (kind : ℕ) (all img : List ℕ) (left b : ℕ) : Type 0 where
  pub sized : Sized img g
  pub kept : Kept Never (OnMap g) img₀ img g
  pub rest : bits_set img g (chain (next_of img₀ g kind) left b) 0 ≡ all
  pub inside : (z : ℕ) → 0 < count z (chain (next_of img₀ g kind) left b) → (g.bodies.0 ≤ z) × (z < g.blocks)

pub freeing_start : {img : List ℕ} {g : Geometry} (x : Entry) → Sized img g → ((z : ℕ) → 0 < count z (blocks_of img g x) → (g.bodies.0 ≤ z) × (z < g.blocks))
    → Freeing img g x.kind (bits_set img g (chain (next_of img g x.kind) x.length x.first.0) 0) img x.length x.first.0
unfolding blocks_of
freeing_start x sized inside = record { sized = sized; kept = changes_nothing; rest = refl; inside = inside }

module _ {img₀ all img : List ℕ} {g : Geometry} {kind left b : ℕ} (f : Freeing img₀ g kind all img left b) where
  one_less : 0 < left → left ≡ suc (left - 1)
  one_less more = omega arith

  pub freeing_block : 0 < left → (g.bodies.0 ≤ b) × (b < g.blocks)
  unfolding chain
  freeing_block more =
      let here : 0 < count b (chain (next_of img₀ g kind) left b) =
      rw (one_less more) (omega (arith, count_same b b (chain (next_of img₀ g kind) (left - 1) (next_of img₀ g kind b)) refl)) in
      f.inside b here

  module _ (more : 0 < left) {img' : List ℕ} (set : img' ≡ bit_set img g b 0) where
    pub freeing_sized : Sized img' g
    freeing_sized = sized_same f.sized (ap length set ∙ bit_set_long img g b 0)

    also_kept : Kept Never (OnMap g) img₀ img' g
    also_kept = changes_then f.kept (rw set (kept_bit f.sized (λ z on. on) b 0 (freeing_block more).1))

    -- the next block as it was before any bit was made 0
    same_next : next_of img' g kind b ≡ next_of img₀ g kind b
    same_next =
        next_same img₀ img' g kind b
        (link_kept also_kept f.sized.some b (omega (arith, (freeing_block more).0, f.sized.contents)) (λ on. omega (arith, on.0, on.1, (freeing_block more).0)))

    pub freeing_next : (next : ℕ) → next ≡ next_of img' g kind b → {less : ℕ} → less ≡ left - 1 → Freeing img₀ g kind all img' less next
    unfolding chain bits_set
    freeing_next next read fewer =
        let is : next ≡ next_of img₀ g kind b = read ∙ same_next in
        rw fewer (record {
          sized = freeing_sized;
          kept = also_kept;
          rest =
              ap (λ (i : List ℕ). bits_set i g (chain (next_of img₀ g kind) (left - 1) next) 0) set
              ∙ ap (λ (z : ℕ). bits_set (bit_set img g b 0) g (chain (next_of img₀ g kind) (left - 1) z) 0) is
              ∙ sym (ap (λ (k : ℕ). bits_set img g (chain (next_of img₀ g kind) k b) 0) (one_less more)) ∙ f.rest;
          inside = λ z some. f.inside z (rw (one_less more) (omega (
            arith,
            some,
            count_split z b (chain (next_of img₀ g kind) (left - 1) (next_of img₀ g kind b)),
            ap (λ (y : ℕ). count z (chain (next_of img₀ g kind) (left - 1) y)) is,
          )));
        })

  pub freeing_end : left ≤ 0 → img ≡ all
  unfolding chain bits_set
  freeing_end over = let nothing : left ≡ 0 = omega arith in sym (ap (λ (k : ℕ). bits_set img g (chain (next_of img₀ g kind) k b) 0) nothing) ∙ f.rest
