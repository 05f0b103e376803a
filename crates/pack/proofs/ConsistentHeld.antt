-- Which blocks can be held: bodies alone. So no block is the system's and held, and the map has a bit for each.
use Prim.Native.Nat.{ℕ, ◌≤◌, ◌<◌}
use mathlib.Core.Path.{◌≡◌, sym, ap, subst, ◌∙◌}
use mathlib.Core.List.{List}
use mathlib.Core.Logic.{inl, inr, ◌↔◌}
use native.Mathlib.Omega.{arith}
use native.Mathlib.Decide.{dec_lt}
use Rattle.pack.specs.declared.Geometry.{Geometry}
use Rattle.pack.specs.Geometry.{geometry_of, slots}
use Rattle.pack.specs.File.{count}
use Rattle.pack.specs.Entry.{blocks_at, RightEntry}
use Rattle.pack.specs.Consistent.{held_in, held, MapAgrees, Consistent}
use Rattle.pack.specs.MapSays.{MapSays, marking}
use Rattle.pack.proofs.FileCount.{count_nil}
use Rattle.pack.proofs.EntryRead.{empty_blocks}
use Rattle.pack.proofs.ConsistentTotal.{total_same, total_each}
use Rattle.pack.proofs.MapSays.{marking_system, marking_body, agrees_says}

-- "bodies are numbered above c and below n"
pub right_bodies : (img : List ℕ) (g : Geometry) (e b : ℕ) → RightEntry img g e → 0 < count b (blocks_at img g e) → (g.bodies.0 ≤ b) × (b < g.blocks)
right_bodies img g e b (inl empty) some = absurd (omega (arith, some, ap (count b) (empty_blocks img g e empty), count_nil b))
right_bodies img g e b (inr used) some = used.bodies b some

module _ (img : List ℕ) (g : Geometry) (right : (e : ℕ) → e < slots g → RightEntry img g e) where
  -- any other block is in no file
  pub outside_free : (b : ℕ) → ((g.bodies.0 ≤ b) × (b < g.blocks) → ⊥) → held_in img g b ≡ 0
  outside_free b outside =
      total_same (λ e. count b (blocks_at img g e)) (λ e. 0) 0 (slots g) (λ e low high. none e (right e (omega arith)))
      ∙ (total_each 0 0 (slots g) ∙ omega arith)
    where
      none : (e : ℕ) → RightEntry img g e → count b (blocks_at img g e) ≡ 0
      none e is =
          elim (dec_lt 0 (count b (blocks_at img g e))) [
            | yes some ↦ absurd (outside (right_bodies img g e b is some))
            | no free ↦ omega (arith, free)
          ]

  pub system_free : (b : ℕ) → b < g.bodies.0 → held_in img g b ≡ 0
  system_free b own = outside_free b (λ body. omega (arith, own, body.0))

  pub beyond_free : (b : ℕ) → g.blocks ≤ b → held_in img g b ≡ 0
  beyond_free b beyond = outside_free b (λ body. omega (arith, beyond, body.1))

  -- where no block is held twice, none is marked twice
  pub marking_few : ((b : ℕ) → held_in img g b ≤ 1) → (b : ℕ) → marking img g b ≤ 1
  marking_few once b =
      elim (dec_lt b g.bodies.0) [
        | yes own ↦ omega (arith, marking_system img g b own, system_free b own)
        | no other ↦ omega (arith, marking_body img g b (omega (arith, other)), once b)
      ]

  pub map_iff : ((b : ℕ) → held_in img g b ≤ 1) → MapAgrees img g ↔ MapSays img g (marking img g)
  map_iff once = agrees_says img g (marking_few once)

-- the map of a consistent image
pub consistent_says : (img : List ℕ) (g : Geometry) → g ≡ geometry_of img → Consistent img → MapSays img g (marking img g)
unfolding held
consistent_says img g stated consistent =
    subst (λ (h : Geometry). MapSays img h (marking img h)) (sym stated)
    ((map_iff img (geometry_of img) consistent.entries consistent.once).0 consistent.map)
