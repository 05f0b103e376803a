-- The copying of a pack, with the numbers as the code has them: what is copied stands in the source and has room in the target, and both runs with the new
-- form and n are a target in which no number is renumbered yet.
use Prim.Native.Nat.{ℕ, ◌+◌, ◌-◌, ◌*◌, ◌≤◌, ◌<◌}
use mathlib.Core.Path.{◌≡◌, sym, ap, subst, ◌∙◌}
use mathlib.Core.List.{List}
use native.Mathlib.Omega.{arith}
use native.Mathlib.Nat.{mul-le-mul, mul-le-mul_right, add-mul}
use lib.ListN.{length}
use Rattle.words.specs.Word.{set_word}
use Rattle.pack.specs.declared.Geometry.{Geometry}
use Rattle.pack.specs.Geometry.{block_bytes}
use Rattle.pack.specs.GeometrySized.{Sized}
use Rattle.moving.specs.declared.Way.{Way}
use Rattle.moving.specs.declared.Way.TheVariants.{Up, Down}
use Rattle.moving.specs.Ways.{to_form, moved}
use Rattle.moving.specs.Moved.{moved_measures}
use Rattle.moving.specs.MovedParts.{Source, CopiedRun, Copied, Partly, Walked}
use Rattle.moving.proofs.WayNumbers.{moved_by}
use Rattle.moving.proofs.MovedMeasures.{bodies_high, source_sized}
use Rattle.moving.proofs.SourceNumbers.{blocks_small}
use Rattle.moving.proofs.MovedPartsSteps.{partly_same, partly_start, total_room}
use Rattle.moving.proofs.MovedPartsWalked.{walked_start}
use Rattle.moving.proofs.CopiedRuns.{copied_runs}

module _ {way : Way} {src : List ℕ} {g h : Geometry} {bytes : ℕ} (source : Source way src g) (there : h ≡ moved_measures way g) (size : bytes ≡ block_bytes g) where
  sized : Sized src g
  sized = source_sized source.stated source.movable

  high : 1 < g.bodies.0
  high = bodies_high source.stated source.movable

  blocks_there : h.blocks ≡ moved way g.blocks
  blocks_there = ap (λ (z : Geometry). z.blocks) there

  bodies_there : h.bodies.0 ≡ moved way g.bodies.0
  bodies_there = ap (λ (z : Geometry). z.bodies.0) there

  -- the bodies end there where the target does
  end_there : h.bodies.0 + (g.blocks - g.bodies.0) ≡ h.blocks
  end_there =
      omega (
        arith,
        blocks_there,
        bodies_there,
        sized.bodies,
        high,
        moved_by way g.bodies.0 (omega (arith, high)),
        moved_by way g.blocks (omega (arith, high, sized.bodies)),
      )

  -- all products are small
  few : (n : ℕ) → n ≤ 4096 → n * bytes ≤ 4096 * 512
  few n low = let short : bytes ≤ 512 = omega (arith, size, sized.few) in mul-le-mul low short

  -- the places of the bodies, here and there, and their bytes
  pub bodies_counted : (g.bodies.0 * bytes ≤ 4096 * 512) × (h.bodies.0 * bytes ≤ 4096 * 512) × ((g.blocks - g.bodies.0) * bytes ≤ 4096 * 512)
  bodies_counted = (
    few g.bodies.0 (omega (arith, sized.bodies, sized.most)),
    few h.bodies.0 (omega (arith, end_there, blocks_there, blocks_small source.stated source.movable)),
    few (g.blocks - g.bodies.0) (omega (arith, sized.most)),
  )

  -- both runs stand in the source and in the target
  module _ {long : ℕ} (is : long ≡ h.blocks * block_bytes g) where
    pub contents_inside : (0 + (g.contents + 1) * bytes ≤ length src) × (0 + (g.contents + 1) * bytes ≤ long)
    contents_inside =
        let below : g.contents + 1 ≤ g.blocks = omega (arith, sized.contents, sized.bodies) in
        let here = mul-le-mul_right (block_bytes g) below in
        let read = ap (λ (n : ℕ). (g.contents + 1) * n) size in (
          omega (arith, here, sized.long, read),
          omega (arith, total_room source.stated source.movable, is, read, ap (λ (n : ℕ). n * block_bytes g) blocks_there),
        )

    pub bodies_inside : {long' : ℕ} → long' ≡ long
        → (g.bodies.0 * bytes + (g.blocks - g.bodies.0) * bytes ≤ length src) × (h.bodies.0 * bytes + (g.blocks - g.bodies.0) * bytes ≤ long')
    bodies_inside same =
        let here : g.bodies.0 + (g.blocks - g.bodies.0) ≡ g.blocks = omega (arith, sized.bodies) in (
          omega
              (arith, add-mul g.bodies.0 (g.blocks - g.bodies.0) bytes, ap (λ (n : ℕ). n * bytes) here, sized.long, ap (λ (n : ℕ). g.blocks * n) size),
          omega
              (arith, same, is, add-mul h.bodies.0 (g.blocks - g.bodies.0) bytes, ap (λ (n : ℕ). n * bytes) end_there, ap (λ (n : ℕ). h.blocks * n) size),
        )

  module _ {target mid after : List ℕ} (long : length target ≡ h.blocks * block_bytes g) (first : CopiedRun src target mid 0 0 ((g.contents + 1) * bytes))
      (second : CopiedRun src mid after (g.bodies.0 * bytes) (h.bodies.0 * bytes) ((g.blocks - g.bodies.0) * bytes)) where
    copied : Copied way src after g
    copied =
        copied_runs source.stated source.movable (long ∙ ap (λ (n : ℕ). n * block_bytes g) blocks_there)
        (subst (λ (n : ℕ). CopiedRun src target mid 0 0 ((g.contents + 1) * n)) size first)
        (subst (λ (n : ℕ). CopiedRun src mid after (g.bodies.0 * block_bytes g) (n * block_bytes g) ((g.blocks - g.bodies.0) * block_bytes g)) bodies_there
        (subst (λ (n : ℕ). CopiedRun src mid after (g.bodies.0 * n) (h.bodies.0 * n) ((g.blocks - g.bodies.0) * n)) size second))

    pub header_inside : 2 * 1 + 1 < length after
    header_inside = omega (arith, copied.long, total_room source.stated source.movable, sized.some)

    pub blocks_word : h.blocks < 65536
    blocks_word = omega (arith, blocks_there, blocks_small source.stated source.movable)

    pub pack_copied : {form : ℕ} {one two : List ℕ} → form ≡ to_form way → one ≡ set_word after 0 form → two ≡ set_word one 1 h.blocks
        → Partly way src two g 0 (Walked src g 0 0)
    pack_copied {form} {one} {two} is sets sets₂ =
        subst (λ (l : List ℕ). Partly way src l g 0 (Walked src g 0 0))
        (sym
        (sets₂
        ∙ (ap (λ (l : List ℕ). set_word l 1 h.blocks) (sets ∙ ap (set_word after 0) is) ∙ ap (set_word (set_word after 0 (to_form way)) 1) blocks_there)))
        (partly_same (λ b. ((λ never. absurd never), walked_start src g b)) (partly_start source.stated source.movable copied))

-- a form is a word
pub form_word : (way : Way) {form : ℕ} → form ≡ to_form way → form < 65536
form_word Up is = omega (arith, is)
form_word Down is = omega (arith, is)
