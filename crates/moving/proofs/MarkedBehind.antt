-- The marks that the check of the source leaves, each one place on: with the system's blocks marked too they are the bits of the target's map.
use Prim.Native.Nat.{ℕ, ◌+◌, ◌-◌, ◌≤◌, ◌<◌}
use mathlib.Core.Path.{◌≡◌, refl, sym, ap, ◌∙◌}
use mathlib.Core.Bool.{true}
use mathlib.Core.List.{List, ◌++◌}
use mathlib.Core.Logic.{◌⊎◌, inl, inr}
use native.Mathlib.Omega.{arith}
use native.Mathlib.Decide.{dec_lt}
use lib.Dec.{ltb}
use lib.ListN.{length, get_or, take, drop, replicate, length-drop, length-replicate, get_or-eq_default}
use lib.Seq.{ext_get_or, get_or-take, get_or-drop, length-take-le}
use borrow.Rule.Slice.PartMut.{put_mid}
use borrow.Author.Tests.{lt-ltb, le-ltb}
use Rattle.words.proofs.WordSlices.{part_back}
use Rattle.pack.specs.declared.Geometry.{Geometry}
use Rattle.pack.specs.GeometrySized.{most_blocks}
use Rattle.pack.specs.Geometry.{geometry_of}
use Rattle.pack.specs.File.{one}
use Rattle.pack.specs.Consistent.{held_in, held, Consistent}
use Rattle.pack.proofs.HeaderRules.{header_sized}
use Rattle.pack.proofs.ConsistentHeld.{beyond_free}
use Rattle.frame.proofs.ChangesWritten.{replaced_length, replaced_other, replaced_inside}
use Rattle.frame.proofs.FramedStays.{held_at, system_unheld}
use Rattle.consistency.specs.Walk.{system_set}
use Rattle.consistency.specs.MapTest.{mark_on, Marks}
use Rattle.consistency.specs.ConsistentTest.{consistent}
use Rattle.consistency.specs.Mapped.{Lent, Mapped, MappedIf}
use Rattle.consistency.proofs.WalkSystem.{system_length, system_others, system_own}
use Rattle.consistency.proofs.ConsistentTestIff.{consistent_iff, empty_zero}
use Rattle.consistency.proofs.MappedLent.{lent_most}
use Rattle.moving.specs.declared.Way.{Way}
use Rattle.moving.specs.declared.Way.TheVariants.{Up, Down}
use Rattle.moving.specs.Ways.{back, moved}
use Rattle.moving.specs.MovedParts.{Source, marks, MarkedBehind}
use Rattle.moving.proofs.WayNumbers.{moved_less, back_most}
use Rattle.moving.proofs.MovedMeasures.{source_sized, bodies_high}
use Rattle.moving.proofs.SourceNumbers.{right_source, blocks_small}
use Rattle.moving.proofs.MovedMap.{system_marked, marks_few}

-- a part of a map of zeros is one
zeros_part : (a k n : ℕ) → a + k ≤ n → take {A = ℕ} k (drop a (replicate n 0)) ≡ replicate k 0
zeros_part a k n fits =
    ext_get_or 0 (take {A = ℕ} k (drop a (replicate n 0))) (replicate k 0) (long ∙ sym (length-replicate {A = ℕ} k 0))
    (λ i inside.
    get_or-take k (drop a (replicate n 0)) i 0 (omega (arith, inside, long))
    ∙ (get_or-drop a (replicate n 0) i 0 ∙ (empty_zero n (a + i) ∙ sym (empty_zero k i))))
  where
    long : length (take {A = ℕ} k (drop a (replicate n 0))) ≡ k
    long = length-take-le k (drop a (replicate n 0)) (omega (arith, length-drop {A = ℕ} a (replicate n 0), length-replicate {A = ℕ} n 0))

pub behind_lent : {places img : List ℕ} → places ≡ replicate (most_blocks + 16) 0 → Lent (take most_blocks (drop 1 places)) img
behind_lent zeros =
    lent_most (ap (λ (l : List ℕ). take most_blocks (drop 1 l)) zeros ∙ zeros_part 1 most_blocks (most_blocks + 16) (omega arith))

pub behind_room : {places : List ℕ} → places ≡ replicate (most_blocks + 16) 0 → length places ≡ most_blocks + 16
behind_room zeros = ap length zeros ∙ length-replicate {A = ℕ} (most_blocks + 16) 0

pub behind_long : {places : List ℕ} → places ≡ replicate (most_blocks + 16) 0 → length (take most_blocks (drop 1 places)) ≡ most_blocks
behind_long {places} zeros = length-take-le most_blocks (drop 1 places) (omega (arith, length-drop 1 places, behind_room zeros))

-- the marks come back one place on
module _ (n : ℕ) {places map img : List ℕ} (zeros : places ≡ replicate (n + 16) 0) (size : length map ≡ n) (mapped : Mapped map img) (right : Consistent img) where
  long : length places ≡ n + 16
  long = ap length zeros ∙ length-replicate {A = ℕ} (n + 16) 0

  fits : 1 + length map ≤ length places
  fits = omega (arith, size, long)

  laid : put_mid 1 n places map ≡ take 1 places ++ (map ++ drop (1 + length map) places)
  laid =
      let width : n ≡ 1 + n - 1 = omega arith in
      let end : 1 + n ≡ 1 + length map = omega (arith, size) in
      ap (λ (k : ℕ). put_mid 1 k places map) width ∙ (part_back places map 1 (1 + n) (omega arith) ∙ ap (λ (k : ℕ). take 1 places ++ (map ++ drop k places)) end)

  system : 0 < (geometry_of img).bodies.0
  system = omega (arith, (header_sized img right.header).contents)

  zero_at : (b : ℕ) → get_or places b 0 ≡ 0
  zero_at b = ap (λ (l : List ℕ). get_or l b 0) zeros ∙ empty_zero (n + 16) b

  back_says : (b : ℕ) → get_or (put_mid 1 n places map) b 0 ≡ held img (moved Down b)
  unfolding moved
  back_says b = ap (λ (l : List ℕ). get_or l b 0) laid ∙ by (dec_lt 0 b) (dec_lt b (1 + n))
    where
      outside : get_or places b 0 ≡ held img (b - 1) → (b < 1) ⊎ (1 + length map ≤ b) → get_or (take 1 places ++ (map ++ drop (1 + length map) places)) b 0 ≡ held img (b - 1)
      outside is apart = replaced_other places map 1 fits b apart ∙ is

      by : Dec (0 < b) → Dec (b < 1 + n) → get_or (take 1 places ++ (map ++ drop (1 + length map) places)) b 0 ≡ held img (b - 1)
      by (no none) d =
          let zero : b - 1 ≡ 0 = omega (arith, none) in
          outside (zero_at b ∙ sym (ap (held img) zero ∙ system_unheld img (geometry_of img) refl right 0 system)) (inl (omega (arith, none)))
      by (yes some) (yes inside) =
          let place : b ≡ 1 + (b - 1) = omega arith in
          ap (λ (i : ℕ). get_or (take 1 places ++ (map ++ drop (1 + length map) places)) i 0) place
          ∙ (replaced_inside places map 1 fits (b - 1) (omega (arith, size)) ∙ mapped.says (b - 1))
      by (yes some) (no past) =
          outside (zero_at b ∙ (sym (get_or-eq_default map 0 {n = b - 1} (omega (arith, past, size))) ∙ mapped.says (b - 1))) (inr (omega (arith, past, size)))

  back_long : length (put_mid 1 n places map) ≡ n + 16
  back_long = ap length laid ∙ (replaced_length places map 1 fits ∙ long)

pub behind_marked : {places map img : List ℕ} → places ≡ replicate (most_blocks + 16) 0 → length map ≡ most_blocks → MappedIf map img → consistent img ≡ true
    → MarkedBehind (put_mid 1 most_blocks places map) img
unfolding mark_on
behind_marked {places} {map} {img} zeros size mapped test =
    let right = (consistent_iff img).0 test in
    record { whole = back_long most_blocks zeros size (mapped test) right; says = back_says most_blocks zeros size (mapped test) right }

-- with the system's blocks marked too
module _ {way : Way} {src places : List ℕ} {g : Geometry} (source : Source way src g) (behind : MarkedBehind places src) where
  abbrev there : ℕ
  there = moved way g.bodies.0

  pub there_room : there ≤ length places
  there_room =
      let sized = source_sized source.stated source.movable in
      let less = moved_less way g.bodies.0 g.blocks (omega (arith, bodies_high source.stated source.movable)) sized.bodies in
      omega (arith, less, blocks_small source.stated source.movable, behind.whole)

  module _ (up : way ≡ Up) where
    pub behind_bits : (b : ℕ) → mark_on (system_set places there 1) b ≡ marks way src g b
    unfolding mark_on marks
    behind_bits b = by (dec_lt b there)
      where
        was : get_or places b 0 ≡ held_in src g (moved (back way) b)
        was =
            behind.says b
            ∙ (held_at src g (moved Down b) source.stated ∙ ap (λ (w : Way). held_in src g (moved (back w) b)) (sym up))

        by : Dec (b < there) → get_or (system_set places there 1) b 0 ≡ one (ltb b there) + held_in src g (moved (back way) b)
        by (yes own) =
            omega (
              arith,
              system_own places 1 b there there_room own,
              ap one (lt-ltb b there own),
              system_marked source.stated source.movable b own,
            )
        by (no other) =
            let from : there ≤ b = omega (arith, other) in
            omega (arith, system_others places 1 b there from, ap one (le-ltb b there from), was)

    pub behind_marks : Marks (system_set places there 1) (moved way g.blocks)
    unfolding marks
    behind_marks =
        record {
          few = λ b. omega (arith, behind_bits b, marks_few source.stated source.movable b);
          beyond = beyond;
          whole = omega (arith, system_length places there 1, behind.whole);
          enough = omega (arith, system_length places there 1, behind.whole, blocks_small source.stated source.movable);
        }
      where
        beyond : (b : ℕ) → moved way g.blocks ≤ b → mark_on (system_set places there 1) b ≡ 0
        beyond b past =
            let sized = source_sized source.stated source.movable in
            let high = bodies_high source.stated source.movable in
            let less = moved_less way g.bodies.0 g.blocks (omega (arith, high)) sized.bodies in
            let far = back_most way g.blocks b (omega (arith, high, sized.bodies)) past in
            omega (
              arith,
              behind_bits b,
              ap one (le-ltb b there (omega (arith, less, past))),
              beyond_free src g (right_source source.stated source.movable) (moved (back way) b) far,
            )
