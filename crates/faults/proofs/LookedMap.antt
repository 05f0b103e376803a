-- The look at the map: the bit of a block as it is read and compared with what it must be, and the first that is wrong.
use Prim.Native.Nat.{ℕ, ◌+◌, ◌*◌, ◌/◌, ◌%◌, ◌^◌, ◌≤◌, ◌<◌}
use mathlib.Core.Path.{◌≡◌, sym, ap, subst, ◌∙◌}
use mathlib.Core.Bool.{true, false}
use mathlib.Core.List.{List}
use mathlib.Core.Logic.{inl, inr, ◌↔◌}
use native.Mathlib.Omega.{arith}
use native.Mathlib.Decide.{ℕ_discrete, dec_lt}
use lib.Dec.{eqb, ltb}
use lib.ListN.{length, get_or}
use borrow.Author.Tests.{eqb-true, eq-eqb, ltb-false}
use Rattle.std.specs.Prelude.{Some}
use Rattle.words.specs.Word.{word_at}
use Rattle.pack.specs.declared.Geometry.{Geometry}
use Rattle.pack.specs.GeometrySized.{Sized}
use Rattle.pack.specs.Geometry.{geometry_of, block_words}
use Rattle.pack.specs.Map.{HasMap, map_bits, map_bit}
use Rattle.pack.specs.Consistent.{held}
use Rattle.pack.proofs.MapSet.{map_room}
use Rattle.faults.specs.Rules.{map, Taken, Holds}
use Rattle.faults.specs.Report.{nothing_wrong, Reported}
use Rattle.faults.specs.Looking.{FirstWrong, Sought, AllRight}
use Rattle.faults.specs.Counting.{Counted, none, Due, system, counted, BitRight}
use Rattle.faults.proofs.ReportedParts.{hold_each, all_reported, reported_each}
use Rattle.faults.proofs.RulesEntryRight.{entry_fine}
use Rattle.faults.proofs.ReportConsistent.{map_order, held_none}

-- the word of a bit stands in the image, and the bit is in it
module _ (img : List ℕ) (g : Geometry) (b : ℕ) {words : ℕ} (many : words ≡ block_words g) where
  pub bit_inside : Sized img g → HasMap g → b < map_bits g → 2 * ((g.contents + 1) * words + b / 16) + 1 < length img
  bit_inside s there below = rw many (map_room s there (b / 16) (omega (arith, below)))

  pub bit_read : {word : ℕ} → word ≡ word_at img ((g.contents + 1) * words + b / 16) → (word / 2 ^ (b % 16)) % 2 ≡ map_bit img g b
  unfolding map_bit
  bit_read read =
      ap (λ (n : ℕ). (n / 2 ^ (b % 16)) % 2) (read ∙ ap (λ (n : ℕ). word_at img ((g.contents + 1) * n + b / 16)) many)

-- one bit read and compared
bit_small : (img : List ℕ) (g : Geometry) (b : ℕ) → map_bit img g b ≤ 1
unfolding map_bit
bit_small img g b = omega arith

module _ (img : List ℕ) (g : Geometry) (counts : List ℕ) (b : ℕ) {bit due : ℕ} (read : bit ≡ map_bit img g b) (must : (due ≤ 1) × ((due ≡ 1) ↔ Due counts g b)) where
  pub bit_right : bit ≡ due → BitRight img g counts b
  bit_right same = (λ is. must.1.0 (omega (arith, same, read, is)), λ so. omega (arith, read, same, must.1.1 so))

  pub bit_wrong : (bit ≡ due → ⊥) → BitRight img g counts b → ⊥
  bit_wrong other right = by (ℕ_discrete due 1) (ℕ_discrete (map_bit img g b) 1)
    where
      by : Dec (due ≡ 1) → Dec (map_bit img g b ≡ 1) → ⊥
      by (yes is) one = other (omega (arith, read, right.1 (must.1.0 is), is))
      by (no not) (yes one) = not (must.1.1 (right.0 one))
      by (no not) (no zero) = other (omega (arith, read, zero, not, must.0, bit_small img g b))

  pub bit_iff : (eqb bit due ≡ true) ↔ BitRight img g counts b
  bit_iff = (
    λ same. bit_right (eqb-true bit due same),
    λ right. elim (ℕ_discrete bit due) [ yes same ↦ eq-eqb bit due same | no other ↦ absurd (bit_wrong other right) ],
  )

-- where every entry is right and its blocks are counted
module _ {img : List ℕ} {g : Geometry} (all : AllRight img g) where
  bits_is : map_bits (geometry_of img) ≡ map_bits g
  bits_is = ap map_bits all.measures.is

  -- where there is no map, nothing is asked of it
  pub map_absent : ltb (g.contents + 1) g.bodies.0 ≡ false → Reported img (map_order img) nothing_wrong
  map_absent absent =
      all_reported (hold_each map 0 (map_bits (geometry_of img)) (λ b low high there.
      absurd (omega (arith, ltb-false (g.contents + 1) g.bodies.0 absent, subst HasMap all.measures.is there))))

  module _ {counts : List ℕ} (c : Counted counts none (held img)) where
    counted_held : (b : ℕ) → 0 < get_or counts b 0 → 0 < held img b
    counted_held b some =
        elim (ℕ_discrete (get_or counts b 0) 1) [
          | yes one ↦ omega (arith, c.whole b, (c.told b).one one)
          | no other ↦ omega (arith, c.whole b, (c.told b).more (omega (arith, some, other)))
        ]

    held_counted : (b : ℕ) → 0 < held img b → 0 < get_or counts b 0
    held_counted b some =
        elim (ℕ_discrete (get_or counts b 0) 0) [
          | yes nil ↦ absurd (omega (arith, some, c.whole b, (c.told b).none nil))
          | no other ↦ omega (arith, other)
        ]

    held_inside : (b : ℕ) → 0 < held img b → b < (geometry_of img).blocks
    held_inside b some =
        elim (dec_lt b (geometry_of img).blocks) [
          | yes inside ↦ inside
          | no beyond ↦ absurd (omega (arith, some, held_none img (λ e low. (entry_fine img e (all.entries e low)).right) b (omega (arith, beyond))))
        ]

    due_taken : (b : ℕ) → Due counts (geometry_of img) b → Taken img b
    due_taken b (system own) = inl own
    due_taken b (counted inside some) = inr (counted_held b some)

    taken_due : (b : ℕ) → Taken img b → Due counts (geometry_of img) b
    taken_due b (inl own) = system own
    taken_due b (inr some) = counted (held_inside b some) (held_counted b some)

    module _ (there : HasMap g) where
      there_here : HasMap (geometry_of img)
      there_here = subst HasMap (sym all.measures.is) there

      here : (b : ℕ) → BitRight img g counts b → BitRight img (geometry_of img) counts b
      here b = subst (λ (h : Geometry). BitRight img h counts b) (sym all.measures.is)

      holds : (b : ℕ) → BitRight img g counts b → Holds img (map b)
      holds b right = let r = here b right in λ same. (λ one. due_taken b (r.0 one), λ taken. r.1 (taken_due b taken))

      fails : (b : ℕ) → (BitRight img g counts b → ⊥) → Holds img (map b) → ⊥
      fails b wrong rule =
          let h = rule there_here in
          wrong (subst (λ (k : Geometry). BitRight img k counts b) all.measures.is (λ one. taken_due b (h.0 one), λ due. h.1 (due_taken b due)))

      -- no bit is wrong, or this is the first
      pub map_none : {end : ℕ} → FirstWrong (BitRight img g counts) 0 end end → map_bits g ≤ end → Reported img (map_order img) nothing_wrong
      map_none first all-bits =
          all_reported (hold_each map 0 (map_bits (geometry_of img)) (λ z low high. holds z (first.before z low (omega (arith, high, bits_is, all-bits)))))

      pub map_told : {end b : ℕ} → Sought (BitRight img g counts) 0 end (Some b) → end ≤ map_bits g
          → Reported img (map_order img) (record { rule = 10; entry = 0; word = 0; block = b })
      map_told {end} {b} (first, inside) few =
          reported_each map 0 (map_bits (geometry_of img)) b (omega arith) (omega (arith, inside, bits_is, few))
          (λ z low less. holds z (first.before z low less)) (fails b (first.wrong inside))
