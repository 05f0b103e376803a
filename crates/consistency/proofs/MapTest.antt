-- The check of the map: it is true exactly if the map has these bits, and a word is judged by its sixteen bits at once.
use Prim.Native.Nat.{ℕ, suc, zero, ◌+◌, ◌-◌, ◌*◌, ◌/◌, ◌%◌, ◌^◌, ◌≤◌, ◌<◌}
use mathlib.Core.Path.{◌≡◌, refl, sym, ap, subst, ◌∙◌}
use mathlib.Core.Bool.{Bool, true, false, cond, ◌&&◌}
use mathlib.Core.List.{List}
use mathlib.Core.Logic.{◌↔◌}
use native.Mathlib.Omega.{arith}
use native.Mathlib.Nat.{pow-suc, div-div-eq-div-mul}
use native.Mathlib.Decide.{ℕ_discrete, dec_lt}
use lib.Dec.{eqb, ltb}
use lib.ListN.{length}
use borrow.Author.Tests.{eqb-true, eq-eqb, ne_eqb, lt-ltb, le-ltb}
use Rattle.words.specs.Word.{word_at}
use Rattle.answers.proofs.RefusalsTests.{and_left, and_right, and_both, go_on, stop}
use Rattle.pack.specs.declared.Geometry.{Geometry}
use Rattle.pack.specs.GeometrySized.{Sized}
use Rattle.pack.specs.Geometry.{block_words}
use Rattle.pack.specs.Map.{HasMap, map_at, map_bits, map_bit}
use Rattle.pack.specs.MapSays.{MapSays}
use Rattle.pack.proofs.MapSet.{map_room}
use Rattle.consistency.specs.MapTest.{agree_from, map_length, map_test, bits_from, bits_agree}

module _ (img : List ℕ) (g : Geometry) (bit : ℕ → ℕ) where
  agree_means : (b k : ℕ) → agree_from img g bit b k ≡ true → (i : ℕ) → b ≤ i → i < b + k → map_bit img g i ≡ bit i
  unfolding agree_from
  agree_means b zero test i low high = absurd (omega arith)
  agree_means b (suc k) test i low high =
      elim (ℕ_discrete i b) [
        | yes is ↦ subst (λ (z : ℕ). map_bit img g z ≡ bit z) (sym is) (eqb-true (map_bit img g b) (bit b) (and_left (eqb (map_bit img g b) (bit b)) _ test))
        | no other ↦ agree_means (b + 1) k (and_right (eqb (map_bit img g b) (bit b)) _ test) i (omega (arith, other)) (omega arith)
      ]

  agree_tested : (b k : ℕ) → ((i : ℕ) → b ≤ i → i < b + k → map_bit img g i ≡ bit i) → agree_from img g bit b k ≡ true
  unfolding agree_from
  agree_tested b zero same = refl
  agree_tested b (suc k) same =
      and_both (eq-eqb (map_bit img g b) (bit b) (same b (omega arith) (omega arith)))
      (agree_tested (b + 1) k (λ i low high. same i (omega arith) (omega arith)))

  -- where there is a map all its bits are looked at, and else none
  pub length_there : HasMap g → map_length g ≡ map_bits g
  length_there there = ap (λ (t : Bool). cond t (map_bits g) 0) (lt-ltb (g.contents + 1) g.bodies.0 there)

  pub map_test_iff : map_test img g bit ≡ true ↔ MapSays img g bit
  unfolding map_test
  map_test_iff = (
    λ test. record { is = λ there b within. agree_means 0 (map_length g) test b (omega arith) (omega (arith, within, length_there there)) },
    λ says. agree_tested 0 (map_length g) (λ b low high. by says b high (dec_lt (g.contents + 1) g.bodies.0)),
  )
    where
      by : MapSays img g bit → (b : ℕ) → b < 0 + map_length g → Dec (HasMap g) → map_bit img g b ≡ bit b
      by says b high (yes there) = says.is there b (omega (arith, high, length_there there))
      by says b high (no none) =
          let empty : map_length g ≡ 0 = ap (λ (t : Bool). cond t (map_bits g) 0) (le-ltb (g.contents + 1) g.bodies.0 (omega (arith, none))) in
          absurd (omega (arith, high, empty))

  pub test_none : ltb (g.contents + 1) g.bodies.0 ≡ false → true ≡ map_test img g bit
  unfolding map_test agree_from
  test_none none = sym (ap (λ (t : Bool). agree_from img g bit 0 (cond t (map_bits g) 0)) none)

  pub test_there : ltb (g.contents + 1) g.bodies.0 ≡ true → agree_from img g bit 0 (map_bits g) ≡ map_test img g bit
  unfolding map_test
  test_there there = sym (ap (λ (t : Bool). agree_from img g bit 0 (cond t (map_bits g) 0)) there)

  -- first some, then the others
  pub agree_split : (b j k : ℕ) → agree_from img g bit b (j + k) ≡ (agree_from img g bit b j && agree_from img g bit (b + j) k)
  unfolding agree_from
  agree_split b zero k =
      let size : 0 + k ≡ k = omega arith in
      let place : b ≡ b + 0 = omega arith in
      ap (agree_from img g bit b) size ∙ ap (λ (z : ℕ). agree_from img g bit z k) place
  agree_split b (suc j) k =
      let place : b + 1 + j ≡ b + suc j = omega arith in
      let size : suc j + k ≡ suc (j + k) = omega arith in
      ap (agree_from img g bit b) size
      ∙ ap (λ (t : Bool). eqb (map_bit img g b) (bit b) && t)
      (agree_split (b + 1) j k ∙ ap (λ (z : ℕ). agree_from img g bit (b + 1) j && agree_from img g bit z k) place)
      ∙ and_again (eqb (map_bit img g b) (bit b)) (agree_from img g bit (b + 1) j) (agree_from img g bit (b + suc j) k)
    where
      and_again : (a b c : Bool) → (a && (b && c)) ≡ ((a && b) && c)
      and_again true b c = refl
      and_again false b c = refl

-- other names of the same bits
pub test_same : (img : List ℕ) (g : Geometry) (bit bit' : ℕ → ℕ) → ((b : ℕ) → bit b ≡ bit' b) → map_test img g bit ≡ map_test img g bit'
unfolding map_test agree_from
test_same img g bit bit' same = each 0 (map_length g)
  where
    each : (b k : ℕ) → agree_from img g bit b k ≡ agree_from img g bit' b k
    each b zero = refl
    each b (suc k) =
        ap (λ (n : ℕ). eqb (map_bit img g b) n && agree_from img g bit (b + 1) k) (same b)
        ∙ ap (λ (t : Bool). eqb (map_bit img g b) (bit' b) && t) (each (b + 1) k)

-- a number of k bits is the number that these bits make, or one of its bits is another
pub bits_test : (bit : ℕ → ℕ) → ((i : ℕ) → bit i ≤ 1) → (b k word : ℕ) → word < 2 ^ k → eqb word (bits_from bit b k) ≡ bits_agree word bit b k
unfolding bits_from bits_agree
bits_test bit few b zero word small = eq-eqb word 0 (omega (arith, small))
bits_test bit few b (suc k) word small =
    halves word (bit b) (bits_from bit (b + 1) k) (few b)
    ∙ ap (λ (t : Bool). eqb (word % 2) (bit b) && t) (bits_test bit few (b + 1) k (word / 2) (omega (arith, small, pow-suc 2 k)))
  where
    halves : (word low high : ℕ) → low ≤ 1 → eqb word (low + 2 * high) ≡ (eqb (word % 2) low && eqb (word / 2) high)
    halves word low high one = by (ℕ_discrete (word % 2) low) (ℕ_discrete (word / 2) high)
      where
        by : Dec (word % 2 ≡ low) → Dec (word / 2 ≡ high) → eqb word (low + 2 * high) ≡ (eqb (word % 2) low && eqb (word / 2) high)
        by (yes is) (yes same) =
            eq-eqb word (low + 2 * high) (omega (arith, is, same)) ∙ sym (and_both (eq-eqb (word % 2) low is) (eq-eqb (word / 2) high same))
        by (yes is) (no other) =
            ne_eqb word (low + 2 * high) (λ all. other (omega (arith, all, one))) ∙ go_on (eq-eqb (word % 2) low is) (sym (ne_eqb (word / 2) high other))
        by (no not) other =
            ne_eqb word (low + 2 * high) (λ all. not (omega (arith, all, one))) ∙ stop (eqb (word % 2) low) (eqb (word / 2) high) (ne_eqb (word % 2) low not)

-- "block b is bit b mod 16 of word b / 16": the sixteen blocks of word w
module _ (img : List ℕ) (g : Geometry) (bit : ℕ → ℕ) (w : ℕ) where
  agree_rest : (i k : ℕ) → i + k ≡ 16 → agree_from img g bit (16 * w + i) k ≡ bits_agree (word_at img (map_at g + w) / 2 ^ i) bit (16 * w + i) k
  unfolding agree_from bits_agree map_bit
  agree_rest i zero sum = refl
  agree_rest i (suc k) sum =
      ap (λ (t : Bool). t && agree_from img g bit (16 * w + i + 1) k) (ap (λ (n : ℕ). eqb n (bit (16 * w + i))) here)
      ∙ ap (λ (t : Bool). eqb ((word_at img (map_at g + w) / 2 ^ i) % 2) (bit (16 * w + i)) && t) (next ∙ agree_rest (suc i) k (omega (arith, sum)) ∙ back)
    where
      here : map_bit img g (16 * w + i) ≡ (word_at img (map_at g + w) / 2 ^ i) % 2
      here =
          let word : (16 * w + i) / 16 ≡ w = omega (arith, sum) in
          let place : (16 * w + i) % 16 ≡ i = omega (arith, sum) in
          ap (λ (z : ℕ). (word_at img (map_at g + z) / 2 ^ ((16 * w + i) % 16)) % 2) word ∙ ap (λ (z : ℕ). (word_at img (map_at g + w) / 2 ^ z) % 2) place

      next : agree_from img g bit (16 * w + i + 1) k ≡ agree_from img g bit (16 * w + suc i) k
      next = let place : 16 * w + i + 1 ≡ 16 * w + suc i = omega arith in ap (λ (z : ℕ). agree_from img g bit z k) place

      back : bits_agree (word_at img (map_at g + w) / 2 ^ suc i) bit (16 * w + suc i) k ≡ bits_agree ((word_at img (map_at g + w) / 2 ^ i) / 2) bit (16 * w + i + 1) k
      back =
          let place : 16 * w + suc i ≡ 16 * w + i + 1 = omega arith in
          ap (λ (z : ℕ). bits_agree (word_at img (map_at g + w) / z) bit (16 * w + suc i) k) (pow-suc 2 i)
          ∙ ap (λ (z : ℕ). bits_agree z bit (16 * w + suc i) k) (sym (div-div-eq-div-mul (word_at img (map_at g + w)) (2 ^ i) 2))
          ∙ ap (λ (z : ℕ). bits_agree ((word_at img (map_at g + w) / 2 ^ i) / 2) bit z k) place

  pub word_test : ((i : ℕ) → bit i ≤ 1) → {word : ℕ} → word ≡ word_at img (map_at g + w) → word < 65536 → agree_from img g bit (16 * w) 16 ≡ eqb word (bits_from bit (16 * w) 16)
  word_test few {word} read small =
      let start : 16 * w ≡ 16 * w + 0 = omega arith in
      let whole : word_at img (map_at g + w) / 2 ^ 0 ≡ word = omega (arith, read) in
      ap (λ (z : ℕ). agree_from img g bit z 16) start
      ∙ agree_rest 0 16 refl
      ∙ ap (λ (z : ℕ). bits_agree z bit (16 * w + 0) 16) whole ∙ ap (λ (z : ℕ). bits_agree word bit z 16) (sym start)
      ∙ sym (bits_test bit few (16 * w) 16 word small)

-- the words of the map stand in the image
pub words_inside : {img : List ℕ} {g : Geometry} → Sized img g → HasMap g → {words : ℕ} → words ≡ block_words g → (w : ℕ) → w < words
    → 2 * ((g.contents + 1) * words + w) + 1 < length img
words_inside s there many w inside = rw many (map_room s there w (omega (arith, inside, many)))

-- word after word: what is still to be looked at decides
pub record Leads (img : List ℕ) (g : Geometry) (bit : ℕ → ℕ) (w : ℕ) : Type 0 where
  pub within : w ≤ block_words g
  pub rest : agree_from img g bit 0 (map_bits g) ≡ agree_from img g bit (16 * w) (16 * (block_words g - w))

module _ {img : List ℕ} {g : Geometry} {bit : ℕ → ℕ} {w : ℕ} (leads : Leads img g bit w) where
  module _ (few : (i : ℕ) → bit i ≤ 1) {words word made : ℕ} (many : words ≡ block_words g) (inside : w < words)
      (read : word ≡ word_at img ((g.contents + 1) * words + w)) (small : word < 65536) (bits : made ≡ bits_from bit (16 * w) 16) where
    here : agree_from img g bit (16 * w) 16 ≡ eqb word made
    here = word_test img g bit w few (read ∙ ap (λ (n : ℕ). word_at img ((g.contents + 1) * n + w)) many) small ∙ ap (eqb word) (sym bits)

    parted : agree_from img g bit 0 (map_bits g) ≡ (agree_from img g bit (16 * w) 16 && agree_from img g bit (16 * w + 16) (16 * (block_words g - (w + 1))))
    parted =
        let size : 16 * (block_words g - w) ≡ 16 + 16 * (block_words g - (w + 1)) = omega (arith, inside, many) in
        leads.rest ∙ ap (agree_from img g bit (16 * w)) size ∙ agree_split img g bit (16 * w) 16 (16 * (block_words g - (w + 1)))

    pub leads_step : word ≡ made → Leads img g bit (w + 1)
    leads_step same =
        let place : 16 * w + 16 ≡ 16 * (w + 1) = omega arith in
        record {
          within = omega (arith, inside, many);
          rest = parted ∙ sym (go_on (here ∙ eq-eqb word made same) (ap (λ (z : ℕ). agree_from img g bit z (16 * (block_words g - (w + 1)))) (sym place)));
        }

    pub leads_wrong : (word ≡ made → ⊥) → false ≡ agree_from img g bit 0 (map_bits g)
    leads_wrong other = stop (agree_from img g bit (16 * w) 16) _ (here ∙ ne_eqb word made other) ∙ sym parted

  pub leads_end : {words : ℕ} → words ≡ block_words g → words ≤ w → true ≡ agree_from img g bit 0 (map_bits g)
  unfolding agree_from
  leads_end many past =
      let none : 16 * (block_words g - w) ≡ 0 = omega (arith, many, past) in
      sym (leads.rest ∙ ap (agree_from img g bit (16 * w)) none)
