-- Bits made 1 or 0 on the map of an image: which bits it then has, and that no other word changes.
use Prim.Native.Nat.{ℕ, ◌+◌, ◌*◌, ◌/◌, ◌%◌, ◌^◌, ◌≤◌, ◌<◌}
use mathlib.Core.Path.{◌≡◌, refl, sym, ap, subst, ◌∙◌}
use mathlib.Core.Bool.{false}
use mathlib.Core.List.{List, [], ◌∷◌}
use native.Mathlib.Omega.{arith}
use native.Mathlib.Decide.{ℕ_discrete, dec_lt}
use lib.Dec.{ltb}
use lib.ListN.{length}
use borrow.Author.Tests.{lt-ltb, le-ltb}
use Rattle.words.specs.Word.{word_at, set_word}
use Rattle.words.proofs.Word.{length_set_word, word_set_same, word_set_other}
use Rattle.pack.specs.declared.Geometry.{Geometry}
use Rattle.pack.specs.GeometrySized.{Sized}
use Rattle.pack.specs.Geometry.{block_words}
use Rattle.pack.specs.File.{count}
use Rattle.pack.specs.Map.{HasMap, map_at, map_bit, with_bit, bit_set, bits_set}
use Rattle.pack.proofs.GeometryRoom.{block_room, sized_same}
use Rattle.pack.proofs.FileCount.{count_nil, count_same, count_other, count_more}
use Rattle.pack.proofs.MapBits.{bit_own, bit_other}

-- where there is a map a word of it is written, and else nothing
pub bit_set_there : (img : List ℕ) (g : Geometry) (b v : ℕ) → HasMap g
    → bit_set img g b v ≡ set_word img (map_at g + b / 16) (with_bit (word_at img (map_at g + b / 16)) (b % 16) v)
unfolding bit_set
bit_set_there img g b v there = rw (lt-ltb (g.contents + 1) g.bodies.0 there)

pub bit_set_none : (img : List ℕ) (g : Geometry) (b v : ℕ) → ltb (g.contents + 1) g.bodies.0 ≡ false → bit_set img g b v ≡ img
unfolding bit_set
bit_set_none img g b v none = rw none

-- either of the two
pub bit_set_by : (P : List ℕ → Type 0) (img : List ℕ) (g : Geometry) (b v : ℕ) → P img
    → (HasMap g → P (set_word img (map_at g + b / 16) (with_bit (word_at img (map_at g + b / 16)) (b % 16) v))) → P (bit_set img g b v)
bit_set_by P img g b v before then = by (dec_lt (g.contents + 1) g.bodies.0)
  where
    by : Dec (HasMap g) → P (bit_set img g b v)
    by (yes there) = subst P (sym (bit_set_there img g b v there)) (then there)
    by (no none) = subst P (sym (bit_set_none img g b v (le-ltb (g.contents + 1) g.bodies.0 (omega (arith, none))))) before

pub bit_set_long : (img : List ℕ) (g : Geometry) (b v : ℕ) → length (bit_set img g b v) ≡ length img
bit_set_long img g b v = bit_set_by (λ (img' : List ℕ). length img' ≡ length img) img g b v refl (λ there. length_set_word img _ _)

pub bits_set_long : (bs img : List ℕ) (g : Geometry) (v : ℕ) → length (bits_set img g bs v) ≡ length img
unfolding bits_set
bits_set_long [] img g v = refl
bits_set_long (b ∷ bs) img g v = bits_set_long bs (bit_set img g b v) g v ∙ bit_set_long img g b v

pub bits_set_none : (bs img : List ℕ) (g : Geometry) (v : ℕ) → ltb (g.contents + 1) g.bodies.0 ≡ false → bits_set img g bs v ≡ img
unfolding bits_set
bits_set_none [] img g v none = refl
bits_set_none (b ∷ bs) img g v none = bits_set_none bs (bit_set img g b v) g v none ∙ bit_set_none img g b v none

-- the words of the map stand in the image
pub map_room : {img : List ℕ} {g : Geometry} → Sized img g → HasMap g → (w : ℕ) → w < block_words g → 2 * (map_at g + w) + 1 < length img
map_room {img} {g} s there w within =
    let inside : g.contents + 1 < g.blocks = omega (arith, there, s.bodies) in
    omega (arith, s.long, within, block_room g.segments.0 inside)

-- the same as the code counts it
module _ {img : List ℕ} {g : Geometry} (s : Sized img g) (there : HasMap g) {words : ℕ} (many : words ≡ block_words g) where
  pub map_inside : {b : ℕ} → b < g.blocks → 2 * ((g.contents + 1) * words + b / 16) + 1 < length img
  map_inside {b} below = rw many (map_room s there (b / 16) (omega (arith, below, s.map)))

  pub map_written : (b v : ℕ) {word new : ℕ} → word ≡ word_at img ((g.contents + 1) * words + b / 16) → new ≡ with_bit word (b % 16) v
      → set_word img ((g.contents + 1) * words + b / 16) new ≡ bit_set img g b v
  map_written b v read made =
      ap (set_word img ((g.contents + 1) * words + b / 16)) (made ∙ ap (λ (w : ℕ). with_bit w (b % 16) v) read) ∙ (rw many (sym (bit_set_there img g b v there)))

-- the bit that was made v, and any other
module _ {img : List ℕ} {g : Geometry} (s : Sized img g) (b v : ℕ) (below : b < g.blocks) (small : v ≤ 1) where
  pub bit_set_own : HasMap g → map_bit (bit_set img g b v) g b ≡ v
  unfolding map_bit
  bit_set_own there =
      ap (λ (img' : List ℕ). (word_at img' (map_at g + b / 16) / 2 ^ (b % 16)) % 2) (bit_set_there img g b v there)
      ∙ ap (λ (word : ℕ). (word / 2 ^ (b % 16)) % 2) (word_set_same img (map_at g + b / 16) _ (map_room s there (b / 16) (omega (arith, s.map))))
      ∙ bit_own (word_at img (map_at g + b / 16)) (b % 16) v small

  pub bit_set_other : (z : ℕ) → (z ≡ b → ⊥) → map_bit (bit_set img g b v) g z ≡ map_bit img g z
  unfolding map_bit
  bit_set_other z other =
      bit_set_by (λ (img' : List ℕ). (word_at img' (map_at g + z / 16) / 2 ^ (z % 16)) % 2 ≡ (word_at img (map_at g + z / 16) / 2 ^ (z % 16)) % 2) img g b v refl
      (λ there. by there (ℕ_discrete (z / 16) (b / 16)))
    where
      new : ℕ
      new = with_bit (word_at img (map_at g + b / 16)) (b % 16) v

      by : HasMap g → Dec (z / 16 ≡ b / 16)
          → (word_at (set_word img (map_at g + b / 16) new) (map_at g + z / 16) / 2 ^ (z % 16)) % 2 ≡ (word_at img (map_at g + z / 16) / 2 ^ (z % 16)) % 2
      by there (yes same) =
          ap (λ (w : ℕ). (word_at (set_word img (map_at g + b / 16) new) (map_at g + w) / 2 ^ (z % 16)) % 2) same
          ∙ ap (λ (word : ℕ). (word / 2 ^ (z % 16)) % 2) (word_set_same img (map_at g + b / 16) new (map_room s there (b / 16) (omega (arith, s.map))))
          ∙ bit_other (word_at img (map_at g + b / 16)) (b % 16) (z % 16) v small (λ is. other (omega (arith, is, same)))
          ∙ ap (λ (w : ℕ). (word_at img (map_at g + w) / 2 ^ (z % 16)) % 2) (sym same)
      by there (no apart) =
          ap (λ (word : ℕ). (word / 2 ^ (z % 16)) % 2) (word_set_other img (map_at g + b / 16) (map_at g + z / 16) new (λ is. apart (omega (arith, is))))

-- the block that alone was counted
last_one : (z b : ℕ) (bs : List ℕ) → 0 < count z (b ∷ bs) → (0 < count z bs → ⊥) → z ≡ b
last_one z b bs some none =
    elim (ℕ_discrete z b) [
      | yes is ↦ is
      | no other ↦ absurd (omega (arith, some, none, count_other z b bs other))
    ]

-- the same of several blocks: those among them, and all others
module _ {g : Geometry} (v : ℕ) (small : v ≤ 1) where
  sized_set : (img : List ℕ) → Sized img g → (b : ℕ) → Sized (bit_set img g b v) g
  sized_set img s b = sized_same s (bit_set_long img g b v)

  pub bits_set_out : (bs img : List ℕ) → Sized img g → ((b : ℕ) → 0 < count b bs → b < g.blocks) → (z : ℕ) → count z bs ≡ 0
      → map_bit (bits_set img g bs v) g z ≡ map_bit img g z
  unfolding bits_set
  bits_set_out [] img s below z none = refl
  bits_set_out (b ∷ bs) img s below z none =
      bits_set_out bs (bit_set img g b v) (sized_set img s b) (λ i some. below i (omega (arith, some, count_more i b bs))) z (omega (arith, none, count_more z b bs))
      ∙ bit_set_other s b v (below b (omega (arith, count_same b b bs refl))) small z (λ is. omega (arith, none, count_same z b bs is))

  pub bits_set_in : (bs img : List ℕ) → Sized img g → ((b : ℕ) → 0 < count b bs → b < g.blocks) → HasMap g → (z : ℕ) → 0 < count z bs
      → map_bit (bits_set img g bs v) g z ≡ v
  unfolding bits_set
  bits_set_in [] img s below there z some = absurd (omega (arith, some, count_nil z))
  bits_set_in (b ∷ bs) img s below there z some =
      elim (dec_lt 0 (count z bs)) [
        | yes more ↦ bits_set_in bs (bit_set img g b v) (sized_set img s b) (λ i has. below i (omega (arith, has, count_more i b bs))) there z more
        | no none ↦
            let here : z ≡ b = last_one z b bs some none in
            bits_set_out bs (bit_set img g b v) (sized_set img s b) (λ i has. below i (omega (arith, has, count_more i b bs))) z (omega (arith, none))
            ∙ ap (map_bit (bit_set img g b v) g) here ∙ bit_set_own s b v (below b (omega (arith, count_same b b bs refl))) small there
      ]
