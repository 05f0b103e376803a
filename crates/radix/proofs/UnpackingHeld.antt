-- The laws of unpacking without division: what is held after each weight, and that the codes stand in it when all weights are through.
use Prim.Native.Nat.{ℕ, ◌+◌, ◌-◌, ◌*◌, ◌/◌, ◌≤◌, ◌<◌}
use mathlib.Core.Path.{◌≡◌, refl, sym, ◌∙◌}
use native.Mathlib.Omega.{arith}
use native.Mathlib.Decide.{dec_le}
use lib.Bits.{bit_and, and_mask}
use borrow.Author.Tests.{le-leb, lt-leb}
use Rattle.radix.specs.Packing.{first_code, second_code, third_code, upper_end}
use Rattle.radix.specs.Unpacking.{weights, lessened, through}

-- the two ways of one weight
pub reached : (weight bit held : ℕ) → weight ≤ held → held - weight + bit ≡ lessened weight bit held
unfolding lessened
reached weight bit held has = rw (le-leb weight held has) refl

pub missed : (weight bit held : ℕ) → held < weight → held ≡ lessened weight bit held
unfolding lessened
missed weight bit held lacks = rw (lt-leb weight held lacks) refl

-- `code` units are taken from `number`, and what is left, less than `reach` units, is held above `beside` and the code in its place
record Held (number unit place beside reach held : ℕ) : Type 0 where
  code : ℕ
  left : ℕ
  parted : number ≡ unit * code + left
  below : left < unit * reach
  room : beside + place * (code + reach) ≤ 4096
  is : held ≡ 4096 * left + (beside + place * code)

module _ {number unit place beside : ℕ} where
  -- a weight of `step` units halves the reach
  halved : {reach held weight bit : ℕ} (step : ℕ) → reach ≡ step + step → weight ≡ unit * step → bit ≡ place * step → 0 < bit
      → Held number unit place beside reach held → Held number unit place beside step (lessened (4096 * weight) bit held)
  halved {reach} {held} {weight} {bit} step twice weighs placed some h = at (dec_le (unit * step) h.left)
    where
      total : beside + place * (h.code + step) + place * step ≤ 4096
      total = let room : beside + place * (h.code + (step + step)) ≤ 4096 = rw (← twice) h.room in omega arith

      at : Dec (unit * step ≤ h.left) → Held number unit place beside step (lessened (4096 * weight) bit held)
      at (yes has) =
          let is = h.is in
          let less = reached (4096 * weight) bit held (omega arith) in
          record {
            code = h.code + step;
            left = h.left - unit * step;
            parted = let parted = h.parted in omega arith;
            below = let below : h.left < unit * (step + step) = rw (← twice) h.below in omega arith;
            room = omega (arith, total);
            is = sym less ∙ omega arith;
          }
      at (no lacks) =
          let is = h.is in
          let low = total in
          record {
            code = h.code;
            left = h.left;
            parted = h.parted;
            below = omega arith;
            room = omega (arith, total);
            is = sym (missed (4096 * weight) bit held (omega arith)) ∙ is;
          }

  -- the six bits of a code, the highest first
  six_taken : {held : ℕ} → 0 < place → Held number unit place beside 64 held
      → Held number unit place beside 1
      (lessened (4096 * (unit * 1)) (place * 1) (lessened (4096 * (unit * 2)) (place * 2) (lessened (4096 * (unit * 4)) (place * 4)
      (lessened (4096 * (unit * 8)) (place * 8) (lessened (4096 * (unit * 16)) (place * 16) (lessened (4096 * (unit * 32)) (place * 32) held))))))
  six_taken some h =
      halved 1 refl refl refl (omega arith)
      (halved 2 refl refl refl (omega arith)
      (halved 4 refl refl refl (omega arith)
      (halved 8 refl refl refl (omega arith)
      (halved 16 refl refl refl (omega arith)
      (halved 32 refl refl refl (omega arith) h)))))

module _ {word : ℕ} (low : word < upper_end) where
  -- before the first code
  whole : Held word 1600 64 0 64 (4096 * word)
  whole = record { code = 0; left = word; parted = omega arith; below = omega arith; room = omega arith; is = omega arith }

  -- between the first code and the second
  between : {held : ℕ} (first : Held word 1600 64 0 1 held) → Held first.left 40 1 (64 * first.code) 64 held
  between first =
      let parted = first.parted in
      let below = first.below in
      record { code = 0; left = first.left; parted = omega arith; below = omega arith; room = omega arith; is = first.is ∙ omega arith }

  -- after the second code
  three : {held held' : ℕ} (first : Held word 1600 64 0 1 held) → Held first.left 40 1 (64 * first.code) 1 held'
      → held' ≡ 4096 * third_code word + (64 * first_code word + second_code word)
  three first second = second.is ∙ codes first.code second.code second.left first.left first.parted first.below second.parted second.below
    where
      codes : (a b c left : ℕ) → word ≡ 1600 * a + left → left < 1600 * 1 → left ≡ 40 * b + c → c < 40 * 1
          → 4096 * c + (64 * a + 1 * b) ≡ 4096 * third_code word + (64 * first_code word + second_code word)
      codes a b c left parted below parted₂ below₂ =
          let first : first_code word ≡ a = omega arith in
          let second : second_code word ≡ b = omega arith in
          let third : third_code word ≡ c = omega arith in
          rw (first, second, third) (omega arith)

  -- when all weights are through, what is left is the third code, and the first and the second stand below it
  pub codes_held : through weights 2048 (4096 * word) ≡ 4096 * third_code word + (64 * first_code word + second_code word)
  unfolding through
  codes_held = three (six_taken (omega arith) whole) (six_taken (omega arith) (between (six_taken (omega arith) whole)))

-- three codes are read from where they stand
fields : (a b c : ℕ) {held : ℕ} → held ≡ 4096 * c + (64 * a + b) → a < 64 → b < 64 → (bit_and (held / 64) 63 ≡ a) × ((bit_and held 63 ≡ b) × (held / 4096 ≡ c))
fields a b c {held} is ha hb = (and_mask (held / 64) 6 ∙ omega arith, (and_mask held 6 ∙ omega arith, omega arith))

pub codes_read : {word held : ℕ} → word < upper_end → held ≡ through weights 2048 (4096 * word)
    → (bit_and (held / 64) 63 ≡ first_code word) × ((bit_and held 63 ≡ second_code word) × (held / 4096 ≡ third_code word))
codes_read {word} low is = fields (first_code word) (second_code word) (third_code word) (is ∙ codes_held low) (omega arith) (omega arith)
