-- What a slice holds when a part of it is back, its words where it is two put together, and the words of a cleared part.
use Prim.Native.Nat.{ℕ, suc, zero, ◌+◌, ◌*◌, ◌-◌, ◌≤◌, ◌<◌}
use mathlib.Core.Path.{◌≡◌, refl, ap, ◌∙◌}
use mathlib.Core.List.{List, ◌++◌}
use native.Mathlib.Omega.{arith}
use lib.ListN.{length, get_or, take, drop, replicate, get_or-append}
use lib.Seq.{get_or-append-add}
use borrow.Rule.Slice.PartMut.{put_mid, Post-is}
use Rattle.words.specs.Word.{word_at}

-- the bytes from a up to e have come back as `part`
pub part_back : (bytes part : List ℕ) (a e : ℕ) → a ≤ e → put_mid a (e - a) bytes part ≡ take a bytes ++ (part ++ drop e bytes)
part_back bytes part a e order = ap (λ (l : List ℕ). take a bytes ++ (part ++ l)) (Post-is a e bytes order)

-- the words of a list put together: those of its front, and those behind a front of k words
pub word_before : (front back : List ℕ) (i : ℕ) → 2 * i + 1 < length front → word_at (front ++ back) i ≡ word_at front i
unfolding word_at
word_before front back i inside =
    omega (arith, get_or-append front back 0 (2 * i) (omega arith), get_or-append front back 0 (2 * i + 1) inside)

pub word_behind : (front back : List ℕ) (k i : ℕ) → length front ≡ 2 * k → word_at (front ++ back) (k + i) ≡ word_at back i
unfolding word_at
word_behind front back k i long =
    let low : 2 * (k + i) ≡ length front + 2 * i = omega arith in
    let high : 2 * (k + i) + 1 ≡ length front + (2 * i + 1) = omega arith in
    omega (
      arith,
      ap (λ (j : ℕ). get_or (front ++ back) j 0) low ∙ get_or-append-add front back (2 * i) 0,
      ap (λ (j : ℕ). get_or (front ++ back) j 0) high ∙ get_or-append-add front back (2 * i + 1) 0,
    )

byte_cleared : (n i : ℕ) → ◌≡◌ {A = ℕ} (get_or (replicate n 0) i 0) 0
byte_cleared zero i = refl
byte_cleared (suc n) zero = refl
byte_cleared (suc n) (suc i) = byte_cleared n i

pub word_cleared : (n i : ℕ) → word_at (replicate n 0) i ≡ 0
unfolding word_at
word_cleared n i = omega (arith, byte_cleared n (2 * i), byte_cleared n (2 * i + 1))
