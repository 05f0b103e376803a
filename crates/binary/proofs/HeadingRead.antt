-- A word read byte by byte, the count word judged, and the header: what is read is what the definition judges.
use Prim.Native.Nat.{ℕ, ◌+◌, ◌*◌, ◌-◌, ◌≤◌, ◌<◌}
use mathlib.Core.Path.{◌≡◌, refl, sym, ap, ◌∙◌, subst}
use mathlib.Core.List.{List, [], ◌∷◌}
use native.Mathlib.Omega.{arith}
use lib.ListN.{length, take, drop}
use borrow.Author.Tests.{le-leb, lt-leb, eq-eqb, ne_eqb}
use Rattle.std.specs.Prelude.{Result, Ok, Err}
use Rattle.stream.specs.declared.Tail.{Tail}
use Rattle.stream.specs.Tail.{rest}
use Rattle.stream.proofs.SpotSteps.{spot_end}
use Rattle.binary.specs.declared.heading.Word.{Word}
use Rattle.binary.specs.declared.heading.Heading.{Heading}
use Rattle.binary.specs.declared.heading.HeadingFault.{HeadingFault}
use Rattle.binary.specs.declared.heading.HeadingFault.TheVariants.{Cut, Wrong}
use Rattle.binary.specs.BinaryLine.{sum_of}
use Rattle.binary.specs.BinaryRead.{Header, cut, wrong, counts, count_judged, count_read, header_of}
use Rattle.binary.specs.Heading.{WordStands, too_few, two_bytes, HeadingStands, ends_inside, is_wrong, tells}

-- the byte that was read is the one that a step tells of
pub first_byte : {byte told : ℕ} {s more : List ℕ} → s ≡ told ∷ more → byte ≡ told → s ≡ byte ∷ more
first_byte {more = more} is same = is ∙ ap (λ (x : ℕ). x ∷ more) (sym same)

module _ (tail : Tail) where
  pub word_none : tail.spot.left ≡ 0 → WordStands (rest tail) (Err (Cut 0))
  word_none none = too_few (ap length (spot_end tail.img.now tail.g tail.spot none)) (omega arith)

  pub word_one : {byte : ℕ} (next : Tail) → rest tail ≡ byte ∷ rest next → next.spot.left ≡ 0
      → WordStands (rest tail) (Err (Cut 1))
  word_one {byte} next is none = too_few (ap length (is ∙ ap (λ (t : List ℕ). byte ∷ t) (spot_end next.img.now next.g next.spot none))) (omega arith)

  pub word_two : {low high : ℕ} (next behind : Tail) → rest tail ≡ low ∷ rest next → rest next ≡ high ∷ rest behind
      → low < 256 → high < 256 → WordStands (rest tail) (Ok (record { low = low; high = high; behind = behind }))
  word_two {low} next behind is then l h = two_bytes l h (is ∙ ap (λ (t : List ℕ). low ∷ t) then)

-- the count word
count_few : (s : List ℕ) → length s < 2 → count_read s ≡ cut
unfolding count_read
count_few [] few = refl
count_few (x ∷ []) few = refl
count_few (x ∷ (y ∷ s)) few = absurd (omega arith)

judged_low : (word : ℕ) → word < 4 → count_judged word ≡ wrong
judged_low word low = rw (lt-leb 4 word low)

judged_high : (word : ℕ) → 516 < word → count_judged word ≡ wrong
judged_high word high = rw (le-leb 4 word (omega arith), lt-leb word 516 high)

judged_right : (word : ℕ) → 4 ≤ word → word ≤ 516 → count_judged word ≡ counts (word - 4)
judged_right word low high = rw (le-leb 4 word low, le-leb word 516 high)

module _ {s : List ℕ} {w : Result Word HeadingFault} (stands : WordStands s w) where
  pub count_cut : {fault : HeadingFault} → w ≡ Err fault → HeadingStands s (count_read s) 2 (Err fault)
  count_cut told = by (subst (WordStands s) told stands)
    where
      by : {f : HeadingFault} → WordStands s (Err f) → HeadingStands s (count_read s) 2 (Err f)
      by (too_few long few) = ends_inside (count_few s (omega (arith, long, few))) long few

  module _ {word : Word} (told : w ≡ Ok word) where
    pub two_read : (word.low < 256) × (word.high < 256) × (s ≡ word.low ∷ (word.high ∷ rest word.behind))
    two_read = by (subst (WordStands s) told stands)
      where
        by : {v : Word} → WordStands s (Ok v) → (v.low < 256) × (v.high < 256) × (s ≡ v.low ∷ (v.high ∷ rest v.behind))
        by (two_bytes l h is) = (l, h, is)

    judges : count_read s ≡ count_judged (word.low + 256 * word.high)
    judges = ap count_read two_read.2 ∙ (unfold count_read in refl)

    pub count_low : {count : ℕ} → count ≡ word.low + 256 * word.high → count < 4 → HeadingStands s (count_read s) 2 (Err Wrong)
    count_low {count} is less = is_wrong (judges ∙ ap count_judged (sym is) ∙ judged_low count less)

    pub count_high : {count : ℕ} → count ≡ word.low + 256 * word.high → 516 < count → HeadingStands s (count_read s) 2 (Err Wrong)
    count_high {count} is more = is_wrong (judges ∙ ap count_judged (sym is) ∙ judged_high count more)

    pub count_told : {count many sum : ℕ} → count ≡ word.low + 256 * word.high → 4 ≤ count → count ≤ 516 → many ≡ count - 4 → sum ≡ word.low + word.high
        → HeadingStands s (count_read s) 2 (Ok (record { many = many; sum = sum; behind = word.behind }))
    count_told {count} {many} {sum} is least most left added =
        tells
        (judges ∙ ap count_judged (sym is) ∙ judged_right count least most ∙ ap counts (sym left))
        (omega (arith, left, most))
        (added ∙ sym (ap (λ (t : List ℕ). sum_of (take 2 t)) two_read.2 ∙ two_sum))
        (omega (arith, added, two_read.0, two_read.1))
        (sym (ap (drop 2) two_read.2))
        (omega (arith, ap length two_read.2))
      where
        two_sum : sum_of (take 2 (word.low ∷ (word.high ∷ rest word.behind))) ≡ word.low + word.high
        two_sum = (unfold sum_of in omega arith)

    -- the first word of a header
    pub first_low : (word.low ≡ 1 → ⊥) → HeadingStands s (header_of s) 4 (Err Wrong)
    first_low other = is_wrong (ap header_of two_read.2 ∙ (unfold header_of in rw (ne_eqb word.low 1 other)))

    pub first_high : word.low ≡ 1 → (word.high ≡ 0 → ⊥) → HeadingStands s (header_of s) 4 (Err Wrong)
    first_high one other = is_wrong (ap header_of two_read.2 ∙ (unfold header_of in rw (eq-eqb word.low 1 one, ne_eqb word.high 0 other)))

    module _ (one : word.low ≡ 1) (zero : word.high ≡ 0) {h : Result Heading HeadingFault}
        (counting : HeadingStands (rest word.behind) (count_read (rest word.behind)) 2 h) where
      passes : header_of s ≡ count_read (rest word.behind)
      passes = ap header_of two_read.2 ∙ (unfold header_of in rw (eq-eqb word.low 1 one, eq-eqb word.high 0 zero))

      pub header_few : {there : ℕ} → h ≡ Err (Cut there) → HeadingStands s (header_of s) 4 (Err (Cut (2 + there)))
      header_few told = by (subst (HeadingStands (rest word.behind) (count_read (rest word.behind)) 2) told counting)
        where
          by : {there : ℕ} → HeadingStands (rest word.behind) (count_read (rest word.behind)) 2 (Err (Cut there))
              → HeadingStands s (header_of s) 4 (Err (Cut (2 + there)))
          by {there} (ends_inside is long few) = ends_inside {there = 2 + there} (passes ∙ is) (omega (arith, ap length two_read.2, long)) (omega (arith, few))

      pub header_bad : h ≡ Err Wrong → HeadingStands s (header_of s) 4 (Err Wrong)
      header_bad told = by (subst (HeadingStands (rest word.behind) (count_read (rest word.behind)) 2) told counting)
        where
          by : HeadingStands (rest word.behind) (count_read (rest word.behind)) 2 (Err Wrong) → HeadingStands s (header_of s) 4 (Err Wrong)
          by (is_wrong is) = is_wrong (passes ∙ is)

      pub header_told : {counted : Heading} → h ≡ Ok counted
          → HeadingStands s (header_of s) 4 (Ok (record { many = counted.many; sum = 1 + counted.sum; behind = counted.behind }))
      header_told told = by (subst (HeadingStands (rest word.behind) (count_read (rest word.behind)) 2) told counting)
        where
          four_sum : sum_of (take 4 (word.low ∷ (word.high ∷ rest word.behind))) ≡ 1 + sum_of (take 2 (rest word.behind))
          four_sum = (unfold sum_of in omega (arith, one, zero))

          by : {v : Heading} → HeadingStands (rest word.behind) (count_read (rest word.behind)) 2 (Ok v)
              → HeadingStands s (header_of s) 4 (Ok (record { many = v.many; sum = 1 + v.sum; behind = v.behind }))
          by (tells is few added small stands long) =
              tells
              (passes ∙ is)
              few
              (ap (λ (n : ℕ). 1 + n) added ∙ sym (ap (λ (t : List ℕ). sum_of (take 4 t)) two_read.2 ∙ four_sum))
              (omega (arith, small))
              (stands ∙ sym (ap (drop 4) two_read.2))
              (omega (arith, ap length two_read.2, long))

header_none : (s : List ℕ) → length s < 2 → header_of s ≡ cut
unfolding header_of
header_none [] few = refl
header_none (x ∷ []) few = refl
header_none (x ∷ (y ∷ s)) few = absurd (omega arith)

pub header_cut : {s : List ℕ} {w : Result Word HeadingFault} → WordStands s w → {fault : HeadingFault} → w ≡ Err fault
    → HeadingStands s (header_of s) 4 (Err fault)
header_cut {s} stands told = by (subst (WordStands s) told stands)
  where
    by : {f : HeadingFault} → WordStands s (Err f) → HeadingStands s (header_of s) 4 (Err f)
    by (too_few long few) = ends_inside (header_none s (omega (arith, long, few))) long (omega (arith, few))

-- bounds of what is told
module _ {s : List ℕ} {judged : Header} {size : ℕ} {h : Result Heading HeadingFault} (heads : HeadingStands s judged size h) where
  pub heading_few : {there : ℕ} → h ≡ Err (Cut there) → there < size
  heading_few told = by (subst (HeadingStands s judged size) told heads)
    where
      by : {there : ℕ} → HeadingStands s judged size (Err (Cut there)) → there < size
      by (ends_inside is long few) = few

  pub heading_small : {counted : Heading} → h ≡ Ok counted → counted.sum ≤ 255 * size
  heading_small told = by (subst (HeadingStands s judged size) told heads)
    where
      by : {v : Heading} → HeadingStands s judged size (Ok v) → v.sum ≤ 255 * size
      by (tells is few added small stands long) = small
