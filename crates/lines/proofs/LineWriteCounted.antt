-- What a write counts, as the code does it: the characters through the first terminator, the bytes put for a text part by part, the blocks that become full.
use Prim.Native.Nat.{ℕ, suc, ◌+◌, ◌*◌, ◌/◌, ◌≤◌, ◌<◌}
use mathlib.Core.Path.{◌≡◌, refl, sym, ap, ◌∙◌}
use mathlib.Core.Bool.{Bool, true, false, not, cond, true≢false}
use mathlib.Core.List.{List, [], ◌∷◌, ◌++◌}
use native.Mathlib.Nat.{zero-add, div-eq_of_lt, div-lt_iff_lt-mul}
use native.Mathlib.Omega.{arith}
use lib.Dec.{eqb, ltb}
use lib.ListN.{length, drop, get_or, length-append, drop_of_length-le}
use lib.Seq.{length-take-le}
use borrow.Author.Tests.{eqb-true, ltb-true, ltb-false}
use Rattle.std.specs.Prelude.{Some, None}
use Rattle.std.specs.declared.option.Option.{Option as Answered}
use Rattle.std.specs.List.{position_or_len}
use Rattle.lines.specs.declared.LineMode.{LineMode}
use Rattle.lines.specs.declared.LineMode.TheVariants.{Normal, Special}
use Rattle.lines.specs.LineSteps.{is_special}
use Rattle.lines.specs.TextBytes.{is_terminator, through}
use Rattle.lines.specs.LineWrite.{put_of, put_all, taken_of}
use Rattle.lines.proofs.TextBytes.{through_most}
use Rattle.lines.proofs.LineWrite.{put_bounds, put_append, put_next, put_same}

-- how far the first terminator is, by the code's search for its place: there is one, or none
found_through : (s : List ℕ) → position_or_len is_terminator s < length s → position_or_len is_terminator s + 1 ≡ through is_terminator s
unfolding through
found_through [] inside = absurd (omega arith)
found_through (x ∷ s) inside = by (is_terminator x) (found_through s) inside
  where
    by : (ends : Bool) → (position_or_len is_terminator s < length s → position_or_len is_terminator s + 1 ≡ through is_terminator s)
        → cond (not ends) (1 + position_or_len is_terminator s) 0 < suc (length s)
        → cond (not ends) (1 + position_or_len is_terminator s) 0 + 1 ≡ suc (cond ends 0 (through is_terminator s))
    by true rest inside = omega arith
    by false rest inside = omega (arith, rest (omega arith))

none_through : (s : List ℕ) → length s ≤ position_or_len is_terminator s → length s ≡ through is_terminator s
unfolding through
none_through [] none = omega arith
none_through (x ∷ s) none = by (is_terminator x) (none_through s) none
  where
    by : (ends : Bool) → (length s ≤ position_or_len is_terminator s → length s ≡ through is_terminator s)
        → suc (length s) ≤ cond (not ends) (1 + position_or_len is_terminator s) 0 → suc (length s) ≡ suc (cond ends 0 (through is_terminator s))
    by true rest none = absurd (omega arith)
    by false rest none = omega (arith, rest (omega arith))

-- how many are taken: all in normal mode; in special mode through the first terminator, if there is one
pub taken_whole : (mode : LineMode) (text : List ℕ) {special : Bool} → special ≡ is_special mode → special ≡ false → length text ≡ length (taken_of mode text)
unfolding taken_of
taken_whole Normal text says is = refl
taken_whole Special text says is = absurd (true≢false (sym says ∙ is))

module _ (text : List ℕ) {place : Answered ℕ}
    (found : place ≡ cond (ltb (position_or_len is_terminator text) (length text)) (Some (position_or_len is_terminator text)) None) where
  taken_through : {n : ℕ} → n ≡ through is_terminator text → n ≡ length (taken_of Special text)
  unfolding taken_of
  taken_through is = is ∙ sym (length-take-le (through is_terminator text) text (through_most is_terminator text))

  in_special : (mode : LineMode) {special : Bool} → special ≡ is_special mode → special ≡ true → mode ≡ Special
  in_special Normal says is = absurd (true≢false (sym is ∙ says))
  in_special Special says is = refl

  module _ (mode : LineMode) {special : Bool} (says : special ≡ is_special mode) (chosen : special ≡ true) where
    pub taken_to : {last : ℕ} → place ≡ Some last → last + 1 ≡ length (taken_of mode text)
    taken_to {last} told = rw (in_special mode says chosen) (taken_through (by (ltb (position_or_len is_terminator text) (length text)) refl (sym told ∙ found)))
      where
        by : (inside : Bool) → ltb (position_or_len is_terminator text) (length text) ≡ inside → Some last ≡ cond inside (Some (position_or_len is_terminator text)) None
            → last + 1 ≡ through is_terminator text
        by true inside same =
            let here : last ≡ position_or_len is_terminator text = cc in
            ap (λ (n : ℕ). n + 1) here ∙ found_through text (ltb-true _ _ inside)
        by false inside same = let z : ◌≡◌ {A = ℕ} 0 1 = cc in absurd (omega arith)

    pub taken_all : place ≡ None → length text ≡ length (taken_of mode text)
    taken_all told = rw (in_special mode says chosen) (taken_through (by (ltb (position_or_len is_terminator text) (length text)) refl (sym told ∙ found)))
      where
        by : (inside : Bool) → ltb (position_or_len is_terminator text) (length text) ≡ inside
            → ◌≡◌ {A = Answered ℕ} None (cond inside (Some (position_or_len is_terminator text)) None) → length text ≡ through is_terminator text
        by true inside same = let z : ◌≡◌ {A = ℕ} 0 1 = cc in absurd (omega arith)
        by false inside same = none_through text (ltb-false _ _ inside)

-- the bytes put for the characters before the index, and for those from it on
pub record Counting (text : List ℕ) (i puts : ℕ) : Type 0 where
  pub within : i ≤ length text
  pub comes : length (put_all text) ≡ puts + length (put_all (drop i text))

module _ {text : List ℕ} where
  pub counting_start : Counting text 0 0
  counting_start = record { within = omega arith; comes = sym (zero-add (length (put_all text))) }

  module _ {i puts : ℕ} (counting : Counting text i puts) where
    pub counting_finished : length text ≤ i → puts ≡ length (put_all text)
    unfolding put_all
    counting_finished end =
        let rest : length (put_all (drop i text)) ≡ 0 = rw (drop_of_length-le text end) in
        omega (arith, counting.comes, rest)

    module _ (inside : i < length text) {put : ℕ} (one : put ≡ length (put_of (get_or text i 0))) where
      next_put : length (put_all (drop i text)) ≡ put + length (put_all (drop (i + 1) text))
      next_put =
          ap length (put_next text i inside) ∙ length-append (put_of (get_or text i 0)) (put_all (drop (i + 1) text))
          ∙ ap (λ (n : ℕ). n + length (put_all (drop (i + 1) text))) (sym one)

      pub counting_few : puts + put ≤ 2 * length text
      counting_few = omega (arith, counting.comes, next_put, (put_bounds text).1)

      pub counting_next : Counting text (i + 1) (puts + put)
      counting_next = record { within = omega arith; comes = omega (arith, counting.comes, next_put) }

-- part by part: the bytes put for the parts before, and for those to come
module _ (text rest : List ℕ) (puts : ℕ) (before : length (put_all text) ≡ puts + length (put_all rest)) where
  pub parts_done : length rest ≡ 0 → puts ≡ length (put_all text)
  parts_done none = omega (arith, before, (put_bounds rest).1, none)

  module _ (part behind : List ℕ) (split : rest ≡ part ++ behind) {put : ℕ} (counted : put ≡ length (put_all part)) where
    part_put : length (put_all rest) ≡ put + length (put_all behind)
    part_put =
        ap (λ (s : List ℕ). length (put_all s)) split ∙ ap length (put_append part behind) ∙ length-append (put_all part) (put_all behind)
        ∙ ap (λ (n : ℕ). n + length (put_all behind)) (sym counted)

    pub parts_much : puts + put ≤ 2 * length text
    parts_much = omega (arith, before, part_put, (put_bounds text).1)

    pub parts_on : length (put_all text) ≡ puts + put + length (put_all behind)
    parts_on = omega (arith, before, part_put)

-- a stride for which as many bytes were counted, by the code's test: it can be laid as it stands
pub part_alone : {part : List ℕ} {puts room : ℕ} → length part ≡ 32 → 32 < room → puts ≡ length (put_all part) → eqb puts 32 ≡ true
    → (length part < room) × (put_all part ≡ part)
part_alone {part} {puts} long more counted is = (omega (arith, long), put_same part (sym counted ∙ eqb-true puts 32 is ∙ sym long))

-- two bytes for each character would fill no block
pub none_full : (size filled : ℕ) (text : List ℕ) {most : ℕ} → (filled < size → most ≡ (filled + 2 * length text) / size) → most ≡ 0
    → filled < size → most ≡ (filled + length (put_all text)) / size
none_full size filled text {most} counted none some =
    let fewer : (filled + 2 * length text) / size < 1 = omega (arith, counted some, none) in
    let room : filled + 2 * length text < 1 * size = (div-lt_iff_lt-mul {k = size} (omega (arith, some))).0 fewer in
    none ∙ sym (div-eq_of_lt (omega (arith, room, (put_bounds text).1)))

pub counted_full : (size filled : ℕ) (text : List ℕ) {puts blocks : ℕ} → puts ≡ length (put_all text) → (filled < size → blocks ≡ (filled + puts) / size)
    → filled < size → blocks ≡ (filled + length (put_all text)) / size
counted_full size filled text counted full some = full some ∙ ap (λ (n : ℕ). (filled + n) / size) counted
