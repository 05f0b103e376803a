-- The octal number at a place of a line, digit by digit; and as the readers of a line say it.
use Prim.Native.Nat.{ℕ, suc, ◌+◌, ◌-◌, ◌*◌, ◌≤◌, ◌<◌}
use mathlib.Core.Path.{◌≡◌, sym, ap, ◌∙◌}
use mathlib.Core.List.{List, [], ◌∷◌}
use mathlib.Core.Bool.{Bool, true, false, cond}
use native.Mathlib.Numerals.{add-one}
use Rattle.std.specs.Prelude.{max}
use native.Mathlib.Omega.{arith}
use lib.ListN.{length, take, drop, get_or, length-drop, drop_of_length-le}
use lib.Seq.{drop-cons}
use Rattle.numerals.specs.Digits.{value_of}
use Rattle.command_grammar.specs.LineCharacters.{is_octal}
use Rattle.command_grammar.specs.Reader.{ok, no, from, word, span_all}
use Rattle.command_grammar.proofs.ReaderPlaces.{from_word, from_word_no}
use Rattle.command_cursor.specs.Capped.{capped}
use Rattle.command_cursor.specs.NumberAt.{octals_at, capped_from, NumberAt}
use Rattle.command_cursor.specs.declared.Number.{Number}
use Rattle.command_cursor.proofs.CappedOctal.{capped_within, capped_whole, capped_from_law}

module _ (t : ℕ → Bool) (s : List ℕ) (i : ℕ) where
  none_over : length s ≤ i → span_all t (drop i s) ≡ 0
  unfolding span_all
  none_over over = rw (drop_of_length-le s over)

  pub none_other : i < length s → t (get_or s i 0) ≡ false → span_all t (drop i s) ≡ 0
  unfolding span_all
  none_other inside other = rw (drop-cons s i 0 inside, other)

  one_more : i < length s → t (get_or s i 0) ≡ true → span_all t (drop i s) ≡ suc (span_all t (drop (i + 1) s))
  unfolding span_all
  one_more inside passes = rw (drop-cons s i 0 inside, passes, add-one)

  span_more : i < length s → t (get_or s i 0) ≡ true → i + span_all t (drop i s) ≡ i + 1 + span_all t (drop (i + 1) s)
  span_more inside passes = omega (arith, one_more inside passes)

  within_length : span_all t (drop i s) ≤ length (drop i s)
  unfolding span_all
  within_length = by (drop i s)
    where
      pick : (b : Bool) (n m : ℕ) → n ≤ m → cond b (suc n) 0 ≤ suc m
      pick true n m h = omega arith
      pick false n m h = omega arith

      by : (d : List ℕ) → span_all t d ≤ length d
      by [] = omega arith
      by (x ∷ d) = pick (t x) (span_all t d) (length d) (by d)

-- one digit more
module _ (v : ℕ) (s : List ℕ) (i : ℕ) where
  number_on : i < length s → is_octal (get_or s i 0) ≡ true → {next : ℕ} → next ≡ capped (v * 8 + (get_or s i 0 - 48))
      → capped_from v s i ≡ capped_from next s (i + 1)
  unfolding capped_from
  number_on inside octal is =
      rw (is, one_more is_octal s i inside octal, drop-cons s i 0 inside, add-one)
      (capped_from_law (v * 8 + (get_or s i 0 - 48)) (take (span_all is_octal (drop (suc i) s)) (drop (suc i) s)))

  number_done : v ≤ 256 → span_all is_octal (drop i s) ≡ 0 → capped_from v s i ≡ v
  unfolding capped_from
  number_done few none = rw none (capped_whole v few)

-- the digits that began at `start`, as far as `i`: the number that they write, as far as 256, and what is left
pub record Digits (s : List ℕ) (start v i : ℕ) : Type 0 where
  pub few : v ≤ 256
  pub place : start + span_all is_octal (drop start s) ≡ i + span_all is_octal (drop i s)
  pub same : capped_from 0 s start ≡ capped_from v s i

module _ {s : List ℕ} {start v i : ℕ} (so_far : Digits s start v i) where
  pub digits_on : i < length s → is_octal (get_or s i 0) ≡ true → {next : ℕ} → next ≡ capped (v * 8 + (get_or s i 0 - 48)) → Digits s start next (i + 1)
  digits_on inside octal {next} is =
      record {
        few = capped_within _ is;
        place = so_far.place ∙ span_more is_octal s i inside octal;
        same = so_far.same ∙ number_on v s i inside octal is;
      }

  pub digits_found : span_all is_octal (drop i s) ≡ 0 → NumberAt s start (record { value = v; next = record { at = i } })
  unfolding value_of capped_from
  digits_found none = record { ends = omega (arith, so_far.place, none); is = sym (so_far.same ∙ number_done v s i so_far.few none) }

  -- with the line
  pub digits_end : {end : ℕ} → end ≡ max (length s) start → end ≤ i → i ≤ end → NumberAt s start (record { value = v; next = record { at = end } })
  digits_end {end} is over under =
      let same_place : i ≡ end = omega arith in
      let behind : length s ≤ i = omega arith in
      rw (← same_place) (digits_found (none_over is_octal s i behind))

-- digits, at least so many
module _ {s : List ℕ} {i : ℕ} {x : Number} (n : NumberAt s i x) where
  pub number_up : i ≤ x.next.at
  number_up = omega (arith, n.ends)

  -- within the line, or one that is longer
  pub number_within : (room : ℕ) → length s ≤ room → i ≤ room → x.next.at ≤ room
  number_within room long inside = omega (arith, n.ends, within_length is_octal s i, length-drop i s)

  pub number_read : (least : ℕ) → least ≤ x.next.at - i → from (word least (span_all is_octal)) s i ≡ ok (octals_at s i) x.next.at
  number_read least enough =
      from_word least (span_all is_octal) s i (omega (arith, n.ends)) ∙ ap (ok (octals_at s i)) (sym n.ends)

  pub number_short : (least : ℕ) → x.next.at - i < least → from (word least (span_all is_octal)) s i ≡ no x.next.at
  number_short least few = from_word_no least (span_all is_octal) s i (omega (arith, n.ends)) ∙ ap no (sym n.ends)
