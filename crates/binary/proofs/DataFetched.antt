-- Data bytes fetched part by part: each part is laid behind those before it and added to their sum.
use Prim.Native.Nat.{ℕ, ◌+◌, ◌*◌, ◌-◌, ◌≤◌, ◌<◌, min}
use mathlib.Core.Path.{◌≡◌, refl, sym, ap, ◌∙◌}
use mathlib.Core.List.{List, [], ◌∷◌, ◌++◌, append_assoc}
use native.Mathlib.Nat.{zero-add}
use native.Mathlib.Omega.{arith}
use borrow.Rule.Slice.PartMut.{put_mid}
use lib.ListN.{length, take, drop, get_or, set, length-take, length-drop, drop_of_length-le}
use lib.Seq.{take-add, take_all, drop-drop, drop-cons, sets-eq}
use Rattle.bodies.specs.BlockBytes.{part_of}
use Rattle.bodies.proofs.BlockBytes.{part_written}
use Rattle.stream.specs.declared.Tail.{Tail}
use Rattle.stream.specs.Tail.{rest}
use Rattle.stream.proofs.SpotSteps.{spot_end}
use Rattle.stream.proofs.SpotPayload.{payload_inside, next_bytes}
use Rattle.lines.specs.LineSteps.{laid_all}
use Rattle.lines.proofs.LineStepsLaid.{laid_append, laid_within}
use Rattle.binary.specs.BinaryLine.{sum_of}
use Rattle.binary.specs.Fetching.{Fetched, Fetching}
use Rattle.binary.proofs.BinarySums.{sum_take_add}

-- so many bytes of a slice, as the code cuts them out
abbrev pub cut_out : List ℕ → ℕ → ℕ → List ℕ
cut_out img at here = part_of img at (at + here - at)

cut_is : (img : List ℕ) (at here : ℕ) → cut_out img at here ≡ part_of img at here
cut_is img at here = let less : at + here - at ≡ here = omega arith in ap (λ (n : ℕ). part_of img at n) less

pub fetch_start : {limit : ℕ} {buffer : List ℕ} {behind : Tail} → Fetching (rest behind) limit buffer buffer 0 0 behind
unfolding sum_of laid_all
fetch_start =
    record {
      long = refl;
      few = omega arith;
      there = omega arith;
      summed = refl;
      small = omega arith;
      laid = refl;
      stands = refl;
    }

module _ {s : List ℕ} {limit : ℕ} {buffer after : List ℕ} {count sum : ℕ} {behind : Tail}
    (fetching : Fetching s limit buffer after count sum behind) where
  -- as many as may be
  pub fetch_all : limit ≤ count → Fetched s limit buffer after (record { count = count; sum = sum; behind = behind })
  fetch_all reached =
      let is : count ≡ limit = omega (arith, reached, fetching.few) in
      record {
        counted = omega (arith, is, fetching.there);
        summed = fetching.summed ∙ ap (λ (n : ℕ). sum_of (take n s)) is;
        small = fetching.small;
        laid = fetching.laid ∙ ap (λ (n : ℕ). laid_all (length buffer) buffer 0 (take n s)) is;
        stands = fetching.stands ∙ ap (λ (n : ℕ). drop n s) is;
      }

  -- as many as there are
  pub fetch_end : behind.spot.left ≡ 0 → Fetched s limit buffer after (record { count = count; sum = sum; behind = behind })
  fetch_end none =
      let nothing : length (drop count s) ≡ 0 = ap length (sym fetching.stands ∙ spot_end behind.img.now behind.g behind.spot none) in
      let end : length s ≡ count = omega (arith, nothing, length-drop count s, fetching.there) in
      let all : take count s ≡ take limit s = take_all count s (omega (arith, end)) ∙ sym (take_all limit s (omega (arith, end, fetching.few))) in
      let same : drop count s ≡ drop limit s =
      past count (omega (arith, end)) ∙ sym (past limit (omega (arith, end, fetching.few))) in
      record {
        counted = omega (arith, end, fetching.few);
        summed = fetching.summed ∙ ap sum_of all;
        small = fetching.small;
        laid = fetching.laid ∙ ap (laid_all (length buffer) buffer 0) all;
        stands = fetching.stands ∙ same;
      }
    where
      past : (n : ℕ) → length s ≤ n → drop n s ≡ []
      past n over = drop_of_length-le s over

  -- as much as the payload has and may be taken
  pub part_room : 0 < behind.spot.left → {here : ℕ} → here ≡ min (behind.spot.end - behind.spot.at) (limit - count)
      → (behind.spot.at + here ≤ length behind.img.now) × (behind.spot.at + here ≤ behind.spot.end) × (count + here ≤ limit)
      × (length (cut_out behind.img.now behind.spot.at here) ≡ here) × (count < limit → 0 < here)
  part_room some {here} is =
      let inside = payload_inside behind.standing some in
      let before = behind.standing.before some in (
        omega (arith, is, inside.1, before),
        omega (arith, is, before),
        omega (arith, is, fetching.few),
        omega (arith, is, inside.1, before, ap length (cut_is behind.img.now behind.spot.at here), length-take here (drop behind.spot.at behind.img.now), length-drop behind.spot.at behind.img.now),
        λ more. omega (arith, is, before, more),
      )

  pub part_short : 0 < behind.spot.left → {here : ℕ} → here ≡ min (behind.spot.end - behind.spot.at) (limit - count) → limit ≤ 512
      → length (cut_out behind.img.now behind.spot.at here) ≤ 512
  part_short some is few = omega (arith, part_room some is, is, few)

  -- a part more
  module _ (some : 0 < behind.spot.left) (here : ℕ) (within : behind.spot.at + here ≤ behind.spot.end) where
    part_is : cut_out behind.img.now behind.spot.at here ≡ take here (drop count s)
    part_is = cut_is behind.img.now behind.spot.at here ∙ next_bytes behind.standing some here within ∙ ap (take here) fetching.stands

    pub fetch_next : count + here ≤ limit → length (cut_out behind.img.now behind.spot.at here) ≡ here → {after' : List ℕ} {added : ℕ} (next : Tail) → length after' ≡ length after
        → after' ≡ laid_all (length after) after count (cut_out behind.img.now behind.spot.at here) → added ≡ sum_of (cut_out behind.img.now behind.spot.at here)
        → added ≤ 255 * length (cut_out behind.img.now behind.spot.at here) → rest next ≡ drop here (rest behind)
        → Fetching s limit buffer after' (count + here) (sum + added) next
    fetch_next few long {after'} {added} next kept laid sums bound stands =
        let there : here ≤ length (drop count s) = omega (arith, length-take here (drop count s), ap length part_is, long) in
        let front : length (take count s) ≡ count = omega (arith, length-take count s, fetching.there) in
        record {
          long = kept ∙ fetching.long;
          few = few;
          there = omega (arith, there, length-drop count s, fetching.there);
          summed = omega (arith, fetching.summed, sums, ap sum_of part_is, sum_take_add count here s);
          small = omega (arith, fetching.small, bound, long);
          laid =
              laid
              ∙ ap (λ (n : ℕ). laid_all n after count (cut_out behind.img.now behind.spot.at here)) fetching.long
              ∙ ap (λ (b : List ℕ). laid_all (length buffer) b count (cut_out behind.img.now behind.spot.at here)) fetching.laid
              ∙ ap (λ (n : ℕ). laid_all (length buffer) (laid_all (length buffer) buffer 0 (take count s)) n (cut_out behind.img.now behind.spot.at here))
              (sym (zero-add (length (take count s)) ∙ front))
              ∙ ap (λ (t : List ℕ). laid_all (length buffer) (laid_all (length buffer) buffer 0 (take count s)) (0 + length (take count s)) t) part_is
              ∙ sym (laid_append (length buffer) buffer 0 (take count s) (take here (drop count s)))
              ∙ ap (laid_all (length buffer) buffer 0) (sym (take-add count here s));
          stands = stands ∙ ap (drop here) fetching.stands ∙ drop-drop here count s;
        }

-- in a loop over a part: a byte more is laid
module _ (most : ℕ) (buffer : List ℕ) (count : ℕ) (part : List ℕ) where
  pub laid_none : buffer ≡ laid_all most buffer count (take 0 part)
  unfolding laid_all
  laid_none = refl

  module _ (i : ℕ) {now : List ℕ} (so_far : now ≡ laid_all most buffer count (take i part)) where
    pub laid_next : i < length part → {place : ℕ} → place ≡ min (count + i) (most - 1) → set now place (get_or part i 0) ≡ laid_all most buffer count (take (i + 1) part)
    laid_next inside {place} is =
        let front : length (take i part) ≡ i = omega (arith, length-take i part) in
        sym (ap (laid_all most buffer count) (take-add i 1 part ∙ ap (λ (t : List ℕ). take i part ++ take 1 t) (drop-cons part i 0 inside))
        ∙ laid_append most buffer count (take i part) (get_or part i 0 ∷ [])
        ∙ one (laid_all most buffer count (take i part)) (count + length (take i part)) (get_or part i 0)
        ∙ ap (λ (n : ℕ). set (laid_all most buffer count (take i part)) (min (count + n) (most - 1)) (get_or part i 0)) front
        ∙ ap (λ (n : ℕ). set (laid_all most buffer count (take i part)) n (get_or part i 0)) (sym is)
        ∙ ap (λ (b : List ℕ). set b place (get_or part i 0)) (sym so_far))
      where
        one : (b : List ℕ) (n x : ℕ) → laid_all most b n (x ∷ []) ≡ set b (min n (most - 1)) x
        one b n x = (unfold laid_all in refl)

    pub laid_end : length part ≤ i → now ≡ laid_all most buffer count part
    laid_end over = so_far ∙ ap (laid_all most buffer count) (take_all i part over)

-- a part that the buffer holds
pub laid_copied : (buffer part lent : List ℕ) (count : ℕ) → count + length part ≤ length buffer → lent ≡ part
    → put_mid count (count + length part - count) buffer lent ≡ laid_all (length buffer) buffer count part
laid_copied buffer part lent count fits filled =
    part_written buffer part lent count filled
    ∙ sym (laid_within (length buffer) buffer count part fits ∙ sets-eq part buffer count fits ∙ append_assoc (take count buffer) part (drop (count + length part) buffer))
