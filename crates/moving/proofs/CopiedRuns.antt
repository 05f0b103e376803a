-- Runs of bytes that are copied part by part; and the two runs of a moved pack.
use Prim.Native.Nat.{ℕ, ◌+◌, ◌-◌, ◌*◌, ◌≤◌, ◌<◌}
use mathlib.Core.Path.{◌≡◌, refl, sym, ap, subst, ◌∙◌}
use mathlib.Core.List.{List, ◌++◌}
use mathlib.Core.Logic.{inl, inr}
use native.Mathlib.Omega.{arith}
use native.Mathlib.Nat.{add-mul}
use native.Mathlib.Decide.{dec_lt}
use lib.ListN.{length, get_or, take, drop, length-drop}
use lib.Seq.{get_or-take, get_or-drop, length-take-le, take_at}
use borrow.Rule.Slice.PartMut.{put_mid}
use Rattle.words.proofs.WordSlices.{part_back}
use Rattle.pack.specs.declared.Geometry.{Geometry}
use Rattle.pack.specs.Geometry.{geometry_of, block_bytes}
use Rattle.pack.proofs.GeometryRoom.{block_room}
use Rattle.frame.proofs.ChangesWritten.{replaced_length, replaced_other, replaced_inside}
use Rattle.moving.specs.declared.Way.{Way}
use Rattle.moving.specs.Ways.{moved}
use Rattle.moving.specs.Moving.{Movable}
use Rattle.moving.specs.MovedParts.{CopiedRun, Copied}
use Rattle.moving.proofs.WayNumbers.{moved_by}
use Rattle.moving.proofs.MovedMeasures.{bodies_high}
use Rattle.moving.proofs.MovedPartsSteps.{body_high}

-- a part goes through a place of its own
pub between_filled : (between from filled : List ℕ) → length from ≤ length between → filled ≡ from
    → take (length from) (filled ++ drop (length from) between) ≡ from
between_filled between from filled fits is =
    ap (λ (l : List ℕ). take (length from) (l ++ drop (length from) between)) is ∙ take_at from (drop (length from) between) (length from) refl

-- the part that is lent of the target is as long as that of the source, and no longer than the place between
pub part_lengths : (src now : List ℕ) (from to size : ℕ) {long : ℕ} → from + size ≤ length src → to + size ≤ length now → size ≤ long
    → (length (take (to + size - to) (drop to now)) ≡ length (take (from + size - from) (drop from src)))
    × (length (take (from + size - from) (drop from src)) ≤ long)
part_lengths src now from to size inside room fits = (there ∙ sym here, omega (arith, here, fits))
  where
    here : length (take (from + size - from) (drop from src)) ≡ size
    here =
        let few : from + size - from ≡ size = omega arith in
        length-take-le (from + size - from) (drop from src) (omega (arith, length-drop from src)) ∙ few

    there : length (take (to + size - to) (drop to now)) ≡ size
    there =
        let few : to + size - to ≡ size = omega arith in
        length-take-le (to + size - to) (drop to now) (omega (arith, length-drop to now)) ∙ few

pub run_none : {src now : List ℕ} {from to : ℕ} → CopiedRun src now now from to 0
run_none = record { long = refl; inside = λ k less. absurd (omega (arith, less)); below = λ k less. refl; above = λ k past. refl }

-- one part more
pub run_part : {src before now part : List ℕ} {from to count : ℕ} (size : ℕ) → CopiedRun src before now from to count → to + count + size ≤ length before
    → from + count + size ≤ length src → part ≡ take (from + count + size - (from + count)) (drop (from + count) src)
    → CopiedRun src before (put_mid (to + count) (to + count + size - (to + count)) now part) from to (count + size)
run_part {src} {before} {now} {part} {from} {to} {count} size run room inside is =
    subst (λ (l : List ℕ). CopiedRun src before l from to (count + size)) (sym laid)
    (record {
      long = replaced_length now part (to + count) fits ∙ run.long;
      inside = λ k less. by k less (dec_lt k count);
      below = λ k less. replaced_other now part (to + count) fits k (inl (omega arith)) ∙ run.below k less;
      above = λ k past. replaced_other now part (to + count) fits k (inr (omega (arith, long))) ∙ run.above k (omega arith);
    })
  where
    taken : part ≡ take size (drop (from + count) src)
    taken = let few : from + count + size - (from + count) ≡ size = omega arith in is ∙ ap (λ (n : ℕ). take n (drop (from + count) src)) few

    long : length part ≡ size
    long = ap length taken ∙ length-take-le size (drop (from + count) src) (omega (arith, length-drop (from + count) src))

    fits : to + count + length part ≤ length now
    fits = omega (arith, long, run.long)

    laid : put_mid (to + count) (to + count + size - (to + count)) now part ≡ take (to + count) now ++ (part ++ drop (to + count + length part) now)
    laid =
        part_back now part (to + count) (to + count + size) (omega arith)
        ∙ ap (λ (n : ℕ). take (to + count) now ++ (part ++ drop (to + count + n) now)) (sym long)

    by : (k : ℕ) → k < count + size → Dec (k < count)
        → get_or (take (to + count) now ++ (part ++ drop (to + count + length part) now)) (to + k) 0 ≡ get_or src (from + k) 0
    by k less (yes early) = replaced_other now part (to + count) fits (to + k) (inl (omega arith)) ∙ run.inside k early
    by k less (no late) =
        let there : to + k ≡ to + count + (k - count) = omega (arith, late) in
        let here : from + count + (k - count) ≡ from + k = omega (arith, late) in
        ap (λ (i : ℕ). get_or (take (to + count) now ++ (part ++ drop (to + count + length part) now)) i 0) there
        ∙ (replaced_inside now part (to + count) fits (k - count) (omega (arith, long, late))
        ∙ (ap (λ (l : List ℕ). get_or l (k - count) 0) taken
        ∙ (get_or-take size (drop (from + count) src) (k - count) 0 (omega (arith, late)) ∙ (get_or-drop (from + count) src (k - count) 0 ∙ ap (λ (i : ℕ). get_or src i 0) here))))

pub run_end : {src before now : List ℕ} {from to count k : ℕ} → CopiedRun src before now from to k → k ≤ count → count ≤ k → CopiedRun src before now from to count
run_end {src} {before} {now} {from} {to} {count} {k} run low high = let is : k ≡ count = omega arith in subst (CopiedRun src before now from to) is run

-- block 0 and the contents where they were, and the bodies where they are to be
pub copied_runs : {way : Way} {src before mid after : List ℕ} {g : Geometry} → g ≡ geometry_of src → Movable way src
    → length before ≡ moved way g.blocks * block_bytes g → CopiedRun src before mid 0 0 ((g.contents + 1) * block_bytes g)
    → CopiedRun src mid after (g.bodies.0 * block_bytes g) (moved way g.bodies.0 * block_bytes g) ((g.blocks - g.bodies.0) * block_bytes g)
    → Copied way src after g
copied_runs {way} {src} {before} {mid} {after} {g} stated movable long first second =
    record {
      long = second.long ∙ (first.long ∙ long);
      contents = λ k less. second.below k (omega (arith, less, body_high stated movable g.bodies.0 (omega arith))) ∙ start k less;
      bodies = λ b low high i small. body b low high i small;
    }
  where
    start : (k : ℕ) → k < (g.contents + 1) * block_bytes g → get_or mid k 0 ≡ get_or src k 0
    start k less = let is : 0 + k ≡ k = omega arith in subst (λ (z : ℕ). get_or mid z 0 ≡ get_or src z 0) is (first.inside k less)

    body : (b : ℕ) → g.bodies.0 ≤ b → b < g.blocks → (i : ℕ) → i < block_bytes g → get_or after (moved way b * block_bytes g + i) 0 ≡ get_or src (b * block_bytes g + i) 0
    body b low high i small =
        let d : ℕ = b - g.bodies.0 in
        let high-body = bodies_high stated movable in
        let up_by : moved way b ≡ moved way g.bodies.0 + d =
        omega (arith, high-body, moved_by way b (omega (arith, high-body, low)), moved_by way g.bodies.0 (omega (arith, high-body))) in
        let here-by : b ≡ g.bodies.0 + d = omega arith in
        let there : moved way g.bodies.0 * block_bytes g + (d * block_bytes g + i) ≡ moved way b * block_bytes g + i =
        omega (arith, ap (λ (z : ℕ). z * block_bytes g) up_by, add-mul (moved way g.bodies.0) d (block_bytes g)) in
        let here : g.bodies.0 * block_bytes g + (d * block_bytes g + i) ≡ b * block_bytes g + i =
        omega (arith, ap (λ (z : ℕ). z * block_bytes g) here-by, add-mul g.bodies.0 d (block_bytes g)) in
        let less : d < g.blocks - g.bodies.0 = omega arith in
        sym (ap (λ (k : ℕ). get_or after k 0) there)
        ∙ (second.inside (d * block_bytes g + i) (omega (arith, small, block_room (block_bytes g) less)) ∙ ap (λ (k : ℕ). get_or src k 0) here)
