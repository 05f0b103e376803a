-- How far the records of a list are made: what is left does the rest. The invariant of the loop over them.
use Prim.Native.Nat.{ℕ, suc, ◌+◌, ◌*◌, ◌<◌, ◌≤◌}
use mathlib.Core.Path.{◌≡◌, refl, sym, ap, ◌∙◌}
use mathlib.Core.List.{List, [], ◌∷◌, ◌++◌}
use native.Mathlib.Omega.{arith}
use native.Mathlib.Numerals.{add-one}
use native.Mathlib.Nat.{add-zero, add-suc, suc-add}
use lib.ListN.{length, drop, get_or, set}
use lib.Seq.{sets, drop-cons, drop-length}
use Rattle.asking.specs.Outcome.{Outcome}
use Rattle.consistency.specs.ConsistentTest.{Opened}
use Rattle.listed.specs.declared.Record.{Record}
use Rattle.listed.specs.Record.{request_in, requests_in}
use Rattle.listed.specs.Listed.{listed_outcome, image_after, answer_bytes, answers_after}
use Rattle.listed.specs.RecordStep.{Fits, Stepped}
use Rattle.listed.proofs.RecordBeside.{bytes_long}
use Rattle.many.specs.ManyStep.{Folded}

-- what is laid in two parts is laid whole
pub sets_append : (xs ys s : List ℕ) (i : ℕ) → sets s i (xs ++ ys) ≡ sets (sets s i xs) (i + length xs) ys
sets_append [] ys s i = rw add-zero
sets_append (x ∷ xs) ys s i = sets_append xs ys (set s i x) (suc i) ∙ rw (add-suc, suc-add)

pub answer_long : (due : Outcome) → length (answer_bytes due) ≡ 32
unfolding answer_bytes
answer_long due = bytes_long due.code (get_or due.numbers 0 0)

-- after i records the image is img, the map is map, and the answers are ans
pub record Made (img₀ map₀ ans₀ : List ℕ) (opened : Opened) (records : List Record) (i : ℕ) (img map ans : List ℕ) : Type 0 where
  pub within : i ≤ length records
  pub image : image_after img (requests_in (drop i records)) ≡ image_after img₀ (requests_in records)
  pub beside : sets ans (32 * i) (answers_after img (requests_in (drop i records))) ≡ sets ans₀ 0 (answers_after img₀ (requests_in records))
  pub fits : Fits img map opened
  pub as_long : length img ≡ length img₀
  pub as_wide : length map ≡ length map₀
  pub as_many : length ans ≡ length ans₀

pub none_made : (img map ans : List ℕ) (opened : Opened) (records : List Record) → Fits img map opened → Made img map ans opened records 0 img map ans
none_made img map ans opened records fits =
    record { within = omega arith; image = refl; beside = refl; fits = fits; as_long = refl; as_wide = refl; as_many = refl }

module _ {img₀ map₀ ans₀ : List ℕ} {opened : Opened} {records : List Record} {i : ℕ} {img map ans : List ℕ} (m : Made img₀ map₀ ans₀ opened records i img map ans) where
  pub one_more_made : (none : Record) (img' map' ans' : List ℕ) → i < length records → Stepped img ans opened i (get_or records i none) img' map' ans'
      → length img' ≡ length img → length map' ≡ length map → length ans' ≡ length ans → Made img₀ map₀ ans₀ opened records (i + 1) img' map' ans'
  one_more_made none img' map' ans' more step as_long as_wide as_many =
      let due = listed_outcome (request_in (get_or records i none)) img in
      let behind = answers_after due.image (requests_in (drop (suc i) records)) in
      let next : 32 * suc i ≡ 32 * i + length (answer_bytes due) = omega (arith, answer_long due) in
      let here = sym (drop-cons records i none more) in
      rw add-one (record {
        within = more;
        image = ap (λ (s : List ℕ). image_after s (requests_in (drop (suc i) records))) step.image
            ∙ ap (λ (rest : List Record). image_after img (requests_in rest)) here
            ∙ m.image;
        beside = (λ j. sets (step.beside j) (next j) (answers_after (step.image j) (requests_in (drop (suc i) records))))
            ∙ sym (sets_append (answer_bytes due) behind ans (32 * i))
            ∙ ap (λ (rest : List Record). sets ans (32 * i) (answers_after img (requests_in rest))) here
            ∙ m.beside;
        fits = step.fits;
        as_long = as_long ∙ m.as_long;
        as_wide = as_wide ∙ m.as_wide;
        as_many = as_many ∙ m.as_many;
      })

pub all_made : {img₀ map₀ ans₀ : List ℕ} {opened : Opened} {records : List Record} {i : ℕ} {img map ans : List ℕ}
    → Made img₀ map₀ ans₀ opened records i img map ans → i ≡ length records → Folded img₀ ans₀ opened records img map ans
all_made {records = records} {i} {img} {map} {ans} m whole =
    let none_left : [] ≡ drop i records = sym (rw whole (drop-length records)) in
    record {
      image = ap (λ (rest : List Record). image_after img (requests_in rest)) none_left ∙ m.image;
      beside = ap (λ (rest : List Record). sets ans (32 * i) (answers_after img (requests_in rest))) none_left ∙ m.beside;
      fits = m.fits;
    }
