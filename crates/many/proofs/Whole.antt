-- The whole call: records read from bytes, and what each end of the functions around the walk shows.
use Prim.Native.Nat.{ℕ, zero, suc, ◌+◌, ◌*◌, ◌/◌, ◌%◌, ◌<◌, ◌≤◌}
use mathlib.Core.Path.{◌≡◌, refl, sym, ap, subst, ◌∙◌}
use mathlib.Core.List.{List, [], ◌∷◌, ◌++◌}
use mathlib.Core.Option.{Option}
use native.Mathlib.Nat.{zero-add}
use native.Mathlib.Numerals.{add-one}
use native.Mathlib.Omega.{arith}
use lib.ListN.{length, take, set, length-append}
use lib.Seq.{sets, sets-eq, take-suc-set}
use borrow.Author.Tests.{lt-ltb, le-ltb, eq-eqb, ne_eqb}
use Rattle.answers.specs.Refusals.{first_of}
use Rattle.answers.proofs.Refusals.{refuse, pass, clear}
use Rattle.asking.specs.Outcome.{Outcome}
use Rattle.asking.proofs.Outcome.{settled_refused, settled_success}
use Rattle.consistency.specs.ConsistentTest.{Opened}
use Rattle.requests.specs.Request.{Request}
use Rattle.listed.specs.declared.Record.{Record}
use Rattle.listed.specs.Record.{requests_in}
use Rattle.listed.specs.Listed.{listed_outcome, image_after, answer_bytes, answers_after}
use Rattle.many.specs.Layout.{record_at, records_in}
use Rattle.many.specs.Many.{many_rows, requests_of, many}
use Rattle.many.specs.ManyStep.{Folded}
use Rattle.many.proofs.Folds.{answer_long}

pub none_read : (bytes : List ℕ) → [] ≡ records_in bytes 0
unfolding records_in
none_read bytes = refl

pub one_more_read : (bytes : List ℕ) (list : List Record) (i : ℕ) (r : Record) → i < length list → take i list ≡ records_in bytes i → r ≡ record_at bytes i
    → take (i + 1) (set list i r) ≡ records_in bytes (i + 1)
unfolding records_in
one_more_read bytes list i r within so is = rw add-one (take-suc-set list i r within ∙ (λ j. so j ++ (is j ∷ [])))

pub all_read : (bytes : List ℕ) (list : List Record) {i n : ℕ} → i ≡ n → take i list ≡ records_in bytes i → take n list ≡ records_in bytes n
all_read bytes list last so = subst (λ (k : ℕ). take k list ≡ records_in bytes k) last so

-- so many are read as there are bytes for, and each has an answer
pub records_counted : (bytes : List ℕ) (count : ℕ) → length (records_in bytes count) ≡ count
unfolding records_in
records_counted bytes zero = refl
records_counted bytes (suc count) = length-append (records_in bytes count) (record_at bytes count ∷ []) ∙ omega (arith, records_counted bytes count)

pub requests_counted : (records : List Record) → length (requests_in records) ≡ length records
requests_counted [] = refl
requests_counted (r ∷ records) = ap suc (requests_counted records)

pub answers_counted : (img : List ℕ) (named : List (Option Request)) → length (answers_after img named) ≡ 32 * length named
answers_counted img [] = refl
answers_counted img (one ∷ rest) =
    let due = listed_outcome one img in
    length-append (answer_bytes due) (answers_after due.image rest) ∙ omega (arith, answer_long due, answers_counted due.image rest)

pub answers_long : (img records : List ℕ) → length records % 32 ≡ 0 → length (answers_after img (requests_of records)) ≡ length records
answers_long img records whole =
    omega (
      arith,
      answers_counted img (requests_of records),
      requests_counted (records_in records (length records / 32)),
      records_counted records (length records / 32),
      whole,
    )

-- the records that were read are those of the bytes
pub folded_served : (records : List ℕ) {img img' map' answers answers' : List ℕ} {opened : Opened} {list : List Record}
    → list ≡ records_in records (length records / 32) → Folded img answers opened list img' map' answers'
    → (img' ≡ image_after img (requests_of records)) × (answers' ≡ sets answers 0 (answers_after img (requests_of records)))
folded_served records {img} {answers = answers} is made = (
  made.image ∙ ap (λ (rs : List Record). image_after img (requests_in rs)) is,
  made.beside ∙ ap (λ (rs : List Record). sets answers 0 (answers_after img (requests_in rs))) is,
)

module _ (records answers : List ℕ) where
  pub too_many : 64 < length records / 32 → first_of (many_rows records answers) ≡ 0o41
  unfolding many_rows
  too_many more = refuse _ (lt-ltb 64 (length records / 32) more)

  pub in_part : length records / 32 ≤ 64 → (length records % 32 ≡ 0 → ⊥) → first_of (many_rows records answers) ≡ 0o41
  unfolding many_rows
  in_part few part = pass 0o41 _ (le-ltb 64 (length records / 32) few) ∙ refuse _ (rw (ne_eqb (length records % 32) 0 part))

  pub no_room : length records / 32 ≤ 64 → length records % 32 ≡ 0 → length answers < length records → first_of (many_rows records answers) ≡ 0o41
  unfolding many_rows
  no_room few whole short =
      pass 0o41 _ (le-ltb 64 (length records / 32) few)
      ∙ pass 0o41 _ (rw (eq-eqb (length records % 32) 0 whole))
      ∙ refuse _ (lt-ltb (length answers) (length records) short)

  pub accepted : length records / 32 ≤ 64 → length records % 32 ≡ 0 → length records ≤ length answers → first_of (many_rows records answers) ≡ 0
  unfolding many_rows
  accepted few whole room =
      pass 0o41 _ (le-ltb 64 (length records / 32) few)
      ∙ pass 0o41 _ (rw (eq-eqb (length records % 32) 0 whole))
      ∙ pass 0o41 _ (le-ltb (length answers) (length records) room)
      ∙ clear

-- what a refused call returns, and one that was made
module _ (img records answers : List ℕ) where
  abbrev Returned : ℕ → List ℕ → List ℕ → Type 0
  Returned code img' answers' = (code ≡ (many img records answers).code) × ((img' ≡ (many img records answers).image) × (answers' ≡ (many img records answers).buffer))

  pub refused : first_of (many_rows records answers) ≡ 0o41 → Returned 0o41 img answers
  unfolding many
  refused is =
      let due = sym (settled_refused (many_rows records answers) img answers _ is (λ zero. omega (arith, zero))) in
      (ap (λ (o : Outcome). o.code) due, (ap (λ (o : Outcome). o.image) due, ap (λ (o : Outcome). o.buffer) due))

  pub served : length records / 32 ≤ 64 → length records % 32 ≡ 0 → length records ≤ length answers → {img' answers' : List ℕ}
      → img' ≡ image_after img (requests_of records) → answers' ≡ sets answers 0 (answers_after img (requests_of records)) → Returned 0 img' answers'
  unfolding many
  served few whole room image beside =
      let due = sym (settled_success (many_rows records answers) img answers _ (accepted records answers few whole room)) in
      let long = answers_long img records whole in (
        ap (λ (o : Outcome). o.code) due,
        (
          image ∙ ap (λ (o : Outcome). o.image) due,
          beside ∙ sets-eq (answers_after img (requests_of records)) answers 0 (omega (arith, long, room)) ∙ rw (zero-add, long) (ap (λ (o : Outcome). o.buffer) due),
        ),
      )
