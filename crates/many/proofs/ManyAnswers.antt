-- A list in two parts: the second is made of the image that the first left, and its answers stand behind; so each record has its own answer at its own place.
use Prim.Native.Nat.{ℕ, zero, suc, ◌+◌, ◌*◌, ◌-◌, ◌/◌, ◌%◌, ◌≤◌, ◌<◌}
use mathlib.Core.Path.{◌≡◌, refl, sym, ap, ◌∙◌}
use mathlib.Core.List.{List, [], ◌∷◌, ◌++◌, append_assoc}
use mathlib.Core.Option.{Option}
use native.Mathlib.Omega.{arith}
use native.Mathlib.Decide.{ℕ_discrete}
use lib.ListN.{get_or, replicate}
use Rattle.words.specs.Word.{word_at, word_bytes}
use Rattle.words.proofs.WordSlices.{word_before, word_behind, word_cleared}
use Rattle.asking.specs.Outcome.{Outcome}
use Rattle.requests.specs.Request.{Request}
use Rattle.listed.specs.declared.Record.{Record}
use Rattle.listed.specs.Record.{request_in, requests_in}
use Rattle.listed.specs.Listed.{listed_outcome, image_after, answer_bytes, answers_after}
use Rattle.many.specs.Layout.{record_at, records_in}
use Rattle.many.specs.Many.{image_behind, record_outcome}
use Rattle.many.proofs.Folds.{answer_long}
use Rattle.many.proofs.Whole.{records_counted, requests_counted, answers_counted}

requests_append : (front back : List Record) → requests_in (front ++ back) ≡ requests_in front ++ requests_in back
requests_append [] back = refl
requests_append (r ∷ front) back = ap (λ (named : List (Option Request)). request_in r ∷ named) (requests_append front back)

pub image_append : (img : List ℕ) (front back : List (Option Request)) → image_after img (front ++ back) ≡ image_after (image_after img front) back
image_append img [] back = refl
image_append img (one ∷ front) back = image_append (listed_outcome one img).image front back

answers_append : (img : List ℕ) (front back : List (Option Request)) → answers_after img (front ++ back) ≡ answers_after img front ++ answers_after (image_after img front) back
answers_append img [] back = refl
answers_append img (one ∷ front) back =
    ap (λ (s : List ℕ). answer_bytes (listed_outcome one img) ++ s) (answers_append (listed_outcome one img).image front back)
    ∙ sym (append_assoc (answer_bytes (listed_outcome one img)) (answers_after (listed_outcome one img).image front) _)

-- the records of a list are those before one, that one, and those behind it
records_split : (bytes : List ℕ) (i n : ℕ) → i < n → (more : List Record) × (records_in bytes n ≡ records_in bytes i ++ (record_at bytes i ∷ more))
unfolding records_in
records_split bytes i zero below = absurd (omega (arith, below))
records_split bytes i (suc n) below = by (ℕ_discrete i n) (records_split bytes i n)
  where
    by : Dec (i ≡ n) → (i < n → (more : List Record) × (records_in bytes n ≡ records_in bytes i ++ (record_at bytes i ∷ more)))
        → (more : List Record) × (records_in bytes n ++ (record_at bytes n ∷ []) ≡ records_in bytes i ++ (record_at bytes i ∷ more))
    by (yes same) rest = ([], λ j. records_in bytes (sym same j) ++ (record_at bytes (sym same j) ∷ []))
    by (no other) rest =
        let split = rest (omega (arith, below, other)) in (
          split.0 ++ (record_at bytes n ∷ []),
          ap (λ (rs : List Record). rs ++ (record_at bytes n ∷ [])) split.1 ∙ append_assoc (records_in bytes i) (record_at bytes i ∷ split.0) (record_at bytes n ∷ []),
        )

-- one record more: the image that it leaves of that which those before it left
pub image_next : (img bytes : List ℕ) (i : ℕ) → image_behind img bytes (suc i) ≡ (record_outcome img bytes i).image
unfolding records_in
image_next img bytes i =
    ap (image_after img) (requests_append (records_in bytes i) (record_at bytes i ∷ [])) ∙ image_append img (requests_in (records_in bytes i)) (request_in (record_at bytes i) ∷ [])

-- the words of an answer
module _ (due : Outcome) where
  word_code : word_at (answer_bytes due) 0 ≡ due.code
  unfolding answer_bytes word_bytes word_at
  word_code = omega arith

  word_number : word_at (answer_bytes due) 1 ≡ get_or due.numbers 0 0
  unfolding answer_bytes word_bytes word_at
  word_number = omega arith

  word_other : (k : ℕ) → word_at (answer_bytes due) (2 + k) ≡ 0
  unfolding answer_bytes word_bytes
  word_other k =
      word_behind (due.code % 256 ∷ (due.code / 256 ∷ (get_or due.numbers 0 0 % 256 ∷ (get_or due.numbers 0 0 / 256 ∷ [])))) (replicate 28 0) 2 k refl
      ∙ word_cleared 28 k

module _ (img bytes behind : List ℕ) (count i : ℕ) (below : i < count) where
  abbrev due : Outcome
  due = record_outcome img bytes i

  abbrev all : List ℕ
  all = answers_after img (requests_in (records_in bytes count)) ++ behind

  -- the answers are those before, this one, and what stands behind it
  apart : (rest : List ℕ) × (all ≡ answers_after img (requests_in (records_in bytes i)) ++ (answer_bytes due ++ rest))
  apart =
      let split = records_split bytes i count below in
      let front = requests_in (records_in bytes i) in
      let back = requests_in split.0 in (
        answers_after due.image back ++ behind,
        ap (λ (rs : List Record). answers_after img (requests_in rs) ++ behind) split.1
            ∙ ap (λ (named : List (Option Request)). answers_after img named ++ behind) (requests_append (records_in bytes i) (record_at bytes i ∷ split.0))
            ∙ ap (λ (s : List ℕ). s ++ behind) (answers_append img front (request_in (record_at bytes i) ∷ back))
            ∙ append_assoc (answers_after img front) (answer_bytes due ++ answers_after due.image back) behind
            ∙ ap (λ (s : List ℕ). answers_after img front ++ s) (append_assoc (answer_bytes due) (answers_after due.image back) behind),
      )

  -- so word k of answer i is word k of what the record's answer is
  pub answer_word : (k : ℕ) → k < 16 → word_at all (16 * i + k) ≡ word_at (answer_bytes due) k
  answer_word k inside =
      ap (λ (s : List ℕ). word_at s (16 * i + k)) apart.1
      ∙ word_behind (answers_after img (requests_in (records_in bytes i))) (answer_bytes due ++ apart.0) (16 * i) k
      (omega (arith, answers_counted img (requests_in (records_in bytes i)), requests_counted (records_in bytes i), records_counted bytes i))
      ∙ word_before (answer_bytes due) apart.0 k (omega (arith, answer_long due, inside))

  pub answer_code : word_at all (16 * i) ≡ due.code
  answer_code = ap (word_at all) (omega arith) ∙ answer_word 0 (omega arith) ∙ word_code due

  pub answer_number : word_at all (16 * i + 1) ≡ get_or due.numbers 0 0
  answer_number = answer_word 1 (omega arith) ∙ word_number due

  pub answer_others : (k : ℕ) → 2 ≤ k → k < 16 → word_at all (16 * i + k) ≡ 0
  answer_others k low high = answer_word k high ∙ by_two (k - 2) (omega (arith, low))
    where
      by_two : (rest : ℕ) → k ≡ 2 + rest → word_at (answer_bytes due) k ≡ 0
      by_two rest is = ap (word_at (answer_bytes due)) is ∙ word_other due rest
