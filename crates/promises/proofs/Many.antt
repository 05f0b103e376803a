-- Many requests in one call, document 02 §9: which request a record names, what the call leaves and answers, and that what is demanded of each request holds of each record.
use Prim.Native.Nat.{ℕ, zero, suc, ◌+◌, ◌-◌, ◌/◌, ◌%◌, ◌≤◌, ◌<◌}
use mathlib.Core.Path.{◌≡◌, refl, sym, ap, subst, ◌∙◌}
use mathlib.Core.Logic.{◌↔◌, ◌⊎◌, inl, inr}
use mathlib.Core.List.{List, [], ◌++◌}
use mathlib.Core.Option.{Option, none, some}
use native.Mathlib.Omega.{arith}
use native.Mathlib.Decide.{ℕ_discrete, dec_le}
use lib.ListN.{length, drop, get_or, length-append, length-drop}
use lib.Seq.{get_or-drop, get_or-append-add}
use borrow.Author.Tests.{ltb-false, eqb-true, not-false}
use Rattle.answers.proofs.Refusals.{none_given}
use Rattle.words.specs.Word.{word_at}
use Rattle.pack.specs.declared.Key.{Key}
use Rattle.pack.specs.Consistent.{Consistent}
use Rattle.pack.specs.Untouched.{Untouched}
use Rattle.frame.proofs.UntouchedFramed.{untouched_refl, untouched_compose}
use Rattle.asking.specs.Outcome.{Outcome, Unchanged}
use Rattle.asking.proofs.Outcome.{code_is, settled_success, refusal_keeps}
use Rattle.requests.specs.Request.{Request, outcome, Names}
use Rattle.requests.specs.Contract.{code_and_both, Result, Meets}
use Rattle.requests.proofs.ContractSingle.{result_single}
use Rattle.requests.proofs.RequestConsistent.{stays_consistent}
use Rattle.requests.proofs.RequestUntouched.{who_is_not_named}
use Rattle.listed.specs.Record.{request_in}
use Rattle.listed.specs.Listed.{listed_outcome, answers_after}
use Rattle.listed.proofs.RecordNames as names
use Rattle.many.specs.Layout.{record_at, records_in}
use Rattle.many.specs.Many.{many_rows, requests_of, many, image_behind, record_outcome}
use Rattle.many.proofs.Whole.{answers_long, accepted}
use Rattle.many.proofs.ManyAnswers.{image_next, answer_code, answer_number, answer_others}
use Rattle.promises.specs.GivenWhen.{GivesCode, InTableOrder}
use Rattle.promises.specs.Many.{ManyCases, word_of, NamedBy, alloc, delet, renam, appnd, keep, openo, openi, openu, opene, close, nothing, NotNamed, Answers}
use Rattle.promises.proofs.GivenWhen.{exactly, rung, clear}
use Rattle.promises.proofs.CodesTests.{above, denies, equal_numbers}

-- one number more is ruled out
past : {n : ℕ} (k : ℕ) → k ≤ n → (n ≡ k → ⊥) → suc k ≤ n
past k least other = omega (arith, least, other)

beyond : {n : ℕ} → (1 ≤ n → 10 < n) → (n ≡ 0) ⊎ (10 < n)
beyond {n} more =
    elim (dec_le n 0) [
      | yes low ↦ inl (omega (arith, low))
      | no high ↦ inr (more (omega (arith, high)))
    ]

-- the words of a record name exactly the request that is made
module _ (records : List ℕ) (i : ℕ) where
  abbrev word : ℕ → ℕ
  word = word_of records i

  first_word : word 0 ≡ (record_at records i).request
  unfolding record_at
  first_word = ap (word_at records) (omega arith)

  number : {k : ℕ} → word 0 ≡ k → (record_at records i).request ≡ k
  number is = sym first_word ∙ is

  abbrev request : Option Request
  request = request_in (record_at records i)

  named : NamedBy word request
  unfolding record_at
  named =
      by (ℕ_discrete (word 0) 1) (ℕ_discrete (word 0) 2) (ℕ_discrete (word 0) 3) (ℕ_discrete (word 0) 4) (ℕ_discrete (word 0) 5)
      (ℕ_discrete (word 0) 6) (ℕ_discrete (word 0) 7) (ℕ_discrete (word 0) 8) (ℕ_discrete (word 0) 9) (ℕ_discrete (word 0) 10)
    where
      by : Dec (word 0 ≡ 1) → Dec (word 0 ≡ 2) → Dec (word 0 ≡ 3) → Dec (word 0 ≡ 4) → Dec (word 0 ≡ 5)
          → Dec (word 0 ≡ 6) → Dec (word 0 ≡ 7) → Dec (word 0 ≡ 8) → Dec (word 0 ≡ 9) → Dec (word 0 ≡ 10) → NamedBy word request
      by (yes is) d2 d3 d4 d5 d6 d7 d8 d9 d10 = subst (NamedBy word) (sym (names.names_alloc (record_at records i) (number is))) (alloc is)
      by (no n1) (yes is) d3 d4 d5 d6 d7 d8 d9 d10 = subst (NamedBy word) (sym (names.names_delet (record_at records i) (number is))) (delet is)
      by (no n1) (no n2) (yes is) d4 d5 d6 d7 d8 d9 d10 = subst (NamedBy word) (sym (names.names_renam (record_at records i) (number is))) (renam is)
      by (no n1) (no n2) (no n3) (yes is) d5 d6 d7 d8 d9 d10 = subst (NamedBy word) (sym (names.names_appnd (record_at records i) (number is))) (appnd is)
      by (no n1) (no n2) (no n3) (no n4) (yes is) d6 d7 d8 d9 d10 = subst (NamedBy word) (sym (names.names_keep (record_at records i) (number is))) (keep is)
      by (no n1) (no n2) (no n3) (no n4) (no n5) (yes is) d7 d8 d9 d10 = subst (NamedBy word) (sym (names.names_openo (record_at records i) (number is))) (openo is)
      by (no n1) (no n2) (no n3) (no n4) (no n5) (no n6) (yes is) d8 d9 d10 = subst (NamedBy word) (sym (names.names_openi (record_at records i) (number is))) (openi is)
      by (no n1) (no n2) (no n3) (no n4) (no n5) (no n6) (no n7) (yes is) d9 d10 = subst (NamedBy word) (sym (names.names_openu (record_at records i) (number is))) (openu is)
      by (no n1) (no n2) (no n3) (no n4) (no n5) (no n6) (no n7) (no n8) (yes is) d10 = subst (NamedBy word) (sym (names.names_opene (record_at records i) (number is))) (opene is)
      by (no n1) (no n2) (no n3) (no n4) (no n5) (no n6) (no n7) (no n8) (no n9) (yes is) = subst (NamedBy word) (sym (names.names_close (record_at records i) (number is))) (close is)
      by (no n1) (no n2) (no n3) (no n4) (no n5) (no n6) (no n7) (no n8) (no n9) (no n10) =
          let outside = beyond (λ more. past 10 (past 9 (past 8 (past 7 (past 6 (past 5 (past 4 (past 3 (past 2 (past 1 more n1) n2) n3) n4) n5) n6) n7) n8) n9) n10) in
          subst (NamedBy word) (sym (names.names_none (record_at records i) (subst (λ (n : ℕ). (n ≡ 0) ⊎ (10 < n)) first_word outside))) (nothing outside)

  pub names_iff : (o : Option Request) → NamedBy word o ↔ request ≡ o
  unfolding record_at
  names_iff o = (to o, λ is. subst (NamedBy word) is named)
    where
      to : (o : Option Request) → NamedBy word o → request ≡ o
      to o (alloc is) = names.names_alloc (record_at records i) (number is)
      to o (delet is) = names.names_delet (record_at records i) (number is)
      to o (renam is) = names.names_renam (record_at records i) (number is)
      to o (appnd is) = names.names_appnd (record_at records i) (number is)
      to o (keep is) = names.names_keep (record_at records i) (number is)
      to o (openo is) = names.names_openo (record_at records i) (number is)
      to o (openi is) = names.names_openi (record_at records i) (number is)
      to o (openu is) = names.names_openu (record_at records i) (number is)
      to o (opene is) = names.names_opene (record_at records i) (number is)
      to o (close is) = names.names_close (record_at records i) (number is)
      to o (nothing (inl is)) = names.names_none (record_at records i) (inl (number is))
      to o (nothing (inr more)) = names.names_none (record_at records i) (inr (omega (arith, first_word, more)))

-- what each record comes to: the request that it names, made of the image that those before it left; or 41, whatever that image is, and nothing changes
module _ (img records : List ℕ) where
  pub images_begin : image_behind img records 0 ≡ img
  unfolding records_in
  images_begin = refl

  pub images_go_on : (i : ℕ) → image_behind img records (suc i) ≡ (record_outcome img records i).image
  images_go_on i = image_next img records i

  pub record_known : (i : ℕ) (r : Request) → NamedBy (word_of records i) (some r) → record_outcome img records i ≡ outcome r (image_behind img records i)
  record_known i r is = ap (λ (o : Option Request). listed_outcome o (image_behind img records i)) ((names_iff records i (some r)).0 is)

  pub record_unknown : (i : ℕ) → NamedBy (word_of records i) none
      → record_outcome img records i ≡ record { code = 0o41; numbers = []; image = image_behind img records i; buffer = [] }
  record_unknown i is = ap (λ (o : Option Request). listed_outcome o (image_behind img records i)) ((names_iff records i none).0 is)

  -- demand 2 over the records: a consistent image stays so, and a file that none of them names has its words and bytes
  step_consistent : (o : Option Request) {image : List ℕ} → Consistent image → Consistent (listed_outcome o image).image
  step_consistent none right = right
  step_consistent (some r) right = stays_consistent r right

  pub images_consistent : Consistent img → (count : ℕ) → Consistent (image_behind img records count)
  images_consistent right zero = subst Consistent (sym images_begin) right
  images_consistent right (suc i) = subst Consistent (sym (images_go_on i)) (step_consistent (request_in (record_at records i)) (images_consistent right i))

  step_untouched : (who : Key) (o : Option Request) {image : List ℕ} → Consistent image → ((r : Request) → o ≡ some r → Names r who → ⊥)
      → Untouched who image (listed_outcome o image).image
  step_untouched who none {image} right other = untouched_refl who image
  step_untouched who (some r) right other = who_is_not_named r right who (other r refl)

  pub images_untouched : Consistent img → (who : Key) (count : ℕ) → NotNamed records who count → Untouched who img (image_behind img records count)
  images_untouched right who zero other = subst (Untouched who img) (sym images_begin) (untouched_refl who img)
  images_untouched right who (suc i) other =
      let before = images_untouched right who i (λ j below. other j (omega (arith, below))) in
      let step = step_untouched who (request_in (record_at records i)) (images_consistent right i) (λ r is. other i (omega arith) r ((names_iff records i (some r)).1 is)) in
      subst (Untouched who img) (sym (images_go_on i)) (untouched_compose before step right)

-- the whole call
module _ (img records answers : List ℕ) where
  abbrev made : Outcome
  made = many img records answers

  many_given : GivesCode (ManyCases records answers) made.code
  unfolding many many_rows
  many_given =
      subst (GivesCode (ManyCases records answers)) (sym (code_is (many_rows records answers) img answers _))
      (rung _ 0o41 _ (above 64 (length records / 32)) (λ few.
      rung _ 0o41 _ (denies _ (equal_numbers (length records % 32) 0)) (λ whole. rung _ 0o41 _ (above (length answers) (length records)) (λ room. clear))))

  pub many_code_iff : (code : ℕ) → made.code ≡ code ↔ GivesCode (ManyCases records answers) code
  many_code_iff = exactly (ManyCases records answers) many_given

  pub many_ordered : InTableOrder (ManyCases records answers)
  many_ordered = refl

  -- "all buffers kept"
  pub many_kept : (made.code ≡ 0 → ⊥) → Unchanged made [] img answers
  unfolding many
  many_kept = refusal_keeps (many_rows records answers) img answers _

  -- what is made where it is not refused
  module _ (success : made.code ≡ 0) where
    done : made ≡ record { code = 0; numbers = []; image = image_behind img records (length records / 32); buffer = answers_after img (requests_of records) ++ drop (length records) answers }
    unfolding many
    done = settled_success (many_rows records answers) img answers _ (sym (code_is (many_rows records answers) img answers _) ∙ success)

    pub many_image : made.image ≡ image_behind img records (length records / 32)
    many_image = ap (λ (o : Outcome). o.image) done

    laid : made.buffer ≡ answers_after img (requests_of records) ++ drop (length records) answers
    laid = ap (λ (o : Outcome). o.buffer) done

    pub many_answers : (i : ℕ) → i < length records / 32 → Answers made.buffer i (record_outcome img records i)
    many_answers i below =
        subst (λ (s : List ℕ). Answers s i (record_outcome img records i)) (sym laid)
        (record {
          code = ap (word_at (answers_after img (requests_of records) ++ drop (length records) answers)) (omega arith)
              ∙ answer_code img records (drop (length records) answers) (length records / 32) i below;
          number = answer_number img records (drop (length records) answers) (length records / 32) i below;
          others = λ k low high. answer_others img records (drop (length records) answers) (length records / 32) i below k (omega (arith, low)) high;
        })

    -- the answers end where the records do: the bytes behind them stay, and no byte is added
    tests : (length records % 32 ≡ 0) × (length records ≤ length answers)
    unfolding many many_rows
    tests =
        let never : (zero : ℕ) → 0o41 ≡ zero → zero ≡ 0 → ⊥ = λ zero is none_there. omega (arith, is, none_there) in
        let few = none_given _ 0o41 _ (never 0o41 refl) (sym (code_is (many_rows records answers) img answers _) ∙ success) in
        let whole = none_given _ 0o41 _ (never 0o41 refl) few.1 in
        let room = none_given _ 0o41 _ (never 0o41 refl) whole.1 in
        (eqb-true (length records % 32) 0 (not-false _ whole.0), ltb-false (length answers) (length records) room.0)

    pub many_length : length made.buffer ≡ length answers
    many_length =
        ap length laid
        ∙ length-append (answers_after img (requests_of records)) (drop (length records) answers)
        ∙ omega (arith, answers_long img records tests.0, length-drop (length records) answers, tests.1)

    pub many_behind : (k : ℕ) → length records ≤ k → get_or made.buffer k 0 ≡ get_or answers k 0
    many_behind k behind =
        let long = answers_long img records tests.0 in
        let all = answers_after img (requests_of records) in
        let place : k ≡ length all + (k - length records) = omega (arith, long, behind) in
        let again : length records + (k - length records) ≡ k = omega (arith, behind) in
        ap (λ (s : List ℕ). get_or s k 0) laid
        ∙ ap (λ (n : ℕ). get_or (all ++ drop (length records) answers) n 0) place
        ∙ get_or-append-add all (drop (length records) answers) (k - length records) 0
        ∙ get_or-drop (length records) answers (k - length records) 0
        ∙ ap (λ (n : ℕ). get_or answers n 0) again

  -- refused or not: a consistent image stays so, and a file that no record names is as it was
  pub many_consistent : Consistent img → Consistent made.image
  many_consistent right = by (ℕ_discrete made.code 0)
    where
      by : Dec (made.code ≡ 0) → Consistent made.image
      by (yes success) = subst Consistent (sym (many_image success)) (images_consistent img records right (length records / 32))
      by (no never) = subst Consistent (sym (many_kept never).same_image) right

  pub many_untouched : Consistent img → (who : Key) → NotNamed records who (length records / 32) → Untouched who img made.image
  many_untouched right who other = by (ℕ_discrete made.code 0)
    where
      by : Dec (made.code ≡ 0) → Untouched who img made.image
      by (yes success) = subst (Untouched who img) (sym (many_image success)) (images_untouched img records right who (length records / 32) other)
      by (no never) = subst (Untouched who img) (sym (many_kept never).same_image) (untouched_refl who img)

  -- the contract of `abz_many` allows one result
  pub many_one : (a b : Result code_and_both) → Meets code_and_both img made a → Meets code_and_both img made b → a ≡ b
  many_one = result_single code_and_both img made

-- no records: the call succeeds, and nothing changes
pub many_nothing : (img answers : List ℕ) → many img [] answers ≡ record { code = 0; numbers = []; image = img; buffer = answers }
unfolding many records_in
many_nothing img answers = settled_success (many_rows [] answers) img answers _ (accepted [] answers (omega arith) refl (omega arith))
