-- RENAM: its rows stand in the table's order, and what the code answers at each of its returns.
use Prim.Native.Nat.{ℕ, ◌≤◌, ◌<◌}
use mathlib.Core.Path.{◌≡◌, refl, sym, ap, ◌∙◌}
use mathlib.Core.Bool.{Bool, true, false, not}
use mathlib.Core.List.{List, [], ◌∷◌, ◌++◌}
use mathlib.Core.Option.{Option, none, some}
use native.Mathlib.Omega.{arith}
use lib.Dec.{ltb}
use borrow.Author.Tests.{ltb-false, not-false}
use Rattle.answers.specs.Refusals.{Row, row, first_of, table_order, in_order}
use Rattle.answers.specs.Missing.{missing, or_else, value_in}
use Rattle.answers.specs.Stage.{Verdict}
use Rattle.answers.specs.Stage.{Clear, Refused as Stopped}
use Rattle.answers.specs.Stage.{verdict_of}
use Rattle.answers.proofs.Refusals.{refuse, pass, clear, none_given, behind_refused, behind_clear}
use Rattle.answers.proofs.Stage.{makes_clear, makes_refused, told_clear, told_refused}
use Rattle.answers.proofs.Missing.{present, absent}
use Rattle.pack.specs.declared.Geometry.{Geometry}
use Rattle.pack.specs.declared.Entry.{Entry}
use Rattle.pack.specs.declared.Key.{Key}
use Rattle.pack.specs.Geometry.{geometry_of, slots}
use Rattle.pack.specs.GeometrySized.{Sized}
use Rattle.pack.specs.Entry.{entry_of}
use Rattle.pack.specs.Consistent.{Consistent}
use Rattle.consistency.specs.ConsistentTest.{Opened}
use Rattle.std.specs.Prelude.{Some, None}
use Rattle.std.specs.declared.option.Option.{Option as Answered}
use Rattle.consistency.specs.ConsistentTest.{consistent, opened_of}
use Rattle.consistency.proofs.ConsistentTestIff.{consistent_iff, opened_good, opened_bad}
use Rattle.consistency.proofs.ConsistentTestOpened.{consistent_good}
use Rattle.asking.specs.declared.Right.TheVariants.{Write}
use Rattle.asking.specs.AskedStage.{Asked}
use Rattle.asking.specs.AskedStage.{File, Refused}
use Rattle.asking.specs.KeysTest.{legal_key, find_from, found}
use Rattle.asking.specs.AskedStage.{stage_of}
use Rattle.pack.specs.EntryWords.{set_entry_word, set_entry_words}
use Rattle.asking.proofs.Keys.{found_keyed}
use Rattle.asking.proofs.AskedStage.{found_at, stage_refuses, stage_gives, stage_is_file, writing_refused, writing_done, number_found, file_found_law}
use Rattle.asking.proofs.KeysLegal.{legal_words}
use Rattle.directory.specs.PermitRows.{permit_rows}
use Rattle.directory.specs.RenamRows.{name_rows, old_rows, renam_rows}
use Rattle.directory.specs.Renam.{renamed, renam}
use Rattle.directory.proofs.PermitStage.{permitted_refused, permitted_stopped, permitted_passed}
use Rattle.asking.proofs.AskedCleared.{FileCleared, found_cleared, given_cleared}

pub renam_ordered : (img : List ℕ) (old new : Key) (protect caller : ℕ) → in_order table_order 0 (renam_rows img old new protect caller) ≡ true
unfolding renam_rows
renam_ordered img old new protect caller = refl

-- both names and an argument
module _ (old new : Key) (wrong : Bool) where
  abbrev rows : List Row
  rows = name_rows old new wrong

  module _ (first : Bool) (is-first : first ≡ legal_key old) where
    pub old_illegal : not first ≡ true → Stopped 0o15 ≡ verdict_of rows
    old_illegal illegal = makes_refused rows (sym (refuse _ (ap not (sym is-first) ∙ illegal))) (λ zero. omega (arith, zero))

    module _ (legal : not first ≡ false) (second : Bool) (is-second : second ≡ legal_key new) where
      behind_old : (more : List Row) → first_of (row (not (legal_key old)) 0o15 ∷ more) ≡ first_of more
      behind_old more = pass _ more (ap not (sym is-first) ∙ legal)

      pub new_illegal : not second ≡ true → Stopped 0o15 ≡ verdict_of rows
      new_illegal illegal = makes_refused rows (sym (behind_old _ ∙ refuse _ (ap not (sym is-second) ∙ illegal))) (λ zero. omega (arith, zero))

      module _ (legal₂ : not second ≡ false) where
        behind_new : first_of rows ≡ first_of (row wrong 0o41 ∷ [])
        behind_new = behind_old _ ∙ pass _ _ (ap not (sym is-second) ∙ legal₂)

        pub argument_wrong : wrong ≡ true → Stopped 0o41 ≡ verdict_of rows
        argument_wrong is = makes_refused rows (sym (behind_new ∙ refuse _ is)) (λ zero. omega (arith, zero))

        pub names_clear : wrong ≡ false → Clear ≡ verdict_of rows
        names_clear is = makes_clear rows (sym (behind_new ∙ (pass _ _ is ∙ clear)))

-- what the calls of the next stage ask
pub pack_sized : (img : List ℕ) (opened : Opened) (g : Geometry) → opened ≡ opened_of img → opened ≡ Some g → Sized img g
pack_sized img opened g is good = (opened_good img g (sym is ∙ good)).2

pub entry_inside : (img : List ℕ) (g : Geometry) (key : Key) (at : Answered ℕ) (e : ℕ) → value_in at ≡ find_from img g key 0 (slots g) → at ≡ Some e → e < slots g
entry_inside img g key at e is told = omega (arith, (found_keyed img g key 0 (slots g) e (sym is ∙ ap value_in told)).high)

-- the file of the old name
module _ (img : List ℕ) (old new : Key) (wrong : Bool) where
  abbrev Refuses : ℕ → Type 0
  Refuses code = Refused code ≡ stage_of (old_rows img old new wrong) img old

  refuses : {code : ℕ} → first_of (old_rows img old new wrong) ≡ code → (code ≡ 0 → ⊥) → Refuses code
  refuses first never = stage_refuses (old_rows img old new wrong) img old (record { first = first; not_zero = never })

  module _ (opened : Opened) (is_opened : opened ≡ opened_of img) where
    pub inconsistent : opened ≡ None → Refuses 0o40
    inconsistent bad = refuses (refuse _ (ap not (opened_bad img (sym is_opened ∙ bad)))) (λ zero. omega (arith, zero))

    module _ (g : Geometry) (good : opened ≡ Some g) (verdict : Verdict) (judged : verdict ≡ verdict_of (name_rows old new wrong)) where
      abbrev sought : List Row
      sought = row (missing (found img old)) 0o2 ∷ (row (not (missing (found img new))) 0o2 ∷ [])

      behind_40 : first_of (old_rows img old new wrong) ≡ first_of (name_rows old new wrong ++ sought)
      behind_40 = pass _ _ (ap not (sym (consistent_good img opened g is_opened good)))

      pub names_wrong : (code : ℕ) → verdict ≡ Stopped code → Refuses code
      names_wrong code told =
          let r = told_refused (name_rows old new wrong) verdict judged code told in
          refuses (behind_40 ∙ behind_refused sought (name_rows old new wrong) r.first r.never) r.never

      module _ (right : verdict ≡ Clear) (at_old : Answered ℕ) (is-old : value_in at_old ≡ find_from img g old 0 (slots g)) where
        behind_names : first_of (old_rows img old new wrong) ≡ first_of sought
        behind_names = behind_40 ∙ behind_clear sought (name_rows old new wrong) refl (told_clear (name_rows old new wrong) verdict judged right)

        measures : geometry_of img ≡ g
        measures = (opened_good img g (sym is_opened ∙ good)).1

        pub old_absent : at_old ≡ None → Refuses 0o2
        old_absent nothing =
            refuses (behind_names ∙ refuse _ (ap missing (found_at img old g _ measures is-old ∙ ap value_in nothing))) (λ zero. omega (arith, zero))

        module _ (e : ℕ) (at : at_old ≡ Some e) (at_new : Answered ℕ) (is-new : value_in at_new ≡ find_from img g new 0 (slots g)) where
          there : found img old ≡ some e
          there = found_at img old g _ measures is-old ∙ ap value_in at

          behind_old_name : first_of (old_rows img old new wrong) ≡ first_of (row (not (missing (value_in at_new))) 0o2 ∷ [])
          behind_old_name =
              behind_names
              ∙ (pass _ _ (ap missing there) ∙ ap (λ (o : Option ℕ). first_of (row (not (missing o)) 0o2 ∷ [])) (found_at img new g _ measures is-new))

          pub new_exists : (f : ℕ) → at_new ≡ Some f → Refuses 0o2
          new_exists f also = refuses (behind_old_name ∙ refuse _ (ap (λ (o : Answered ℕ). not (missing (value_in o))) also)) (λ zero. omega (arith, zero))

          pub old_asked : at_new ≡ None → (x : Entry) → x ≡ entry_of img g e → File g e x ≡ stage_of (old_rows img old new wrong) img old
          old_asked nothing x entry =
              stage_gives (old_rows img old new wrong) img old
              (record {
                clear = behind_old_name ∙ (pass _ _ (ap (λ (o : Answered ℕ). not (missing (value_in o))) nothing) ∙ clear);
                measures = measures;
                number = number_found img old there;
                file = file_found_law img old g e measures there ∙ sym entry;
              })

-- the decision
module _ (img : List ℕ) (old new : Key) (protect caller : ℕ) (asked : Asked) (is : asked ≡ stage_of (old_rows img old new (ltb 255 protect)) img old) where
  pub decide_refused : (code : ℕ) → asked ≡ Refused code → asked ≡ stage_of (renam_rows img old new protect caller) img old
  unfolding renam_rows
  decide_refused = permitted_refused (old_rows img old new (ltb 255 protect)) refl img old Write caller asked is

  module _ (g : Geometry) (e : ℕ) (x : Entry) (told : asked ≡ File g e x) (verdict : Verdict) (judged : verdict ≡ verdict_of (permit_rows Write caller x)) where
    pub decide_stopped : (code : ℕ) → verdict ≡ Stopped code → Refused code ≡ stage_of (renam_rows img old new protect caller) img old
    unfolding renam_rows
    decide_stopped = permitted_stopped (old_rows img old new (ltb 255 protect)) refl img old Write caller asked is g e x told verdict judged

    pub decide_passed : verdict ≡ Clear → File g e x ≡ stage_of (renam_rows img old new protect caller) img old
    unfolding renam_rows
    decide_passed = permitted_passed (old_rows img old new (ltb 255 protect)) refl img old Write caller asked is g e x told verdict judged

-- what is written, word by word
pub name_written : (img : List ℕ) (g : Geometry) (e : ℕ) (new : Key) (protect : ℕ) (one : List ℕ) → one ≡ set_entry_word img g e 0 new.name1
    → (two : List ℕ) → two ≡ set_entry_word one g e 1 new.name2 → (three : List ℕ) → three ≡ set_entry_word two g e 2 new.extension
    → (four : List ℕ) → four ≡ set_entry_word three g e 4 protect → four ≡ renamed img g e new protect
unfolding set_entry_words
name_written img g e new protect one first two second three third four fourth = fourth ∙ rw (third, second, first)

-- what is known where no row refuses
pub record Passed (img : List ℕ) (old new : Key) (protect : ℕ) : Type 0 where
  pub right : Consistent img
  pub legal : legal_key old ≡ true
  pub legal₂ : legal_key new ≡ true
  pub small : protect ≤ 255
  pub at : ℕ
  pub there : found img old ≡ some at
  pub nowhere : found img new ≡ none

module _ (img : List ℕ) (old new : Key) (protect caller : ℕ) where
  pub renam_passed : first_of (renam_rows img old new protect caller) ≡ 0 → Passed img old new protect
  unfolding renam_rows
  renam_passed passed =
      let a = none_given (not (consistent img)) 0o40 _ (λ is. omega (arith, is)) passed in
      let b = none_given (not (legal_key old)) 0o15 _ (λ is. omega (arith, is)) a.1 in
      let c = none_given (not (legal_key new)) 0o15 _ (λ is. omega (arith, is)) b.1 in
      let d = none_given (ltb 255 protect) 0o41 _ (λ is. omega (arith, is)) c.1 in
      let h = none_given (missing (found img old)) 0o2 _ (λ is. omega (arith, is)) d.1 in
      let k = none_given (not (missing (found img new))) 0o2 _ (λ is. omega (arith, is)) h.1 in
      record {
        right = (consistent_iff img).0 (not-false _ a.0);
        legal = not-false _ b.0;
        legal₂ = not-false _ c.0;
        small = ltb-false 255 protect d.0;
        at = or_else 0 (found img old);
        there = present (found img old) h.0;
        nowhere = absent (found img new) k.0;
      }

  -- the file, where no row refuses
  pub renam_cleared : first_of (renam_rows img old new protect caller) ≡ 0 → FileCleared img old
  renam_cleared passed = let p = renam_passed passed in found_cleared img old p.right p.legal p.at p.there

  -- the answer behind the decision
  module _ (decision : Asked) (is : decision ≡ stage_of (renam_rows img old new protect caller) img old) where
    pub renaming_refused : (code : ℕ) → decision ≡ Refused code
        → (code ≡ (renam img old new protect caller).code) × (img ≡ (renam img old new protect caller).image)
    unfolding renam
    renaming_refused = writing_refused (renam_rows img old new protect caller) img old (λ g e x. renamed img g e new protect) decision is

    module _ (g : Geometry) (e : ℕ) (x : Entry) (told : decision ≡ File g e x) where
      pub renaming_room : Sized img g × ((e < slots g) × ((new.name1 < 65536) × (new.name2 < 65536) × (new.extension < 65536) × (protect < 65536)))
      renaming_room =
          let given = stage_is_file (renam_rows img old new protect caller) img old g e x (sym is ∙ told) in
          let c = given_cleared given (renam_cleared given.clear) in
          let p = renam_passed given.clear in
          let w = legal_words new p.legal₂ in
          (c.sized, (c.inside, (omega (arith, w.name1), omega (arith, w.name2), omega (arith, w.extension), omega (arith, p.small))))

      pub renaming_done : (img' : List ℕ) → img' ≡ renamed img g e new protect
          → (0 ≡ (renam img old new protect caller).code) × (img' ≡ (renam img old new protect caller).image)
      unfolding renam
      renaming_done = writing_done (renam_rows img old new protect caller) img old (λ g e x. renamed img g e new protect) decision is g e x told
