-- OPENI, OPENU and OPENE: their rows stand in the table's order, and what the code answers at each of its returns.
use Prim.Native.Nat.{ℕ, ◌<◌}
use mathlib.Core.Path.{◌≡◌, refl, sym, ap, subst, ◌∙◌}
use mathlib.Core.Bool.{true, false}
use mathlib.Core.List.{List}
use native.Mathlib.Omega.{arith}
use Rattle.answers.specs.Stage.{Verdict}
use Rattle.answers.specs.Stage.{Clear, Refused as Stopped}
use Rattle.answers.specs.Refusals.{first_of, table_order, in_order}
use Rattle.answers.specs.Stage.{verdict_of}
use Rattle.answers.proofs.Stage.{told_clear, told_refused}
use Rattle.pack.specs.declared.Geometry.{Geometry}
use Rattle.pack.specs.declared.Entry.{Entry}
use Rattle.pack.specs.declared.Key.{Key}
use Rattle.pack.specs.Geometry.{slots}
use Rattle.pack.specs.GeometrySized.{Sized}
use Rattle.pack.specs.EntryWords.{set_entry_word}
use Rattle.asking.specs.AskedStage.{Asked}
use Rattle.asking.specs.AskedStage.{File, Refused}
use Rattle.asking.specs.AskedStage.{file_rows, asked_of, stage_of}
use Rattle.asking.specs.Asked.{file_of}
use Rattle.asking.specs.Opens.{opens}
use Rattle.asking.proofs.AskedStage.{stage_clear, stage_refused, stage_stopped, stage_passed, Given, stage_is_file, writing_refused, writing_done}
use Rattle.asking.proofs.AskedCleared.{FileCleared, asked_cleared, given_cleared}
use Rattle.opening.specs.declared.Opening.{Opening}
use Rattle.opening.specs.declared.Opening.TheVariants.{Input, Update, Extension}
use Rattle.opening.specs.OpenRows.{opening_rows, open_rows, open_word, open_value}
use Rattle.opening.specs.Open.{opened}
use Rattle.opening.proofs.OpenRows.{Openable, openable}

pub open_ordered : (mode : Opening) (img : List ℕ) (key : Key) (caller : ℕ) → in_order table_order 0 (open_rows mode img key caller) ≡ true
unfolding open_rows file_rows
open_ordered mode img key caller = refl

-- what is written is a word
word_fits : (mode : Opening) → open_word mode < 16
word_fits Input = omega arith
word_fits Update = omega arith
word_fits Extension = omega arith

value_fits : (mode : Opening) (x : Entry) → opens x < 62 → open_value mode x < 65536
value_fits Input x few = omega (arith, few)
value_fits Update x few = omega arith
value_fits Extension x few = omega arith

module _ (mode : Opening) (img : List ℕ) (key : Key) (caller : ℕ) where
  -- the file, where no row refuses
  pub open_cleared : first_of (open_rows mode img key caller) ≡ 0 → FileCleared img key × Openable mode (file_of img key)
  unfolding open_rows
  open_cleared passed =
      let staged = stage_clear img key false (opening_rows mode caller) passed in
      (asked_cleared staged.file, openable mode caller (file_of img key) staged.behind)

  -- the decision
  module _ (asked : Asked) (is : asked ≡ asked_of img key false) where
    pub decide_refused : (code : ℕ) → asked ≡ Refused code → asked ≡ stage_of (open_rows mode img key caller) img key
    unfolding open_rows
    decide_refused code told = told ∙ stage_refused img key false (opening_rows mode caller) asked is code told

    module _ (g : Geometry) (e : ℕ) (x : Entry) (told : asked ≡ File g e x) (verdict : Verdict) (judged : verdict ≡ verdict_of (opening_rows mode caller x)) where
      pub decide_stopped : (code : ℕ) → verdict ≡ Stopped code → Refused code ≡ stage_of (open_rows mode img key caller) img key
      unfolding open_rows
      decide_stopped code told-so =
          let r = told_refused (opening_rows mode caller x) verdict judged code told-so in
          stage_stopped img key false (opening_rows mode caller) asked is g e x told r.first r.never

      pub decide_passed : verdict ≡ Clear → File g e x ≡ stage_of (open_rows mode img key caller) img key
      unfolding open_rows
      decide_passed told-so =
          stage_passed img key false (opening_rows mode caller) asked is g e x told (told_clear (opening_rows mode caller x) verdict judged told-so) refl

  -- the answer behind it
  abbrev write : Geometry → ℕ → Entry → List ℕ
  write g e x = set_entry_word img g e (open_word mode) (open_value mode x)

  module _ (decision : Asked) (is : decision ≡ stage_of (open_rows mode img key caller) img key) where
    pub opening_refused : (code : ℕ) → decision ≡ Refused code → (code ≡ (opened mode img key caller).code) × (img ≡ (opened mode img key caller).image)
    unfolding opened
    opening_refused = writing_refused (open_rows mode img key caller) img key write decision is

    module _ (g : Geometry) (e : ℕ) (x : Entry) (told : decision ≡ File g e x) where
      file : Given (open_rows mode img key caller) img key g e x
      file = stage_is_file (open_rows mode img key caller) img key g e x (sym is ∙ told)

      few : opens x < 62
      few = subst (λ (y : Entry). opens y < 62) file.file (open_cleared file.clear).1.few

      pub opening_few : x.readers < 62
      opening_few = omega (arith, few)

      module _ (i word : ℕ) (at : i ≡ open_word mode) (set : word ≡ open_value mode x) where
        pub opening_room : Sized img g × ((e < slots g) × (i < 16) × (word < 65536))
        opening_room =
            let c = given_cleared file (open_cleared file.clear).0 in
            (c.sized, (c.inside, omega (arith, at, word_fits mode), omega (arith, set, value_fits mode x few)))

        pub opening_done : (img' : List ℕ) → img' ≡ set_entry_word img g e i word
            → (0 ≡ (opened mode img key caller).code) × (img' ≡ (opened mode img key caller).image)
        unfolding opened
        opening_done img' written =
            writing_done (open_rows mode img key caller) img key write decision is g e x told img'
            (written ∙ ap (λ (n : ℕ). set_entry_word img g e n word) at ∙ ap (set_entry_word img g e (open_word mode)) set)
