-- CLOSE: its rows stand in the table's order, and what the code answers at each of its returns.
use Prim.Native.Nat.{ℕ, ◌-◌, ◌≤◌, ◌<◌}
use mathlib.Core.Path.{◌≡◌, refl, sym, ap, subst, ◌∙◌}
use mathlib.Core.List.{List, [], ◌∷◌}
use mathlib.Core.Bool.{true, false, not}
use native.Mathlib.Omega.{arith}
use lib.Dec.{eqb, ltb}
use borrow.Author.Tests.{eq-eqb, ne_eqb, ltb-true, not-false}
use Rattle.answers.specs.Refusals.{Row, row, first_of, table_order, in_order}
use Rattle.answers.proofs.Refusals.{refuse, pass, clear, none_given}
use Rattle.pack.specs.declared.Geometry.{Geometry}
use Rattle.pack.specs.declared.Entry.{Entry}
use Rattle.pack.specs.declared.Key.{Key}
use Rattle.pack.specs.Geometry.{slots}
use Rattle.pack.specs.GeometrySized.{Sized}
use Rattle.pack.specs.EntryWords.{set_entry_word}
use Rattle.asking.specs.AskedStage.{Asked}
use Rattle.asking.specs.AskedStage.{File, Refused}
use Rattle.asking.specs.AskedStage.{file_rows, asked_of, stage_of}
use Rattle.asking.specs.Asked.{file_of}
use Rattle.asking.proofs.AskedStage.{stage_clear, stage_refused, stage_stopped, stage_passed, Given, stage_is_file, writing_refused, writing_done}
use Rattle.asking.proofs.AskedCleared.{Cleared, FileCleared, asked_cleared, given_cleared, file_used}
use Rattle.opening.specs.CloseRows.{wrong_mode, is_open_as, close_rows, close_word, close_value}
use Rattle.opening.specs.Close.{close}

pub close_ordered : (img : List ℕ) (key : Key) (mode : ℕ) → in_order table_order 0 (close_rows img key mode) ≡ true
unfolding close_rows file_rows
close_ordered img key mode = refl

-- for mode 4 readers are asked, for another the writer
module _ (mode : ℕ) (x : Entry) where
  pub as_reader : mode ≡ 4 → ltb 0 x.readers ≡ is_open_as mode x
  unfolding is_open_as
  as_reader four = rw (eq-eqb mode 4 four)

  pub as_writer : (mode ≡ 4 → ⊥) → eqb x.writer mode ≡ is_open_as mode x
  unfolding is_open_as
  as_writer other = rw (ne_eqb mode 4 other)

  -- what is taken away is there
  pub some_reader : mode ≡ 4 → is_open_as mode x ≡ true → 0 < x.readers
  some_reader four is = ltb-true 0 x.readers (as_reader four ∙ is)

-- "45: .. CLOSE of a mode not open"
abbrev not_open : ℕ → Entry → List Row
not_open mode x = row (not (is_open_as mode x)) 0o45 ∷ []

module _ (img : List ℕ) (key : Key) (mode : ℕ) where
  -- the file, where no row refuses: it is open in that mode
  pub close_cleared : first_of (close_rows img key mode) ≡ 0 → FileCleared img key × (is_open_as mode (file_of img key) ≡ true)
  unfolding close_rows
  close_cleared passed =
      let staged = stage_clear img key (wrong_mode mode) (not_open mode) passed in
      (asked_cleared staged.file, not-false _ (none_given _ 0o45 [] (λ is. omega (arith, is)) staged.behind).0)

  -- the decision
  module _ (asked : Asked) (is : asked ≡ asked_of img key (wrong_mode mode)) where
    pub decide_refused : (code : ℕ) → asked ≡ Refused code → asked ≡ stage_of (close_rows img key mode) img key
    unfolding close_rows
    decide_refused code told = told ∙ stage_refused img key (wrong_mode mode) (not_open mode) asked is code told

    module _ (g : Geometry) (e : ℕ) (x : Entry) (told : asked ≡ File g e x) where
      pub decide_other : is_open_as mode x ≡ false → Refused 0o45 ≡ stage_of (close_rows img key mode) img key
      unfolding close_rows
      decide_other other =
          stage_stopped img key (wrong_mode mode) (not_open mode) asked is g e x told (refuse [] (ap not other)) (λ is. omega (arith, is))

      pub decide_passed : is_open_as mode x ≡ true → File g e x ≡ stage_of (close_rows img key mode) img key
      unfolding close_rows
      decide_passed held =
          stage_passed img key (wrong_mode mode) (not_open mode) asked is g e x told (pass _ [] (ap not held) ∙ clear) refl

  -- the answer behind it
  abbrev write : Geometry → ℕ → Entry → List ℕ
  write g e x = set_entry_word img g e (close_word mode) (close_value mode x)

  abbrev Done : List ℕ → Type 0
  Done img' = (0 ≡ (close img key mode).code) × (img' ≡ (close img key mode).image)

  module _ (decision : Asked) (is : decision ≡ stage_of (close_rows img key mode) img key) where
    pub closing_refused : (code : ℕ) → decision ≡ Refused code → (code ≡ (close img key mode).code) × (img ≡ (close img key mode).image)
    unfolding close
    closing_refused = writing_refused (close_rows img key mode) img key write decision is

    module _ (g : Geometry) (e : ℕ) (x : Entry) (told : decision ≡ File g e x) where
      file : Given (close_rows img key mode) img key g e x
      file = stage_is_file (close_rows img key mode) img key g e x (sym is ∙ told)

      cleared : Cleared img key g e
      cleared = given_cleared file (close_cleared file.clear).0

      done : (img' : List ℕ) → img' ≡ write g e x → Done img'
      unfolding close
      done = writing_done (close_rows img key mode) img key write decision is g e x told

      module _ (four : mode ≡ 4) where
        pub closing_reader : 0 < x.readers
        closing_reader = some_reader mode x four (subst (λ (y : Entry). is_open_as mode y ≡ true) file.file (close_cleared file.clear).1)

        pub reader_room : Sized img g × ((e < slots g) × (10 < 16) × (x.readers - 1 < 65536))
        reader_room =
            let most : x.readers ≤ 62 =
            subst (λ (y : Entry). y.readers ≤ 62) file.file (omega (arith, (file_used (close_cleared file.clear).0).opens)) in
            (cleared.sized, (cleared.inside, omega arith, omega arith))

        pub reader_done : (img' : List ℕ) → img' ≡ set_entry_word img g e 10 (x.readers - 1) → Done img'
        reader_done = rw (eq-eqb mode 4 four) at done

      module _ (other : mode ≡ 4 → ⊥) where
        pub writer_room : Sized img g × ((e < slots g) × (9 < 16) × (0 < 65536))
        writer_room = (cleared.sized, (cleared.inside, omega arith, omega arith))

        pub writer_done : (img' : List ℕ) → img' ≡ set_entry_word img g e 9 0 → Done img'
        writer_done = rw (ne_eqb mode 4 other) at done
