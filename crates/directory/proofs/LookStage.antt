-- LOOK: its answer in each case, and its place in the table.
use Prim.Native.Nat.{ℕ}
use mathlib.Core.Path.{◌≡◌, sym, ◌∙◌}
use mathlib.Core.Bool.{true, false}
use mathlib.Core.List.{List, [], ◌∷◌}
use Rattle.answers.specs.Refusals.{table_order, in_order}
use Rattle.pack.specs.declared.Geometry.{Geometry}
use Rattle.pack.specs.declared.Entry.{Entry}
use Rattle.pack.specs.declared.Key.{Key}
use Rattle.asking.specs.AskedStage.{Asked}
use Rattle.asking.specs.AskedStage.{File, Refused}
use Rattle.asking.specs.AskedStage.{file_rows, asked_of}
use Rattle.asking.proofs.AskedStage.{file_ordered, asked_is_file, asked_is_refused, asked_entry}
use Rattle.asking.proofs.Outcome.{settled_refused, settled_success}
use Rattle.directory.specs.LookRows.{look_rows}
use Rattle.directory.specs.Look.{look_numbers, look}

pub look_ordered : (img : List ℕ) (key : Key) → in_order table_order 0 (look_rows img key) ≡ true
unfolding look_rows
look_ordered img key = file_ordered img key false

module _ (img : List ℕ) (key : Key) (asked : Asked) (is : asked ≡ asked_of img key false) where
  pub look_refused : (code : ℕ) → asked ≡ Refused code
      → record { code = code; numbers = 0 ∷ (0 ∷ (0 ∷ (0 ∷ (0 ∷ (0 ∷ []))))); image = img; buffer = [] } ≡ look img key
  unfolding look look_rows
  look_refused code told =
      let r = asked_is_refused img key false code (sym is ∙ told) in
      sym (settled_refused (file_rows img key false) img [] _ r.first r.not_zero)

  pub look_file : (g : Geometry) (e : ℕ) (x : Entry) → asked ≡ File g e x
      → record { code = 0; numbers = look_numbers x; image = img; buffer = [] } ≡ look img key
  unfolding look look_rows
  look_file g e x told =
      let f = asked_is_file img key false g e x (sym is ∙ told) in
      rw (asked_entry img key false g e x (sym is ∙ told)) (sym (settled_success (file_rows img key false) img [] _ f.clear))
