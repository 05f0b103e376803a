-- A request on the blocks of a file: the rows of the first stage, then those of access, then its own.
use Prim.Native.Nat.{ℕ}
use mathlib.Core.Path.{◌≡◌, refl, sym, ap, ◌∙◌}
use mathlib.Core.Bool.{Bool, not}
use mathlib.Core.List.{List, ◌++◌, append_assoc}
use lib.Dec.{eqb}
use lib.ListN.{length}
use Rattle.answers.specs.Refusals.{Row, first_of}
use Rattle.answers.specs.Stage.{Verdict}
use Rattle.answers.specs.Stage.{Clear, Refused as Stopped}
use Rattle.answers.specs.Stage.{verdict_of}
use Rattle.answers.proofs.Refusals.{behind_refused, behind_clear, first_front}
use Rattle.answers.proofs.Stage.{told_clear, told_refused}
use Rattle.pack.specs.declared.Geometry.{Geometry}
use Rattle.pack.specs.declared.Entry.{Entry}
use Rattle.pack.specs.declared.Key.{Key}
use Rattle.pack.specs.Geometry.{geometry_of}
use Rattle.asking.specs.declared.Right.{Right}
use Rattle.asking.specs.AskedStage.{Asked}
use Rattle.asking.specs.AskedStage.{File, Refused}
use Rattle.asking.specs.AskedStage.{file_rows, asked_of}
use Rattle.asking.specs.Asked.{entry_no, file_of}
use Rattle.asking.specs.Access.{access_rows}
use Rattle.asking.specs.AccessStage.{accessed_of}
use Rattle.asking.specs.Outcome.{Outcome, zeroed, settled}
use Rattle.asking.proofs.Outcome.{settled_refused, settled_success}
use Rattle.asking.proofs.AskedStage.{FileAsked, Refusal, file_clear, stage_is_refused, staged_file, stage_clear, stage_refused, stage_stopped, stage_passed}
use Rattle.asking.proofs.AccessRows.{Accessed, access_coded, accessed_clear, clear_accessed}

-- `closed` is what the request means by a file that is not open as it needs
module _ (img : List ℕ) (key : Key) (wrong : Bool) (caller : ℕ) (right : Right) (other : ℕ) (closed : Entry → Bool) where
  abbrev of : Entry → List Row
  of x = access_rows x caller right other (closed x)

  -- the rows of the stage, and all of a request with more behind them
  abbrev front : List Row
  front = file_rows img key wrong ++ access_rows (file_of img key) caller right other (closed (file_of img key))

  abbrev all : List Row → List Row
  all more = file_rows img key wrong ++ (access_rows (file_of img key) caller right other (closed (file_of img key)) ++ more)

  -- the three answers of the stage; `shut` is what the code found of the file
  module _ (asked : Asked) (is : asked ≡ asked_of img key wrong) where
    pub access_refused : (code : ℕ) → asked ≡ Refused code → asked ≡ accessed_of img key wrong caller right other closed
    access_refused code told = told ∙ stage_refused img key wrong of asked is code told

    module _ (g : Geometry) (e : ℕ) (x : Entry) (told : asked ≡ File g e x) (shut : Bool) (says : shut ≡ closed x)
        (verdict : Verdict) (judged : verdict ≡ verdict_of (access_rows x caller right other shut)) where
      own : verdict ≡ verdict_of (of x)
      own = judged ∙ ap (λ (t : Bool). verdict_of (access_rows x caller right other t)) says

      pub access_stopped : (code : ℕ) → verdict ≡ Stopped code → Refused code ≡ accessed_of img key wrong caller right other closed
      access_stopped code told-so =
          let r = told_refused (of x) verdict own code told-so in
          stage_stopped img key wrong of asked is g e x told r.first r.never

      pub access_passed : verdict ≡ Clear → File g e x ≡ accessed_of img key wrong caller right other closed
      access_passed told-so = stage_passed img key wrong of asked is g e x told (told_clear (of x) verdict own told-so) refl

  -- what is known of a file that passed the stage
  pub record Reached (g : Geometry) (e : ℕ) (x : Entry) : Type 0 where
    pub file : FileAsked img key wrong g e x
    pub entry : x ≡ file_of img key
    pub access : Accessed x caller right other (closed x)

  module _ (more : List Row) where
    -- where the file is there and open as needed, the rows behind decide
    pub reached_rows : {g : Geometry} {e : ℕ} {x : Entry} → Reached g e x → first_of (all more) ≡ first_of more
    reached_rows {g} {e} {x} r =
        file_clear img key wrong _ r.file
        ∙ behind_clear more (of (file_of img key)) (access_coded (file_of img key) caller right other (closed (file_of img key)))
        (ap (λ (y : Entry). first_of (of y)) (sym r.entry) ∙ accessed_clear x caller right other (closed x) r.access)

    -- what the stage refused, the request refuses
    pub unreached_rows : {code : ℕ} → accessed_of img key wrong caller right other closed ≡ Refused code → Refusal (all more) img key code
    unreached_rows {code} is =
        let r = stage_is_refused front img key code is in
        record {
          first = ap first_of (sym (append_assoc (file_rows img key wrong) (of (file_of img key)) more)) ∙ behind_refused more front r.first r.not_zero;
          not_zero = r.not_zero;
        }

    -- where no row is given at all
    pub reached_clear : first_of (all more) ≡ 0 → Reached (geometry_of img) (entry_no img key) (file_of img key) × (first_of more ≡ 0)
    reached_clear none =
        let staged = stage_clear img key wrong of (first_front front more (ap first_of (append_assoc (file_rows img key wrong) (of (file_of img key)) more) ∙ none)) in
        let r : Reached (geometry_of img) (entry_no img key) (file_of img key) =
        record { file = staged.file; entry = refl; access = clear_accessed (file_of img key) caller right other (closed (file_of img key)) staged.behind } in
        (r, sym (reached_rows r) ∙ none)

    -- and what the request then comes to
    module _ (buffer : List ℕ) (effect : Outcome) where
      pub outcome_unreached : {code : ℕ} → accessed_of img key wrong caller right other closed ≡ Refused code
          → settled (all more) img buffer effect ≡ record { code = code; numbers = zeroed effect.numbers; image = img; buffer = buffer }
      outcome_unreached is = let r = unreached_rows is in settled_refused (all more) img buffer effect r.first r.not_zero

      module _ {g : Geometry} {e : ℕ} {x : Entry} (reached : Reached g e x) where
        pub outcome_stopped : {code : ℕ} → first_of more ≡ code → (code ≡ 0 → ⊥)
            → settled (all more) img buffer effect ≡ record { code = code; numbers = zeroed effect.numbers; image = img; buffer = buffer }
        outcome_stopped is never = settled_refused (all more) img buffer effect (reached_rows reached ∙ is) never

        pub outcome_passed : first_of more ≡ 0
            → settled (all more) img buffer effect ≡ record { code = 0; numbers = effect.numbers; image = effect.image; buffer = effect.buffer }
        outcome_passed none = settled_success (all more) img buffer effect (reached_rows reached ∙ none)

  pub reached_file : (g : Geometry) (e : ℕ) (x : Entry) → accessed_of img key wrong caller right other closed ≡ File g e x → Reached g e x
  reached_file g e x is =
      let staged = staged_file img key wrong of g e x is in
      record { file = staged.file; entry = staged.entry; access = clear_accessed x caller right other (closed x) staged.behind }

-- a stage that was asked with the size of a buffer compared to `size`, which is the size asked for
pub stage_sized : (img : List ℕ) (key : Key) (caller : ℕ) (right : Right) (other : ℕ) (closed : Entry → Bool) (buffer : List ℕ) {size whole : ℕ} → size ≡ whole → (asked : Asked)
    → asked ≡ accessed_of img key (not (eqb (length buffer) size)) caller right other closed → accessed_of img key (not (eqb (length buffer) whole)) caller right other closed ≡ asked
stage_sized img key caller right other closed buffer stated asked is =
    sym (is ∙ ap (λ (n : ℕ). accessed_of img key (not (eqb (length buffer) n)) caller right other closed) stated)
