-- The stages of a request on a file: what each answer of the first comes to, what a found file is, and what the rows behind it add.
use Prim.Native.Nat.{ℕ, ◌<◌}
use mathlib.Core.Path.{◌≡◌, refl, sym, ap, subst, ◌∙◌}
use mathlib.Core.Bool.{Bool, true, false}
use mathlib.Core.List.{List, [], ◌++◌}
use mathlib.Core.Option.{Option, none, some}
use native.Mathlib.Omega.{arith}
use native.Mathlib.Decide.{ℕ_discrete}
use borrow.Author.Tests.{ne_eqb}
use Rattle.answers.specs.Refusals.{Row, first_of, on_success, table_order, in_order}
use Rattle.answers.proofs.Refusals.{clear, behind_refused, first_front}
use Rattle.pack.specs.declared.Geometry.{Geometry}
use Rattle.pack.specs.declared.Entry.{Entry}
use Rattle.pack.specs.declared.Key.{Key}
use Rattle.pack.specs.Geometry.{geometry_of, slots}
use Rattle.pack.specs.Entry.{entry_of}
use Rattle.pack.specs.Consistent.{Consistent}
use Rattle.pack.specs.Key.{key_in, SameKey}
use Rattle.consistency.specs.ConsistentTest.{consistent}
use Rattle.consistency.proofs.ConsistentTestIff.{consistent_iff}
use Rattle.asking.specs.KeysTest.{legal_key, found, find_from}
use Rattle.asking.specs.AskedStage.{file_rows, stage_of, asked_of}
use Rattle.asking.specs.Asked.{entry_no, file_of}
use Rattle.asking.specs.Outcome.{Outcome, zeroed, settled}
use Rattle.asking.specs.AskedStage.{Asked}
use Rattle.asking.specs.AskedStage.{File, Refused}
use Rattle.asking.proofs.Outcome.{settled_refused, settled_success, refused_answer, done_answer}
use Rattle.asking.proofs.Keys.{found_iff}

-- 40, 15, 41 and 2 stand in the order of the table
pub file_ordered : (img : List ℕ) (key : Key) (wrong : Bool) → in_order table_order 0 (file_rows img key wrong) ≡ true
unfolding file_rows
file_ordered img key wrong = refl

module _ (img : List ℕ) (key : Key) (wrong : Bool) where
  pub asked_40 : consistent img ≡ false → Refused 0o40 ≡ asked_of img key wrong
  unfolding stage_of file_rows first_of on_success
  asked_40 h = rw h

  module _ (c : consistent img ≡ true) where
    pub asked_15 : legal_key key ≡ false → Refused 0o15 ≡ asked_of img key wrong
    unfolding stage_of file_rows first_of on_success
    asked_15 h = rw (c, h)

    module _ (l : legal_key key ≡ true) where
      pub asked_41 : wrong ≡ true → Refused 0o41 ≡ asked_of img key wrong
      unfolding stage_of file_rows first_of on_success
      asked_41 h = rw (c, l, h)

      module _ (w : wrong ≡ false) where
        pub asked_2 : found img key ≡ none → Refused 0o2 ≡ asked_of img key wrong
        unfolding stage_of file_rows first_of on_success
        asked_2 h = rw (c, l, w, h)

        pub asked_file : (e : ℕ) → found img key ≡ some e → File (geometry_of img) e (entry_of img (geometry_of img) e) ≡ asked_of img key wrong
        unfolding stage_of file_rows first_of on_success file_of entry_no
        asked_file e h = rw (c, l, w, h)

-- the same at the measures that the code read
pub file_at : (img : List ℕ) (key : Key) (wrong : Bool) (g : Geometry) (e : ℕ) (x : Entry) → geometry_of img ≡ g → x ≡ entry_of img g e
    → File (geometry_of img) e (entry_of img (geometry_of img) e) ≡ asked_of img key wrong → File g e x ≡ asked_of img key wrong
file_at img key wrong g e x measures is asked =
    subst (λ (y : Entry). File g e y ≡ asked_of img key wrong) (sym is)
    (subst (λ (h : Geometry). File h e (entry_of img h e) ≡ asked_of img key wrong) measures asked)

pub found_at : (img : List ℕ) (key : Key) (g : Geometry) (o : Option ℕ) → geometry_of img ≡ g → o ≡ find_from img g key 0 (slots g) → found img key ≡ o
unfolding found
found_at img key g o measures is = sym (subst (λ (h : Geometry). o ≡ find_from img h key 0 (slots h)) (sym measures) is)

-- the number and the entry of a file that is found
pub number_found : (img : List ℕ) (key : Key) {e : ℕ} → found img key ≡ some e → entry_no img key ≡ e
unfolding entry_no
number_found img key there = rw there

pub file_found_law : (img : List ℕ) (key : Key) (g : Geometry) (e : ℕ) → geometry_of img ≡ g → found img key ≡ some e → file_of img key ≡ entry_of img g e
unfolding file_of
file_found_law img key g e measures there =
    ap (λ (h : Geometry). entry_of img h (entry_no img key)) measures ∙ ap (entry_of img g) (number_found img key there)

-- The file of a name: where an entry has a legal key, it is the key's file. Where none has it `entry_no` says 0, and nothing rests on that.
pub file_of_name : {img : List ℕ} → Consistent img → (key : Key) → legal_key key ≡ true → (e : ℕ) → e < slots (geometry_of img)
    → SameKey (key_in (entry_of img (geometry_of img) e)) key → (entry_no img key ≡ e) × (file_of img key ≡ entry_of img (geometry_of img) e)
file_of_name {img} right key legal e inside keyed =
    let there = (found_iff right key legal e).1 (inside, keyed) in
    (number_found img key there, file_found_law img key (geometry_of img) e refl there)

-- what the stage's two answers say
pub record FileAsked (img : List ℕ) (key : Key) (wrong : Bool) (g : Geometry) (e : ℕ) (x : Entry) : Type 0 where
  pub right : Consistent img
  pub legal : legal_key key ≡ true
  pub argument : wrong ≡ false
  pub there : found img key ≡ some e
  pub clear : first_of (file_rows img key wrong) ≡ 0
  pub measures : geometry_of img ≡ g
  pub entry : x ≡ entry_of img g e
  pub inside : e < slots g
  pub keyed : SameKey (key_in x) key

never_file : {A : Type 0} (code : ℕ) (g : Geometry) (e : ℕ) (x : Entry) → Refused code ≡ File g e x → A
never_file code g e x is = let z : ◌≡◌ {A = ℕ} 0 1 = cc in absurd (omega arith)

asked_by : (img : List ℕ) (key : Key) (wrong c l : Bool) (o : Option ℕ) → consistent img ≡ c → legal_key key ≡ l → found img key ≡ o
    → (g : Geometry) (e : ℕ) (x : Entry) → asked_of img key wrong ≡ File g e x → FileAsked img key wrong g e x
unfolding file_rows first_of
asked_by img key wrong false l o c-is l-is o_is g e x is = never_file 0o40 g e x (asked_40 img key wrong c-is ∙ is)
asked_by img key wrong true false o c-is l-is o_is g e x is = never_file 0o15 g e x (asked_15 img key wrong c-is l-is ∙ is)
asked_by img key true true true o c-is l-is o_is g e x is = never_file 0o41 g e x (asked_41 img key true c-is l-is refl ∙ is)
asked_by img key false true true none c-is l-is o_is g e x is = never_file 0o2 g e x (asked_2 img key false c-is l-is refl o_is ∙ is)
asked_by img key false true true (some f) c-is l-is o_is g e x is =
    let same : File (geometry_of img) f (entry_of img (geometry_of img) f) ≡ File g e x = asked_file img key false c-is l-is refl f o_is ∙ is in
    let measures : geometry_of img ≡ g = cc in
    let at : f ≡ e = cc in
    let entry : entry_of img (geometry_of img) f ≡ x = cc in
    let right = (consistent_iff img).0 c-is in
    let there : found img key ≡ some e = o_is ∙ ap some at in
    let k = (found_iff right key l-is e).0 there in
    let at-e : entry_of img (geometry_of img) e ≡ x = subst (λ (j : ℕ). entry_of img (geometry_of img) j ≡ x) at entry in
    record {
      right = right;
      legal = l-is;
      argument = refl;
      there = there;
      clear = rw (c-is, l-is, o_is);
      measures = measures;
      entry = sym (subst (λ (h : Geometry). entry_of img h e ≡ x) measures at-e);
      inside = subst (λ (h : Geometry). e < slots h) measures k.0;
      keyed = subst (λ (x : Entry). SameKey (key_in x) key) at-e k.1;
    }

pub asked_is_file : (img : List ℕ) (key : Key) (wrong : Bool) (g : Geometry) (e : ℕ) (x : Entry) → asked_of img key wrong ≡ File g e x → FileAsked img key wrong g e x
asked_is_file img key wrong g e x is = asked_by img key wrong (consistent img) (legal_key key) (found img key) refl refl refl g e x is

-- the entry is the one that the request speaks of
pub asked_entry : (img : List ℕ) (key : Key) (wrong : Bool) (g : Geometry) (e : ℕ) (x : Entry) → asked_of img key wrong ≡ File g e x → x ≡ file_of img key
unfolding file_of entry_no
asked_entry img key wrong g e x is =
    let f = asked_is_file img key wrong g e x is in
    rw f.there (f.entry ∙ ap (λ (h : Geometry). entry_of img h e) (sym f.measures))

-- what the two answers of a stage say, whatever its rows
module _ (rows : List Row) (img : List ℕ) (key : Key) where
  pub record Refusal (code : ℕ) : Type 0 where
    pub first : first_of rows ≡ code
    pub not_zero : code ≡ 0 → ⊥

  pub record Given (g : Geometry) (e : ℕ) (x : Entry) : Type 0 where
    pub clear : first_of rows ≡ 0
    pub measures : geometry_of img ≡ g
    pub number : entry_no img key ≡ e
    pub file : file_of img key ≡ x

  pub stage_refuses : {code : ℕ} → Refusal code → Refused code ≡ stage_of rows img key
  unfolding stage_of on_success
  stage_refuses {code} r = rw (r.first, ne_eqb code 0 r.not_zero)

  pub stage_gives : {g : Geometry} {e : ℕ} {x : Entry} → Given g e x → File g e x ≡ stage_of rows img key
  unfolding stage_of on_success
  stage_gives given = rw (given.clear, sym given.measures, sym given.number, sym given.file) refl

  pub given_clear : first_of rows ≡ 0 → Given (geometry_of img) (entry_no img key) (file_of img key)
  given_clear clear = record { clear = clear; measures = refl; number = refl; file = refl }

  pub stage_is_refused : (code : ℕ) → stage_of rows img key ≡ Refused code → Refusal code
  stage_is_refused code is = by (ℕ_discrete (first_of rows) 0)
    where
      by : Dec (first_of rows ≡ 0) → Refusal code
      by (yes clear) = never_file code _ _ _ (sym (stage_gives (given_clear clear) ∙ is))
      by (no never) =
          let same : Refused (first_of rows) ≡ Refused code = stage_refuses (record { first = refl; not_zero = never }) ∙ is in
          let first : first_of rows ≡ code = cc in
          record { first = first; not_zero = λ zero. never (first ∙ zero) }

  pub stage_is_file : (g : Geometry) (e : ℕ) (x : Entry) → stage_of rows img key ≡ File g e x → Given g e x
  stage_is_file g e x is = by (ℕ_discrete (first_of rows) 0)
    where
      by : Dec (first_of rows ≡ 0) → Given g e x
      by (yes clear) =
          let same : File (geometry_of img) (entry_no img key) (file_of img key) ≡ File g e x = stage_gives (given_clear clear) ∙ is in
          record { clear = clear; measures = cc; number = cc; file = cc }
      by (no never) = never_file _ g e x (stage_refuses (record { first = refl; not_zero = never }) ∙ is)

  -- and what the request then comes to
  module _ (buffer : List ℕ) (effect : Outcome) where
    pub outcome_refused : (code : ℕ) → stage_of rows img key ≡ Refused code
        → settled rows img buffer effect ≡ record { code = code; numbers = zeroed effect.numbers; image = img; buffer = buffer }
    outcome_refused code is = let r = stage_is_refused code is in settled_refused rows img buffer effect r.first r.not_zero

    pub outcome_file : (g : Geometry) (e : ℕ) (x : Entry) → stage_of rows img key ≡ File g e x
        → settled rows img buffer effect ≡ record { code = 0; numbers = effect.numbers; image = effect.image; buffer = effect.buffer }
    outcome_file g e x is = settled_success rows img buffer effect (stage_is_file g e x is).clear

  -- a request that writes: `write` is the image that it leaves, by the pack's measures, the number of the file's entry, and the entry
  module _ (write : Geometry → ℕ → Entry → List ℕ) (decision : Asked) (is : decision ≡ stage_of rows img key) where
    abbrev outcome : Outcome
    outcome = settled rows img [] (record { code = 0; numbers = []; image = write (geometry_of img) (entry_no img key) (file_of img key); buffer = [] })

    pub writing_refused : (code : ℕ) → decision ≡ Refused code → (code ≡ outcome.code) × (img ≡ outcome.image)
    writing_refused code told =
        let r = stage_is_refused code (sym is ∙ told) in
        let o = refused_answer rows img [] _ r.first r.not_zero in
        (o.0, o.2)

    pub writing_done : (g : Geometry) (e : ℕ) (x : Entry) → decision ≡ File g e x → (img' : List ℕ) → img' ≡ write g e x
        → (0 ≡ outcome.code) × (img' ≡ outcome.image)
    writing_done g e x told img' written =
        let given = stage_is_file g e x (sym is ∙ told) in
        let own : write (geometry_of img) (entry_no img key) (file_of img key) ≡ write g e x =
        ap (λ (h : Geometry). write h (entry_no img key) (file_of img key)) given.measures
        ∙ ap (λ (i : ℕ). write g i (file_of img key)) given.number ∙ ap (write g e) given.file in
        let o = done_answer rows img [] _ given.clear [] img' refl (written ∙ sym own) in
        (o.0, o.2)

-- the first stage
abbrev pub FileRefused : List ℕ → Key → Bool → ℕ → Type 0
FileRefused img key wrong code = Refusal (file_rows img key wrong) img key code

pub asked_is_refused : (img : List ℕ) (key : Key) (wrong : Bool) (code : ℕ) → asked_of img key wrong ≡ Refused code → FileRefused img key wrong code
asked_is_refused img key wrong code is = stage_is_refused (file_rows img key wrong) img key code is

-- the rows of a request begin with those of the stage
module _ (img : List ℕ) (key : Key) (wrong : Bool) (more : List Row) where
  pub file_refused : {code : ℕ} → FileRefused img key wrong code → first_of (file_rows img key wrong ++ more) ≡ code
  file_refused r = behind_refused more (file_rows img key wrong) r.first r.not_zero

  pub file_clear : {g : Geometry} {e : ℕ} {x : Entry} → FileAsked img key wrong g e x → first_of (file_rows img key wrong ++ more) ≡ first_of more
  unfolding file_rows first_of
  file_clear f = rw ((consistent_iff img).1 f.right, f.legal, f.argument, f.there)

-- a request whose rows begin with those of the first stage, and go on with some that look at the file
module _ (img : List ℕ) (key : Key) (wrong : Bool) (more : Entry → List Row) where
  abbrev all : List Row
  all = file_rows img key wrong ++ more (file_of img key)

  -- what is known of a file where no row is given
  pub record Staged (g : Geometry) (e : ℕ) (x : Entry) : Type 0 where
    pub file : FileAsked img key wrong g e x
    pub entry : x ≡ file_of img key
    pub none : first_of all ≡ 0
    pub behind : first_of (more x) ≡ 0

  -- and the other way: a file is there, and no row behind is given
  pub rows_none : {g : Geometry} {e : ℕ} {x : Entry} → FileAsked img key wrong g e x → x ≡ file_of img key → first_of (more x) ≡ 0 → first_of all ≡ 0
  rows_none file own behind = file_clear img key wrong (more (file_of img key)) file ∙ ap (λ (y : Entry). first_of (more y)) (sym own) ∙ behind

  pub stage_clear : first_of all ≡ 0 → Staged (geometry_of img) (entry_no img key) (file_of img key)
  stage_clear passed =
      let clear = first_front (file_rows img key wrong) (more (file_of img key)) passed in
      let file = asked_is_file img key wrong _ _ _ (sym (stage_gives (file_rows img key wrong) img key (given_clear (file_rows img key wrong) img key clear))) in
      record { file = file; entry = refl; none = passed; behind = sym (file_clear img key wrong (more (file_of img key)) file) ∙ passed }

  pub staged_file : (g : Geometry) (e : ℕ) (x : Entry) → stage_of all img key ≡ File g e x → Staged g e x
  staged_file g e x is =
      let given = stage_is_file all img key g e x is in
      subst (Staged g e) given.file
      (subst (λ (i : ℕ). Staged g i (file_of img key)) given.number
      (subst (λ (h : Geometry). Staged h (entry_no img key) (file_of img key)) given.measures (stage_clear given.clear)))

  module _ (asked : Asked) (is : asked ≡ asked_of img key wrong) where
    -- the first stage refuses
    pub stage_refused : (code : ℕ) → asked ≡ Refused code → Refused code ≡ stage_of all img key
    stage_refused code told =
        let r = asked_is_refused img key wrong code (sym is ∙ told) in
        stage_refuses all img key (record { first = file_refused img key wrong (more (file_of img key)) r; not_zero = r.not_zero })

    module _ (g : Geometry) (e : ℕ) (x : Entry) (told : asked ≡ File g e x) {code : ℕ} (judged : first_of (more x) ≡ code) where
      rest_decides : first_of all ≡ code
      rest_decides =
          file_clear img key wrong (more (file_of img key)) (asked_is_file img key wrong g e x (sym is ∙ told))
          ∙ ap (λ (y : Entry). first_of (more y)) (sym (asked_entry img key wrong g e x (sym is ∙ told))) ∙ judged

      -- a row behind it refuses, or none does
      pub stage_stopped : (code ≡ 0 → ⊥) → Refused code ≡ stage_of all img key
      stage_stopped never = stage_refuses all img key (record { first = rest_decides; not_zero = never })

      pub stage_passed : code ≡ 0 → File g e x ≡ stage_of all img key
      stage_passed zero =
          let f = stage_is_file (file_rows img key wrong) img key g e x (sym is ∙ told) in
          stage_gives all img key (record { clear = rest_decides ∙ zero; measures = f.measures; number = f.number; file = f.file })
