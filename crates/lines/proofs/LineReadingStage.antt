-- Reading a line: its place in the table, its answer in each case, and what it leaves.
use Prim.Native.Nat.{ℕ, ◌+◌, ◌*◌, ◌≤◌, ◌<◌}
use mathlib.Core.Path.{◌≡◌, refl, sym, ap, ◌∙◌}
use mathlib.Core.Bool.{Bool, true, false, ◌||◌, false≢true}
use mathlib.Core.List.{List, [], ◌∷◌}
use native.Mathlib.Omega.{arith}
use lib.Dec.{eqb, ltb}
use lib.ListN.{length, drop}
use borrow.Author.Tests.{eqb-false}
use Rattle.answers.specs.Refusals.{table_order, in_order}
use Rattle.pack.specs.declared.Geometry.{Geometry}
use Rattle.pack.specs.declared.Entry.{Entry}
use Rattle.pack.specs.declared.Key.{Key}
use Rattle.pack.specs.Geometry.{geometry_of, payload_bytes}
use Rattle.pack.specs.GeometrySized.{most_segments, Sized}
use Rattle.pack.specs.File.{blocks_of, count}
use Rattle.asking.specs.declared.Right.TheVariants.{Read}
use Rattle.asking.specs.AskedStage.{Asked}
use Rattle.asking.specs.AskedStage.{File, Refused}
use Rattle.asking.specs.Outcome.{Outcome, Unchanged}
use Rattle.asking.specs.Asked.{entry_no, file_of}
use Rattle.asking.specs.AccessStage.{accessed_of}
use Rattle.asking.proofs.AccessStage.{Reached, reached_file}
use Rattle.asking.proofs.Outcome.{code_is, refusal_keeps, image_by}
use Rattle.bodies.specs.Payloads.{payloads_of}
use Rattle.stream.specs.Spot.{most_bytes}
use Rattle.stream.specs.BytesReading.{bytes_behind}
use Rattle.stream.proofs.BytesReadingStage.{reading_ordered, reading_clear, reading_unasked, reading_counted, few_bytes, bytes_left}
use Rattle.stream.proofs.BytesReadingStage.{reading_beyond, reading_given, reading_located, bytes_here, bytes_few}
use Rattle.lines.specs.declared.LineMode.{LineMode}
use Rattle.lines.specs.declared.line_read.LineRead.{LineRead}
use Rattle.lines.specs.LineRead.{line_found}
use Rattle.lines.specs.LineSteps.{LineState, read_from, at_end, state_left}
use Rattle.lines.specs.LineReadingRows.{wrong_reading, line_read_rows}
use Rattle.lines.specs.LineReading.{mode_of, found_outcome, line_read}
use Rattle.lines.specs.Reader.{state_ended}
use Rattle.lines.proofs.LineReadProgress.{passed_most}
use Rattle.lines.proofs.LineStepsFound.{steps_found}

-- 40, 15, 41, 2, 6, 43, 45 and 44 stand in the order of the table
pub line_read_ordered : (img : List ℕ) (key : Key) (caller mode position : ℕ) (buffer : List ℕ)
    → in_order table_order 0 (line_read_rows img key caller mode position buffer) ≡ true
unfolding line_read_rows
line_read_ordered img key caller mode position buffer = reading_ordered img key caller (wrong_reading mode buffer) position

-- "41 also for a maximum count of 0"
pub some_room : (mode : ℕ) (buffer : List ℕ) → wrong_reading mode buffer ≡ false → 0 < length buffer
some_room mode buffer right = by (eqb (length buffer) 0) refl right
  where
    by : (none : Bool) → eqb (length buffer) 0 ≡ none → (none || ltb 1 mode) ≡ false → 0 < length buffer
    by true is right = absurd (false≢true (sym right))
    by false is right = omega (arith, eqb-false (length buffer) 0 is)

-- what the request answers with, and leaves in the buffer
abbrev Answers : List ℕ → Key → ℕ → ℕ → ℕ → List ℕ → ℕ → List ℕ → List ℕ → Type 0
Answers img key caller mode position buffer code numbers after =
    (code ≡ (line_read img key caller mode position buffer).code)
    × ((numbers ≡ (line_read img key caller mode position buffer).numbers) × (after ≡ (line_read img key caller mode position buffer).buffer))

-- a file that passed the stage
pub record LineAsked (img : List ℕ) (key : Key) (caller mode position : ℕ) (buffer : List ℕ) (g : Geometry) (e : ℕ) (x : Entry) : Type 0 where
  pub reached : Reached img key (wrong_reading mode buffer) caller Read 1 (λ y. eqb y.readers 0) g e x

module _ (img : List ℕ) (key : Key) (caller mode position : ℕ) (buffer : List ℕ) where
  answers_of : {o : Outcome} → line_read img key caller mode position buffer ≡ o → Answers img key caller mode position buffer o.code o.numbers o.buffer
  answers_of is = (sym (ap (λ (o : Outcome). o.code) is), (sym (ap (λ (o : Outcome). o.numbers) is), sym (ap (λ (o : Outcome). o.buffer) is)))

  module _ (asked : Asked) (is : asked ≡ accessed_of img key (wrong_reading mode buffer) caller Read 1 (λ x. eqb x.readers 0)) where
    pub line_unasked : (code : ℕ) → asked ≡ Refused code → Answers img key caller mode position buffer code (0 ∷ (0 ∷ (0 ∷ []))) buffer
    unfolding line_read line_read_rows
    line_unasked code told = answers_of (reading_unasked img key caller (wrong_reading mode buffer) position buffer _ (sym is ∙ told))

    pub line_read_asked : (g : Geometry) (e : ℕ) (x : Entry) → asked ≡ File g e x → LineAsked img key caller mode position buffer g e x
    line_read_asked g e x told =
        record { reached = reached_file img key (wrong_reading mode buffer) caller Read 1 (λ y. eqb y.readers 0) g e x (sym is ∙ told) }

module _ {img : List ℕ} {key : Key} {caller mode position : ℕ} {buffer : List ℕ} {g : Geometry} {e : ℕ} {x : Entry}
    (file : LineAsked img key caller mode position buffer g e x) where
  -- what `bytes_in` asks
  pub line_counted : (0 < g.segments.0) × (g.segments.0 ≤ most_segments) × (x.length < 65536)
  line_counted = reading_counted file.reached

  -- a reading whose conditions hold
  pub line_read_given : position ≤ x.length * payload_bytes g
      → line_read img key caller mode position buffer ≡ found_outcome img position buffer (line_found (mode_of mode) (length buffer) (bytes_behind img key position))
  unfolding line_read line_read_rows
  line_read_given inside = reading_given file.reached position inside buffer _

  module _ {size : ℕ} (counted : size ≡ x.length * payload_bytes g) where
    pub line_beyond : size < position → Answers img key caller mode position buffer 0o44 (0 ∷ (0 ∷ (0 ∷ []))) buffer
    unfolding line_read line_read_rows
    line_beyond over = answers_of img key caller mode position buffer (reading_beyond file.reached position (omega (arith, counted, over)) buffer _)

    module _ (within : position ≤ size) where
      inside : position ≤ x.length * payload_bytes g
      inside = omega (arith, counted, within)

      -- what `locate` asks
      pub line_located : Sized img g
          × (((z : ℕ) → 0 < count z (blocks_of img g x) → z < g.blocks)
          × ((x.kind ≡ 2) × (position ≤ x.length * payload_bytes g)))
      line_located = reading_located file.reached position inside

      -- what `read_payloads` asks, and what is answered when it has read
      module _ (here : List ℕ) (stands : here ≡ drop position (payloads_of img g (blocks_of img g x))) where
        pub line_ready : (0 < length buffer) × (length (here) ≤ most_bytes)
        line_ready = (some_room mode buffer file.reached.file.argument, bytes_few file.reached position here stands)

        module _ (after : List ℕ) (r : LineRead) {kind : LineMode} (means : kind ≡ mode_of mode)
            (read : state_ended after r ≡ at_end (length buffer) (read_from kind (length buffer) buffer 0 0 (here))) where
          found : state_ended after r ≡ state_left buffer (line_found (mode_of mode) (length buffer) (bytes_behind img key position))
          found =
              read
              ∙ ap (λ (m : LineMode). at_end (length buffer) (read_from m (length buffer) buffer 0 0 (here))) means
              ∙ ap (λ (s : List ℕ). at_end (length buffer) (read_from (mode_of mode) (length buffer) buffer 0 0 s)) (bytes_here file.reached position here stands)
              ∙ steps_found (mode_of mode) (length buffer) buffer (bytes_behind img key position) refl line_ready.0

          pub line_fits : position + r.position ≤ most_bytes
          line_fits =
              let passed = passed_most (mode_of mode) (length buffer) (bytes_behind img key position) in
              omega (arith, ap (λ (s : LineState). s.passed) found, passed, bytes_left file.reached position, few_bytes file.reached, inside)

          pub line_done : Answers img key caller mode position buffer 0 (r.count ∷ (r.status ∷ ((position + r.position) ∷ []))) after
          line_done =
              let a = answers_of img key caller mode position buffer (line_read_given inside) in (
                a.0,
                (
                  ap (λ (s : LineState). s.count ∷ (s.status ∷ ((position + s.passed) ∷ []))) found ∙ a.1.0,
                  ap (λ (s : LineState). s.buffer) found ∙ a.1.1,
                ),
              )

module _ (img : List ℕ) (key : Key) (caller mode position : ℕ) (buffer : List ℕ) where
  -- where the code is 0, its conditions hold
  pub line_read_clear : (line_read img key caller mode position buffer).code ≡ 0
      → LineAsked img key caller mode position buffer (geometry_of img) (entry_no img key) (file_of img key)
      × (position ≤ (file_of img key).length * payload_bytes (geometry_of img))
  unfolding line_read line_read_rows
  line_read_clear none =
      let c = reading_clear img key caller (wrong_reading mode buffer) position (sym (code_is _ img buffer _) ∙ none) in
      (record { reached = c.0 }, c.1)

  -- "and nothing in the image or a lent buffer changes"
  pub line_read_refused : ((line_read img key caller mode position buffer).code ≡ 0 → ⊥)
      → Unchanged (line_read img key caller mode position buffer) (0 ∷ (0 ∷ (0 ∷ []))) img buffer
  unfolding line_read
  line_read_refused never = refusal_keeps (line_read_rows img key caller mode position buffer) img buffer _ never

  -- reading changes no image
  pub line_read_image : (line_read img key caller mode position buffer).image ≡ img
  unfolding line_read
  line_read_image = image_by (line_read_rows img key caller mode position buffer) img buffer _ (λ i. i ≡ img) refl (λ clear. refl)
