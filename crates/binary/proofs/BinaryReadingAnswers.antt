-- What an answer of the stage comes to for reading a formatted binary line.
use Prim.Native.Nat.{ℕ, ◌+◌, ◌*◌, ◌≤◌, ◌<◌}
use mathlib.Core.Path.{◌≡◌, refl, sym, ap, ◌∙◌}
use mathlib.Core.Bool.{Bool, ◌||◌}
use mathlib.Core.List.{List, [], ◌∷◌}
use native.Mathlib.Omega.{arith}
use lib.Dec.{eqb}
use lib.ListN.{length, drop}
use Rattle.pack.specs.declared.Geometry.{Geometry}
use Rattle.pack.specs.declared.Entry.{Entry}
use Rattle.pack.specs.declared.Key.{Key}
use Rattle.pack.specs.Geometry.{payload_bytes}
use Rattle.pack.specs.GeometrySized.{most_segments, Sized}
use Rattle.pack.specs.File.{blocks_of, count}
use Rattle.asking.specs.declared.Right.TheVariants.{Read}
use Rattle.asking.specs.AskedStage.{Asked}
use Rattle.asking.specs.AskedStage.{File, Refused}
use Rattle.asking.specs.Outcome.{Outcome}
use Rattle.asking.specs.AccessStage.{accessed_of}
use Rattle.asking.proofs.AccessStage.{reached_file}
use Rattle.bodies.specs.Payloads.{payloads_of}
use Rattle.stream.specs.Spot.{most_bytes}
use Rattle.stream.specs.BytesReading.{bytes_behind}
use Rattle.stream.proofs.BytesReadingStage.{reading_unasked, reading_counted, few_bytes, bytes_left, reading_beyond, reading_located, bytes_here, bytes_few}
use Rattle.lines.specs.LineReadingRows.{wrong_reading}
use Rattle.lines.specs.LineReading.{mode_of}
use Rattle.binary.specs.declared.binary_read.Part.{Part}
use Rattle.binary.specs.BinaryRead.{BinaryFound, binary_found}
use Rattle.binary.specs.BinaryReadingRows.{wrong_given, wrong_asking, binary_read_rows}
use Rattle.binary.specs.BinaryReading.{numbers_from, laid_in, binary_read}
use Rattle.binary.specs.BinaryPart.{ReadsAs}
use Rattle.binary.proofs.BinaryProgress.{passed_most}
use Rattle.binary.proofs.BinaryReadingStage.{BinaryAsked, asked_room, asked_given, binary_read_given}

-- what the request answers with, and leaves in the buffer
abbrev Answers : List ℕ → Key → ℕ → ℕ → ℕ → ℕ → ℕ → List ℕ → ℕ → List ℕ → List ℕ → Type 0
Answers img key caller mode position coming sum buffer code numbers after =
    (code ≡ (binary_read img key caller mode position coming sum buffer).code)
    × ((numbers ≡ (binary_read img key caller mode position coming sum buffer).numbers) × (after ≡ (binary_read img key caller mode position coming sum buffer).buffer))

module _ (img : List ℕ) (key : Key) (caller mode position coming sum : ℕ) (buffer : List ℕ) where
  answers_of : {o : Outcome} {code : ℕ} {numbers : List ℕ} → binary_read img key caller mode position coming sum buffer ≡ o → code ≡ o.code → numbers ≡ o.numbers
      → Answers img key caller mode position coming sum buffer code numbers o.buffer
  answers_of is c n = (c ∙ sym (ap (λ (o : Outcome). o.code) is), (n ∙ sym (ap (λ (o : Outcome). o.numbers) is), sym (ap (λ (o : Outcome). o.buffer) is)))

  module _ {given : Bool} (judged : given ≡ wrong_given coming sum) (asked : Asked)
      (is : asked ≡ accessed_of img key (wrong_reading mode buffer || given) caller Read 1 (λ x. eqb x.readers 0)) where
    own : asked ≡ accessed_of img key (wrong_asking mode coming sum buffer) caller Read 1 (λ x. eqb x.readers 0)
    own = is ∙ ap (λ (b : Bool). accessed_of img key (wrong_reading mode buffer || b) caller Read 1 (λ x. eqb x.readers 0)) judged

    pub binary_unasked : {code told : ℕ} {numbers : List ℕ} → asked ≡ Refused code → told ≡ code → numbers ≡ 0 ∷ (0 ∷ (0 ∷ (0 ∷ (0 ∷ []))))
        → Answers img key caller mode position coming sum buffer told numbers buffer
    unfolding binary_read binary_read_rows
    binary_unasked refused t n = answers_of (reading_unasked img key caller (wrong_asking mode coming sum buffer) position buffer _ (sym own ∙ refused)) t n

    pub binary_asked : (g : Geometry) (e : ℕ) (x : Entry) → asked ≡ File g e x → BinaryAsked img key caller mode coming sum buffer g e x
    binary_asked g e x told =
        record { reached = reached_file img key (wrong_asking mode coming sum buffer) caller Read 1 (λ y. eqb y.readers 0) g e x (sym own ∙ told) }

module _ {img : List ℕ} {key : Key} {caller mode coming sum : ℕ} {buffer : List ℕ} {g : Geometry} {e : ℕ} {x : Entry}
    (file : BinaryAsked img key caller mode coming sum buffer g e x) where
  -- what `bytes_in` asks
  pub binary_counted : (0 < g.segments.0) × (g.segments.0 ≤ most_segments) × (x.length < 65536)
  binary_counted = reading_counted file.reached

  module _ (position : ℕ) {size : ℕ} (counted : size ≡ x.length * payload_bytes g) where
    pub binary_beyond : size < position → {told : ℕ} {numbers : List ℕ} → told ≡ 0o44 → numbers ≡ 0 ∷ (0 ∷ (0 ∷ (0 ∷ (0 ∷ []))))
        → Answers img key caller mode position coming sum buffer told numbers buffer
    unfolding binary_read binary_read_rows
    binary_beyond over t n =
        answers_of img key caller mode position coming sum buffer (reading_beyond file.reached position (omega (arith, counted, over)) buffer _) t n

    module _ (within : position ≤ size) where
      inside : position ≤ x.length * payload_bytes g
      inside = omega (arith, counted, within)

      -- what `locate` asks
      pub binary_located : Sized img g
          × (((z : ℕ) → 0 < count z (blocks_of img g x) → z < g.blocks)
          × ((x.kind ≡ 2) × (position ≤ x.length * payload_bytes g)))
      binary_located = reading_located file.reached position inside

      -- what `read_part` asks, and what is answered when it has read
      module _ (here : List ℕ) (stands : here ≡ drop position (payloads_of img g (blocks_of img g x))) where
        pub binary_ready : (0 < length buffer) × (length (here) ≤ most_bytes)
        binary_ready = (asked_room file, bytes_few file.reached position here stands)

        pub binary_passed_in : (coming ≤ 511) × (sum ≤ 255) × (coming ≡ 0 → sum ≡ 0)
        binary_passed_in = asked_given file

        module _ {after : List ℕ} {r : Part} (read : ReadsAs (binary_found (mode_of mode) (length buffer) coming sum (here)) buffer after r) where
          abbrev found : BinaryFound
          found = binary_found (mode_of mode) (length buffer) coming sum (bytes_behind img key position)

          same : binary_found (mode_of mode) (length buffer) coming sum (here) ≡ found
          same = ap (binary_found (mode_of mode) (length buffer) coming sum) (bytes_here file.reached position here stands)

          pub binary_fits : position + r.passed ≤ most_bytes
          binary_fits =
              let passed = passed_most (mode_of mode) (length buffer) coming sum (bytes_behind img key position) in
              omega (
                arith,
                read.tells.passed ∙ ap (λ (f : BinaryFound). f.passed) same,
                passed,
                bytes_left file.reached position,
                few_bytes file.reached,
                inside,
              )

          pub binary_done : Answers img key caller mode position coming sum buffer 0
              (r.count ∷ (r.status ∷ ((position + r.passed) ∷ (r.coming ∷ (r.sum ∷ []))))) after
          binary_done =
              let t = read.tells in
              let told : (r.count ∷ (r.status ∷ ((position + r.passed) ∷ (r.coming ∷ (r.sum ∷ []))))) ≡ numbers_from position found =
              (λ i. t.count i ∷ (t.status i ∷ ((position + t.passed i) ∷ (t.coming i ∷ (t.sum i ∷ []))))) ∙ ap (numbers_from position) same in
              let a = answers_of img key caller mode position coming sum buffer (binary_read_given file position inside) refl told in
              (a.0, (a.1.0, read.laid ∙ ap (laid_in buffer) same ∙ a.1.1))
