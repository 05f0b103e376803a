-- Reading a formatted binary line: its place in the table, what it answers where its code is 0, and what a refusal leaves.
use Prim.Native.Nat.{ℕ, ◌+◌, ◌*◌, ◌≤◌, ◌<◌}
use mathlib.Core.Path.{◌≡◌, refl, sym, ap, ◌∙◌}
use mathlib.Core.Bool.{Bool, true, false, not, ◌&&◌, ◌||◌, true≢false}
use mathlib.Core.List.{List, [], ◌∷◌}
use native.Mathlib.Decide.{ℕ_discrete}
use native.Mathlib.Omega.{arith}
use lib.Dec.{eqb, ltb}
use lib.ListN.{length, get_or}
use borrow.Author.Tests.{eqb-true, eqb-false, ltb-false, eq-eqb, ne_eqb, le-ltb}
use Rattle.answers.specs.Refusals.{table_order, in_order}
use Rattle.pack.specs.declared.Key.{Key}
use Rattle.pack.specs.declared.Geometry.{Geometry}
use Rattle.pack.specs.declared.Entry.{Entry}
use Rattle.pack.specs.Geometry.{geometry_of, payload_bytes}
use Rattle.asking.specs.declared.Right.TheVariants.{Read}
use Rattle.asking.specs.Outcome.{Outcome, Unchanged}
use Rattle.asking.specs.Asked.{entry_no, file_of}
use Rattle.asking.proofs.AccessStage.{Reached}
use Rattle.asking.proofs.Outcome.{code_is, refusal_keeps, image_by}
use Rattle.stream.specs.BytesReading.{bytes_behind}
use Rattle.stream.proofs.BytesReadingStage.{reading_ordered, reading_clear, reading_given, bytes_left}
use Rattle.lines.specs.LineReadingRows.{wrong_reading}
use Rattle.lines.specs.LineReading.{mode_of}
use Rattle.lines.proofs.LineReadingStage.{some_room}
use Rattle.binary.specs.BinaryRead.{BinaryFound, binary_found}
use Rattle.binary.specs.BinaryReadingRows.{wrong_given, wrong_asking, binary_read_rows}
use Rattle.binary.specs.BinaryReading.{binary_outcome, binary_read}
use Rattle.binary.proofs.BinaryProgress.{passed_most, passed_some}

or_false : (a b : Bool) → (a || b) ≡ false → (a ≡ false) × (b ≡ false)
or_false true b is = absurd (true≢false is)
or_false false b is = (refl, is)

-- what is passed in, where it is not refused
pub given_right : (to_come sum : ℕ) → wrong_given to_come sum ≡ false → (to_come ≤ 511) × (sum ≤ 255) × (to_come ≡ 0 → sum ≡ 0)
given_right to_come sum right =
    let a = or_false (ltb 511 to_come) _ right in
    let b = or_false (ltb 255 sum) _ a.1 in
    (ltb-false 511 to_come a.0, ltb-false 255 sum b.0, λ none. by (eqb to_come 0) (eqb sum 0) refl refl b.1 none)
  where
    by : (n z : Bool) → eqb to_come 0 ≡ n → eqb sum 0 ≡ z → (n && not z) ≡ false → to_come ≡ 0 → sum ≡ 0
    by true true n z is none = eqb-true sum 0 z
    by true false n z is none = absurd (true≢false is)
    by false z' n z is none = absurd (eqb-false to_come 0 n none)

pub right_given : (to_come sum : ℕ) → to_come ≤ 511 → sum ≤ 255 → (to_come ≡ 0 → sum ≡ 0) → wrong_given to_come sum ≡ false
right_given to_come sum few low none = rw (le-ltb 511 to_come few, le-ltb 255 sum low) (by (ℕ_discrete to_come 0))
  where
    by : Dec (to_come ≡ 0) → (eqb to_come 0 && not (eqb sum 0)) ≡ false
    by (yes is) = rw (eq-eqb to_come 0 is, eq-eqb sum 0 (none is))
    by (no other) = rw (ne_eqb to_come 0 other)

-- a file that passed the stage
pub record BinaryAsked (img : List ℕ) (key : Key) (caller mode to_come sum : ℕ) (buffer : List ℕ) (g : Geometry) (e : ℕ) (x : Entry) : Type 0 where
  pub reached : Reached img key (wrong_asking mode to_come sum buffer) caller Read 1 (λ y. eqb y.readers 0) g e x

module _ {img : List ℕ} {key : Key} {caller mode to_come sum : ℕ} {buffer : List ℕ} {g : Geometry} {e : ℕ} {x : Entry}
    (file : BinaryAsked img key caller mode to_come sum buffer g e x) where
  pub asked_room : 0 < length buffer
  asked_room = some_room mode buffer (or_false (wrong_reading mode buffer) (wrong_given to_come sum) file.reached.file.argument).0

  pub asked_given : (to_come ≤ 511) × (sum ≤ 255) × (to_come ≡ 0 → sum ≡ 0)
  asked_given = given_right to_come sum (or_false (wrong_reading mode buffer) (wrong_given to_come sum) file.reached.file.argument).1

  -- a reading whose conditions hold
  pub binary_read_given : (position : ℕ) → position ≤ x.length * payload_bytes g
      → binary_read img key caller mode position to_come sum buffer
      ≡ binary_outcome img position buffer (binary_found (mode_of mode) (length buffer) to_come sum (bytes_behind img key position))
  unfolding binary_read binary_read_rows
  binary_read_given position inside = reading_given file.reached position inside buffer _

module _ (img : List ℕ) (key : Key) (caller mode position to_come sum : ℕ) (buffer : List ℕ) where
  abbrev outcome : Outcome
  outcome = binary_read img key caller mode position to_come sum buffer

  abbrev found : BinaryFound
  found = binary_found (mode_of mode) (length buffer) to_come sum (bytes_behind img key position)

  -- 40, 15, 41, 2, 6, 43, 45 and 44 stand in the order of the table
  pub binary_read_ordered : in_order table_order 0 (binary_read_rows img key caller mode position to_come sum buffer) ≡ true
  unfolding binary_read_rows
  binary_read_ordered = reading_ordered img key caller (wrong_asking mode to_come sum buffer) position

  -- "and nothing in the image or a lent buffer changes"
  pub binary_read_refused : (outcome.code ≡ 0 → ⊥) → Unchanged outcome (0 ∷ (0 ∷ (0 ∷ (0 ∷ (0 ∷ []))))) img buffer
  unfolding binary_read
  binary_read_refused never = refusal_keeps (binary_read_rows img key caller mode position to_come sum buffer) img buffer _ never

  -- reading changes no image
  pub binary_read_image : outcome.image ≡ img
  unfolding binary_read
  binary_read_image = image_by (binary_read_rows img key caller mode position to_come sum buffer) img buffer _ (λ i. i ≡ img) refl (λ clear. refl)

  module _ (none : outcome.code ≡ 0) where
    -- where the code is 0, its conditions hold
    pub binary_read_clear : BinaryAsked img key caller mode to_come sum buffer (geometry_of img) (entry_no img key) (file_of img key)
        × (position ≤ (file_of img key).length * payload_bytes (geometry_of img))
    unfolding binary_read binary_read_rows
    binary_read_clear =
        let c = reading_clear img key caller (wrong_asking mode to_come sum buffer) position (sym (code_is _ img buffer _) ∙ none) in
        (record { reached = c.0 }, c.1)

    -- it answers with what is found in the bytes from the position on
    pub binary_read_done : outcome ≡ binary_outcome img position buffer found
    binary_read_done = binary_read_given binary_read_clear.0 position binary_read_clear.1

    next_is : get_or outcome.numbers 2 0 ≡ position + found.passed
    next_is = ap (λ (o : Outcome). get_or o.numbers 2 0) binary_read_done

    -- the next position: never beyond the payloads, and on with every read that is not at the end and not refused by bit 2
    pub binary_read_most : get_or outcome.numbers 2 0 ≤ (file_of img key).length * payload_bytes (geometry_of img)
    binary_read_most =
        let clear = binary_read_clear in
        omega (
          arith,
          next_is,
          passed_most (mode_of mode) (length buffer) to_come sum (bytes_behind img key position),
          bytes_left clear.0.reached position,
          clear.1,
        )

    pub binary_read_grows : position < (file_of img key).length * payload_bytes (geometry_of img) → (get_or outcome.numbers 1 0 ≡ 4 → ⊥)
        → position < get_or outcome.numbers 2 0
    binary_read_grows before right =
        let clear = binary_read_clear in
        let left : 0 < length (bytes_behind img key position) = omega (arith, bytes_left clear.0.reached position, before) in
        let status : get_or outcome.numbers 1 0 ≡ found.status = ap (λ (o : Outcome). get_or o.numbers 1 0) binary_read_done in
        omega (
          arith,
          next_is,
          passed_some (mode_of mode) (length buffer) to_come sum (bytes_behind img key position) (asked_room clear.0) left (λ four. right (status ∙ four)),
        )
