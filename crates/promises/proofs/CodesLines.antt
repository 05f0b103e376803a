-- Requests on lines of text give each code in its case: reading a line, writing one, and the ending call.
use Prim.Native.Nat.{ℕ, ◌+◌, ◌-◌, ◌/◌, ◌≤◌, ◌<◌}
use mathlib.Core.Path.{◌≡◌, ap, ◌∙◌}
use mathlib.Core.Logic.{◌↔◌, ◌⊎◌, inl, inr}
use mathlib.Core.Bool.{Bool, true, not}
use mathlib.Core.List.{List}
use native.Mathlib.Nat.{div_self, zero-div}
use native.Mathlib.Omega.{arith}
use native.Mathlib.Decide.{ℕ_discrete}
use lib.Dec.{eqb, leb, ltb}
use lib.ListN.{length, length-replicate}
use borrow.Author.Tests.{ltb-true, eq-eqb, ne_eqb}
use Rattle.pack.specs.declared.Key.{Key}
use Rattle.pack.specs.Geometry.{geometry_of, payload_bytes}
use Rattle.pack.specs.Consistent.{Consistent}
use Rattle.pack.specs.Owner.{FreeBlock, free_count}
use Rattle.answers.specs.Refusals.{first_of}
use Rattle.asking.specs.Access.{access_rows}
use Rattle.asking.specs.Asked.{file_of}
use Rattle.asking.specs.Outcome.{settled}
use Rattle.stream.specs.BytesReadingRows.{reading_rows}
use Rattle.stream.proofs.Gather.{gathered_count}
use Rattle.lines.specs.LineReadingRows.{wrong_reading, line_read_rows}
use Rattle.lines.specs.LineReading.{mode_of, line_read}
use Rattle.lines.specs.LineWrite.{put_all, taken_of}
use Rattle.stream.specs.BytesWriting.{wrong_gather, gathered_in, bytes_written}
use Rattle.lines.specs.LineWriting.{nuls_for, line_write, line_end}
use Rattle.requests.specs.Request.{LINE-READ, LINE-WRITE, LINE-END}
use Rattle.promises.specs.GivenWhen.{GivesCode}
use Rattle.promises.specs.Codes.{ReadingCases, NoLineMode, OtherGather, cases_of}
use Rattle.promises.proofs.GivenWhen.{rung, clear}
use Rattle.promises.proofs.CodesTests.{equal_numbers, above, at_least, either, one_alone, unread}
use Rattle.promises.proofs.CodesFiles.{file_code}
use Rattle.promises.proofs.CodesBlocks.{access_code, sized, counted_free, adding_code}

-- reading bytes of a file, from a position on
pub reading_code : (img : List ℕ) (key : Key) (caller : ℕ) (wrong : Bool) (Wrong : Type 0) → wrong ≡ true ↔ Wrong → (position : ℕ)
    → GivesCode (ReadingCases img key caller Wrong position) (first_of (reading_rows img key caller wrong position))
unfolding access_rows
reading_code img key caller wrong Wrong decides position =
    file_code img key wrong Wrong decides _ _ (λ right.
    access_code _ 1 (file_of img key) caller _ _ (unread (file_of img key).readers) _ _ (rung _ 0o44 _ (above _ position) (λ p. clear)))

-- a maximum count of 0, or no mode
pub unreadable : (mode : ℕ) (buffer : List ℕ) → wrong_reading mode buffer ≡ true ↔ ((length buffer ≡ 0) ⊎ NoLineMode mode)
unreadable mode buffer = either (eqb (length buffer) 0) (ltb 1 mode) (equal_numbers (length buffer) 0) (above 1 mode)

pub line_read_code : (img : List ℕ) (key : Key) (caller mode position : ℕ) (buffer : List ℕ)
    → GivesCode (cases_of (LINE-READ key caller mode position buffer) img) (line_read img key caller mode position buffer).code
unfolding line_read line_read_rows settled
line_read_code img key caller mode position buffer = reading_code img key caller (wrong_reading mode buffer) _ (unreadable mode buffer) position

-- the gather buffer
module _ (img gather : List ℕ) (filled : ℕ) where
  pub other_gather : wrong_gather img gather filled ≡ true ↔ OtherGather img gather filled
  other_gather =
      either (not (eqb (length gather) (payload_bytes (geometry_of img)))) (leb (payload_bytes (geometry_of img)) filled)
      (sized (length gather) (payload_bytes (geometry_of img))) (at_least (payload_bytes (geometry_of img)) filled)

  module _ (good : OtherGather img gather filled → ⊥) where
    room : filled < payload_bytes (geometry_of img)
    room = let fits : payload_bytes (geometry_of img) ≤ filled → ⊥ = λ over. good (inr over) in omega (arith, fits)

    whole : length gather ≡ payload_bytes (geometry_of img)
    whole = by (ℕ_discrete (length gather) (payload_bytes (geometry_of img)))
      where
        by : Dec (length gather ≡ payload_bytes (geometry_of img)) → length gather ≡ payload_bytes (geometry_of img)
        by (yes is) = is
        by (no other) = absurd (good (inl other))

    pub full_count : (bytes : List ℕ) → length (gathered_in img gather filled bytes).full ≡ (filled + length bytes) / payload_bytes (geometry_of img)
    full_count bytes = gathered_count (payload_bytes (geometry_of img)) gather filled room whole bytes

    -- the ending call fills one block, or at 0 none
    end_none : filled ≡ 0 → length (gathered_in img gather filled (nuls_for img filled)).full ≡ 0
    end_none is =
        let nuls : length (nuls_for img filled) ≡ 0 = rw (eq-eqb filled 0 is) (length-replicate {A = ℕ} 0 0) in
        let nothing : filled + length (nuls_for img filled) ≡ 0 = omega (arith, is, nuls) in
        full_count (nuls_for img filled) ∙ ap (λ (n : ℕ). n / payload_bytes (geometry_of img)) nothing ∙ zero-div (payload_bytes (geometry_of img))

    end_one : (filled ≡ 0 → ⊥) → length (gathered_in img gather filled (nuls_for img filled)).full ≡ 1
    end_one some =
        let nuls : length (nuls_for img filled) ≡ payload_bytes (geometry_of img) - filled = rw (ne_eqb filled 0 some) (length-replicate {A = ℕ} _ 0) in
        let all : filled + length (nuls_for img filled) ≡ payload_bytes (geometry_of img) = omega (arith, nuls, room) in
        full_count (nuls_for img filled) ∙ ap (λ (n : ℕ). n / payload_bytes (geometry_of img)) all ∙ div_self (omega (arith, room))

-- fewer are free
pub counted_few : (img : List ℕ) {needed full : ℕ} → needed ≡ full → ltb (free_count img) needed ≡ true ↔ free_count img < full
counted_few img is = rw is (above (free_count img) _)

pub line_write_code : (img : List ℕ) (key : Key) (caller mode : ℕ) (text gather : List ℕ) (filled : ℕ)
    → GivesCode (cases_of (LINE-WRITE key caller mode text gather filled) img) (line_write img key caller mode text gather filled).code
unfolding line_write bytes_written settled
line_write_code img key caller mode text gather filled =
    adding_code img key caller _ _ (either (wrong_gather img gather filled) (ltb 1 mode) (other_gather img gather filled) (above 1 mode)) _ _
    (λ right good. counted_few img (full_count img gather filled (λ other. good (inl other)) (put_all (taken_of (mode_of mode) text))))

pub line_end_code : (img : List ℕ) (key : Key) (caller : ℕ) (gather : List ℕ) (filled : ℕ)
    → GivesCode (cases_of (LINE-END key caller gather filled) img) (line_end img key caller gather filled).code
unfolding line_end bytes_written settled
line_end_code img key caller gather filled =
    adding_code img key caller _ _ (one_alone (wrong_gather img gather filled) (other_gather img gather filled)) _ _ (λ right good. by right good (ℕ_discrete filled 0))
  where
    by : Consistent img → (OtherGather img gather filled → ⊥) → Dec (filled ≡ 0)
        → ltb (free_count img) (length (gathered_in img gather filled (nuls_for img filled)).full) ≡ true ↔ ((0 < filled) × ((b : ℕ) → FreeBlock img b → ⊥))
    by right good (yes zero) =
        (λ t. absurd (omega (arith, ltb-true (free_count img) _ t, end_none img gather filled good zero)), λ none. absurd (omega (arith, none.0, zero)))
    by right good (no some) =
        let counted = counted_free right in
        rw (end_one img gather filled good some) ((λ t. (omega (arith, some), counted.0 t)), (λ none. counted.1 none.1))
