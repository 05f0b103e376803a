-- Requests on formatted binary lines give each code in its case: reading a line, and writing one.
use Prim.Native.Nat.{ℕ, ◌+◌, ◌/◌}
use mathlib.Core.Path.{◌≡◌, ap, ◌∙◌}
use mathlib.Core.Logic.{◌↔◌, inl}
use mathlib.Core.Bool.{true, not, ◌&&◌, ◌||◌}
use mathlib.Core.List.{List}
use lib.Dec.{eqb, ltb}
use lib.ListN.{length}
use Rattle.pack.specs.declared.Key.{Key}
use Rattle.pack.specs.Geometry.{geometry_of, payload_bytes}
use Rattle.asking.specs.Outcome.{settled}
use Rattle.stream.specs.BytesWriting.{wrong_gather, bytes_written}
use Rattle.lines.specs.LineReadingRows.{wrong_reading}
use Rattle.binary.specs.BinaryLine.{binary_line}
use Rattle.binary.specs.BinaryReadingRows.{wrong_given, binary_read_rows}
use Rattle.binary.specs.BinaryReading.{binary_read}
use Rattle.binary.specs.BinaryWriting.{binary_write}
use Rattle.binary.proofs.BinarySums.{line_length}
use Rattle.requests.specs.Request.{BINARY-READ, BINARY-WRITE}
use Rattle.promises.specs.GivenWhen.{GivesCode}
use Rattle.promises.specs.Codes.{OtherGiven, cases_of}
use Rattle.promises.proofs.CodesTests.{equal_numbers, above, denies, either, both}
use Rattle.promises.proofs.CodesBlocks.{adding_code}
use Rattle.promises.proofs.CodesLines.{reading_code, unreadable, other_gather, full_count, counted_few}

other_given : (to_come sum : ℕ) → wrong_given to_come sum ≡ true ↔ OtherGiven to_come sum
other_given to_come sum =
    either (ltb 511 to_come) (ltb 255 sum || (eqb to_come 0 && not (eqb sum 0))) (above 511 to_come)
    (either (ltb 255 sum) (eqb to_come 0 && not (eqb sum 0)) (above 255 sum)
    (both (eqb to_come 0) (not (eqb sum 0)) (equal_numbers to_come 0) (denies (eqb sum 0) (equal_numbers sum 0))))

pub binary_read_code : (img : List ℕ) (key : Key) (caller mode position to_come sum : ℕ) (buffer : List ℕ)
    → GivesCode (cases_of (BINARY-READ key caller mode position to_come sum buffer) img) (binary_read img key caller mode position to_come sum buffer).code
unfolding binary_read binary_read_rows settled
binary_read_code img key caller mode position to_come sum buffer =
    reading_code img key caller _ _ (either (wrong_reading mode buffer) (wrong_given to_come sum) (unreadable mode buffer) (other_given to_come sum)) position

pub binary_write_code : (img : List ℕ) (key : Key) (caller : ℕ) (content gather : List ℕ) (filled : ℕ)
    → GivesCode (cases_of (BINARY-WRITE key caller content gather filled) img) (binary_write img key caller content gather filled).code
unfolding binary_write bytes_written settled
binary_write_code img key caller content gather filled =
    adding_code img key caller _ _
    (either (wrong_gather img gather filled) (ltb 512 (length content)) (other_gather img gather filled) (above 512 (length content))) _ _
    (λ right good. counted_few img (full_count img gather filled (λ other. good (inl other)) (binary_line content)
    ∙ ap (λ (n : ℕ). (filled + n) / payload_bytes (geometry_of img)) (line_length content)))
