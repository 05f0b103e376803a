-- Reading on, request by request: what a reading gives back is not refused, and the next one goes on in the bytes behind.
use Prim.Native.Nat.{ℕ, ◌+◌, ◌*◌, ◌≤◌, ◌<◌}
use mathlib.Core.Path.{◌≡◌, sym, ap, ◌∙◌, subst}
use mathlib.Core.Bool.{Bool, false}
use mathlib.Core.List.{List}
use native.Mathlib.Omega.{arith}
use lib.Dec.{eqb}
use lib.ListN.{length, drop}
use lib.Seq.{drop-drop}
use Rattle.pack.specs.declared.Key.{Key}
use Rattle.pack.specs.Geometry.{geometry_of, payload_bytes}
use Rattle.pack.specs.File.{blocks_of}
use Rattle.asking.specs.Asked.{entry_no, file_of}
use Rattle.asking.specs.declared.Right.TheVariants.{Read}
use Rattle.asking.proofs.AccessStage.{Reached}
use Rattle.bodies.specs.Payloads.{payloads_of}
use Rattle.lines.specs.declared.LineMode.{LineMode}
use Rattle.lines.specs.declared.LineMode.TheVariants.{Normal, Special}
use Rattle.lines.specs.LineReadingRows.{wrong_reading}
use Rattle.lines.specs.LineReading.{mode_of}
use Rattle.stream.specs.BytesReading.{bytes_behind}
use Rattle.binary.specs.BinaryRead.{BinaryFound, binary_found}
use Rattle.binary.specs.BinaryReadingRows.{wrong_given, wrong_asking}
use Rattle.binary.specs.BinaryReading.{binary_outcome, binary_read}
use Rattle.binary.proofs.BinaryProgress.{passed_most}
use Rattle.binary.proofs.BinaryGiven.{special_given, special_given_none, normal_given_none}
use Rattle.stream.proofs.BytesReadingStage.{bytes_left}
use Rattle.binary.proofs.BinaryReadingStage.{right_given, BinaryAsked, asked_room, asked_given, binary_read_given, binary_read_clear}
use native.Mathlib.Decide.{ℕ_discrete}

nothing_given : (f : BinaryFound) → (f.to_come ≡ 0) × (f.sum ≡ 0) → wrong_given f.to_come f.sum ≡ false
nothing_given f g = rw (g.0, g.1)

-- whatever a reading gives back may be
pub given_again : (mode : LineMode) (most to_come sum : ℕ) (s : List ℕ) → 0 < most → to_come ≤ 511
    → wrong_given (binary_found mode most to_come sum s).to_come (binary_found mode most to_come sum s).sum ≡ false
given_again Normal most to_come sum s some few =
    nothing_given (binary_found Normal most to_come sum s) (normal_given_none most to_come sum s)
given_again Special most to_come sum s some few = by (ℕ_discrete (binary_found Special most to_come sum s).status 1)
  where
    by : Dec ((binary_found Special most to_come sum s).status ≡ 1)
        → wrong_given (binary_found Special most to_come sum s).to_come (binary_found Special most to_come sum s).sum ≡ false
    by (yes one) =
        let g = special_given most to_come sum s some (omega arith) one in
        let f = binary_found Special most to_come sum s in
        right_given f.to_come f.sum g.1 g.2 (λ is. absurd (omega (arith, g.0, is)))
    by (no other) = nothing_given (binary_found Special most to_come sum s) (special_given_none most to_come sum s other)

module _ (img : List ℕ) (key : Key) (caller mode position to_come sum : ℕ) (buffer : List ℕ)
    (none : (binary_read img key caller mode position to_come sum buffer).code ≡ 0) where
  abbrev found : BinaryFound
  found = binary_found (mode_of mode) (length buffer) to_come sum (bytes_behind img key position)

  pub bytes_next : bytes_behind img key (position + found.passed) ≡ drop found.passed (bytes_behind img key position)
  bytes_next = sym (drop-drop found.passed position (payloads_of img (geometry_of img) (blocks_of img (geometry_of img) (file_of img key))))

  -- with any mode and any buffer that are right, the next reading has code 0 and goes on in the bytes behind
  pub binary_read_again : (mode' : ℕ) (buffer' : List ℕ) → wrong_reading mode' buffer' ≡ false
      → binary_read img key caller mode' (position + found.passed) found.to_come found.sum buffer'
      ≡ binary_outcome img (position + found.passed) buffer'
      (binary_found (mode_of mode') (length buffer') found.to_come found.sum (drop found.passed (bytes_behind img key position)))
  binary_read_again mode' buffer' right =
      passed
      ∙ ap (λ (s : List ℕ). binary_outcome img (position + found.passed) buffer' (binary_found (mode_of mode') (length buffer') found.to_come found.sum s)) bytes_next
    where
      r : BinaryAsked img key caller mode to_come sum buffer (geometry_of img) (entry_no img key) (file_of img key)
          × (position ≤ (file_of img key).length * payload_bytes (geometry_of img))
      r = binary_read_clear img key caller mode position to_come sum buffer none

      again : wrong_asking mode' found.to_come found.sum buffer' ≡ false
      again = rw right (given_again (mode_of mode) (length buffer) to_come sum (bytes_behind img key position) (asked_room r.0) (asked_given r.0).0)

      reached' : BinaryAsked img key caller mode' found.to_come found.sum buffer' (geometry_of img) (entry_no img key) (file_of img key)
      reached' =
          record {
            reached =
                subst (λ (b : Bool). Reached img key b caller Read 1 (λ y. eqb y.readers 0) (geometry_of img) (entry_no img key) (file_of img key))
                (r.0.reached.file.argument ∙ sym again) r.0.reached;
          }

      inside : position + found.passed ≤ (file_of img key).length * payload_bytes (geometry_of img)
      inside =
          omega (
            arith,
            passed_most (mode_of mode) (length buffer) to_come sum (bytes_behind img key position),
            bytes_left r.0.reached position,
            r.1,
          )

      passed : binary_read img key caller mode' (position + found.passed) found.to_come found.sum buffer'
          ≡ binary_outcome img (position + found.passed) buffer'
          (binary_found (mode_of mode') (length buffer') found.to_come found.sum (bytes_behind img key (position + found.passed)))
      passed = binary_read_given reached' (position + found.passed) inside
