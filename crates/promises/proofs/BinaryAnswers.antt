-- What reading a formatted binary line answers, where its code is 0: the answer of its case, and no status but those of its mode.
use Prim.Native.Nat.{ℕ}
use mathlib.Core.Path.{◌≡◌, sym, ap, subst, ◌∙◌}
use mathlib.Core.List.{List}
use lib.ListN.{length, get_or}
use Rattle.pack.specs.declared.Key.{Key}
use Rattle.asking.specs.Outcome.{Outcome}
use Rattle.stream.specs.BytesReading.{bytes_behind}
use Rattle.lines.specs.declared.LineMode.{LineMode}
use Rattle.lines.specs.LineReading.{mode_of}
use Rattle.binary.specs.BinaryRead.{BinaryFound}
use Rattle.binary.specs.BinaryCases.{Kind, BinaryCase, StatusOf}
use Rattle.binary.specs.BinaryReading.{binary_outcome, binary_read}
use Rattle.binary.proofs.BinaryCases.{binary_case, case_only}
use Rattle.binary.proofs.BinaryStatus.{binary_status}
use Rattle.binary.proofs.BinaryReadingStage.{binary_read_done}

pub binary_whole : (mode : LineMode) (most to_come sum : ℕ) (s : List ℕ) → (kind : Kind) × (found : BinaryFound) × BinaryCase mode most sum s to_come kind found
binary_whole mode most to_come sum s = (_, _, binary_case mode most to_come sum s)

module _ (img : List ℕ) (key : Key) (caller mode position to_come sum : ℕ) (buffer : List ℕ)
    (success : (binary_read img key caller mode position to_come sum buffer).code ≡ 0) where
  pub binary_answered : {kind : Kind} {found : BinaryFound} → BinaryCase (mode_of mode) (length buffer) sum (bytes_behind img key position) to_come kind found
      → binary_read img key caller mode position to_come sum buffer ≡ binary_outcome img position buffer found
  binary_answered c = binary_read_done img key caller mode position to_come sum buffer success ∙ ap (binary_outcome img position buffer) (sym (case_only c).1)

  pub binary_statuses : StatusOf (mode_of mode) (get_or (binary_read img key caller mode position to_come sum buffer).numbers 1 0)
  binary_statuses =
      subst (StatusOf (mode_of mode)) (ap (λ (o : Outcome). get_or o.numbers 1 0) (sym (binary_read_done img key caller mode position to_come sum buffer success)))
      (binary_status (mode_of mode) (length buffer) to_come sum (bytes_behind img key position))
