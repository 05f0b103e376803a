-- A formatted binary line of which one data byte was changed, read by whole requests: bit 1 is set.
use Prim.Native.Nat.{ℕ, ◌+◌, ◌/◌, ◌≤◌, ◌<◌}
use mathlib.Core.Path.{◌≡◌, sym, ap, ◌∙◌}
use mathlib.Core.List.{List, [], ◌∷◌, ◌++◌}
use native.Mathlib.Omega.{arith}
use lib.ListN.{length, drop, get_or, set, replicate, length-set, length-replicate}
use Rattle.pack.specs.declared.Key.{Key}
use Rattle.asking.specs.Outcome.{Outcome}
use Rattle.stream.specs.BytesReading.{bytes_behind}
use Rattle.lines.specs.LineReading.{mode_of}
use Rattle.lines.specs.declared.LineMode.TheVariants.{Normal}
use Rattle.binary.specs.BinaryLine.{binary_line}
use Rattle.binary.specs.BinaryRead.{binary_found}
use Rattle.binary.specs.BinaryReading.{binary_outcome, binary_read}
use Rattle.binary.proofs.BinaryRoundTrip.{changed_read, changed_normal}
use Rattle.binary.proofs.BinaryReadingStage.{binary_read_done}
use Rattle.promises.specs.BinaryAgain.{PartsRead}
use Rattle.promises.proofs.BinaryParts.{binary_parts_one}

-- from the position on stands a line as it is stored, with any NULs before it and anything behind it, but for data byte i, which is another byte
module _ (img : List ℕ) (key : Key) (caller position nuls : ℕ) (content rest : List ℕ) (few : length content ≤ 512)
    (i y : ℕ) (there : i < length content) (byte : get_or content i 0 < 256) (byte' : y < 256) (other : y ≡ get_or content i 0 → ⊥)
    (stands : bytes_behind img key position ≡ replicate nuls 0 ++ (set (binary_line content) (4 + i) y ++ rest)) where
  -- "where the buffer holds the line a change to any one data byte sets bit 1", in either mode
  pub binary_changed : (mode : ℕ) (buffer : List ℕ) → (binary_read img key caller mode position 0 0 buffer).code ≡ 0 → length content ≤ length buffer
      → binary_read img key caller mode position 0 0 buffer
      ≡ record {
        code = 0;
        numbers = length content ∷ (2 ∷ ((position + (nuls + length (binary_line content))) ∷ (0 ∷ (0 ∷ []))));
        image = img;
        buffer = set content i y ++ drop (length content) buffer;
      }
  binary_changed mode buffer success fits =
      binary_read_done img key caller mode position 0 0 buffer success
      ∙ ap (λ (s : List ℕ). binary_outcome img position buffer (binary_found (mode_of mode) (length buffer) 0 0 s)) stands
      ∙ ap (binary_outcome img position buffer) (changed_read content few nuls rest i y there byte byte' other (mode_of mode) (length buffer) fits)
      ∙ rw (length-set content i y)

  -- in normal mode whatever the buffer is: bit 1 is set, and no other but bit 0
  pub binary_changed_normal : (buffer : List ℕ) → (binary_read img key caller 0 position 0 0 buffer).code ≡ 0
      → get_or (binary_read img key caller 0 position 0 0 buffer).numbers 1 0 / 2 ≡ 1
  binary_changed_normal buffer success =
      ap (λ (o : Outcome). get_or o.numbers 1 0 / 2) (binary_read_done img key caller 0 position 0 0 buffer success)
      ∙ ap (λ (s : List ℕ). (binary_found Normal (length buffer) 0 0 s).status / 2) stands
      ∙ changed_normal content few nuls rest i y there byte byte' other (length buffer)

  -- and in parts at the last
  pub binary_changed_parts : {buffers : ℕ → List ℕ} {laid : List ℕ} {status next : ℕ} → PartsRead img key caller buffers position 0 0 laid status next → status ≡ 2
  binary_changed_parts {buffers} parts = by (replicate (length content + 512) 0) (length-replicate {A = ℕ} (length content + 512) 0) parts
    where
      by : (large : List ℕ) → length large ≡ length content + 512 → {laid : List ℕ} {status next : ℕ}
          → PartsRead img key caller buffers position 0 0 laid status next → status ≡ 2
      by large long parts =
          let one = binary_parts_one img key caller parts large (omega (arith, long)) in
          let changed = binary_changed 1 large (ap (λ (o : Outcome). o.code) one) (omega (arith, long)) in
          ap (λ (o : Outcome). get_or o.numbers 1 0) (sym one ∙ changed)
