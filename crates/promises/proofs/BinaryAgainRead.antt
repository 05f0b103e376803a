-- Formatted binary lines that stand in the payloads of a file that is open for input are read by whole requests, in either mode at each call, and in any parts.
use Prim.Native.Nat.{ℕ, ◌+◌, ◌≤◌, ◌<◌}
use mathlib.Core.Path.{◌≡◌, sym, ap, subst, ◌∙◌}
use mathlib.Core.List.{List, [], ◌∷◌, ◌++◌}
use native.Mathlib.Omega.{arith}
use lib.ListN.{length, take, drop, get_or, replicate, length-append, length-drop, length-replicate}
use lib.Seq.{take-append_seam, drop-drop}
use Rattle.pack.specs.declared.Geometry.{Geometry}
use Rattle.pack.specs.declared.Key.{Key}
use Rattle.pack.specs.Entry.{entry_of}
use Rattle.asking.specs.Outcome.{Outcome}
use Rattle.lines.specs.LineReading.{mode_of}
use Rattle.binary.specs.BinaryLine.{binary_line}
use Rattle.binary.specs.BinaryRead.{binary_found}
use Rattle.binary.specs.BinaryReadingRows.{wrong_asking}
use Rattle.binary.specs.BinaryReading.{binary_outcome, binary_read}
use Rattle.binary.specs.BinaryRoundTrip.{Stored, only_nuls, one_line}
use Rattle.binary.proofs.BinaryRoundTrip.{written_read, written_left, nuls_read}
use Rattle.binary.proofs.BinaryReadingStage.{BinaryAsked, binary_read_given}
use Rattle.promises.specs.BytesAgain.{payloads_in}
use Rattle.promises.specs.BinaryAgain.{PartsRead, InAnyParts, BinaryReadAgain, at_end, one_read}
use Rattle.promises.proofs.BytesAgainHeld.{Held, held_payloads, held_length, held_reached}
use Rattle.promises.proofs.BinaryParts.{right_reading, read_otherwise, binary_parts_one, binary_parts_end}

-- the same calls, said otherwise
same_parts : {img : List ℕ} {key : Key} {caller : ℕ} {buffers : ℕ → List ℕ} {position to_come sum : ℕ} {laid laid' : List ℕ} {status status' next next' : ℕ}
    → laid ≡ laid' → status ≡ status' → next ≡ next'
    → PartsRead img key caller buffers position to_come sum laid status next → PartsRead img key caller buffers position to_come sum laid' status' next'
same_parts {img} {key} {caller} {buffers} {position} {to_come} {sum} {laid} {laid'} {status} {status'} {next} {next'} a b c parts =
    subst (λ (s : List ℕ). PartsRead img key caller buffers position to_come sum s status' next') a
    (subst (λ (n : ℕ). PartsRead img key caller buffers position to_come sum laid n next') b
    (subst (λ (n : ℕ). PartsRead img key caller buffers position to_come sum laid status n) c parts))

-- a line that is read at once with a large buffer is read in any parts
module _ (img : List ℕ) (key : Key) (caller position : ℕ) (content : List ℕ) (next : ℕ) (large : List ℕ) (many : 512 ≤ length large)
    (at_once : binary_read img key caller 1 position 0 0 large
    ≡ record { code = 0; numbers = length content ∷ (0 ∷ (next ∷ (0 ∷ (0 ∷ [])))); image = img; buffer = content ++ drop (length content) large }) where
  parts_alone : (buffers : ℕ → List ℕ) (laid : List ℕ) (status after : ℕ) → PartsRead img key caller buffers position 0 0 laid status after
      → (laid ≡ content) × (status ≡ 0) × (after ≡ next)
  parts_alone buffers laid status after parts =
      let same = sym (binary_parts_one img key caller parts large many) ∙ at_once in
      let long : length laid ≡ length content = ap (λ (o : Outcome). get_or o.numbers 0 0) same in
      let bytes : laid ++ drop (length laid) large ≡ content ++ drop (length content) large = ap (λ (o : Outcome). o.buffer) same in (
        sym (take-append_seam laid (drop (length laid) large))
            ∙ ap (take (length laid)) bytes
            ∙ ap (λ (n : ℕ). take n (content ++ drop (length content) large)) long
            ∙ take-append_seam content (drop (length content) large),
        ap (λ (o : Outcome). get_or o.numbers 1 0) same,
        ap (λ (o : Outcome). get_or o.numbers 2 0) same,
      )

  parts_there : (buffers : ℕ → List ℕ) → ((i : ℕ) → 0 < length (buffers i)) → PartsRead img key caller buffers position 0 0 content 0 next
  parts_there buffers lent =
      let first =
      read_otherwise img key caller 1 position 0 0 large (ap (λ (o : Outcome). o.code) at_once) 1 (buffers 0) (omega arith) (lent 0) in
      let p = binary_parts_end img key caller buffers lent position 0 0 (ap (λ (o : Outcome). o.code) first) in
      let is = parts_alone buffers p.0 p.1 p.2 p.3 in
      same_parts is.0 is.1 is.2 p.3

  in_any_parts : InAnyParts img key caller position content next
  in_any_parts = record { there = parts_there; alone = parts_alone }

-- one after another, from a position on
module _ {img : List ℕ} {key : Key} {g : Geometry} {e caller : ℕ} {payloads : List ℕ} (held : Held img key g e caller payloads) (reader : 0 < (entry_of img g e).readers) where
  read_held : (mode position : ℕ) (buffer : List ℕ) → mode ≤ 1 → 0 < length buffer → position ≤ length payloads → (s : List ℕ) → drop position payloads ≡ s
      → binary_read img key caller mode position 0 0 buffer ≡ binary_outcome img position buffer (binary_found (mode_of mode) (length buffer) 0 0 s)
  read_held mode position buffer small lent within s is =
      binary_read_given asked_reading position (omega (arith, within, held_length held))
      ∙ ap (λ (t : List ℕ). binary_outcome img position buffer (binary_found (mode_of mode) (length buffer) 0 0 (drop position t))) (held_payloads held)
      ∙ ap (λ (t : List ℕ). binary_outcome img position buffer (binary_found (mode_of mode) (length buffer) 0 0 t)) is
    where
      asked_reading : BinaryAsked img key caller mode 0 0 buffer g e (entry_of img g e)
      asked_reading = record { reached = held_reached held reader (wrong_asking mode 0 0 buffer) (rw (right_reading mode buffer small lent)) }

  -- a stored line, with NULs before it
  module _ (content s : List ℕ) (nuls : ℕ) (few : length content ≤ 512) (position : ℕ) (within : position ≤ length payloads)
      (is : drop position payloads ≡ replicate nuls 0 ++ (binary_line content ++ s)) where
    abbrev next : ℕ
    next = position + (nuls + length (binary_line content))

    read_line_law : (mode : ℕ) (buffer : List ℕ) → mode ≤ 1 → 0 < length buffer → length content ≤ length buffer
        → binary_read img key caller mode position 0 0 buffer
        ≡ record { code = 0; numbers = length content ∷ (0 ∷ (next ∷ (0 ∷ (0 ∷ [])))); image = img; buffer = content ++ drop (length content) buffer }
    read_line_law mode buffer small lent fits =
        read_held mode position buffer small lent within (replicate nuls 0 ++ (binary_line content ++ s)) is
        ∙ ap (binary_outcome img position buffer) (written_read content few nuls s (mode_of mode) (length buffer) fits)

    read_parts : InAnyParts img key caller position content next
    read_parts =
        let large : List ℕ = replicate (length content + 512) 0 in
        let long : length large ≡ length content + 512 = length-replicate {A = ℕ} (length content + 512) 0 in
        in_any_parts img key caller position content next large (omega (arith, long)) (read_line_law 1 large (omega arith) (omega (arith, long)) (omega (arith, long)))

    behind : drop next payloads ≡ s
    behind =
        sym (drop-drop (nuls + length (binary_line content)) position payloads)
        ∙ ap (drop (nuls + length (binary_line content))) is ∙ written_left content few nuls s

    inside : next ≤ length payloads
    inside =
        omega (
          arith,
          within,
          length-drop position payloads,
          ap length is,
          length-append (replicate nuls 0) (binary_line content ++ s),
          length-append (binary_line content) s,
          length-replicate {A = ℕ} nuls 0,
        )

  pub read_stored : {s : List ℕ} {contents : List (List ℕ)} → Stored s contents → (position : ℕ) → position ≤ length payloads → drop position payloads ≡ s
      → BinaryReadAgain img key caller position contents
  read_stored (only_nuls nuls) position within is =
      let end : position + length (replicate {A = ℕ} nuls 0) ≡ length (payloads_in img key) =
      omega (arith, within, length-drop position payloads, ap length is, ap length (held_payloads held)) in
      at_end (λ mode buffer small lent.
      read_held mode position buffer small lent within (replicate nuls 0) is
      ∙ ap (binary_outcome img position buffer) (nuls_read (mode_of mode) (length buffer) nuls)
      ∙ ap (λ (n : ℕ). record { code = 0; numbers = 0 ∷ (64 ∷ (n ∷ (0 ∷ (0 ∷ [])))); image = img; buffer = buffer }) end)
  read_stored (one_line {content} {s} {contents} nuls few rest) position within is =
      one_read {content = content} {contents = contents} (next content s nuls few position within is) (read_line_law content s nuls few position within is)
      (read_parts content s nuls few position within is)
      (read_stored rest (next content s nuls few position within is) (inside content s nuls few position within is) (behind content s nuls few position within is))
