-- The calls by which formatted binary lines are written: that nothing speaks against one, what it leaves, and what all come to; with room enough none is refused.
use Prim.Native.Nat.{ℕ, ◌+◌, ◌*◌, ◌≤◌, ◌<◌}
use mathlib.Core.Path.{◌≡◌, refl, sym, ap, subst, ◌∙◌}
use mathlib.Core.List.{List, [], ◌∷◌, ◌++◌, append_assoc, append-nil}
use lib.Dec.{ltb}
use lib.ListN.{length, get_or}
use borrow.Author.Tests.{ltb-false, le-ltb}
use Rattle.pack.specs.declared.Geometry.{Geometry}
use Rattle.pack.specs.declared.Key.{Key}
use Rattle.pack.specs.Geometry.{geometry_of, payload_bytes}
use Rattle.pack.specs.Owner.{free_count}
use Rattle.asking.specs.Outcome.{Outcome}
use Rattle.stream.specs.BytesWriting.{gathered_in}
use Rattle.lines.specs.LineWriting.{line_end}
use Rattle.binary.specs.BinaryLine.{binary_line}
use Rattle.binary.specs.BinaryRoundTrip.{LinesFit, no_line, one_more, binary_lines}
use Rattle.binary.specs.BinaryWriting.{binary_write}
use Rattle.promises.specs.GivenWhen.{GivesCode}
use Rattle.promises.specs.Codes.{AddingCases, OtherPayload}
use Rattle.promises.specs.BinaryAgain.{BinaryWrittenBy, nothing, call}
use Rattle.promises.proofs.BytesAgainLaid.{Clear, BytesAdded, laid_nothing, laid_compose, laid_measures}
use Rattle.promises.proofs.BytesAgainCalls.{done, bytes_clear, clear_bytes, bytes_done, bytes_laid}
use Rattle.promises.proofs.BytesAgainRoom.{part_clear, bytes_ended}

-- the lines as they are written, one behind another
lines_append : (front left : List (List ℕ)) → binary_lines (front ++ left) ≡ binary_lines front ++ binary_lines left
unfolding binary_lines
lines_append [] left = refl
lines_append (content ∷ front) left =
    ap (λ (s : List ℕ). binary_line content ++ s) (lines_append front left) ∙ sym (append_assoc (binary_line content) (binary_lines front) (binary_lines left))

one_line : (content : List ℕ) (left : List (List ℕ)) → binary_lines (content ∷ left) ≡ binary_line content ++ binary_lines left
unfolding binary_lines
one_line content left = refl

no_lines : binary_lines [] ≡ []
unfolding binary_lines
no_lines = refl

module _ (img : List ℕ) (key : Key) (caller : ℕ) (content gather : List ℕ) (filled : ℕ) where
  abbrev told : List ℕ
  told = length content ∷ (0 ∷ ((gathered_in img gather filled (binary_line content)).filled ∷ []))

  pub write_outcome : (binary_write img key caller content gather filled).code ≡ 0
      → binary_write img key caller content gather filled ≡ done img key caller (ltb 512 (length content)) gather filled (binary_line content) told
  unfolding binary_write
  write_outcome = bytes_done img key caller (ltb 512 (length content)) gather filled (binary_line content) told

  write_fits : (binary_write img key caller content gather filled).code ≡ 0 → length content ≤ 512
  unfolding binary_write
  write_fits success = ltb-false 512 (length content) (bytes_clear img key caller (ltb 512 (length content)) gather filled (binary_line content) told success).1

  clear_write : {g : Geometry} → Clear key caller g img gather filled (binary_line content) → length content ≤ 512
      → (binary_write img key caller content gather filled).code ≡ 0
  unfolding binary_write
  clear_write c few =
      ap (λ (o : Outcome). o.code)
      (clear_bytes img key caller (ltb 512 (length content)) gather filled (binary_line content) told (rw c.measures c) (le-ltb 512 (length content) few))

  -- what a call with code 0 leaves, at the pack's measures
  write_laid : {g : Geometry} → geometry_of img ≡ g → {img₁ gather₁ : List ℕ} {count status filled₁ : ℕ}
      → binary_write img key caller content gather filled
      ≡ record { code = 0; numbers = count ∷ (status ∷ (filled₁ ∷ [])); image = img₁; buffer = gather₁ }
      → BytesAdded key caller g img gather filled (binary_line content) img₁ gather₁ filled₁
  unfolding binary_write
  write_laid measures is =
      let same = sym is ∙ write_outcome (ap (λ (o : Outcome). o.code) is) in
      bytes_laid img key caller (ltb 512 (length content)) gather filled (binary_line content) told measures is (ap (λ (o : Outcome). get_or o.numbers 2 0) same)

-- the calls come to what one call comes to; none has more than 512 data bytes
pub record WrittenSoFar (key : Key) (caller : ℕ) (g : Geometry) (img gather : List ℕ) (filled : ℕ) (contents : List (List ℕ)) (img' gather' : List ℕ) (filled' : ℕ)
    (left : List (List ℕ)) : Type 0 where
  pub front : List (List ℕ)
  pub parts : front ++ left ≡ contents
  pub fit : LinesFit front
  pub laid : BytesAdded key caller g img gather filled (binary_lines front) img' gather' filled'

module _ {key : Key} {caller : ℕ} {g : Geometry} where
  pub written_so_far : {img gather img' gather' : List ℕ} {filled filled' : ℕ} {contents left : List (List ℕ)}
      → BinaryWrittenBy key caller img gather filled contents img' gather' filled' left
      → geometry_of img ≡ g → WrittenSoFar key caller g img gather filled contents img' gather' filled' left
  written_so_far nothing measures = record { front = []; parts = refl; fit = no_line; laid = rw no_lines laid_nothing }
  written_so_far (call {img} {gather} {content} {filled} is rest) measures =
      let w = write_laid img key caller content gather filled measures is in
      let r = written_so_far rest (laid_measures w measures) in
      record {
        front = content ∷ r.front;
        parts = ap (λ (s : List (List ℕ)). content ∷ s) r.parts;
        fit = one_more (write_fits img key caller content gather filled (ap (λ (o : Outcome). o.code) is)) r.fit;
        laid = rw (one_line content r.front) (laid_compose (binary_line content) (binary_lines r.front) w r.laid);
      }

  -- all of them
  pub written_whole : {img gather img' gather' : List ℕ} {filled filled' : ℕ} {contents : List (List ℕ)}
      → BinaryWrittenBy key caller img gather filled contents img' gather' filled' []
      → geometry_of img ≡ g → BytesAdded key caller g img gather filled (binary_lines contents) img' gather' filled' × LinesFit contents
  written_whole {img} {gather} {img'} {gather'} {filled} {filled'} written measures =
      let r = written_so_far written measures in
      subst (λ (s : List (List ℕ)). BytesAdded key caller g img gather filled (binary_lines s) img' gather' filled' × LinesFit s) (sym (append-nil r.front) ∙ r.parts)
      (r.laid, r.fit)

-- and more calls behind them
written_then : {key : Key} {caller : ℕ} {img gather img₁ gather₁ img₂ gather₂ : List ℕ} {filled filled₁ filled₂ : ℕ} {contents left rest : List (List ℕ)}
    → BinaryWrittenBy key caller img gather filled contents img₁ gather₁ filled₁ left → BinaryWrittenBy key caller img₁ gather₁ filled₁ left img₂ gather₂ filled₂ rest
    → BinaryWrittenBy key caller img gather filled contents img₂ gather₂ filled₂ rest
written_then nothing more = more
written_then (call is first) more = call is (written_then first more)

-- a linked file that is open for adding, with the right to write, a gather buffer of the size asked, and room enough
module _ (img : List ℕ) (key : Key) (caller : ℕ) (gather : List ℕ)
    (open-cases : GivesCode (AddingCases img key caller (OtherPayload img gather)) 0)
    (filled : ℕ) (within : filled < payload_bytes (geometry_of img)) (contents : List (List ℕ))
    (room : filled + length (binary_lines contents) ≤ free_count img * payload_bytes (geometry_of img)) where
  -- on the way: the next line, of at most 512 data bytes
  pub binary_accepted : {img' gather' content : List ℕ} {filled' : ℕ} {left : List (List ℕ)}
      → BinaryWrittenBy key caller img gather filled contents img' gather' filled' (content ∷ left) → length content ≤ 512
      → (binary_write img' key caller content gather' filled').code ≡ 0
  binary_accepted {img'} {gather'} {content} {filled'} {left} written few =
      let r = written_so_far written refl in
      let parts : binary_lines r.front ++ (binary_line content ++ binary_lines left) ≡ binary_lines contents =
      ap (λ (s : List ℕ). binary_lines r.front ++ s) (sym (one_line content left)) ∙ sym (lines_append r.front (content ∷ left)) ∙ ap binary_lines r.parts in
      clear_write img' key caller content gather' filled'
      (part_clear img key caller gather open-cases filled within (binary_lines contents) room r.laid (binary_line content) (binary_lines left) parts) few

  -- so from wherever the writing is, it can be finished
  finish : (left : List (List ℕ)) → LinesFit left → {img' gather' : List ℕ} {filled' : ℕ}
      → BinaryWrittenBy key caller img gather filled contents img' gather' filled' left
      → (img₁ : List ℕ) × (gather₁ : List ℕ) × (filled₁ : ℕ) × BinaryWrittenBy key caller img gather filled contents img₁ gather₁ filled₁ []
  finish [] no_line {img'} {gather'} {filled'} written = (img', gather', filled', written)
  finish (content ∷ left) (one_more few rest) {img'} {gather'} {filled'} written =
      let is = write_outcome img' key caller content gather' filled' (binary_accepted written few) in
      finish left rest (written_then written (call is nothing))

  pub binary_finish : {img' gather' : List ℕ} {filled' : ℕ} (left : List (List ℕ)) → LinesFit left
      → BinaryWrittenBy key caller img gather filled contents img' gather' filled' left
      → (img₁ : List ℕ) × (gather₁ : List ℕ) × (filled₁ : ℕ) × BinaryWrittenBy key caller img gather filled contents img₁ gather₁ filled₁ []
  binary_finish left fit written = finish left fit written

  -- the ending call is that of lines of text
  pub binary_ended : {img' gather' : List ℕ} {filled' : ℕ} → BinaryWrittenBy key caller img gather filled contents img' gather' filled' []
      → (line_end img' key caller gather' filled').code ≡ 0
  binary_ended written = bytes_ended img key caller gather open-cases filled within (binary_lines contents) room (written_whole written refl).0
