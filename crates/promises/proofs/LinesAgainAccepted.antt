-- Where the free blocks hold a text as it is put, and nothing else speaks against it, no call on the way is refused, nor is the ending call.
use Prim.Native.Nat.{ℕ, ◌+◌, ◌*◌, ◌≤◌, ◌<◌}
use mathlib.Core.Path.{◌≡◌, refl, sym, ap, subst, ◌∙◌}
use mathlib.Core.Bool.{Bool, true, false, ◌&&◌}
use mathlib.Core.List.{List, [], ◌∷◌, ◌++◌}
use native.Mathlib.Omega.{arith}
use lib.ListN.{length, take, drop, length-take}
use lib.Seq.{take-length, drop-length}
use Rattle.pack.specs.declared.Key.{Key}
use Rattle.pack.specs.Geometry.{geometry_of, payload_bytes}
use Rattle.pack.specs.Owner.{free_count}
use Rattle.lines.specs.declared.LineMode.{LineMode}
use Rattle.lines.specs.TextBytes.{is_terminator}
use Rattle.lines.specs.LineSteps.{is_special}
use Rattle.lines.specs.LineWrite.{put_all, taken_of}
use Rattle.lines.specs.LineReading.{mode_of}
use Rattle.lines.specs.LineWriting.{line_write, line_end}
use Rattle.lines.proofs.LineWrite.{put_append, taken_stop, taken_next}
use Rattle.promises.specs.GivenWhen.{GivesCode}
use Rattle.promises.specs.Codes.{AddingCases, OtherPayload}
use Rattle.promises.specs.LinesAgain.{WrittenBy, nothing, call}
use Rattle.promises.proofs.BytesAgainRoom.{part_clear, bytes_ended}
use Rattle.promises.proofs.LinesAgainCalls.{write_laid, write_outcome, written_so_far, written_whole, written_then, front_taken, clear_write}

-- a call that is given a character takes one
taken_some : (mode : LineMode) (text : List ℕ) → 0 < length text → 0 < length (taken_of mode text)
taken_some mode [] there = absurd (omega arith)
taken_some mode (x ∷ text) there = by (is_special mode && is_terminator x) refl
  where
    by : (stops : Bool) → (is_special mode && is_terminator x) ≡ stops → 0 < length (taken_of mode (x ∷ text))
    by true is = rw (taken_stop mode x text is) (omega arith)
    by false is = rw (taken_next mode x text is) (omega arith)

pub call_takes : (img : List ℕ) (key : Key) (caller mode given : ℕ) (left gather : List ℕ) (filled : ℕ) {img₁ gather₁ : List ℕ} {count status filled₁ : ℕ}
    → line_write img key caller mode (take given left) gather filled
    ≡ record { code = 0; numbers = count ∷ (status ∷ (filled₁ ∷ [])); image = img₁; buffer = gather₁ }
    → 0 < given → 0 < length left → 0 < count
call_takes img key caller mode given left gather filled is some there =
    rw (write_laid mode (take given left) refl is).1 (taken_some (mode_of mode) (take given left) (omega (arith, some, there, length-take given left)))

-- a linked file that is open for adding, with the right to write, a gather buffer of the size asked, and room enough
module _ (img : List ℕ) (key : Key) (caller : ℕ) (gather : List ℕ)
    (open-cases : GivesCode (AddingCases img key caller (OtherPayload img gather)) 0)
    (filled : ℕ) (within : filled < payload_bytes (geometry_of img)) (text : List ℕ)
    (room : filled + length (put_all text) ≤ free_count img * payload_bytes (geometry_of img)) where
  -- on the way
  module _ {img' gather' left : List ℕ} {filled' : ℕ} (written : WrittenBy key caller img gather filled text img' gather' filled' left) where
    -- the next call, in either mode and whatever beginning of what is left it is given
    pub lines_accepted : (mode given : ℕ) → mode ≤ 1 → (line_write img' key caller mode (take given left) gather' filled').code ≡ 0
    lines_accepted mode given small =
        let r = written_so_far written refl in
        let one = taken_of (mode_of mode) (take given left) in
        let rest = drop (length one) left in
        let parts : put_all r.front ++ (put_all one ++ put_all rest) ≡ put_all text =
        ap (λ (s : List ℕ). put_all r.front ++ s) (sym (put_append one rest) ∙ ap put_all (front_taken (mode_of mode) given left))
        ∙ sym (put_append r.front left) ∙ ap put_all r.parts in
        clear_write mode (take given left) (part_clear img key caller gather open-cases filled within (put_all text) room r.laid (put_all one) (put_all rest) parts) small

    -- so the text can be cut in any way,
    pub lines_go_on : (mode given : ℕ) → mode ≤ 1
        → (img₁ : List ℕ)
        × (gather₁ : List ℕ)
        × (filled₁ : ℕ)
        × WrittenBy key caller img gather filled text img₁ gather₁ filled₁ (drop (length (taken_of (mode_of mode) (take given left))) left)
    lines_go_on mode given small =
        let is = write_outcome img' key caller mode (take given left) gather' filled' (lines_accepted mode given small) in
        (_, _, _, written_then written (call mode given is nothing))

    -- and from wherever the writing is, it can be finished
    pub lines_finish : (img₁ : List ℕ) × (gather₁ : List ℕ) × (filled₁ : ℕ) × WrittenBy key caller img gather filled text img₁ gather₁ filled₁ []
    unfolding taken_of
    lines_finish =
        let r = lines_go_on 0 (length left) (omega arith) in
        let none : drop (length (take (length left) left)) left ≡ [] = ap (λ (s : List ℕ). drop (length s) left) (take-length left) ∙ drop-length left in
        (r.0, r.1, r.2, subst (WrittenBy key caller img gather filled text r.0 r.1 r.2) none r.3)

  -- "an ending call fills the last with NUL, or adds none at 0"
  pub lines_ended : {img' gather' : List ℕ} {filled' : ℕ} → WrittenBy key caller img gather filled text img' gather' filled' []
      → (line_end img' key caller gather' filled').code ≡ 0
  lines_ended written = bytes_ended img key caller gather open-cases filled within (put_all text) room (written_whole written refl)
