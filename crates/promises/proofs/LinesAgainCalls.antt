-- The calls by which a text is written: that nothing speaks against one, what it leaves, and what all come to.
use Prim.Native.Nat.{ℕ, ◌≤◌}
use mathlib.Core.Path.{◌≡◌, refl, sym, ap, subst, ◌∙◌}
use mathlib.Core.List.{List, [], ◌∷◌, ◌++◌, append_assoc, append-nil}
use native.Mathlib.Omega.{arith}
use lib.Dec.{ltb}
use lib.ListN.{length, take, drop, get_or, length-take, take-append-drop}
use lib.Seq.{take-take}
use borrow.Author.Tests.{le-ltb}
use Rattle.pack.specs.declared.Geometry.{Geometry}
use Rattle.pack.specs.declared.Key.{Key}
use Rattle.pack.specs.Geometry.{geometry_of}
use Rattle.asking.specs.Outcome.{Outcome}
use Rattle.lines.specs.declared.LineMode.{LineMode}
use Rattle.lines.specs.LineWrite.{put_all, taken_of, written_status}
use Rattle.lines.specs.LineReading.{mode_of}
use Rattle.stream.specs.BytesWriting.{gathered_in}
use Rattle.lines.specs.LineWriting.{line_write}
use Rattle.lines.proofs.LineWrite.{put_append, taken_front}
use Rattle.promises.specs.LinesAgain.{WrittenBy, nothing, call}
use Rattle.promises.proofs.BytesAgainLaid.{Clear, BytesAdded, laid_nothing, laid_compose, laid_measures}
use Rattle.promises.proofs.BytesAgainCalls.{done, bytes_clear, clear_bytes, bytes_done, bytes_laid}

module _ (img : List ℕ) (key : Key) (caller mode : ℕ) (text gather : List ℕ) (filled : ℕ) where
  abbrev taken : List ℕ
  taken = taken_of (mode_of mode) text

  abbrev told : List ℕ
  told = length taken ∷ (written_status taken ∷ ((gathered_in img gather filled (put_all taken)).filled ∷ []))

  write_clear : (line_write img key caller mode text gather filled).code ≡ 0 → Clear key caller (geometry_of img) img gather filled (put_all taken)
  unfolding line_write
  write_clear success = (bytes_clear img key caller (ltb 1 mode) gather filled (put_all taken) told success).0

  pub write_outcome : (line_write img key caller mode text gather filled).code ≡ 0
      → line_write img key caller mode text gather filled ≡ done img key caller (ltb 1 mode) gather filled (put_all taken) told
  unfolding line_write
  write_outcome = bytes_done img key caller (ltb 1 mode) gather filled (put_all taken) told

-- what a call with code 0 leaves, at the pack's measures, and that it takes what it says
module _ {img : List ℕ} {key : Key} {caller : ℕ} (mode : ℕ) (text : List ℕ) {gather : List ℕ} {filled : ℕ} {g : Geometry} (measures : geometry_of img ≡ g) where
  pub write_laid : {img₁ gather₁ : List ℕ} {count status filled₁ : ℕ}
      → line_write img key caller mode text gather filled
      ≡ record { code = 0; numbers = count ∷ (status ∷ (filled₁ ∷ [])); image = img₁; buffer = gather₁ }
      → BytesAdded key caller g img gather filled (put_all (taken_of (mode_of mode) text)) img₁ gather₁ filled₁ × (count ≡ length (taken_of (mode_of mode) text))
  unfolding line_write
  write_laid is =
      let same = sym is ∙ write_outcome img key caller mode text gather filled (ap (λ (o : Outcome). o.code) is) in (
        bytes_laid img key caller (ltb 1 mode) gather filled (put_all (taken_of (mode_of mode) text)) _ measures is (ap (λ (o : Outcome). get_or o.numbers 2 0) same),
        ap (λ (o : Outcome). get_or o.numbers 0 0) same,
      )

-- what a call takes is the front of the text of which it is given a beginning
pub front_taken : (mode : LineMode) (given : ℕ) (text : List ℕ)
    → taken_of mode (take given text) ++ drop (length (taken_of mode (take given text))) text ≡ text
front_taken mode given text =
    let front = taken_front mode (take given text) in
    let count : ℕ = length (taken_of mode (take given text)) in
    ap (λ (s : List ℕ). s ++ drop count text) (front.1 ∙ take-take count given text (omega (arith, front.0, length-take given text)))
    ∙ take-append-drop count text

-- the calls by which a text is written come to what one call comes to
pub record WrittenSoFar (key : Key) (caller : ℕ) (g : Geometry) (img gather : List ℕ) (filled : ℕ) (text img' gather' : List ℕ) (filled' : ℕ) (left : List ℕ) : Type 0 where
  pub front : List ℕ
  pub parts : front ++ left ≡ text
  pub laid : BytesAdded key caller g img gather filled (put_all front) img' gather' filled'

module _ {key : Key} {caller : ℕ} {g : Geometry} where
  pub written_so_far : {img gather text img' gather' left : List ℕ} {filled filled' : ℕ} → WrittenBy key caller img gather filled text img' gather' filled' left
      → geometry_of img ≡ g → WrittenSoFar key caller g img gather filled text img' gather' filled' left
  unfolding put_all
  written_so_far nothing measures = record { front = []; parts = refl; laid = laid_nothing }
  written_so_far (call {img} {gather} {text} {filled} mode given {count = count} is {left = left} rest) measures =
      let w = write_laid mode (take given text) measures is in
      let r = written_so_far rest (laid_measures w.0 measures) in
      let one : List ℕ = taken_of (mode_of mode) (take given text) in
      record {
        front = one ++ r.front;
        parts = append_assoc one r.front left ∙ ap (λ (s : List ℕ). one ++ s) r.parts
            ∙ ap (λ (n : ℕ). one ++ drop n text) w.1 ∙ front_taken (mode_of mode) given text;
        laid = rw (put_append one r.front) (laid_compose (put_all one) (put_all r.front) w.0 r.laid);
      }

  -- all of it
  pub written_whole : {img gather text img' gather' : List ℕ} {filled filled' : ℕ} → WrittenBy key caller img gather filled text img' gather' filled' []
      → geometry_of img ≡ g → BytesAdded key caller g img gather filled (put_all text) img' gather' filled'
  written_whole {img} {gather} {text} {img'} {gather'} {filled} {filled'} written measures =
      let r = written_so_far written measures in
      subst (λ (s : List ℕ). BytesAdded key caller g img gather filled (put_all s) img' gather' filled') (sym (append-nil r.front) ∙ r.parts) r.laid

-- and more calls behind them
pub written_then : {key : Key} {caller : ℕ} {img gather text img₁ gather₁ left img₂ gather₂ rest : List ℕ} {filled filled₁ filled₂ : ℕ}
    → WrittenBy key caller img gather filled text img₁ gather₁ filled₁ left → WrittenBy key caller img₁ gather₁ filled₁ left img₂ gather₂ filled₂ rest
    → WrittenBy key caller img gather filled text img₂ gather₂ filled₂ rest
written_then nothing more = more
written_then (call mode given is first) more = call mode given is (written_then first more)

-- where nothing speaks against the end, nothing spoke against the beginning
pub written_start : {key : Key} {caller : ℕ} {g : Geometry} {img gather text img' gather' left bytes : List ℕ} {filled filled' : ℕ}
    → WrittenBy key caller img gather filled text img' gather' filled' left → geometry_of img ≡ g → Clear key caller g img' gather' filled' bytes
    → (begun : List ℕ) × Clear key caller g img gather filled begun
written_start {bytes = bytes} nothing measures c = (bytes, c)
written_start {key} {caller} {g} (call {img} {gather} {text} {filled} mode given is rest) measures c = (
  put_all (taken_of (mode_of mode) (take given text)),
  rw (← measures) (write_clear img key caller mode (take given text) gather filled (ap (λ (o : Outcome). o.code) is)),
)

-- and the other way: where nothing speaks against a call it has code 0
pub clear_write : {img : List ℕ} {key : Key} {caller : ℕ} {gather : List ℕ} {filled : ℕ} {g : Geometry} (mode : ℕ) (text : List ℕ)
    → Clear key caller g img gather filled (put_all (taken_of (mode_of mode) text)) → mode ≤ 1 → (line_write img key caller mode text gather filled).code ≡ 0
unfolding line_write
clear_write {img} {key} {caller} {gather} {filled} mode text c small =
    ap (λ (o : Outcome). o.code) (clear_bytes img key caller (ltb 1 mode) gather filled _ _ (rw c.measures c) (le-ltb 1 mode small))
