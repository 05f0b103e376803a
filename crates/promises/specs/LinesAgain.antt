-- Lines written by one call after another, the ending call, CLOSE and OPENI, and the lines read again: whole requests, each with code 0.
use Rattle.std.specs.Prelude.{ℕ, ◌≤◌, ◌<◌, ◌≡◌, List, [], ◌∷◌, ◌++◌, length, take, drop}
use Rattle.pack.specs.declared.Key.{Key}
use Rattle.lines.specs.LineReading.{line_read}
use Rattle.lines.specs.LineWriting.{line_write}
use Rattle.promises.specs.BytesAgain.{payloads_in}

-- The text is written by one call after another: each is given a beginning of what is left, in either mode, and the next goes on behind the count taken,
-- with the image, the gather buffer and the filled count that the one before gave back. A text may end inside a line, and a call may take nothing.
-- `left` is what no call has taken yet.
pub data WrittenBy (key : Key) (caller : ℕ) : (img gather : List ℕ) (filled : ℕ) (text : List ℕ) (img' gather' : List ℕ) (filled' : ℕ) (left : List ℕ) → Type 0 where
  nothing : {img gather text : List ℕ} {filled : ℕ} → WrittenBy key caller img gather filled text img gather filled text
  call : {img gather text : List ℕ} {filled : ℕ} (mode given : ℕ) {img₁ gather₁ : List ℕ} {count status filled₁ : ℕ}
      → line_write img key caller mode (take given text) gather filled
      ≡ record { code = 0; numbers = count ∷ (status ∷ (filled₁ ∷ [])); image = img₁; buffer = gather₁ }
      → {img' gather' left : List ℕ} {filled' : ℕ} → WrittenBy key caller img₁ gather₁ filled₁ (drop count text) img' gather' filled' left
      → WrittenBy key caller img gather filled text img' gather' filled' left

-- "must read back the same when the count allows them": the lines are read one after another, each call in either mode and with any buffer that holds its line;
-- behind the last there is nothing before the end, and the position is there
pub data ReadAgain (img : List ℕ) (key : Key) (caller : ℕ) : (position : ℕ) → List (List ℕ) → Type 0 where
  at_end : {position : ℕ}
      → ((mode : ℕ) (buffer : List ℕ) → mode ≤ 1 → 0 < length buffer
      → line_read img key caller mode position buffer
      ≡ record { code = 0; numbers = 0 ∷ (64 ∷ (length (payloads_in img key) ∷ [])); image = img; buffer = buffer })
      → ReadAgain img key caller position []
  one_read : {position : ℕ} {line : List ℕ} {lines : List (List ℕ)} (next : ℕ)
      → ((mode : ℕ) (buffer : List ℕ) → mode ≤ 1 → length line ≤ length buffer
      → line_read img key caller mode position buffer
      ≡ record { code = 0; numbers = length line ∷ (0 ∷ (next ∷ [])); image = img; buffer = line ++ drop (length line) buffer })
      → ReadAgain img key caller next lines → ReadAgain img key caller position (line ∷ lines)
