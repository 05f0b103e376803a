-- Formatted binary lines written by one call after another, the ending call, CLOSE and OPENI, and the lines read again, at once and in parts: whole requests, each with code 0.
use Rattle.std.specs.Prelude.{ℕ, suc, ◌%◌, ◌≤◌, ◌<◌, ◌≡◌, List, [], ◌∷◌, ◌++◌, length, take, drop}
use Rattle.pack.specs.declared.Key.{Key}
use Rattle.binary.specs.BinaryReading.{binary_read}
use Rattle.binary.specs.BinaryWriting.{binary_write}
use Rattle.promises.specs.BytesAgain.{payloads_in}

-- The lines are written one after another, each call with the image, the gather buffer and the filled count that the one before gave back.
-- `left` are those that no call has written yet.
pub data BinaryWrittenBy (key : Key) (caller : ℕ)
    : (img gather : List ℕ) (filled : ℕ) (contents : List (List ℕ)) (img' gather' : List ℕ) (filled' : ℕ) (left : List (List ℕ)) → Type 0 where
  nothing : {img gather : List ℕ} {filled : ℕ} {contents : List (List ℕ)} → BinaryWrittenBy key caller img gather filled contents img gather filled contents
  call : {img gather content : List ℕ} {filled : ℕ} {contents : List (List ℕ)} {img₁ gather₁ : List ℕ} {count status filled₁ : ℕ}
      → binary_write img key caller content gather filled
      ≡ record { code = 0; numbers = count ∷ (status ∷ (filled₁ ∷ [])); image = img₁; buffer = gather₁ }
      → {img' gather' : List ℕ} {filled' : ℕ} {left : List (List ℕ)} → BinaryWrittenBy key caller img₁ gather₁ filled₁ contents img' gather' filled' left
      → BinaryWrittenBy key caller img gather filled (content ∷ contents) img' gather' filled' left

-- One line, or what is to come of one, read by call after call, each with the position, "the length still to come and the sum so far" that the one before
-- gave back: special calls as long as the buffer is short, each with status 1, then one more in either mode, without bit 0. Each call lends a buffer of its own;
-- what it laid down are the first bytes of what it left there, as many as it counts. With all these bytes, joined, stand the status of the last call and its position.
pub data PartsRead (img : List ℕ) (key : Key) (caller : ℕ)
    : (buffers : ℕ → List ℕ) (position to_come sum : ℕ) (laid : List ℕ) (status next : ℕ) → Type 0 where
  last_part : {buffers : ℕ → List ℕ} {position to_come sum count status next : ℕ} {after : List ℕ} (mode : ℕ)
      → binary_read img key caller mode position to_come sum (buffers 0)
      ≡ record { code = 0; numbers = count ∷ (status ∷ (next ∷ (0 ∷ (0 ∷ [])))); image = img; buffer = after }
      → status % 2 ≡ 0 → PartsRead img key caller buffers position to_come sum (take count after) status next
  one_part : {buffers : ℕ → List ℕ} {position to_come sum count on more so_far status next : ℕ} {after laid : List ℕ}
      → binary_read img key caller 1 position to_come sum (buffers 0)
      ≡ record { code = 0; numbers = count ∷ (1 ∷ (on ∷ (more ∷ (so_far ∷ [])))); image = img; buffer = after }
      → PartsRead img key caller (λ i. buffers (suc i)) on more so_far laid status next
      → PartsRead img key caller buffers position to_come sum (take count after ++ laid) status next

-- a new line in parts: with any buffers of at least one byte there are such calls, and whatever calls there are, they lay down this line, without a bit set at the last
pub record InAnyParts (img : List ℕ) (key : Key) (caller position : ℕ) (content : List ℕ) (next : ℕ) : Type 0 where
  pub there : (buffers : ℕ → List ℕ) → ((i : ℕ) → 0 < length (buffers i)) → PartsRead img key caller buffers position 0 0 content 0 next
  pub alone : (buffers : ℕ → List ℕ) (laid : List ℕ) (status after : ℕ) → PartsRead img key caller buffers position 0 0 laid status after
      → (laid ≡ content) × (status ≡ 0) × (after ≡ next)

-- "What is written reads back": the lines are read one after another, each call in either mode and with any buffer that holds its line, or each in any parts;
-- behind the last there is nothing before the end, and the position is there
pub data BinaryReadAgain (img : List ℕ) (key : Key) (caller : ℕ) : (position : ℕ) → List (List ℕ) → Type 0 where
  at_end : {position : ℕ}
      → ((mode : ℕ) (buffer : List ℕ) → mode ≤ 1 → 0 < length buffer
      → binary_read img key caller mode position 0 0 buffer
      ≡ record { code = 0; numbers = 0 ∷ (64 ∷ (length (payloads_in img key) ∷ (0 ∷ (0 ∷ [])))); image = img; buffer = buffer })
      → BinaryReadAgain img key caller position []
  one_read : {position : ℕ} {content : List ℕ} {contents : List (List ℕ)} (next : ℕ)
      → ((mode : ℕ) (buffer : List ℕ) → mode ≤ 1 → 0 < length buffer → length content ≤ length buffer
      → binary_read img key caller mode position 0 0 buffer
      ≡ record { code = 0; numbers = length content ∷ (0 ∷ (next ∷ (0 ∷ (0 ∷ [])))); image = img; buffer = content ++ drop (length content) buffer })
      → InAnyParts img key caller position content next → BinaryReadAgain img key caller next contents → BinaryReadAgain img key caller position (content ∷ contents)
