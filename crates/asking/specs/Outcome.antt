-- What a request on an image comes to: its code, its numbers, and what image and lent buffer then hold.
use Rattle.std.specs.Prelude.{ℕ, ◌≡◌, List, [], ◌∷◌, Result, Ok, Err}
use Rattle.answers.specs.declared.Refusal.{Refusal}
use Rattle.answers.specs.Refusals.{Row, first_of, on_success}
use Rattle.pack.specs.declared.BlockNo.{BlockNo}

pub record Outcome : Type 0 where
  pub code : ℕ
  pub numbers : List ℕ
  pub image : List ℕ
  pub buffer : List ℕ

-- a 0 for each number
abbrev pub zeroed : List ℕ → List ℕ
zeroed [] = []
zeroed (x ∷ xs) = 0 ∷ zeroed xs

-- "A refusal returns its code, any other number in the answer 0 .., and nothing in the image or a lent buffer changes."
-- `effect` is what there is on success, with code 0; the code itself is that of the rows.
unfoldable pub settled : List Row → List ℕ → List ℕ → Outcome → Outcome
settled rows image buffer effect =
    record {
      code = first_of rows;
      numbers = on_success (first_of rows) effect.numbers (zeroed effect.numbers);
      image = on_success (first_of rows) effect.image image;
      buffer = on_success (first_of rows) effect.buffer buffer;
    }

-- what that leaves of an outcome: the numbers that are 0, the image and the buffer as they were
pub record Unchanged (outcome : Outcome) (zeros image buffer : List ℕ) : Type 0 where
  pub same_numbers : outcome.numbers ≡ zeros
  pub same_image : outcome.image ≡ image
  pub same_buffer : outcome.buffer ≡ buffer

-- "ALLOC and linked add also return the first or added block": its number, and 0 with a refusal
abbrev pub block_number : Result BlockNo Refusal → ℕ
block_number (Ok block) = block.0
block_number (Err refusal) = 0
