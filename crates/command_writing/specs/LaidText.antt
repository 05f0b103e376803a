-- Means: characters laid one behind the other in a line, as far as it goes, and counted one further; and what the steps of a walk over records lay.
-- `P.Option` is the code's, `Option` the logic's.
use Rattle.std.specs.Prelude.{ℕ, ◌≤◌, ◌<◌, ◌≡◌, cond, List, [], ◌∷◌, ◌++◌, eqb, length, take, Some, None}
use Rattle.std.specs.Prelude as P
use Rattle.std.proofs.Math.Option.{Option, none, some}
use Rattle.radix.specs.Characters.{character_of}
use Rattle.radix.specs.Packing.{first_code, second_code, third_code}
use Rattle.radix.specs.Names.{blank}
use Rattle.command_writing.specs.Standing.{Taken, Never}
use Rattle.command_writing.specs.declared.Walk.{Walk}

-- the text is what is laid, or it goes over the line
pub data Laid (line : List ℕ) (count : ℕ) (text : List ℕ) : Type 0 where
  within : count ≤ length line → take count line ≡ text → Laid line count text
  over : length line < count → length line < length text → Laid line count text

-- whatever text was laid before, it is laid with the piece behind it
pub record Puts (before : List ℕ) (count : ℕ) (after : List ℕ) (next : ℕ) (piece : List ℕ) : Type 0 where
  pub puts : (text : List ℕ) → Laid before count text → Laid after next (text ++ piece)

-- what is shown of a character of a word: nothing of a blank
unfoldable pub shown : Option ℕ → List ℕ
shown none = []
shown (some character) = cond (eqb character blank) [] (character ∷ [])

unfoldable pub shown_word : ℕ → List ℕ
unfolding shown
shown_word word = shown (character_of (first_code word)) ++ (shown (character_of (second_code word)) ++ shown (character_of (third_code word)))

unfoldable pub shown_name : ℕ → ℕ → List ℕ
unfolding shown_word
shown_name first second = shown_word first ++ shown_word second

-- a part that fits its numbers is laid, or none fits them
pub data PartLaid {A : Type 0} (Fits : A → Type 0) (text : A → List ℕ) (before : List ℕ) (count : ℕ) : P.Option ℕ → List ℕ → Type 0 where
  to : {v : A} {next : ℕ} {after : List ℕ} → Fits v → Puts before count after next (text v) → PartLaid Fits text before count (Some next) after
  wrong : {after : List ℕ} → ((v : A) → Fits v → ⊥) → PartLaid Fits text before count None after

-- what stands at a word of the records is laid, or nothing stands there
pub data StepLaid {A : Type 0} (Says : A → Type 0) (words text : A → List ℕ) (records : List ℕ) (at : ℕ) (before : List ℕ) (count : ℕ) : P.Option Walk → List ℕ → Type 0 where
  to : {v : A} {next : Walk} {after : List ℕ} → Taken Says words records at v next.at → Puts before count after next.count (text v)
      → StepLaid Says words text records at before count (Some next) after
  wrong : {after : List ℕ} → Never Says words records at → StepLaid Says words text records at before count None after
