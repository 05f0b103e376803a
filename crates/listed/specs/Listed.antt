-- Many requests in one call: what each of a list comes to, and what image and answers the list leaves.
use Rattle.std.specs.Prelude.{ℕ, List, [], ◌∷◌, ◌++◌, get_or, replicate}
use Rattle.std.proofs.Math.Option.{Option, none, some}
use Rattle.words.specs.Word.{word_bytes}
use Rattle.asking.specs.Outcome.{Outcome}
use Rattle.requests.specs.Request.{Request, outcome}

-- what a record comes to on an image, by the request that it names: "A record that names no such request gets 41 and changes nothing, before code 40 is looked at."
abbrev pub listed_outcome : Option Request → List ℕ → Outcome
listed_outcome none img = record { code = 0o41; numbers = []; image = img; buffer = [] }
listed_outcome (some request) img = outcome request img

-- "Image and answers must equal those of the same requests made singly in that order": each is made of the image that those before it left
abbrev pub image_after : List ℕ → List (Option Request) → List ℕ
image_after img [] = img
image_after img (named ∷ rest) = image_after (listed_outcome named img).image rest

-- "put the answer of each beside it": 16 words, of which word 0 is the code, word 1 the first block of ALLOC, and every other 0
abbrev pub answer_words : Outcome → List ℕ
answer_words due = due.code ∷ (get_or due.numbers 0 0 ∷ replicate 14 0)

-- and as bytes, low byte first
unfoldable pub answer_bytes : Outcome → List ℕ
answer_bytes due = word_bytes (answer_words due)

-- the answers of a list, one behind the other
abbrev pub answers_after : List ℕ → List (Option Request) → List ℕ
answers_after img [] = []
answers_after img (named ∷ rest) = answer_bytes (listed_outcome named img) ++ answers_after (listed_outcome named img).image rest
