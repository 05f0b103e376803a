-- Document 02 §13, files nobody named: sequences of requests, the image that they leave, and the files that none of them names.
use Rattle.std.specs.Prelude.{ℕ, ◌/◌, ◌<◌, List, [], ◌∷◌, length}
use Rattle.std.proofs.Math.Option.{some}
use Rattle.pack.specs.declared.Key.{Key}
use Rattle.asking.specs.Outcome.{Outcome}
use Rattle.requests.specs.Request.{Request, outcome, Names}
use Rattle.many.specs.Many.{many}
use Rattle.promises.specs.Many.{word_of, NamedBy}

-- "any sequence of requests": a step of it is a request on the image, or a call of many (§9) with its records and the room for its answers, as bytes
pub data Step : Type 0 where
  REQUEST : Request → Step
  MANY : (records answers : List ℕ) → Step

-- what a step comes to on an image
abbrev pub step_outcome : Step → List ℕ → Outcome
step_outcome (REQUEST r) img = outcome r img
step_outcome (MANY records answers) img = many img records answers

-- "after any sequence of requests": each step is made of the image that those before it left
abbrev pub image_after_all : List ℕ → List Step → List ℕ
image_after_all img [] = img
image_after_all img (step ∷ rest) = image_after_all (step_outcome step img).image rest

-- which requests a sequence has: "Records of §9 count as requests", each of the request that it names; a record that names none adds none
pub data RequestIn (r : Request) : List Step → Type 0 where
  asked : {rest : List Step} → RequestIn r (REQUEST r ∷ rest)
  listed : {records answers : List ℕ} {rest : List Step} (i : ℕ) → i < length records / 32 → NamedBy (word_of records i) (some r)
      → RequestIn r (MANY records answers ∷ rest)
  later : {step : Step} {rest : List Step} → RequestIn r rest → RequestIn r (step ∷ rest)

-- "a file that no request names by its name, extension and UIC, and whose owner calls no Finish": `Names` says of Finish that it names the files of the
-- caller's UIC. "Format and §8's moves are outside the sequence": Format names every file, so that with it none is unnamed; a move is no `Request`.
abbrev pub Unnamed : Key → List Step → Type 0
Unnamed who steps = (r : Request) → RequestIn r steps → Names r who → ⊥
