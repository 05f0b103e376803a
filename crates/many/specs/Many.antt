-- Many requests in one call: when the whole call is refused, and what it comes to.
use Rattle.std.specs.Prelude.{ℕ, ◌/◌, ◌%◌, not, List, [], ◌∷◌, ◌++◌, eqb, ltb, length, drop}
use Rattle.std.proofs.Math.Option.{Option}
use Rattle.answers.specs.Refusals.{Row, row}
use Rattle.asking.specs.Outcome.{Outcome, settled}
use Rattle.requests.specs.Request.{Request}
use Rattle.listed.specs.Record.{request_in, requests_in}
use Rattle.listed.specs.Listed.{listed_outcome, image_after, answers_after}
use Rattle.many.specs.Layout.{record_at, records_in}

-- "Refusals: 41 for the whole call .. if there are over 64 records or a part of one, or the answers have less room than the records."
unfoldable pub many_rows : List ℕ → List ℕ → List Row
many_rows records answers =
    row (ltb 64 (length records / 32)) 0o41
    ∷ (row (not (eqb (length records % 32) 0)) 0o41
    ∷ (row (ltb (length answers) (length records)) 0o41 ∷ []))

-- the requests that the records name, in their order
abbrev pub requests_of : List ℕ → List (Option Request)
requests_of records = requests_in (records_in records (length records / 32))

-- "all buffers kept" where it is refused; else the image that the requests leave, and their answers, "likewise" as bytes; the bytes behind stay
unfoldable pub many : List ℕ → List ℕ → List ℕ → Outcome
many img records answers =
    settled (many_rows records answers) img answers
    (record {
      code = 0;
      numbers = [];
      image = image_after img (requests_of records);
      buffer = answers_after img (requests_of records) ++ drop (length records) answers;
    })

-- the image that the first records left, so many of them; and what record i comes to, made of the image that those before it left
abbrev pub image_behind : List ℕ → List ℕ → ℕ → List ℕ
image_behind img records count = image_after img (requests_in (records_in records count))

abbrev pub record_outcome : List ℕ → List ℕ → ℕ → Outcome
record_outcome img records i = listed_outcome (request_in (record_at records i)) (image_behind img records i)
