-- Means: what the making of one record shows of image, map and answers.
use Rattle.std.specs.Prelude.{ℕ, ◌*◌, ◌≡◌, List, get_or}
use Rattle.std.proofs.lemmas.List.Edits.{sets}
use Rattle.consistency.specs.ConsistentTest.{Opened}
use Rattle.consistency.specs.ConsistentTest.{opened_of}
use Rattle.consistency.specs.Mapped.{MappedIf}
use Rattle.listed.specs.declared.Record.{Record}
use Rattle.listed.specs.Record.{request_in}
use Rattle.listed.specs.Listed.{listed_outcome, answer_bytes}

-- one check serves: what the pack was opened as is what it would be opened as now, and the map says how often each block is held now
pub record Fits (img map : List ℕ) (opened : Opened) : Type 0 where
  pub opens : opened ≡ opened_of img
  pub mapped : MappedIf map img

-- code, number and image are those of the request that the record names
pub record Served (img : List ℕ) (r : Record) (code number : ℕ) (img' : List ℕ) : Type 0 where
  pub told : code ≡ (listed_outcome (request_in r) img).code
  pub counted : number ≡ get_or (listed_outcome (request_in r) img).numbers 0 0
  pub left : img' ≡ (listed_outcome (request_in r) img).image

-- the answer stands as the i-th, and what fitted fits
pub record Stepped (img answers : List ℕ) (opened : Opened) (i : ℕ) (r : Record) (img' map' answers' : List ℕ) : Type 0 where
  pub image : img' ≡ (listed_outcome (request_in r) img).image
  pub beside : answers' ≡ sets answers (32 * i) (answer_bytes (listed_outcome (request_in r) img))
  pub fits : Fits img' map' opened
