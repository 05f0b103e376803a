-- Asking whose a block is: for the audit, no request of document 01.
use Rattle.std.specs.Prelude.{ℕ, List, [], ◌∷◌, Result, Ok, Err}
use Rattle.answers.specs.declared.Refusal.{Refusal}
use Rattle.answers.specs.Refusals.{code_of}
use Rattle.pack.specs.declared.Owner.{Owner}
use Rattle.pack.specs.declared.Owner.TheVariants.{System, Free, Held}
use Rattle.pack.specs.Owner.{owner_of}
use Rattle.asking.specs.Outcome.{Outcome, settled}
use Rattle.owners.specs.declared.OwnerAnswer.{OwnerAnswer}
use Rattle.owners.specs.OwnerQuestionRows.{owner_rows}

-- "Where an answer is an enum, a definition gives this paper's number and values for each of its cases.": 0 system, 1 free, 2 held; then the entry
-- (in stored order, from 0) and the place in that file, else 0
unfoldable pub owner_numbers : Owner → List ℕ
owner_numbers System = 0 ∷ (0 ∷ (0 ∷ []))
owner_numbers Free = 1 ∷ (0 ∷ (0 ∷ []))
owner_numbers (Held e p) = 2 ∷ (e ∷ (p.0 ∷ []))

unfoldable pub owner : List ℕ → ℕ → Outcome
owner img b = settled (owner_rows img b) img [] (record { code = 0; numbers = owner_numbers (owner_of img b); image = img; buffer = [] })

-- code and numbers, as a host gets them
abbrev pub owner_answer : Result Owner Refusal → OwnerAnswer
owner_answer (Ok System) = record { code = 0; kind = 0; entry = 0; place = 0 }
owner_answer (Ok Free) = record { code = 0; kind = 1; entry = 0; place = 0 }
owner_answer (Ok (Held e p)) = record { code = 0; kind = 2; entry = e; place = p.0 }
owner_answer (Err refusal) = record { code = code_of refusal; kind = 0; entry = 0; place = 0 }

-- what an answer over an image comes to: nothing is written
abbrev pub owner_outcome : List ℕ → OwnerAnswer → Outcome
owner_outcome img r = record { code = r.code; numbers = r.kind ∷ (r.entry ∷ (r.place ∷ [])); image = img; buffer = [] }
