-- LOOK.
use Rattle.std.specs.Prelude.{ℕ, List, [], ◌∷◌, Result, Ok, Err}
use Rattle.answers.specs.declared.Refusal.{Refusal}
use Rattle.answers.specs.Refusals.{code_of}
use Rattle.pack.specs.declared.Entry.{Entry}
use Rattle.pack.specs.declared.Key.{Key}
use Rattle.asking.specs.Outcome.{Outcome, settled}
use Rattle.asking.specs.Asked.{file_of}
use Rattle.directory.specs.declared.look.LookAnswer.{LookAnswer}
use Rattle.directory.specs.LookRows.{look_rows}

-- "LOOK: kind, first block, length, protect code, writer, readers;" these are "LOOK its six numbers"
abbrev pub look_numbers : Entry → List ℕ
look_numbers x = x.kind ∷ (x.first.0 ∷ (x.length ∷ (x.protect ∷ (x.writer ∷ (x.readers ∷ [])))))

unfoldable pub look : List ℕ → Key → Outcome
look img key = settled (look_rows img key) img [] (record { code = 0; numbers = look_numbers (file_of img key); image = img; buffer = [] })

-- code and numbers, as a host gets them
abbrev pub look_answer : Result Entry Refusal → LookAnswer
look_answer (Ok x) =
    record { code = 0; kind = x.kind; first = x.first.0; length = x.length; protect = x.protect; writer = x.writer; readers = x.readers }
look_answer (Err refusal) = record { code = code_of refusal; kind = 0; first = 0; length = 0; protect = 0; writer = 0; readers = 0 }

-- what an answer says
abbrev pub look_outcome : List ℕ → LookAnswer → Outcome
look_outcome img r =
    record {
      code = r.code;
      numbers = r.kind ∷ (r.first ∷ (r.length ∷ (r.protect ∷ (r.writer ∷ (r.readers ∷ [])))));
      image = img;
      buffer = [];
    }
