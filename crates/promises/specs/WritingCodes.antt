-- When the writing of a command line gives each code, in the paper's propositions, row under row as in its order.
use Rattle.std.specs.Prelude.{ℕ, ◌<◌, List, [], ◌∷◌, length}
use Rattle.command_grammar.specs.Reading.{Reading}
use Rattle.command.specs.Condensed.{line_limit}
use Rattle.command_writing.specs.WrittenLine.{written}
use Rattle.command_writing.specs.Records.{Given}
use Rattle.promises.specs.GivenWhen.{Case, ◌when◌}

-- "a record that no reading gives, lengths aside"
abbrev pub NoReading : ℕ → ℕ → List ℕ → Type 0
NoReading outputs inputs records = (reading : Reading) → Given outputs inputs records reading → ⊥

-- "line over its limit"
abbrev pub LineOver : ℕ → ℕ → List ℕ → Type 0
LineOver outputs inputs records = (reading : Reading) × Given outputs inputs records reading × line_limit < length (written reading)

-- "buffer too short"
abbrev pub LineShort : ℕ → ℕ → List ℕ → List ℕ → Type 0
LineShort outputs inputs records buffer = (reading : Reading) × Given outputs inputs records reading × length buffer < length (written reading)

-- "Refusals: 41, a record that no reading gives, lengths aside; 53, line over its limit; 52, buffer too short; in that order."
abbrev pub CsiWriteCases : ℕ → ℕ → List ℕ → List ℕ → List Case
CsiWriteCases outputs inputs records buffer =
    0o41 when NoReading outputs inputs records ∷ 0o53 when LineOver outputs inputs records ∷ 0o52 when LineShort outputs inputs records buffer ∷ []
