-- When a move between forms gives each code, in the paper's own numbers, row under row as in its order (document 02 §8).
use Rattle.std.specs.Prelude.{ℕ, ◌+◌, ◌-◌, ◌*◌, ◌≤◌, ◌≡◌, List, [], ◌∷◌}
use Rattle.words.specs.Word.{word_at}
use Rattle.pack.specs.Consistent.{Consistent}
use Rattle.moving.specs.declared.Way.{Way}
use Rattle.moving.specs.declared.Way.TheVariants.{Up, Down}
use Rattle.promises.specs.GivenWhen.{Case, ◌when◌}

-- "source not consistent or not of that form": "Convert form 1 to form 2", and the way back
abbrev pub OtherSource : Way → List ℕ → Type 0
OtherSource Up src = Consistent src × (word_at src 0 ≡ 1) → ⊥
OtherSource Down src = Consistent src × (word_at src 0 ≡ 2) → ⊥

-- "target of the wrong size" for a source of n blocks, "or a form 2 pack whose n - 1 is not 16 to 1024 or whose c is over 8"
abbrev pub OtherTarget : Way → List ℕ → ℕ → Type 0
OtherTarget Up src long = long ≡ 512 * (word_at src 1 + 1) → ⊥
OtherTarget Down src long = (long ≡ 512 * (word_at src 1 - 1)) × (16 ≤ word_at src 1 - 1) × (word_at src 1 - 1 ≤ 1024) × (word_at src 2 ≤ 8) → ⊥

-- "Refusals: 40, source ..; 41, target ..; in that order."
abbrev pub MoveCases : Way → List ℕ → ℕ → List Case
MoveCases way src long = 0o40 when OtherSource way src ∷ 0o41 when OtherTarget way src long ∷ []
