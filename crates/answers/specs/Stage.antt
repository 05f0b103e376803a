-- Means: what a stage answers that looks at rows of the table.
use Rattle.std.specs.Prelude.{ℕ, List, Result, Ok, Err, ⊤}
use Rattle.answers.specs.declared.Refusal.{Refusal}
use Rattle.answers.specs.Refusals.{Row, first_of, on_success, code_of}

-- nothing refuses, or the code of a refusal
pub data Verdict : Type 0 where
  Clear : Verdict
  Refused : ℕ → Verdict

unfoldable pub verdict_of : List Row → Verdict
verdict_of rows = on_success (first_of rows) Clear (Refused (first_of rows))

-- the stage's answer as the code gives it
abbrev pub verdict_in : Result ⊤ Refusal → Verdict
verdict_in (Ok done) = Clear
verdict_in (Err refusal) = Refused (code_of refusal)
