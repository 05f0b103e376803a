-- Means: the answer of the stage that ALLOC and OPENO share.
use Rattle.std.specs.Prelude.{ℕ, Bool, List, Result, Ok, Err}
use Rattle.answers.specs.declared.Refusal.{Refusal}
use Rattle.answers.specs.Refusals.{first_of, on_success, code_of}
use Rattle.pack.specs.declared.Key.{Key}
use Rattle.pack.specs.declared.Geometry.{Geometry}
use Rattle.pack.specs.Geometry.{geometry_of}
use Rattle.creation.specs.declared.creating.Slot.{Slot}
use Rattle.creation.specs.CreatingRows.{creating_rows}
use Rattle.creation.specs.Creating.{entry_for}

-- the pack's measures and the entry of the new file, or a refusal's code
pub data Creating : Type 0 where
  At : Geometry → ℕ → Creating
  Refused : ℕ → Creating

unfoldable pub creating_of : List ℕ → Key → ℕ → ℕ → Bool → Creating
creating_of img key caller protect wrong =
    on_success (first_of (creating_rows img key caller protect wrong)) (At (geometry_of img) (entry_for img))
    (Refused (first_of (creating_rows img key caller protect wrong)))

-- the stage's answer as the code gives it
abbrev pub creating_in : Result Slot Refusal → Creating
creating_in (Ok slot) = At slot.geometry slot.number
creating_in (Err refusal) = Refused (code_of refusal)
