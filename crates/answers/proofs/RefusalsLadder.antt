-- A ladder of cases: the first holds and says the result, or it does not hold and the rest decides. The result is single if that of each case is.
use mathlib.Core.Path.{◌≡◌}

-- what a case gives may depend on why it holds
pub data Ladder {R When : Type 0} (gives : When → R) (Rest : R → Type 0) : R → Type 0 where
  here : (why : When) → Ladder gives Rest (gives why)
  behind : {result : R} → (When → ⊥) → Rest result → Ladder gives Rest result

-- behind the last case there is no result
abbrev pub End : {R : Type 0} → R → Type 0
End result = ⊥

abbrev pub Single : {R : Type 0} → (R → Type 0) → Type 0
Single {R} Allows = (a b : R) → Allows a → Allows b → a ≡ b

pub end_single : {R : Type 0} → Single (End {R = R})
end_single a b never = absurd never

pub ladder_single : {R When : Type 0} {gives : When → R} {Rest : R → Type 0} → ((x y : When) → gives x ≡ gives y) → Single Rest → Single (Ladder gives Rest)
ladder_single one rest a b (here x) (here y) = one x y
ladder_single one rest a b (here x) (behind never y) = absurd (never x)
ladder_single one rest a b (behind never x) (here y) = absurd (never y)
ladder_single one rest a b (behind never x) (behind again y) = rest a b x y
