-- What is said of rules in an order: all hold, or one is the first that fails.
use Rattle.std.specs.Prelude.{ℕ, ◌≡◌, List, [], ◌∷◌, ◌++◌}
use Rattle.faults.specs.declared.ReportAnswer.{ReportAnswer}
use Rattle.faults.specs.Rules.{Rule, Holds}
use Rattle.faults.specs.Report.{reported}

-- none of these rules fails
pub data AllHold (img : List ℕ) : List Rule → Type 0 where
  none : AllHold img []
  also : {rule : Rule} {more : List Rule} → Holds img rule → AllHold img more → AllHold img (rule ∷ more)

-- "names the first rule of consistency that fails"; "every fault named is really there": of these rules, in this order, one fails, it is the one named, and those before it hold
pub record FirstFault (img : List ℕ) (rules : List Rule) (answer : ReportAnswer) : Type 0 where
  pub before : List Rule
  pub rule : Rule
  pub behind : List Rule
  pub order : before ++ (rule ∷ behind) ≡ rules
  pub hold : AllHold img before
  pub fails : Holds img rule → ⊥
  pub named : reported img rule ≡ answer
