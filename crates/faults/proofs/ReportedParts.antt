-- The report on rules in an order: one answer, rule 0 exactly if all hold, and the report on rules put together from parts.
use Prim.Native.Nat.{ℕ, suc, zero, ◌+◌, ◌≤◌, ◌<◌}
use mathlib.Core.Path.{◌≡◌, refl, ap, subst}
use mathlib.Core.List.{List, [], ◌∷◌, ◌++◌}
use mathlib.Core.Logic.{◌⊎◌, inl, inr}
use native.Mathlib.Omega.{arith}
use native.Mathlib.Decide.{ℕ_discrete}
use Rattle.faults.specs.declared.ReportAnswer.{ReportAnswer}
use Rattle.faults.specs.Rules.{Rule, size, header, entry, name, extent, link, loop, end, shared, map, Holds}
use Rattle.faults.specs.Report.{each, reported, nothing_wrong, Reported, consistent, fault, right}
use Rattle.faults.specs.FirstFault.{AllHold, none, also, FirstFault}

-- a fault has a number of its own
pub fault_number : (img : List ℕ) (rule : Rule) → (reported img rule).rule ≡ 0 → ⊥
fault_number img size is = omega (arith, is)
fault_number img (header w) is = omega (arith, is)
fault_number img (entry e w) is = omega (arith, is)
fault_number img (name e) is = omega (arith, is)
fault_number img (extent e w) is = omega (arith, is)
fault_number img (link e place) is = omega (arith, is)
fault_number img (loop e place) is = omega (arith, is)
fault_number img (end e) is = omega (arith, is)
fault_number img (shared b) is = omega (arith, is)
fault_number img (map b) is = omega (arith, is)

module _ {img : List ℕ} where
  -- one answer for every image
  pub reported_one : {rules : List Rule} {a b : ReportAnswer} → Reported img rules a → Reported img rules b → a ≡ b
  reported_one consistent consistent = refl
  reported_one (fault fails) (fault again) = refl
  reported_one (fault fails) (right holds rest) = absurd (fails holds)
  reported_one (right holds rest) (fault fails) = absurd (fails holds)
  reported_one (right holds rest) (right again rest₂) = reported_one rest rest₂

  -- rule 0 exactly if all hold
  pub all_reported : {rules : List Rule} → AllHold img rules → Reported img rules nothing_wrong
  all_reported none = consistent
  all_reported (also holds rest) = right holds (all_reported rest)

  pub reported_all : {rules : List Rule} {answer : ReportAnswer} → Reported img rules answer → answer.rule ≡ 0 → AllHold img rules
  reported_all consistent is = none
  reported_all (fault {rule} fails) is = absurd (fault_number img rule is)
  reported_all (right holds rest) is = also holds (reported_all rest is)

  pub reported_nothing : {rules : List Rule} {answer : ReportAnswer} → Reported img rules answer → answer.rule ≡ 0 → answer ≡ nothing_wrong
  reported_nothing consistent is = refl
  reported_nothing (fault {rule} fails) is = absurd (fault_number img rule is)
  reported_nothing (right holds rest) is = reported_nothing rest is

  -- a fault that is named is there, and none before it
  pub reported_first : {rules : List Rule} {answer : ReportAnswer} → Reported img rules answer → (answer.rule ≡ 0 → ⊥) → FirstFault img rules answer
  reported_first consistent some = absurd (some refl)
  reported_first (fault {rule} {more} fails) some =
      record { before = []; rule = rule; behind = more; order = refl; hold = none; fails = fails; named = refl }
  reported_first (right {rule} holds rest) some =
      let first = reported_first rest some in
      record {
        before = rule ∷ first.before;
        rule = first.rule;
        behind = first.behind;
        order = ap (◌∷◌ rule) first.order;
        hold = also holds first.hold;
        fails = first.fails;
        named = first.named;
      }

  -- rules one behind another
  pub hold_append : {front back : List Rule} → AllHold img front → AllHold img back → AllHold img (front ++ back)
  hold_append none back = back
  hold_append (also holds rest) back = also holds (hold_append rest back)

  pub hold_split : (front back : List Rule) → AllHold img (front ++ back) → AllHold img front × AllHold img back
  hold_split [] back all = (none, all)
  hold_split (rule ∷ front) back (also holds rest) = let h = hold_split front back rest in (also holds h.0, h.1)

  -- all of the first hold, and the second are reported on; or one of the first fails
  pub reported_append : {front back : List Rule} {answer : ReportAnswer} → AllHold img front → Reported img back answer → Reported img (front ++ back) answer
  reported_append none rest = rest
  reported_append (also holds front) rest = right holds (reported_append front rest)

  pub reported_front : {front : List Rule} (back : List Rule) {answer : ReportAnswer} → Reported img front answer → (answer.rule ≡ 0 → ⊥)
      → Reported img (front ++ back) answer
  reported_front back consistent some = absurd (some refl)
  reported_front back (fault fails) some = fault fails
  reported_front back (right holds rest) some = right holds (reported_front back rest some)

  -- two stages: the second is asked where the first says 0
  pub reported_then : {front back : List Rule} {a b : ReportAnswer} → Reported img front a → a.rule ≡ 0 → Reported img back b → Reported img (front ++ back) b
  reported_then report is rest = reported_append (reported_all report is) rest

  pub reported_split : (front back : List Rule) {answer : ReportAnswer} → Reported img (front ++ back) answer → (answer.rule ≡ 0 → ⊥)
      → Reported img front answer ⊎ (AllHold img front × Reported img back answer)
  reported_split [] back report some = inr (none, report)
  reported_split (rule ∷ front) back (fault fails) some = inl (fault fails)
  reported_split (rule ∷ front) back {answer} (right holds rest) some = later (reported_split front back rest some)
    where
      later : Reported img front answer ⊎ (AllHold img front × Reported img back answer)
          → Reported img (rule ∷ front) answer ⊎ (AllHold img (rule ∷ front) × Reported img back answer)
      later (inl report) = inl (right holds report)
      later (inr (all, report)) = inr (also holds all, report)

  -- the last rule of all that hold before it
  pub reported_at : {front : List Rule} (rule : Rule) (back : List Rule) → AllHold img front → (Holds img rule → ⊥)
      → Reported img (front ++ (rule ∷ back)) (reported img rule)
  reported_at rule back front fails = reported_append front (fault fails)

-- a rule for each of `k` numbers from `from` on
module _ {img : List ℕ} (rule : ℕ → Rule) where
  pub hold_each : (from k : ℕ) → ((i : ℕ) → from ≤ i → i < from + k → Holds img (rule i)) → AllHold img (each rule from k)
  unfolding each
  hold_each from zero holds = none
  hold_each from (suc k) holds = also (holds from (omega arith) (omega arith)) (hold_each (from + 1) k (λ i low high. holds i (omega arith) (omega arith)))

  pub each_hold : (from k : ℕ) → AllHold img (each rule from k) → (i : ℕ) → from ≤ i → i < from + k → Holds img (rule i)
  unfolding each
  each_hold from zero all i low high = absurd (omega arith)
  each_hold from (suc k) (also holds rest) i low high =
      elim (ℕ_discrete from i) [
        | yes is ↦ subst (λ (n : ℕ). Holds img (rule n)) is holds
        | no other ↦ each_hold (from + 1) k rest i (omega (arith, other)) (omega arith)
      ]

  -- the first number of which the rule fails
  pub reported_each : (from k i : ℕ) → from ≤ i → i < from + k → ((j : ℕ) → from ≤ j → j < i → Holds img (rule j)) → (Holds img (rule i) → ⊥)
      → Reported img (each rule from k) (reported img (rule i))
  unfolding each
  reported_each from zero i low high before fails = absurd (omega arith)
  reported_each from (suc k) i low high before fails =
      elim (ℕ_discrete from i) [
        | yes is ↦ here is
        | no other ↦
            right (before from (omega arith) (omega (arith, other)))
            (reported_each (from + 1) k i (omega (arith, other)) (omega arith) (λ j above below. before j (omega arith) below) fails)
      ]
    where
      here : from ≡ i → Reported img (rule from ∷ each rule (from + 1) k) (reported img (rule i))
      here is =
          subst (λ (n : ℕ). Reported img (rule from ∷ each rule (from + 1) k) (reported img (rule n))) is (fault (λ holds. fails (subst (λ (n : ℕ). Holds img (rule n)) is holds)))

-- the number of the rule that fails, of `k` from `from` on
pub record EachFault (img : List ℕ) (rule : ℕ → Rule) (from k : ℕ) (answer : ReportAnswer) : Type 0 where
  pub at : ℕ
  pub low : from ≤ at
  pub high : at < from + k
  pub hold : (j : ℕ) → from ≤ j → j < at → Holds img (rule j)
  pub fails : Holds img (rule at) → ⊥
  pub named : reported img (rule at) ≡ answer

pub each_fault : {img : List ℕ} (rule : ℕ → Rule) (from k : ℕ) {answer : ReportAnswer} → Reported img (each rule from k) answer → (answer.rule ≡ 0 → ⊥)
    → EachFault img rule from k answer
unfolding each
each_fault rule from zero consistent some = absurd (some refl)
each_fault rule from (suc k) (fault fails) some =
    record { at = from; low = omega arith; high = omega arith; hold = λ j low below. absurd (omega arith); fails = fails; named = refl }
each_fault {img} rule from (suc k) (right holds rest) some =
    let later = each_fault rule (from + 1) k rest some in
    record {
      at = later.at;
      low = omega (arith, later.low);
      high = omega (arith, later.high);
      hold = λ j low below. elim (ℕ_discrete from j) [
        | yes is ↦ subst (λ (n : ℕ). Holds img (rule n)) is holds
        | no other ↦ later.hold j (omega (arith, other)) below
      ];
      fails = later.fails;
      named = later.named;
    }
