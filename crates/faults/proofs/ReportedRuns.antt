-- The report on several rules for each of some numbers in a row: the links of a chain, the entries one behind another.
use Prim.Native.Nat.{ℕ, suc, zero, ◌+◌, ◌≤◌, ◌<◌}
use mathlib.Core.Path.{◌≡◌, refl, ap, subst, sym}
use mathlib.Core.List.{List, [], ◌∷◌, ◌++◌}
use mathlib.Core.Logic.{⊎_elim}
use native.Mathlib.Omega.{arith}
use native.Mathlib.Decide.{ℕ_discrete}
use Rattle.faults.specs.declared.ReportAnswer.{ReportAnswer}
use Rattle.faults.specs.Rules.{Rule, link, loop, Holds}
use Rattle.faults.specs.Report.{links, entry_order, entries_order, Reported, consistent}
use Rattle.faults.specs.FirstFault.{AllHold, none, also}
use Rattle.faults.proofs.ReportedParts.{hold_append, hold_split, reported_append, reported_front, reported_split}

-- the rules of each of `k` numbers from `from` on
unfoldable pub runs : (ℕ → List Rule) → ℕ → ℕ → List Rule
runs rules from zero = []
runs rules from (suc k) = rules from ++ runs rules (from + 1) k

module _ {img : List ℕ} (rules : ℕ → List Rule) where
  pub hold_runs : (from k : ℕ) → ((i : ℕ) → from ≤ i → i < from + k → AllHold img (rules i)) → AllHold img (runs rules from k)
  unfolding runs
  hold_runs from zero holds = none
  hold_runs from (suc k) holds = hold_append (holds from (omega arith) (omega arith)) (hold_runs (from + 1) k (λ i low high. holds i (omega arith) (omega arith)))

  pub runs_hold : (from k : ℕ) → AllHold img (runs rules from k) → (i : ℕ) → from ≤ i → i < from + k → AllHold img (rules i)
  unfolding runs
  runs_hold from zero all i low high = absurd (omega arith)
  runs_hold from (suc k) all i low high =
      let h = hold_split (rules from) (runs rules (from + 1) k) all in
      elim (ℕ_discrete from i) [
        | yes is ↦ subst (λ (n : ℕ). AllHold img (rules n)) is h.0
        | no other ↦ runs_hold (from + 1) k h.1 i (omega (arith, other)) (omega arith)
      ]

  -- the first number of which a rule fails
  pub reported_runs : (from k i : ℕ) {answer : ReportAnswer} → from ≤ i → i < from + k → ((j : ℕ) → from ≤ j → j < i → AllHold img (rules j))
      → Reported img (rules i) answer → (answer.rule ≡ 0 → ⊥) → Reported img (runs rules from k) answer
  unfolding runs
  reported_runs from zero i low high before report some = absurd (omega arith)
  reported_runs from (suc k) i {answer} low high before report some =
      elim (ℕ_discrete from i) [
        | yes is ↦ reported_front (runs rules (from + 1) k) (subst (λ (n : ℕ). Reported img (rules n) answer) (sym is) report) some
        | no other ↦
            reported_append (before from (omega arith) (omega (arith, other)))
            (reported_runs (from + 1) k i (omega (arith, other)) (omega arith) (λ j above below. before j (omega arith) below) report some)
      ]

pub record RunsFault (img : List ℕ) (rules : ℕ → List Rule) (from k : ℕ) (answer : ReportAnswer) : Type 0 where
  pub at : ℕ
  pub low : from ≤ at
  pub high : at < from + k
  pub hold : (j : ℕ) → from ≤ j → j < at → AllHold img (rules j)
  pub report : Reported img (rules at) answer

pub runs_fault : {img : List ℕ} (rules : ℕ → List Rule) (from k : ℕ) {answer : ReportAnswer} → Reported img (runs rules from k) answer → (answer.rule ≡ 0 → ⊥)
    → RunsFault img rules from k answer
unfolding runs
runs_fault rules from zero consistent some = absurd (some refl)
runs_fault {img} rules from (suc k) {answer} report some =
    ⊎_elim here (λ rest. after rest.0 (runs_fault rules (from + 1) k rest.1 some)) (reported_split (rules from) (runs rules (from + 1) k) report some)
  where
    here : Reported img (rules from) answer → RunsFault img rules from (suc k) answer
    here first = record { at = from; low = omega arith; high = omega arith; hold = λ j low below. absurd (omega arith); report = first }

    after : AllHold img (rules from) → RunsFault img rules (from + 1) k answer → RunsFault img rules from (suc k) answer
    after first later =
        record {
          at = later.at;
          low = omega (arith, later.low);
          high = omega (arith, later.high);
          hold = λ j low below. elim (ℕ_discrete from j) [
            | yes is ↦ subst (λ (n : ℕ). AllHold img (rules n)) is first
            | no other ↦ later.hold j (omega (arith, other)) below
          ];
          report = later.report;
        }

-- the links of a chain, and the entries, are such
abbrev pub link_rules : ℕ → ℕ → List Rule
link_rules e place = link e place ∷ (loop e place ∷ [])

pub links_runs : (e from k : ℕ) → links e from k ≡ runs (link_rules e) from k
unfolding links runs
links_runs e from zero = refl
links_runs e from (suc k) = ap (λ (rest : List Rule). link e from ∷ (loop e from ∷ rest)) (links_runs e (from + 1) k)

pub entries_runs : (img : List ℕ) (from k : ℕ) → entries_order img from k ≡ runs (entry_order img) from k
unfolding entries_order runs
entries_runs img from zero = refl
entries_runs img from (suc k) = ap (◌++◌ (entry_order img from)) (entries_runs img (from + 1) k)

module _ {img : List ℕ} (e from k : ℕ) where
  pub hold_links : ((p : ℕ) → from ≤ p → p < from + k → Holds img (link e p) × Holds img (loop e p)) → AllHold img (links e from k)
  hold_links holds =
      rw (links_runs e from k)
      (hold_runs (link_rules e) from k (λ p low high. let h = holds p low high in also h.0 (also h.1 none)))

  pub links_hold : AllHold img (links e from k) → (p : ℕ) → from ≤ p → p < from + k → Holds img (link e p) × Holds img (loop e p)
  links_hold all p low high = both (runs_hold (link_rules e) from k (rw (links_runs e from k) at all) p low high)
    where
      both : AllHold img (link_rules e p) → Holds img (link e p) × Holds img (loop e p)
      both (also a (also b none)) = (a, b)

  -- the first place where a link is wrong, or leads to a block a second time
  pub reported_links : (p : ℕ) {answer : ReportAnswer} → from ≤ p → p < from + k → ((q : ℕ) → from ≤ q → q < p → Holds img (link e q) × Holds img (loop e q))
      → Reported img (link_rules e p) answer → (answer.rule ≡ 0 → ⊥) → Reported img (links e from k) answer
  reported_links p low high before report some =
      rw (links_runs e from k)
      (reported_runs (link_rules e) from k p low high (λ q above below. let h = before q above below in also h.0 (also h.1 none)) report some)

  pub links_fault : {answer : ReportAnswer} → Reported img (links e from k) answer → (answer.rule ≡ 0 → ⊥) → RunsFault img (link_rules e) from k answer
  links_fault report some = runs_fault (link_rules e) from k (rw (links_runs e from k) at report) some

module _ {img : List ℕ} (from k : ℕ) where
  pub hold_entries : ((e : ℕ) → from ≤ e → e < from + k → AllHold img (entry_order img e)) → AllHold img (entries_order img from k)
  hold_entries holds = rw (entries_runs img from k) (hold_runs (entry_order img) from k holds)

  pub entries_hold : AllHold img (entries_order img from k) → (e : ℕ) → from ≤ e → e < from + k → AllHold img (entry_order img e)
  entries_hold all = runs_hold (entry_order img) from k (rw (entries_runs img from k) at all)

  pub reported_entries : (e : ℕ) {answer : ReportAnswer} → from ≤ e → e < from + k → ((f : ℕ) → from ≤ f → f < e → AllHold img (entry_order img f))
      → Reported img (entry_order img e) answer → (answer.rule ≡ 0 → ⊥) → Reported img (entries_order img from k) answer
  reported_entries e low high before report some = rw (entries_runs img from k) (reported_runs (entry_order img) from k e low high before report some)

  pub entries_fault : {answer : ReportAnswer} → Reported img (entries_order img from k) answer → (answer.rule ≡ 0 → ⊥)
      → RunsFault img (entry_order img) from k answer
  entries_fault report some = runs_fault (entry_order img) from k (rw (entries_runs img from k) at report) some
