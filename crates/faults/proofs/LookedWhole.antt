-- The look at an image that is not consistent, return by return: its header, its entries, the blocks that they share.
use Prim.Native.Nat.{ℕ, ◌+◌, ◌≤◌, ◌<◌}
use mathlib.Core.Path.{◌≡◌, sym, ap, subst, ◌∙◌}
use mathlib.Core.Bool.{Bool, true, false, cond}
use mathlib.Core.List.{List}
use native.Mathlib.Omega.{arith}
use native.Mathlib.Decide.{ℕ_discrete}
use Rattle.answers.proofs.RefusalsTests.{true_not_false}
use Rattle.pack.specs.declared.Geometry.{Geometry}
use Rattle.pack.specs.Geometry.{geometry_of, slots}
use Rattle.pack.specs.Header.{RightHeader}
use Rattle.pack.specs.HeaderTest.{header_test, header_of}
use Rattle.pack.proofs.HeaderTestWhole.{header_iff}
use Rattle.std.specs.Prelude.{Option, Some, None, is_some}
use Rattle.consistency.specs.ConsistentTest.{opened_of}
use Rattle.consistency.proofs.ConsistentTestIff.{opened_good}
use Rattle.faults.specs.declared.ReportAnswer.{ReportAnswer}
use Rattle.faults.specs.Rules.{header}
use Rattle.faults.specs.Report.{entry_order, entries_order, order, nothing_wrong, Reported, right, Report}
use Rattle.faults.specs.FirstFault.{AllHold}
use Rattle.faults.specs.Looking.{Measures, AllRight}
use Rattle.faults.proofs.ReportedParts.{all_reported, reported_all, reported_append, reported_front, hold_each}
use Rattle.faults.proofs.ReportedRuns.{hold_entries, entries_hold, reported_entries}
use Rattle.faults.proofs.RulesHeader.{stated_words, header_size, header_word}
use Rattle.faults.proofs.ReportConsistent.{blocks_order, report_consistent}
use Rattle.faults.proofs.ReportOrder.{report_blocks}

-- entry by entry: those below e are right
abbrev pub RightBelow : List ℕ → ℕ → Type 0
RightBelow img e = (f : ℕ) → f < e → AllHold img (entry_order img f)

pub right_on : {img : List ℕ} {e : ℕ} → RightBelow img e → {answer : ReportAnswer} → Reported img (entry_order img e) answer → answer.rule ≡ 0 → RightBelow img (e + 1)
right_on {img} {e} before report nothing f less =
    elim (ℕ_discrete f e) [
      | yes here ↦ subst (λ (n : ℕ). AllHold img (entry_order img n)) (sym here) (reported_all report nothing)
      | no other ↦ before f (omega (arith, less, other))
    ]

module _ {img : List ℕ} {g : Geometry} (m : Measures img g) where
  slots_is : slots (geometry_of img) ≡ slots g
  slots_is = ap slots m.is

  pub entries_told : {e : ℕ} → e < slots g → RightBelow img e → {answer : ReportAnswer} → Reported img (entry_order img e) answer → (answer.rule ≡ 0 → ⊥)
      → Reported img (entries_order img 0 (slots (geometry_of img))) answer
  entries_told {e} inside before report some =
      reported_entries 0 (slots (geometry_of img)) e (omega arith) (omega (arith, inside, slots_is)) (λ f low less. before f less) report some

  pub entries_fine : {e : ℕ} → slots g ≤ e → RightBelow img e → Reported img (entries_order img 0 (slots (geometry_of img))) nothing_wrong
  entries_fine {e} done before =
      all_reported (hold_entries 0 (slots (geometry_of img)) (λ f low high. before f (omega (arith, high, done, slots_is))))

  -- behind the header
  pub report_contents : {answer : ReportAnswer} → Reported img (entries_order img 0 (slots (geometry_of img))) answer → (answer.rule ≡ 0 → ⊥) → Report img answer
  unfolding order
  report_contents report some =
      right (header_size img m.header)
      (reported_append (hold_each header 0 (stated_words img) (λ w low high. header_word img m.header w (omega arith)))
      (reported_front (blocks_order img) report some))

  module _ {told : ReportAnswer} (report : Reported img (entries_order img 0 (slots (geometry_of img))) told) (nothing : told.rule ≡ 0) where
    pub all_right : AllRight img g
    all_right =
        record {
          measures = m;
          entries = λ e inside. entries_hold 0 (slots (geometry_of img)) (reported_all report nothing) e (omega arith) (omega arith);
        }

    pub report_behind : {answer : ReportAnswer} → Reported img (blocks_order img) answer → Report img answer
    report_behind rest = report_blocks m.header all_right.entries rest

-- the header as it was read
by_right : (test : Bool) (g h : Geometry) → cond test (Some g) None ≡ Some h → (test ≡ true) × (g ≡ h)
by_right true g h is = (cc, cc)
by_right false g h is = (cc, cc)

by_wrong : (test : Bool) (g : Geometry) → cond test (Some g) None ≡ None → test ≡ true → ⊥
by_wrong true g is holds = let z : ◌≡◌ {A = ℕ} 0 1 = cc in omega arith
by_wrong false g is holds = let z : ◌≡◌ {A = ℕ} 0 1 = cc in omega arith

module _ (img : List ℕ) {r : Option Geometry} (is : r ≡ header_of img) where
  pub read_wrong : r ≡ None → RightHeader img → ⊥
  unfolding header_of
  read_wrong wrong right_header = by_wrong (header_test img) (geometry_of img) (sym is ∙ wrong) ((header_iff img).1 right_header)

  pub read_right : {g : Geometry} → r ≡ Some g → Measures img g
  unfolding header_of
  read_right {g} fine = let h = by_right (header_test img) (geometry_of img) g (sym is ∙ fine) in record { header = (header_iff img).0 h.0; is = h.1 }

-- a consistent image
pub report_good : (img : List ℕ) {r : Option Geometry} → r ≡ opened_of img → is_some r ≡ true → Report img nothing_wrong
report_good img {r} is good = by r is good
  where
    by : (r : Option Geometry) → r ≡ opened_of img → is_some r ≡ true → Report img nothing_wrong
    by (Some g) is good = (report_consistent img).1 (opened_good img g (sym is)).0
    by None is never = true_not_false (sym never)
