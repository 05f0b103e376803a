-- A fault named in an entry is there: a word of it, its name, or its file.
use Prim.Native.Nat.{ℕ, ◌+◌, ◌≤◌, ◌<◌}
use mathlib.Core.Path.{◌≡◌, refl, sym, ap, subst, ◌∙◌}
use mathlib.Core.Bool.{Bool, true, false}
use mathlib.Core.List.{List, ◌∷◌, ◌++◌}
use mathlib.Core.Logic.{◌⊎◌, inl, inr, ◌↔◌}
use native.Mathlib.Omega.{arith}
use Rattle.pack.specs.declared.Key.{Key}
use Rattle.pack.specs.Geometry.{geometry_of, slots}
use Rattle.pack.specs.Key.{key_in, SameKey}
use Rattle.pack.specs.KeyTest.{same_key}
use Rattle.pack.proofs.KeySame.{same_key_iff}
use Rattle.radix.proofs.Names.{name_not_zero}
use Rattle.faults.specs.declared.ReportAnswer.{ReportAnswer}
use Rattle.faults.specs.Rules.{Rule, entry, name, Holds}
use Rattle.faults.specs.Report.{file_order, entry_order, reported, Reported, fault, right}
use Rattle.faults.specs.FirstFault.{AllHold}
use Rattle.faults.specs.FaultThere.{InUse, Fault, wrong_field, same_name}
use Rattle.faults.proofs.ReportedParts.{reported_one, all_reported, reported_split, each_hold, each_fault}
use Rattle.faults.proofs.RulesEntry.{FieldWord, field_rules, order_contiguous, order_linked, entry_here}
use Rattle.faults.proofs.RulesEntryRight.{sure, empty_unnamed, empty_rules}
use Rattle.faults.proofs.FaultFile.{below_sought, in_use, extent_fault, chain_fault}

-- whether two keys are the same is decided
pub same_key_law : (a b : Key) → Dec (SameKey a b)
same_key_law a b = by (same_key a b) (same_key_iff a b)
  where
    by : (t : Bool) → t ≡ true ↔ SameKey a b → Dec (SameKey a b)
    by true iff = yes (iff.0 refl)
    by false iff = no (λ same. let never : false ≡ true = iff.1 same in let z : ◌≡◌ {A = ℕ} 0 1 = cc in omega arith)

module _ (img : List ℕ) (e : ℕ) (inside : e < slots (geometry_of img)) where
  -- of the words from `from` on
  field_fault : (from k : ℕ) → ((w : ℕ) → from ≤ w → w < from + k → FieldWord w) → {answer : ReportAnswer} → Reported img (field_rules img e from k) answer
      → (answer.rule ≡ 0 → ⊥) → Fault img answer
  field_fault from k words report some =
      let r = each_fault (λ w. entry e w) from k report some in
      subst (Fault img) r.named
      (wrong_field e r.at (in_use img e inside r.fails) (words r.at r.low r.high) (λ holds. r.fails (inr holds)))

  -- the name: there is an entry before it that has its key
  name_fault : Holds img (entry e 0) → (Holds img (name e) → ⊥) → Fault img (reported img (name e))
  name_fault begins fails =
      by (below_sought (λ (f : ℕ). SameKey (key_in (entry_here img f)) (key_in (entry_here img e))) (λ f. same_key_law (key_in (entry_here img f)) (key_in (entry_here img e))) e)
    where
      here : InUse img e
      here = in_use img e inside fails

      named : (entry_here img e).name1 ≡ 0 → ⊥
      named is = let legal = (sure here.used begins).begins refl in name_not_zero _ _ legal.1 is

      by : ((f : ℕ) × (f < e) × SameKey (key_in (entry_here img f)) (key_in (entry_here img e)))
          ⊎ ((f : ℕ) → f < e → SameKey (key_in (entry_here img f)) (key_in (entry_here img e)) → ⊥) → Fault img (reported img (name e))
      by (inl (f, less, same)) =
          same_name e f here
          (record { inside = omega (arith, less, inside); used = λ empty. named (sym same.name1 ∙ empty_unnamed img (geometry_of img) f empty) })
          less same
      by (inr never) = absurd (fails (inr (λ f below used same. never f below same)))

  file_fault : Holds img (entry e 5) → {answer : ReportAnswer} → Reported img (file_order e (entry_here img e)) answer → (answer.rule ≡ 0 → ⊥) → Fault img answer
  file_fault kind {answer} report some = by kind
    where
      of_kind : ((entry_here img e).kind ≡ 1) ⊎ ((entry_here img e).kind ≡ 2) → Fault img answer
      of_kind (inl is) = extent_fault img e inside is (rw (order_contiguous e (entry_here img e) is) at report) some
      of_kind (inr is) =
          let other : (entry_here img e).kind ≡ 1 → ⊥ = λ one. omega (arith, one, is) in
          chain_fault img e inside is (rw (order_linked e (entry_here img e) other) at report) some

      by : Holds img (entry e 5) → Fault img answer
      by (inl empty) = absurd (some (ap (λ (a : ReportAnswer). a.rule) (reported_one report (all_reported (empty_rules img e empty).file))))
      by (inr f) = of_kind (f.kind refl)

  -- the parts of an entry's rules, one behind another
  abbrev behind_fields : List Rule
  behind_fields = field_rules img e 9 7 ++ file_order e (entry_here img e)

  behind_words : Holds img (entry e 5) → {answer : ReportAnswer} → (answer.rule ≡ 0 → ⊥)
      → Reported img (field_rules img e 9 7) answer ⊎ (AllHold img (field_rules img e 9 7) × Reported img (file_order e (entry_here img e)) answer) → Fault img answer
  behind_words kind some (inl report) = field_fault 9 7 (λ w low high. inr (low, omega arith)) report some
  behind_words kind some (inr (all, report)) = file_fault kind report some

  behind_name_law : {answer : ReportAnswer} → (answer.rule ≡ 0 → ⊥)
      → Reported img (field_rules img e 4 2) answer ⊎ (AllHold img (field_rules img e 4 2) × Reported img behind_fields answer) → Fault img answer
  behind_name_law some (inl report) = field_fault 4 2 (λ w low high. inl (omega arith)) report some
  behind_name_law some (inr (all, report)) =
      behind_words (each_hold (λ w. entry e w) 4 2 all 5 (omega arith) (omega arith)) some
      (reported_split (field_rules img e 9 7) (file_order e (entry_here img e)) report some)

  from_name : {answer : ReportAnswer} → (answer.rule ≡ 0 → ⊥)
      → Reported img (field_rules img e 0 4) answer ⊎ (AllHold img (field_rules img e 0 4) × Reported img (name e ∷ (field_rules img e 4 2 ++ behind_fields)) answer)
      → Fault img answer
  from_name some (inl report) = field_fault 0 4 (λ w low high. inl (omega arith)) report some
  from_name some (inr (all, fault fails)) = name_fault (each_hold (λ w. entry e w) 0 4 all 0 (omega arith) (omega arith)) fails
  from_name some (inr (all, right holds rest)) = behind_name_law some (reported_split (field_rules img e 4 2) behind_fields rest some)

  pub entry_fault : {answer : ReportAnswer} → Reported img (entry_order img e) answer → (answer.rule ≡ 0 → ⊥) → Fault img answer
  unfolding entry_order
  entry_fault report some = from_name some (reported_split (field_rules img e 0 4) (name e ∷ (field_rules img e 4 2 ++ behind_fields)) report some)
