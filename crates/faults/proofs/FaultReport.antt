-- "every fault named is really there": what a report says that names a fault, by its rule.
use Prim.Native.Nat.{ℕ, ◌≤◌, ◌<◌}
use mathlib.Core.Path.{◌≡◌, subst}
use mathlib.Core.List.{List, ◌++◌}
use mathlib.Core.Logic.{◌⊎◌, inl, inr}
use native.Mathlib.Omega.{arith}
use Rattle.pack.specs.Geometry.{geometry_of, slots}
use Rattle.pack.specs.Header.{RightHeader}
use Rattle.pack.specs.Consistent.{held}
use Rattle.pack.specs.Map.{map_bits}
use Rattle.pack.proofs.ConsistentHeld.{right_bodies}
use Rattle.faults.specs.declared.ReportAnswer.{ReportAnswer}
use Rattle.faults.specs.Rules.{header, shared, map, RightSize}
use Rattle.faults.specs.Second.{second}
use Rattle.faults.specs.Report.{order, reported, Reported, fault, right, Report}
use Rattle.faults.specs.FirstFault.{AllHold}
use Rattle.faults.specs.FaultThere.{Fault, wrong_size, wrong_word, two_files, wrong_bit}
use Rattle.faults.proofs.ReportedParts.{reported_split, each_hold, each_fault}
use Rattle.faults.proofs.ReportedRuns.{entries_hold, entries_fault}
use Rattle.faults.proofs.RulesHeader.{stated_words, header_words}
use Rattle.faults.proofs.RulesEntryRight.{FineEntry, entry_fine}
use Rattle.faults.proofs.RulesMap.{bit_fails}
use Rattle.faults.proofs.ReportConsistent.{header_order, contents_order, shared_order, map_order, blocks_order}
use Rattle.faults.proofs.SecondSought.{second_holder}
use Rattle.faults.proofs.FaultEntry.{entry_fault}

module _ (img : List ℕ) where
  -- behind the header all is said of a right one
  pub record Told (answer : ReportAnswer) : Type 0 where
    pub told : Fault img answer
    pub header : 3 ≤ answer.rule → RightHeader img

  word_told : {answer : ReportAnswer} → (answer.rule ≡ 0 → ⊥) → Reported img (header_order img) answer → Told answer
  word_told some report =
      let r = each_fault header 0 (stated_words img) report some in
      subst Told r.named (record { told = wrong_word r.at (omega (arith, r.high)) r.fails; header = λ behind. absurd (omega arith) })

  module _ (long : RightSize img) (words : AllHold img (header_order img)) where
    right_header : RightHeader img
    right_header = header_words img long (λ w inside. each_hold header 0 (stated_words img) words w (omega arith) (omega arith))

    entry_told : {answer : ReportAnswer} → (answer.rule ≡ 0 → ⊥) → Reported img (contents_order img) answer → Told answer
    entry_told some report =
        let r = entries_fault 0 (slots (geometry_of img)) report some in
        record { told = entry_fault img r.at (omega (arith, r.high)) r.report some; header = λ behind. right_header }

    module _ (entries : AllHold img (contents_order img)) where
      fine : (e : ℕ) → e < slots (geometry_of img) → FineEntry img e
      fine e inside = entry_fine img e (entries_hold 0 (slots (geometry_of img)) entries e (omega arith) (omega arith))

      two : (b : ℕ) → 1 < held img b → Fault img (reported img (shared b))
      two b twice =
          let holder = second_holder img b (λ e inside. (fine e inside).once b) twice in
          two_files (second img b) b holder (right_bodies img (geometry_of img) (second img b) b (fine (second img b) holder.inside).right holder.reaches)
          (λ f c inside. (fine f inside).once c)

      shared_told : {answer : ReportAnswer} → (answer.rule ≡ 0 → ⊥) → Reported img (shared_order img) answer → Told answer
      shared_told some report =
          let r = each_fault shared 0 (geometry_of img).blocks report some in
          subst Told r.named (record { told = two r.at (omega (arith, r.fails)); header = λ behind. right_header })

      blocks_told : {answer : ReportAnswer} → (answer.rule ≡ 0 → ⊥)
          → Reported img (shared_order img) answer ⊎ (AllHold img (shared_order img) × Reported img (map_order img) answer) → Told answer
      blocks_told some (inl report) = shared_told some report
      blocks_told some (inr (apart, report)) =
          let r = each_fault map 0 (map_bits (geometry_of img)) report some in
          let wrong = bit_fails img r.at r.fails in
          subst Told r.named (record { told = wrong_bit r.at wrong.0 (omega (arith, r.high)) wrong.1; header = λ behind. right_header })

    contents_told : {answer : ReportAnswer} → (answer.rule ≡ 0 → ⊥)
        → Reported img (contents_order img) answer ⊎ (AllHold img (contents_order img) × Reported img (blocks_order img) answer) → Told answer
    contents_told some (inl report) = entry_told some report
    contents_told some (inr (entries, report)) = blocks_told entries some (reported_split (shared_order img) (map_order img) report some)

  header_told : RightSize img → {answer : ReportAnswer} → (answer.rule ≡ 0 → ⊥)
      → Reported img (header_order img) answer ⊎ (AllHold img (header_order img) × Reported img (contents_order img ++ blocks_order img) answer) → Told answer
  header_told long some (inl report) = word_told some report
  header_told long some (inr (words, report)) = contents_told long words some (reported_split (contents_order img) (blocks_order img) report some)

  pub report_told : {answer : ReportAnswer} → Report img answer → (answer.rule ≡ 0 → ⊥) → Told answer
  unfolding order
  report_told (fault fails) some = record { told = wrong_size fails; header = λ behind. absurd (omega arith) }
  report_told (right long rest) some = header_told long some (reported_split (header_order img) (contents_order img ++ blocks_order img) rest some)

  pub report_fault : (answer : ReportAnswer) → Report img answer → (answer.rule ≡ 0 → ⊥) → Fault img answer
  report_fault answer report some = (report_told report some).told
