-- The members of every report are small: what it prints takes five digits.
use Prim.Native.Nat.{ℕ, ◌≤◌, ◌<◌}
use mathlib.Core.Path.{◌≡◌, ap}
use mathlib.Core.Bool.{Bool, true, false, cond}
use mathlib.Core.List.{List}
use mathlib.Core.Logic.{inl, inr}
use native.Mathlib.Omega.{arith}
use native.Mathlib.Decide.{ℕ_discrete, dec_le}
use lib.Dec.{eqb}
use Rattle.words.specs.Word.{word_at}
use Rattle.pack.specs.Form.{segments_of}
use Rattle.pack.specs.Geometry.{segment_words}
use Rattle.pack.specs.GeometrySized.{most_blocks, most_segments, most_entries}
use Rattle.pack.specs.Header.{RightHeader}
use Rattle.pack.proofs.FormBounds.{segments_few}
use Rattle.pack.proofs.HeaderRules.{header_sized, entries_few}
use Rattle.faults.specs.declared.ReportAnswer.{ReportAnswer}
use Rattle.faults.specs.Rules.{stated_segments}
use Rattle.faults.specs.Report.{Report}
use Rattle.faults.proofs.ReportedParts.{reported_nothing}
use Rattle.faults.proofs.RulesEntry.{FieldWord}
use Rattle.faults.proofs.FaultReport.{report_told}
use Rattle.faults.proofs.FaultMembers.{Members, fault_members}

-- the segments stated are at most those of any form
pub stated_few : (form : ℕ) → stated_segments form ≤ most_segments
unfolding stated_segments
stated_few form = few (eqb (segments_of form) 0)
  where
    few : (a : Bool) → cond a 4 (segments_of form) ≤ most_segments
    few true = omega arith
    few false = segments_few form

pub record Small (answer : ReportAnswer) : Type 0 where
  pub rule : answer.rule ≤ 10
  pub entry : answer.entry < most_entries
  pub word : answer.word < segment_words most_segments
  pub block : answer.block < most_blocks

module _ (img : List ℕ) (answer : ReportAnswer) (m : Members img answer) (header : 3 ≤ answer.rule → RightHeader img) where
  few_words : answer.word < segment_words most_segments
  few_words = at (dec_le answer.rule 1) (dec_le answer.rule 2) (dec_le answer.rule 3) (dec_le answer.rule 4) (dec_le answer.rule 5)
    where
      below : FieldWord answer.word → answer.word < 16
      below (inl low) = omega arith
      below (inr (low, high)) = high

      at : Dec (answer.rule ≤ 1) → Dec (answer.rule ≤ 2) → Dec (answer.rule ≤ 3) → Dec (answer.rule ≤ 4) → Dec (answer.rule ≤ 5)
          → answer.word < segment_words most_segments
      at (yes one) two three four five = omega (arith, m.no_word (inl (omega (arith, m.rule.0))))
      at (no one) (yes two) three four five = omega (arith, m.words (omega arith), stated_few (word_at img 0))
      at (no one) (no two) (yes three) four five = omega (arith, below (m.field (omega arith)))
      at (no one) (no two) (no three) (yes four) five = omega (arith, m.name (omega arith))
      at (no one) (no two) (no three) (no four) (yes five) = omega (arith, (m.extent (omega arith)).1)
      at (no one) (no two) (no three) (no four) (no five) = omega (arith, m.no_word (inr (omega arith)))

  entry_in : Dec (answer.rule ≤ 2) → Dec (answer.rule ≤ 9) → answer.entry < most_entries
  entry_in (yes few) nine = omega (arith, m.no_entry (inl few))
  entry_in (no more) (yes nine) = omega (arith, m.entry (omega (arith, more)) nine, entries_few img (header (omega (arith, more))))
  entry_in (no more) (no ten) = omega (arith, m.no_entry (inr (omega (arith, ten, m.rule.1))))

  -- a bit too is one of at most so many: a block has a bit for each
  block_in : Dec (answer.rule ≤ 5) → Dec (answer.rule ≤ 9) → answer.block < most_blocks
  block_in (yes few) nine = omega (arith, m.no_block few)
  block_in (no more) (yes nine) = omega (arith, (m.block (omega (arith, more)) nine).1, (header_sized img (header (omega (arith, more)))).most)
  block_in (no more) (no ten) = omega (arith, m.bit (omega (arith, ten, m.rule.1)), (header_sized img (header (omega (arith, more)))).few)

  members_small : Small answer
  members_small =
      record {
        rule = m.rule.1;
        entry = entry_in (dec_le answer.rule 2) (dec_le answer.rule 9);
        word = few_words;
        block = block_in (dec_le answer.rule 5) (dec_le answer.rule 9);
      }

pub report_small : (img : List ℕ) (answer : ReportAnswer) → Report img answer → Small answer
report_small img answer report =
    elim (ℕ_discrete answer.rule 0) [
      | yes none ↦ nothing none
      | no some ↦ let told = report_told img report some in members_small img answer (fault_members told.told) told.header
    ]
  where
    nothing : answer.rule ≡ 0 → Small answer
    nothing none =
        let is = reported_nothing report none in
        record {
          rule = omega (arith, none);
          entry = omega (arith, ap (λ (a : ReportAnswer). a.entry) is);
          word = omega (arith, ap (λ (a : ReportAnswer). a.word) is);
          block = omega (arith, ap (λ (a : ReportAnswer). a.block) is);
        }
