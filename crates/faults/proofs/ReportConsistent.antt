-- "It says consistent exactly if document 01 says so": every rule of the order holds exactly if the image is consistent, and then, and only then, the report has rule 0.
use Prim.Native.Nat.{ℕ, ◌≤◌, ◌<◌}
use mathlib.Core.Path.{◌≡◌, refl, ap, ◌∙◌}
use mathlib.Core.List.{List, ◌++◌}
use mathlib.Core.Logic.{◌↔◌}
use native.Mathlib.Omega.{arith}
use native.Mathlib.Decide.{dec_lt}
use Rattle.pack.specs.Geometry.{geometry_of, slots}
use Rattle.pack.specs.File.{count}
use Rattle.pack.specs.Entry.{entry_of, blocks_at, Empty, RightEntry}
use Rattle.pack.specs.Key.{key_in, SameKey}
use Rattle.pack.specs.Map.{map_bits}
use Rattle.pack.specs.Consistent.{held, Consistent}
use Rattle.pack.proofs.ConsistentTotal.{total_has}
use Rattle.pack.proofs.ConsistentHeld.{beyond_free}
use Rattle.faults.specs.declared.ReportAnswer.{ReportAnswer}
use Rattle.faults.specs.Rules.{Rule, header, shared, map, Holds, RightSize, RightWord}
use Rattle.faults.specs.Report.{each, entry_order, entries_order, order, nothing_wrong, Report}
use Rattle.faults.specs.FirstFault.{AllHold, also, FirstFault}
use Rattle.faults.proofs.ReportedParts.{reported_one, all_reported, reported_all, reported_first, hold_append, hold_split, hold_each, each_hold}
use Rattle.faults.proofs.ReportedRuns.{hold_entries, entries_hold}
use Rattle.faults.proofs.RulesHeader.{stated_words, header_words, header_size, header_word}
use Rattle.faults.proofs.RulesEntryRight.{entry_fine, fine_entry, right_named, empty_unnamed}
use Rattle.faults.proofs.RulesMap.{map_agrees}

module _ (img : List ℕ) where
  -- the parts of the order
  pub record OrderParts : Type 0 where
    pub size : RightSize img
    pub words : (w : ℕ) → w < stated_words img → RightWord img w
    pub entries : (e : ℕ) → e < slots (geometry_of img) → AllHold img (entry_order img e)
    pub shared : (b : ℕ) → b < (geometry_of img).blocks → held img b ≤ 1
    pub map : (b : ℕ) → b < map_bits (geometry_of img) → Holds img (map b)

  abbrev pub header_order : List Rule
  header_order = each header 0 (stated_words img)

  abbrev pub contents_order : List Rule
  contents_order = entries_order img 0 (slots (geometry_of img))

  abbrev pub shared_order : List Rule
  shared_order = each shared 0 (geometry_of img).blocks

  abbrev pub map_order : List Rule
  map_order = each map 0 (map_bits (geometry_of img))

  -- behind the entries
  abbrev pub blocks_order : List Rule
  blocks_order = shared_order ++ map_order

  pub order_parts : AllHold img (order img) → OrderParts
  unfolding order
  order_parts (also size all) =
      let h = hold_split header_order (contents_order ++ blocks_order) all in
      let k = hold_split contents_order blocks_order h.1 in
      let l = hold_split shared_order map_order k.1 in
      record {
        size = size;
        words = λ w inside. each_hold header 0 (stated_words img) h.0 w (omega arith) (omega arith);
        entries = λ e inside. entries_hold 0 (slots (geometry_of img)) k.0 e (omega arith) (omega arith);
        shared = λ b inside. each_hold shared 0 (geometry_of img).blocks l.0 b (omega arith) (omega arith);
        map = λ b inside. each_hold map 0 (map_bits (geometry_of img)) l.1 b (omega arith) (omega arith);
      }

  pub parts_order : OrderParts → AllHold img (order img)
  unfolding order
  parts_order parts =
      also parts.size
      (hold_append (hold_each header 0 (stated_words img) (λ w low high. parts.words w (omega arith)))
      (hold_append (hold_entries 0 (slots (geometry_of img)) (λ e low high. parts.entries e (omega arith)))
      (hold_append (hold_each shared 0 (geometry_of img).blocks (λ b low high. parts.shared b (omega arith)))
      (hold_each map 0 (map_bits (geometry_of img)) (λ b low high. parts.map b (omega arith))))))

  -- a block that is no body is held by none
  pub held_none : ((e : ℕ) → e < slots (geometry_of img) → RightEntry img (geometry_of img) e) → (b : ℕ) → (geometry_of img).blocks ≤ b → held img b ≡ 0
  unfolding held
  held_none right b above = beyond_free img (geometry_of img) right b above

  pub parts_consistent : OrderParts → Consistent img
  parts_consistent parts =
      record {
        header = header_words img parts.size parts.words;
        entries = right;
        differ = differ;
        once = λ b. elim (dec_lt b (geometry_of img).blocks) [
          | yes inside ↦ parts.shared b inside
          | no above ↦ omega (arith, held_none right b (omega (arith, above)))
        ];
        map = (map_agrees img).0 parts.map;
      }
    where
      right : (e : ℕ) → e < slots (geometry_of img) → RightEntry img (geometry_of img) e
      right e inside = (entry_fine img e (parts.entries e inside)).right

      differ : (e f : ℕ) → e < f → f < slots (geometry_of img) → (Empty img (geometry_of img) e → ⊥)
          → SameKey (key_in (entry_of img (geometry_of img) e)) (key_in (entry_of img (geometry_of img) f)) → ⊥
      differ e f less inside used same =
          let unnamed = right_named img (geometry_of img) e (right e (omega arith)) used in
          (entry_fine img f (parts.entries f inside)).apart (λ empty. unnamed (same.name1 ∙ empty_unnamed img (geometry_of img) f empty)) e less used same

  -- how often one file reaches a block is no more than how often all do
  pub own_held : (e : ℕ) → e < slots (geometry_of img) → (b : ℕ) → count b (blocks_at img (geometry_of img) e) ≤ held img b
  unfolding held
  own_held e inside b = total_has (λ i. count b (blocks_at img (geometry_of img) i)) e 0 (slots (geometry_of img)) (omega arith) (omega arith)

  pub consistent_parts : Consistent img → OrderParts
  consistent_parts c =
      record {
        size = header_size img c.header;
        words = header_word img c.header;
        entries = λ e inside. fine_entry img e (record {
          right = c.entries e inside;
          once = λ b. omega (arith, c.once b, own_held e inside b);
          apart = λ used f less used₂ same. c.differ f e less inside used₂ same;
        });
        shared = λ b inside. c.once b;
        map = (map_agrees img).1 c.map;
      }

  pub order_consistent : AllHold img (order img) ↔ Consistent img
  order_consistent = (λ all. parts_consistent (order_parts all), λ c. parts_order (consistent_parts c))

  -- the report
  pub report_one : (a b : ReportAnswer) → Report img a → Report img b → a ≡ b
  report_one a b report report₂ = reported_one report report₂

  pub report_consistent : Report img nothing_wrong ↔ Consistent img
  report_consistent = (λ report. order_consistent.0 (reported_all report refl), λ c. all_reported (order_consistent.1 c))

  pub rule_consistent : (answer : ReportAnswer) → Report img answer → (answer.rule ≡ 0) ↔ Consistent img
  rule_consistent answer report = (
    λ is. order_consistent.0 (reported_all report is),
    λ c. ap (λ (a : ReportAnswer). a.rule) (reported_one report (all_reported (order_consistent.1 c))),
  )

  pub fault_there : (answer : ReportAnswer) → Report img answer → (answer.rule ≡ 0 → ⊥) → FirstFault img (order img) answer
  fault_there answer report some = reported_first report some

  pub fault_inconsistent : (answer : ReportAnswer) → Report img answer → (answer.rule ≡ 0 → ⊥) → Consistent img → ⊥
  fault_inconsistent answer report some c = some ((rule_consistent answer report).1 c)
