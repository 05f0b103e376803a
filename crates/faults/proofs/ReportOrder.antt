-- Reports put together along the order of looking: of an image from its size, header, entries, blocks and map, and of an entry from its words, its name and its file.
use Prim.Native.Nat.{ℕ, ◌+◌, ◌-◌, ◌≤◌, ◌<◌}
use mathlib.Core.Path.{◌≡◌}
use mathlib.Core.List.{List, ◌++◌}
use native.Mathlib.Omega.{arith}
use Rattle.pack.specs.Geometry.{geometry_of, slots}
use Rattle.pack.specs.Header.{RightHeader}
use Rattle.pack.specs.Entry.{Empty}
use Rattle.pack.specs.Map.{map_bits}
use Rattle.faults.specs.declared.ReportAnswer.{ReportAnswer}
use Rattle.faults.specs.Rules.{size, header, entry, name, extent, link, loop, end, shared, map, Holds, RightSize, RightWord}
use Rattle.faults.specs.Report.{links, file_order, entry_order, order, reported, nothing_wrong, Reported, fault, right, Report}
use Rattle.faults.specs.FirstFault.{AllHold, none, also}
use Rattle.faults.proofs.ReportedParts.{hold_each, hold_append, all_reported, reported_append, reported_front, reported_each}
use Rattle.faults.proofs.ReportedRuns.{link_rules, hold_links, reported_links, hold_entries, reported_entries}
use Rattle.faults.proofs.RulesHeader.{stated_words, header_size, header_word}
use Rattle.faults.proofs.RulesEntry.{field_rules, entry_here, order_contiguous, order_linked, end_order, rules_order}
use Rattle.faults.proofs.RulesEntryRight.{empty_rules}
use Rattle.faults.proofs.ReportConsistent.{header_order, contents_order, shared_order, map_order, blocks_order}

module _ {img : List ℕ} where
  pub report_size : (RightSize img → ⊥) → Report img (reported img size)
  unfolding order
  report_size fails = fault fails

  pub report_word : RightSize img → (w : ℕ) → w < stated_words img → ((v : ℕ) → v < w → RightWord img v) → (RightWord img w → ⊥)
      → Report img (reported img (header w))
  unfolding order
  report_word long w inside before fails =
      right long
      (reported_front (contents_order img ++ blocks_order img)
      (reported_each header 0 (stated_words img) w (omega arith) (omega arith) (λ v low less. before v less) fails) (λ is. omega (arith, is)))

  -- behind the header
  module _ (h : RightHeader img) where
    words_hold : AllHold img (header_order img)
    words_hold = hold_each header 0 (stated_words img) (λ w low high. header_word img h w (omega arith))

    pub report_entry : (e : ℕ) {answer : ReportAnswer} → e < slots (geometry_of img) → ((f : ℕ) → f < e → AllHold img (entry_order img f))
        → Reported img (entry_order img e) answer → (answer.rule ≡ 0 → ⊥) → Report img answer
    unfolding order
    report_entry e inside before report some =
        right (header_size img h)
        (reported_append words_hold
        (reported_front (blocks_order img)
        (reported_entries 0 (slots (geometry_of img)) e (omega arith) (omega arith) (λ f low less. before f less) report some) some))

    -- behind the entries
    module _ (entries : (e : ℕ) → e < slots (geometry_of img) → AllHold img (entry_order img e)) where
      pub report_blocks : {answer : ReportAnswer} → Reported img (blocks_order img) answer → Report img answer
      unfolding order
      report_blocks report =
          right (header_size img h)
          (reported_append words_hold
          (reported_append (hold_entries 0 (slots (geometry_of img)) (λ e low high. entries e (omega arith))) report))

      pub report_block : (b : ℕ) → b < (geometry_of img).blocks → ((c : ℕ) → c < b → Holds img (shared c)) → (Holds img (shared b) → ⊥)
          → Report img (reported img (shared b))
      report_block b inside before fails =
          report_blocks
          (reported_front (map_order img)
          (reported_each shared 0 (geometry_of img).blocks b (omega arith) (omega arith) (λ c low less. before c less) fails) (λ is. omega (arith, is)))

      -- behind the shared blocks
      module _ (apart : (b : ℕ) → b < (geometry_of img).blocks → Holds img (shared b)) where
        shared_hold : AllHold img (shared_order img)
        shared_hold = hold_each shared 0 (geometry_of img).blocks (λ b low high. apart b (omega arith))

        pub report_bit : (b : ℕ) → b < map_bits (geometry_of img) → ((c : ℕ) → c < b → Holds img (map c)) → (Holds img (map b) → ⊥)
            → Report img (reported img (map b))
        report_bit b inside before fails =
            report_blocks
            (reported_append shared_hold (reported_each map 0 (map_bits (geometry_of img)) b (omega arith) (omega arith) (λ c low less. before c less) fails))

        pub report_nothing : ((b : ℕ) → b < map_bits (geometry_of img) → Holds img (map b)) → Report img nothing_wrong
        report_nothing holds =
            report_blocks
            (reported_append shared_hold (all_reported (hold_each map 0 (map_bits (geometry_of img)) (λ b low high. holds b (omega arith)))))

-- an entry
module _ (img : List ℕ) (e : ℕ) where
  pub entry_empty : Empty img (geometry_of img) e → AllHold img (entry_order img e)
  entry_empty empty = rules_order img e (empty_rules img e empty)

  -- words 0 to 3, the name, words 4 and 5, words 9 to 15, the file
  pub entry_low : (w : ℕ) → w < 4 → ((v : ℕ) → v < w → Holds img (entry e v)) → (Holds img (entry e w) → ⊥)
      → Reported img (entry_order img e) (reported img (entry e w))
  unfolding entry_order
  entry_low w inside before fails =
      reported_front _ (reported_each (λ v. entry e v) 0 4 w (omega arith) (omega arith) (λ v low less. before v less) fails) (λ is. omega (arith, is))

  module _ (low : (v : ℕ) → v < 4 → Holds img (entry e v)) where
    low_hold : AllHold img (field_rules img e 0 4)
    low_hold = hold_each (λ v. entry e v) 0 4 (λ v above less. low v (omega arith))

    pub entry_name : (Holds img (name e) → ⊥) → Reported img (entry_order img e) (reported img (name e))
    unfolding entry_order
    entry_name fails = reported_append low_hold (fault fails)

    module _ (apart : Holds img (name e)) where
      pub entry_middle : (w : ℕ) → 4 ≤ w → w < 6 → ((v : ℕ) → 4 ≤ v → v < w → Holds img (entry e v)) → (Holds img (entry e w) → ⊥)
          → Reported img (entry_order img e) (reported img (entry e w))
      unfolding entry_order
      entry_middle w above inside before fails =
          reported_append low_hold
          (right apart (reported_front _ (reported_each (λ v. entry e v) 4 2 w above (omega arith) before fails) (λ is. omega (arith, is))))

      module _ (middle : (v : ℕ) → 4 ≤ v → v < 6 → Holds img (entry e v)) where
        middle_hold : AllHold img (field_rules img e 4 2)
        middle_hold = hold_each (λ v. entry e v) 4 2 (λ v above less. middle v above (omega arith))

        pub entry_high : (w : ℕ) → 9 ≤ w → w < 16 → ((v : ℕ) → 9 ≤ v → v < w → Holds img (entry e v)) → (Holds img (entry e w) → ⊥)
            → Reported img (entry_order img e) (reported img (entry e w))
        unfolding entry_order
        entry_high w above inside before fails =
            reported_append low_hold
            (right apart
            (reported_append middle_hold
            (reported_front _ (reported_each (λ v. entry e v) 9 7 w above (omega arith) before fails) (λ is. omega (arith, is)))))

        pub entry_file : ((v : ℕ) → 9 ≤ v → v < 16 → Holds img (entry e v)) → {answer : ReportAnswer} → Reported img (file_order e (entry_here img e)) answer
            → Reported img (entry_order img e) answer
        unfolding entry_order
        entry_file high report =
            reported_append low_hold
            (right apart
            (reported_append middle_hold (reported_append (hold_each (λ v. entry e v) 9 7 (λ v above less. high v above (omega arith))) report)))

  -- its file: an extent
  module _ (is : (entry_here img e).kind ≡ 1) where
    pub extent_six : (Holds img (extent e 6) → ⊥) → Reported img (file_order e (entry_here img e)) (reported img (extent e 6))
    extent_six fails = rw (order_contiguous e (entry_here img e) is) (fault fails)

    module _ (six : Holds img (extent e 6)) where
      pub extent_seven : (Holds img (extent e 7) → ⊥) → Reported img (file_order e (entry_here img e)) (reported img (extent e 7))
      extent_seven fails = rw (order_contiguous e (entry_here img e) is) (right six (fault fails))

      module _ (seven : Holds img (extent e 7)) where
        pub extent_eight : (Holds img (extent e 8) → ⊥) → Reported img (file_order e (entry_here img e)) (reported img (extent e 8))
        extent_eight fails = rw (order_contiguous e (entry_here img e) is) (right six (right seven (fault fails)))

        pub extent_hold : Holds img (extent e 8) → AllHold img (file_order e (entry_here img e))
        extent_hold eight = rw (order_contiguous e (entry_here img e) is) (also six (also seven (also eight none)))

  -- a chain
  module _ (other : (entry_here img e).kind ≡ 1 → ⊥) where
    pub chain_six : (Holds img (extent e 6) → ⊥) → Reported img (file_order e (entry_here img e)) (reported img (extent e 6))
    chain_six fails = rw (order_linked e (entry_here img e) other) (fault fails)

    module _ (six : Holds img (extent e 6)) where
      -- at a place, where the links before it are right
      module _ (p : ℕ) (within : p + 1 < (entry_here img e).length) (before : (q : ℕ) → q < p → Holds img (link e q) × Holds img (loop e q)) where
        at_place : {answer : ReportAnswer} → Reported img (link_rules e p) answer → (answer.rule ≡ 0 → ⊥) → Reported img (file_order e (entry_here img e)) answer
        at_place report some =
            rw (order_linked e (entry_here img e) other)
            (right six
            (reported_front (end_order e)
            (reported_links e 0 ((entry_here img e).length - 1) p (omega arith) (omega arith) (λ q low less. before q less) report some) some))

        pub chain_link_wrong : (Holds img (link e p) → ⊥) → Reported img (file_order e (entry_here img e)) (reported img (link e p))
        chain_link_wrong fails = at_place (fault fails) (λ is. omega (arith, is))

        pub chain_loop : Holds img (link e p) → (Holds img (loop e p) → ⊥) → Reported img (file_order e (entry_here img e)) (reported img (loop e p))
        chain_loop holds fails = at_place (right holds (fault fails)) (λ is. omega (arith, is))

      module _ (all : (q : ℕ) → q + 1 < (entry_here img e).length → Holds img (link e q) × Holds img (loop e q)) where
        links_all : AllHold img (links e 0 ((entry_here img e).length - 1))
        links_all = hold_links e 0 ((entry_here img e).length - 1) (λ q low high. all q (omega arith))

        pub chain_eight : (Holds img (extent e 8) → ⊥) → Reported img (file_order e (entry_here img e)) (reported img (extent e 8))
        chain_eight fails = rw (order_linked e (entry_here img e) other) (right six (reported_append links_all (fault fails)))

        module _ (eight : Holds img (extent e 8)) where
          pub chain_end : (Holds img (end e) → ⊥) → Reported img (file_order e (entry_here img e)) (reported img (end e))
          chain_end fails = rw (order_linked e (entry_here img e) other) (right six (reported_append links_all (right eight (fault fails))))

          pub chain_hold : Holds img (end e) → AllHold img (file_order e (entry_here img e))
          chain_hold ends = rw (order_linked e (entry_here img e) other) (also six (hold_append links_all (also eight (also ends none))))
