-- The members of a report by its rule: which entry, word and block it names; that a loop is a fault of its own file; that a shared block is one of two files; that a bit is wrong.
use Prim.Native.Nat.{ℕ, ◌≤◌, ◌<◌}
use mathlib.Core.Path.{◌≡◌, refl, sym, subst, ◌∙◌}
use mathlib.Core.List.{List}
use mathlib.Core.Logic.{◌⊎◌, inl, inr}
use native.Mathlib.Omega.{arith}
use Rattle.pack.specs.Geometry.{geometry_of, slots}
use Rattle.pack.specs.File.{next_of, count}
use Rattle.pack.specs.Entry.{entry_of, blocks_at}
use Rattle.pack.specs.Map.{HasMap, map_bits}
use Rattle.faults.specs.declared.ReportAnswer.{ReportAnswer}
use Rattle.faults.specs.Rules.{Body}
use Rattle.faults.specs.Report.{Report, SecondHolder}
use Rattle.faults.specs.FaultThere.{Fault, wrong_size, wrong_word, wrong_field, same_name, wrong_extent, wrong_chain, wrong_link, leads_back, no_end, two_files}
use Rattle.faults.specs.FaultThere.{WrongBit, wrong_bit}
use Rattle.faults.proofs.RulesChain.{places_counted}
use Rattle.faults.proofs.RulesFile.{linked_blocks}
use Rattle.faults.proofs.RulesHeader.{stated_words}
use Rattle.faults.proofs.RulesEntry.{FieldWord}
use Rattle.faults.proofs.FaultReport.{report_fault}

-- "0 in a member that a rule does not name"
pub record Members (img : List ℕ) (answer : ReportAnswer) : Type 0 where
  pub rule : (1 ≤ answer.rule) × (answer.rule ≤ 10)
  pub no_entry : (answer.rule ≤ 2) ⊎ (answer.rule ≡ 10) → answer.entry ≡ 0
  pub entry : 3 ≤ answer.rule → answer.rule ≤ 9 → answer.entry < slots (geometry_of img)
  -- the words of block 0, of an entry, of a name, and of an extent or chain
  pub words : answer.rule ≡ 2 → answer.word < stated_words img
  pub field : answer.rule ≡ 3 → FieldWord answer.word
  pub name : answer.rule ≡ 4 → answer.word ≡ 3
  pub extent : answer.rule ≡ 5 → (6 ≤ answer.word) × (answer.word ≤ 8)
  pub no_word : (answer.rule ≡ 1) ⊎ (6 ≤ answer.rule) → answer.word ≡ 0
  pub no_block : answer.rule ≤ 5 → answer.block ≡ 0
  pub block : 6 ≤ answer.rule → answer.rule ≤ 9 → Body (geometry_of img) answer.block
  pub bit : answer.rule ≡ 10 → answer.block < map_bits (geometry_of img)

never_word : {A : Type 0} {rule : ℕ} → 2 ≤ rule → rule ≤ 5 → (rule ≡ 1) ⊎ (6 ≤ rule) → A
never_word low high (inl is) = absurd (omega arith)
never_word low high (inr above) = absurd (omega arith)

never_entry : {A : Type 0} {rule : ℕ} → 3 ≤ rule → rule ≤ 9 → (rule ≤ 2) ⊎ (rule ≡ 10) → A
never_entry low high (inl few) = absurd (omega arith)
never_entry low high (inr is) = absurd (omega arith)

which_between : {w : ℕ} → (w ≡ 6) ⊎ (w ≡ 8) → (6 ≤ w) × (w ≤ 8)
which_between (inl is) = (omega arith, omega arith)
which_between (inr is) = (omega arith, omega arith)

module _ {img : List ℕ} where
  of_entry : (rule e w : ℕ) → 3 ≤ rule → rule ≤ 5 → e < slots (geometry_of img) → (rule ≡ 3 → FieldWord w) → (rule ≡ 4 → w ≡ 3)
      → (rule ≡ 5 → (6 ≤ w) × (w ≤ 8)) → Members img (record { rule = rule; entry = e; word = w; block = 0 })
  of_entry rule e w low high inside field name extent =
      record {
        rule = (omega arith, omega arith);
        no_entry = never_entry low (omega arith);
        entry = λ more few. inside;
        words = λ is. absurd (omega arith);
        field = field;
        name = name;
        extent = extent;
        no_word = never_word (omega arith) high;
        no_block = λ few. refl;
        block = λ more few. absurd (omega arith);
        bit = λ is. absurd (omega arith);
      }

  of_block : (rule e b : ℕ) → 6 ≤ rule → rule ≤ 9 → e < slots (geometry_of img) → Body (geometry_of img) b
      → Members img (record { rule = rule; entry = e; word = 0; block = b })
  of_block rule e b low high inside body =
      record {
        rule = (omega arith, omega arith);
        no_entry = never_entry (omega arith) high;
        entry = λ more few. inside;
        words = λ is. absurd (omega arith);
        field = λ is. absurd (omega arith);
        name = λ is. absurd (omega arith);
        extent = λ is. absurd (omega arith);
        no_word = λ which. refl;
        no_block = λ few. absurd (omega arith);
        block = λ more few. body;
        bit = λ is. absurd (omega arith);
      }

  of_bit : (b : ℕ) → b < map_bits (geometry_of img) → Members img (record { rule = 10; entry = 0; word = 0; block = b })
  of_bit b inside =
      record {
        rule = (omega arith, omega arith);
        no_entry = λ which. refl;
        entry = λ more few. absurd (omega arith);
        words = λ is. absurd (omega arith);
        field = λ is. absurd (omega arith);
        name = λ is. absurd (omega arith);
        extent = λ is. absurd (omega arith);
        no_word = λ which. refl;
        no_block = λ few. absurd (omega arith);
        block = λ more few. absurd (omega arith);
        bit = λ is. inside;
      }

  of_image : (rule w : ℕ) → 1 ≤ rule → rule ≤ 2 → (rule ≡ 1 → w ≡ 0) → (rule ≡ 2 → w < stated_words img)
      → Members img (record { rule = rule; entry = 0; word = w; block = 0 })
  of_image rule w low high none words =
      record {
        rule = (low, omega arith);
        no_entry = λ which. refl;
        entry = λ more few. absurd (omega arith);
        words = words;
        field = λ is. absurd (omega arith);
        name = λ is. absurd (omega arith);
        extent = λ is. absurd (omega arith);
        no_word = λ which. of which;
        no_block = λ few. refl;
        block = λ more few. absurd (omega arith);
        bit = λ is. absurd (omega arith);
      }
    where
      of : (rule ≡ 1) ⊎ (6 ≤ rule) → w ≡ 0
      of (inl is) = none is
      of (inr above) = absurd (omega arith)

  pub fault_members : {answer : ReportAnswer} → Fault img answer → Members img answer
  fault_members (wrong_size fails) = of_image 1 0 (omega arith) (omega arith) (λ is. refl) (λ is. absurd (omega arith))
  fault_members (wrong_word w inside fails) = of_image 2 w (omega arith) (omega arith) (λ is. absurd (omega arith)) (λ is. inside)
  fault_members (wrong_field e w here of fails) =
      of_entry 3 e w (omega arith) (omega arith) here.inside (λ is. of) (λ is. absurd (omega arith)) (λ is. absurd (omega arith))
  fault_members (same_name e f here there less same) =
      of_entry 4 e 3 (omega arith) (omega arith) here.inside (λ is. absurd (omega arith)) (λ is. refl) (λ is. absurd (omega arith))
  fault_members (wrong_extent e w here is between fails) =
      of_entry 5 e w (omega arith) (omega arith) here.inside (λ is. absurd (omega arith)) (λ is. absurd (omega arith)) (λ is. between)
  fault_members (wrong_chain e w here is which fails) =
      of_entry 5 e w (omega arith) (omega arith) here.inside (λ is. absurd (omega arith)) (λ is. absurd (omega arith)) (λ is. which_between which)
  fault_members (wrong_link e place b at within fails) = of_block 6 e b (omega arith) (omega arith) at.entry.inside at.body
  fault_members (leads_back e first second b less at again) = of_block 7 e b (omega arith) (omega arith) at.entry.inside at.body
  fault_members (no_end e place b at last fails) = of_block 8 e b (omega arith) (omega arith) at.entry.inside at.body
  fault_members (two_files e b holder body once) = of_block 9 e b (omega arith) (omega arith) holder.inside body
  fault_members (wrong_bit b there inside wrong) = of_bit b inside

-- a shared block: the second file that reaches it is named, and no file of the pack reaches a block twice
pub record SharedBlock (img : List ℕ) (e b : ℕ) : Type 0 where
  pub holder : SecondHolder img b e
  pub once : (f c : ℕ) → f < slots (geometry_of img) → count c (blocks_at img (geometry_of img) f) ≤ 1

-- what a rule says besides: a loop is a fault of its own file, which reaches the block named twice; a shared block; a bit of the map, which is there, is not what it must be
record Told (img : List ℕ) (answer : ReportAnswer) : Type 0 where
  loop : answer.rule ≡ 7 → 2 ≤ count answer.block (blocks_at img (geometry_of img) answer.entry)
  shared : answer.rule ≡ 9 → SharedBlock img answer.entry answer.block
  bit : answer.rule ≡ 10 → HasMap (geometry_of img) × WrongBit img answer.block

told_no_more : {img : List ℕ} {answer : ReportAnswer} → (answer.rule ≤ 6) ⊎ (answer.rule ≡ 8) → Told img answer
told_no_more (inl low) = record { loop = λ is. absurd (omega arith); shared = λ is. absurd (omega arith); bit = λ is. absurd (omega arith) }
told_no_more (inr end) = record { loop = λ is. absurd (omega arith); shared = λ is. absurd (omega arith); bit = λ is. absurd (omega arith) }

fault_told : {img : List ℕ} {answer : ReportAnswer} → Fault img answer → Told img answer
fault_told (wrong_size fails) = told_no_more (inl (omega arith))
fault_told (wrong_word w inside fails) = told_no_more (inl (omega arith))
fault_told (wrong_field e w here of fails) = told_no_more (inl (omega arith))
fault_told (same_name e f here there less same) = told_no_more (inl (omega arith))
fault_told (wrong_extent e w here kind between fails) = told_no_more (inl (omega arith))
fault_told (wrong_chain e w here kind which fails) = told_no_more (inl (omega arith))
fault_told (wrong_link e place b at within fails) = told_no_more (inl (omega arith))
fault_told {img} (leads_back e first second b less at again) =
    let x = entry_of img (geometry_of img) e in
    let twice = places_counted (next_of img (geometry_of img) 2) x.length x.first.0 first second less again.within (at.is ∙ sym again.is) in
    record {
      loop = λ is. subst (λ (z : ℕ). 2 ≤ count z (blocks_at img (geometry_of img) e)) again.is (rw (linked_blocks img x at.linked) twice);
      shared = λ is. absurd (omega arith);
      bit = λ is. absurd (omega arith);
    }
fault_told (no_end e place b at last fails) = told_no_more (inr refl)
fault_told (two_files e b holder body once) =
    record { loop = λ is. absurd (omega arith); shared = λ is. record { holder = holder; once = once }; bit = λ is. absurd (omega arith) }
fault_told (wrong_bit b there inside wrong) = record { loop = λ is. absurd (omega arith); shared = λ is. absurd (omega arith); bit = λ is. (there, wrong) }

-- what a report says
module _ (img : List ℕ) (answer : ReportAnswer) (report : Report img answer) where
  pub report_members : (answer.rule ≡ 0 → ⊥) → Members img answer
  report_members some = fault_members (report_fault img answer report some)

  told : (answer.rule ≡ 0 → ⊥) → Told img answer
  told some = fault_told (report_fault img answer report some)

  pub loop_own : answer.rule ≡ 7 → 2 ≤ count answer.block (blocks_at img (geometry_of img) answer.entry)
  loop_own is = (told (λ none. omega (arith, is, none))).loop is

  shared_block : answer.rule ≡ 9 → SharedBlock img answer.entry answer.block
  shared_block is = (told (λ none. omega (arith, is, none))).shared is

  -- a file that reaches a block twice is never told as SHARED
  pub shared_no_loop : answer.rule ≡ 9 → (e b : ℕ) → e < slots (geometry_of img) → count b (blocks_at img (geometry_of img) e) ≤ 1
  shared_no_loop is = (shared_block is).once

  -- two files reach the block: the one named, and another before it
  pub shared_two_files : answer.rule ≡ 9 → (first : ℕ) × (first < answer.entry) × (answer.entry < slots (geometry_of img))
      × (0 < count answer.block (blocks_at img (geometry_of img) first)) × (0 < count answer.block (blocks_at img (geometry_of img) answer.entry))
  shared_two_files is = let h = (shared_block is).holder in (h.first, h.before, h.inside, h.too, h.reaches)

  pub map_wrong : answer.rule ≡ 10 → HasMap (geometry_of img) × WrongBit img answer.block
  map_wrong is = (told (λ none. omega (arith, is, none))).bit is
