-- Writing a formatted binary line: what is proved of bytes written, of the stored line.
use Prim.Native.Nat.{ℕ, ◌+◌, ◌%◌, ◌<◌}
use mathlib.Core.Path.{◌≡◌}
use mathlib.Core.Logic.{◌↔◌}
use mathlib.Core.Bool.{true, not, ◌||◌}
use mathlib.Core.List.{List, [], ◌∷◌, ◌++◌}
use lib.Dec.{ltb}
use lib.ListN.{length, drop}
use Rattle.answers.specs.Refusals.{first_of, table_order, in_order}
use Rattle.pack.specs.declared.Key.{Key}
use Rattle.pack.specs.Geometry.{geometry_of, payload_bytes}
use Rattle.pack.specs.File.{count}
use Rattle.pack.specs.Consistent.{Consistent}
use Rattle.pack.specs.Owner.{owner_of, free_count}
use Rattle.pack.specs.Untouched.{Untouched}
use Rattle.asking.specs.declared.Right.TheVariants.{Write}
use Rattle.asking.specs.Outcome.{Outcome, Unchanged}
use Rattle.asking.specs.AskedStage.{file_rows}
use Rattle.asking.specs.Asked.{file_of}
use Rattle.asking.specs.Access.{access_rows}
use Rattle.adding.specs.LinkedAddRows.{open_for_adding}
use Rattle.stream.specs.Gather.{Gathered, last_or}
use Rattle.stream.specs.AddedAll.{taken_blocks}
use Rattle.stream.specs.BytesWriting.{wrong_gather, gathered_in, writing_rows}
use Rattle.stream.proofs.BytesWritingEffect as W
use Rattle.binary.specs.BinaryLine.{binary_line}
use Rattle.binary.specs.BinaryWriting.{binary_write}

module _ (img : List ℕ) (key : Key) (caller : ℕ) (content gather : List ℕ) (filled : ℕ) where
  abbrev after : Gathered
  after = gathered_in img gather filled (binary_line content)

  abbrev answer : List ℕ
  answer = length content ∷ (0 ∷ (after.filled ∷ []))

  abbrev outcome : Outcome
  outcome = binary_write img key caller content gather filled

  pub binary_write_ordered : in_order table_order 0 (writing_rows img key caller (ltb 512 (length content)) gather filled (binary_line content)) ≡ true
  binary_write_ordered = W.write_ordered img key caller (ltb 512 (length content)) gather filled (binary_line content) answer

  pub binary_write_refused : (outcome.code ≡ 0 → ⊥) → Unchanged outcome (0 ∷ (0 ∷ (0 ∷ []))) img gather
  unfolding binary_write
  binary_write_refused = W.write_refused img key caller (ltb 512 (length content)) gather filled (binary_line content) answer

  module _ (clear : first_of (file_rows img key (wrong_gather img gather filled || ltb 512 (length content))
      ++ access_rows (file_of img key) caller Write 1 (not (open_for_adding (file_of img key)))) ≡ 0) where
    pub binary_write_42_iff : outcome.code ≡ 0o42 ↔ free_count img < length after.full
    unfolding binary_write
    binary_write_42_iff = W.write_42_iff img key caller (ltb 512 (length content)) gather filled (binary_line content) answer clear

    pub binary_write_else_0 : (outcome.code ≡ 0o42 → ⊥) → outcome.code ≡ 0
    unfolding binary_write
    binary_write_else_0 = W.write_else_0 img key caller (ltb 512 (length content)) gather filled (binary_line content) answer clear

  module _ (success : outcome.code ≡ 0) where
    -- "count: data bytes taken, all of them; status 0"
    pub binary_write_numbers : outcome.numbers ≡ answer
    unfolding binary_write
    binary_write_numbers = W.write_numbers img key caller (ltb 512 (length content)) gather filled (binary_line content) answer success

    pub binary_write_filled : after.filled ≡ (filled + length (binary_line content)) % payload_bytes (geometry_of img)
    unfolding binary_write
    binary_write_filled = W.write_left img key caller (ltb 512 (length content)) gather filled (binary_line content) answer success

    pub binary_write_stays : drop after.filled outcome.buffer ≡ drop after.filled (last_or gather after.full)
    unfolding binary_write
    binary_write_stays = W.write_stays img key caller (ltb 512 (length content)) gather filled (binary_line content) answer success

  pub binary_write_consistent : Consistent img → Consistent outcome.image
  unfolding binary_write
  binary_write_consistent = W.write_consistent img key caller (ltb 512 (length content)) gather filled (binary_line content) answer

  pub binary_write_untouched : (other : Key) → (other ≡ key → ⊥) → Untouched other img outcome.image
  unfolding binary_write
  binary_write_untouched = W.write_untouched img key caller (ltb 512 (length content)) gather filled (binary_line content) answer

  pub binary_write_owner : (b : ℕ) → count b (taken_blocks img key caller after.full) ≡ 0 → owner_of outcome.image b ≡ owner_of img b
  unfolding binary_write
  binary_write_owner = W.write_owner img key caller (ltb 512 (length content)) gather filled (binary_line content) answer
