-- What writing a line promises: the order of its codes, when it is refused with 42, what a refusal keeps, the file and the gather buffer that it leaves, what stays as it was.
use Prim.Native.Nat.{ℕ, ◌+◌, ◌%◌, ◌<◌}
use mathlib.Core.Path.{◌≡◌}
use mathlib.Core.Logic.{◌↔◌}
use mathlib.Core.Bool.{true, not, ◌||◌}
use mathlib.Core.List.{List, [], ◌∷◌, ◌++◌, flatten}
use lib.Dec.{ltb}
use lib.ListN.{length, take, drop}
use Rattle.answers.specs.Refusals.{first_of, table_order, in_order}
use Rattle.pack.specs.declared.Key.{Key}
use Rattle.pack.specs.Geometry.{geometry_of, payload_bytes}
use Rattle.pack.specs.File.{count}
use Rattle.pack.specs.Entry.{blocks_at}
use Rattle.pack.specs.Consistent.{Consistent}
use Rattle.pack.specs.Owner.{owner_of, free_count}
use Rattle.pack.specs.Untouched.{Untouched}
use Rattle.asking.specs.declared.Right.TheVariants.{Write}
use Rattle.asking.specs.Outcome.{Outcome, Unchanged}
use Rattle.asking.specs.AskedStage.{file_rows}
use Rattle.asking.specs.Asked.{entry_no, file_of}
use Rattle.asking.specs.Access.{access_rows}
use Rattle.bodies.specs.Payloads.{payloads_of}
use Rattle.adding.specs.LinkedAddRows.{open_for_adding}
use Rattle.stream.specs.Gather.{Gathered, last_or}
use Rattle.stream.specs.AddedAll.{taken_blocks}
use Rattle.lines.specs.LineWrite.{put_all, taken_of, written_status}
use Rattle.lines.specs.LineReading.{mode_of}
use Rattle.stream.specs.BytesWriting.{wrong_gather, gathered_in, writing_rows}
use Rattle.lines.specs.LineWriting.{line_write}
use Rattle.stream.proofs.BytesWritingEffect as W

module _ (img : List ℕ) (key : Key) (caller mode : ℕ) (text gather : List ℕ) (filled : ℕ) where
  abbrev line : List ℕ
  line = taken_of (mode_of mode) text

  abbrev after : Gathered
  after = gathered_in img gather filled (put_all line)

  abbrev answer : List ℕ
  answer = length line ∷ (written_status line ∷ (after.filled ∷ []))

  abbrev outcome : Outcome
  outcome = line_write img key caller mode text gather filled

  pub line_write_ordered : in_order table_order 0 (writing_rows img key caller (ltb 1 mode) gather filled (put_all line)) ≡ true
  line_write_ordered = W.write_ordered img key caller (ltb 1 mode) gather filled (put_all line) answer

  pub line_write_refused : (outcome.code ≡ 0 → ⊥) → Unchanged outcome (0 ∷ (0 ∷ (0 ∷ []))) img gather
  unfolding line_write
  line_write_refused = W.write_refused img key caller (ltb 1 mode) gather filled (put_all line) answer

  -- "A write whose full blocks have no room is refused whole."
  module _ (clear : first_of (file_rows img key (wrong_gather img gather filled || ltb 1 mode)
      ++ access_rows (file_of img key) caller Write 1 (not (open_for_adding (file_of img key)))) ≡ 0) where
    pub line_write_42_iff : outcome.code ≡ 0o42 ↔ free_count img < length after.full
    unfolding line_write
    line_write_42_iff = W.write_42_iff img key caller (ltb 1 mode) gather filled (put_all line) answer clear

    pub line_write_else_0 : (outcome.code ≡ 0o42 → ⊥) → outcome.code ≡ 0
    unfolding line_write
    line_write_else_0 = W.write_else_0 img key caller (ltb 1 mode) gather filled (put_all line) answer clear

  module _ (success : outcome.code ≡ 0) where
    pub line_write_numbers : outcome.numbers ≡ answer
    unfolding line_write
    line_write_numbers = W.write_numbers img key caller (ltb 1 mode) gather filled (put_all line) answer success

    pub line_write_payloads : payloads_of outcome.image (geometry_of img) (blocks_at outcome.image (geometry_of img) (entry_no img key))
        ≡ payloads_of img (geometry_of img) (blocks_at img (geometry_of img) (entry_no img key)) ++ flatten after.full
    unfolding line_write
    line_write_payloads = W.write_payloads img key caller (ltb 1 mode) gather filled (put_all line) answer success

    -- the gather buffer: no byte is lost or added, where the next will lie, and what stays
    pub line_write_gathered : flatten after.full ++ take after.filled outcome.buffer ≡ take filled gather ++ put_all line
    unfolding line_write
    line_write_gathered = W.write_gathered img key caller (ltb 1 mode) gather filled (put_all line) answer success

    pub line_write_filled : after.filled ≡ (filled + length (put_all line)) % payload_bytes (geometry_of img)
    unfolding line_write
    line_write_filled = W.write_left img key caller (ltb 1 mode) gather filled (put_all line) answer success

    pub line_write_stays : drop after.filled outcome.buffer ≡ drop after.filled (last_or gather after.full)
    unfolding line_write
    line_write_stays = W.write_stays img key caller (ltb 1 mode) gather filled (put_all line) answer success

  pub line_write_consistent : Consistent img → Consistent outcome.image
  unfolding line_write
  line_write_consistent = W.write_consistent img key caller (ltb 1 mode) gather filled (put_all line) answer

  pub line_write_untouched : (other : Key) → (other ≡ key → ⊥) → Untouched other img outcome.image
  unfolding line_write
  line_write_untouched = W.write_untouched img key caller (ltb 1 mode) gather filled (put_all line) answer

  pub line_write_owner : (b : ℕ) → count b (taken_blocks img key caller after.full) ≡ 0 → owner_of outcome.image b ≡ owner_of img b
  unfolding line_write
  line_write_owner = W.write_owner img key caller (ltb 1 mode) gather filled (put_all line) answer
