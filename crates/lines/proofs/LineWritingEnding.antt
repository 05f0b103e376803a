-- What the ending call promises: the order of its codes, when it is refused with 42, what a refusal keeps, the one block that it adds or none, what stays as it was.
use Prim.Native.Nat.{ℕ, ◌+◌, ◌-◌, ◌/◌, ◌%◌, ◌<◌}
use mathlib.Core.Path.{◌≡◌, sym, ap, ◌∙◌}
use mathlib.Core.Logic.{◌↔◌}
use mathlib.Core.Bool.{Bool, true, false, not, cond, ◌||◌}
use mathlib.Core.List.{List, [], ◌∷◌, ◌++◌, append-nil, flatten}
use native.Mathlib.Nat.{div_self, mod_self}
use native.Mathlib.Omega.{arith}
use native.Mathlib.Decide.{ℕ_discrete}
use lib.Dec.{eqb}
use lib.ListN.{length, take, drop, replicate, length-replicate}
use borrow.Author.Tests.{eq-eqb, ne_eqb}
use Rattle.answers.specs.Refusals.{first_of, table_order, in_order}
use Rattle.pack.specs.declared.Key.{Key}
use Rattle.pack.specs.Geometry.{geometry_of, payload_bytes}
use Rattle.pack.specs.File.{count}
use Rattle.pack.specs.Entry.{blocks_at}
use Rattle.pack.specs.Consistent.{Consistent}
use Rattle.pack.specs.Owner.{owner_of, free_count}
use Rattle.pack.specs.Untouched.{Untouched}
use Rattle.asking.specs.declared.Right.TheVariants.{Write}
use Rattle.asking.specs.Outcome.{Outcome, Unchanged}
use Rattle.asking.specs.AskedStage.{file_rows}
use Rattle.asking.specs.Asked.{entry_no, file_of}
use Rattle.asking.specs.Access.{access_rows}
use Rattle.asking.proofs.AskedStage.{stage_clear}
use Rattle.bodies.specs.Payloads.{payloads_of}
use Rattle.adding.specs.LinkedAddRows.{open_for_adding}
use Rattle.adding.specs.LinkedAdd.{linked_add}
use Rattle.stream.specs.Gather.{Gathered, gather_all, last_or}
use Rattle.stream.specs.AddedAll.{added_all, taken_blocks}
use Rattle.stream.proofs.Gather.{gathered_count, gathered_filled}
use Rattle.stream.specs.BytesWriting.{wrong_gather, gathered_in, writing_rows}
use Rattle.lines.specs.LineWriting.{nuls_for, line_end}
use Rattle.stream.proofs.BytesWritingStage.{Fitting, argument_fits}
use Rattle.stream.proofs.BytesWritingAnswers.{write_fitting}
use Rattle.stream.proofs.BytesWritingEffect as W

one_of : (payloads : List (List ℕ)) → length payloads ≡ 1 → payloads ≡ flatten payloads ∷ []
unfolding flatten
one_of [] is = absurd (omega (arith, is))
one_of (payload ∷ []) is = ap (λ (s : List ℕ). s ∷ []) (sym (append-nil payload))
one_of (payload ∷ (other ∷ more)) is = absurd (omega (arith, is))

module _ (img : List ℕ) (key : Key) (caller : ℕ) (gather : List ℕ) (filled : ℕ) where
  abbrev nuls : List ℕ
  nuls = nuls_for img filled

  abbrev after : Gathered
  after = gathered_in img gather filled nuls

  abbrev outcome : Outcome
  outcome = line_end img key caller gather filled

  pub line_end_rows : outcome.code ≡ first_of (writing_rows img key caller false gather filled nuls)
  unfolding line_end
  line_end_rows = W.write_code img key caller false gather filled nuls []

  pub line_end_ordered : in_order table_order 0 (writing_rows img key caller false gather filled nuls) ≡ true
  line_end_ordered = W.write_ordered img key caller false gather filled nuls []

  pub line_end_refused : (outcome.code ≡ 0 → ⊥) → Unchanged outcome [] img gather
  unfolding line_end
  line_end_refused = W.write_refused img key caller false gather filled nuls []

  pub line_end_consistent : Consistent img → Consistent outcome.image
  unfolding line_end
  line_end_consistent = W.write_consistent img key caller false gather filled nuls []

  pub line_end_untouched : (other : Key) → (other ≡ key → ⊥) → Untouched other img outcome.image
  unfolding line_end
  line_end_untouched = W.write_untouched img key caller false gather filled nuls []

  pub line_end_owner : (b : ℕ) → count b (taken_blocks img key caller after.full) ≡ 0 → owner_of outcome.image b ≡ owner_of img b
  unfolding line_end
  line_end_owner = W.write_owner img key caller false gather filled nuls []

  module _ (success : outcome.code ≡ 0) where
    numbers_of : outcome.numbers ≡ []
    unfolding line_end
    numbers_of = W.write_numbers img key caller false gather filled nuls [] success

    image_of : outcome.image ≡ added_all img key caller after.full
    unfolding line_end
    image_of = W.write_image img key caller false gather filled nuls [] success

    buffer_of : outcome.buffer ≡ after.buffer
    unfolding line_end
    buffer_of = W.write_buffer img key caller false gather filled nuls [] success

  -- the NULs: none at 0, else as many as the buffer has places left
  by_nuls : (none : Bool) → eqb filled 0 ≡ none → nuls ≡ replicate (cond none 0 (payload_bytes (geometry_of img) - filled)) 0
  by_nuls none is = ap (λ (t : Bool). replicate (cond t 0 (payload_bytes (geometry_of img) - filled)) 0) is

  module _ (none : filled ≡ 0) where
    nothing_put : after ≡ record { buffer = gather; filled = filled; full = [] }
    unfolding gather_all
    nothing_put = ap (gathered_in img gather filled) (by_nuls true (eq-eqb filled 0 none))

    nothing_added : added_all img key caller after.full ≡ img
    unfolding added_all
    nothing_added = ap (λ (h : Gathered). added_all img key caller h.full) nothing_put

    -- "or adds none at 0": refused or not, nothing changes
    pub line_end_nothing : Unchanged outcome [] img gather
    line_end_nothing = by (ℕ_discrete outcome.code 0)
      where
        by : Dec (outcome.code ≡ 0) → Unchanged outcome [] img gather
        by (yes success) =
            record {
              same_numbers = numbers_of success;
              same_image = image_of success ∙ nothing_added;
              same_buffer = buffer_of success ∙ ap (λ (h : Gathered). h.buffer) nothing_put;
            }
        by (no refused) = line_end_refused refused

  module _ (some : filled ≡ 0 → ⊥) (fits : Fitting img false gather filled) where
    nuls_are : nuls ≡ replicate (payload_bytes (geometry_of img) - filled) 0
    nuls_are = by_nuls false (ne_eqb filled 0 some)

    all_filled : filled + length nuls ≡ payload_bytes (geometry_of img)
    all_filled = omega (arith, fits.room, ap length nuls_are, length-replicate {A = ℕ} (payload_bytes (geometry_of img) - filled) 0)

    one_full : length after.full ≡ 1
    one_full =
        gathered_count (payload_bytes (geometry_of img)) gather filled fits.room fits.whole nuls
        ∙ ap (λ (n : ℕ). n / payload_bytes (geometry_of img)) all_filled ∙ div_self (omega (arith, fits.room))

    none_filled : after.filled ≡ 0
    none_filled =
        gathered_filled (payload_bytes (geometry_of img)) gather filled fits.room fits.whole nuls
        ∙ ap (λ (n : ℕ). n % payload_bytes (geometry_of img)) all_filled ∙ mod_self (payload_bytes (geometry_of img))

  -- "42: no free block": with nothing else against it, exactly if there is something to end and no block is free
  module _ (clear : first_of (file_rows img key (wrong_gather img gather filled || false)
      ++ access_rows (file_of img key) caller Write 1 (not (open_for_adding (file_of img key)))) ≡ 0) where
    needs_block : free_count img < length after.full ↔ (0 < filled) × (free_count img ≡ 0)
    needs_block = by (ℕ_discrete filled 0)
      where
        fits : Fitting img false gather filled
        fits = argument_fits img false gather filled
            (stage_clear img key (wrong_gather img gather filled || false) (λ x. access_rows x caller Write 1 (not (open_for_adding x))) clear).file.argument

        by : Dec (filled ≡ 0) → free_count img < length after.full ↔ (0 < filled) × (free_count img ≡ 0)
        by (yes none) =
            let counted = ap (λ (h : Gathered). length h.full) (nothing_put none) in
            (λ few. absurd (omega (arith, few, counted)), λ both. absurd (omega (arith, none, both.0)))
        by (no some) =
            let counted = one_full some fits in
            (λ few. (omega (arith, some), omega (arith, few, counted)), λ both. omega (arith, counted, both.1))

    pub line_end_42_iff : outcome.code ≡ 0o42 ↔ (0 < filled) × (free_count img ≡ 0)
    unfolding line_end
    line_end_42_iff =
        let counted = W.write_42_iff img key caller false gather filled nuls [] clear in
        (λ code. needs_block.0 (counted.0 code), λ both. counted.1 (needs_block.1 both))

    pub line_end_else_0 : (outcome.code ≡ 0o42 → ⊥) → outcome.code ≡ 0
    unfolding line_end
    line_end_else_0 = W.write_else_0 img key caller false gather filled nuls [] clear

  -- "an ending call fills the last with NUL": the block that it adds, and the gather buffer
  module _ (some : filled ≡ 0 → ⊥) (success : outcome.code ≡ 0) where
    abbrev last : List ℕ
    last = take filled gather ++ replicate (payload_bytes (geometry_of img) - filled) 0

    fitting : Fitting img false gather filled
    fitting = write_fitting img key caller false gather filled nuls (sym line_end_rows ∙ success)

    joined : flatten after.full ≡ last
    unfolding line_end
    joined =
        sym (append-nil (flatten after.full))
        ∙ ap (λ (n : ℕ). flatten after.full ++ take n outcome.buffer) (sym (none_filled some fitting))
        ∙ W.write_gathered img key caller false gather filled nuls [] success
        ∙ ap (λ (s : List ℕ). take filled gather ++ s) (nuls_are some fitting)

    pub line_end_full : after.full ≡ last ∷ []
    line_end_full = one_of after.full (one_full some fitting) ∙ ap (λ (payload : List ℕ). payload ∷ []) joined

    pub line_end_image : outcome.image ≡ (linked_add img key caller last).image
    unfolding added_all
    line_end_image = image_of success ∙ ap (added_all img key caller) line_end_full

    pub line_end_buffer : outcome.buffer ≡ last
    unfolding line_end last_or
    line_end_buffer =
        ap (λ (n : ℕ). drop n outcome.buffer) (sym (none_filled some fitting))
        ∙ W.write_stays img key caller false gather filled nuls [] success
        ∙ ap (λ (n : ℕ). drop n (last_or gather after.full)) (none_filled some fitting)
        ∙ ap (last_or gather) line_end_full

    pub line_end_payloads : payloads_of outcome.image (geometry_of img) (blocks_at outcome.image (geometry_of img) (entry_no img key))
        ≡ payloads_of img (geometry_of img) (blocks_at img (geometry_of img) (entry_no img key)) ++ last
    unfolding line_end
    line_end_payloads =
        W.write_payloads img key caller false gather filled nuls [] success
        ∙ ap (λ (s : List ℕ). payloads_of img (geometry_of img) (blocks_at img (geometry_of img) (entry_no img key)) ++ s) joined
