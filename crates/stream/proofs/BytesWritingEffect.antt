-- What a request that writes bytes promises: when it is refused with 42, what a refusal keeps, the file and the gather buffer that it leaves, what stays as it was.
use Prim.Native.Nat.{ℕ, ◌+◌, ◌%◌, ◌≤◌, ◌<◌}
use mathlib.Core.Path.{◌≡◌, refl, sym, ap, ◌∙◌}
use mathlib.Core.Logic.{◌↔◌}
use mathlib.Core.Bool.{Bool, true, not, ◌||◌}
use mathlib.Core.List.{List, [], ◌∷◌, ◌++◌, flatten}
use native.Mathlib.Omega.{arith}
use native.Mathlib.Decide.{dec_lt}
use lib.Dec.{ltb}
use lib.ListN.{length, take, drop}
use borrow.Author.Tests.{lt-ltb, le-ltb}
use Rattle.answers.specs.Refusals.{Row, row, first_of, table_order, in_order}
use Rattle.answers.proofs.Refusals.{refuse, pass, clear as no_rows}
use Rattle.pack.specs.declared.Key.{Key}
use Rattle.pack.specs.Geometry.{geometry_of, payload_bytes}
use Rattle.pack.specs.File.{count}
use Rattle.pack.specs.Entry.{blocks_at}
use Rattle.pack.specs.Consistent.{Consistent}
use Rattle.pack.specs.Owner.{owner_of, free_count}
use Rattle.pack.specs.Untouched.{Untouched}
use Rattle.asking.specs.declared.Right.TheVariants.{Write}
use Rattle.asking.specs.Outcome.{Outcome, zeroed, Unchanged}
use Rattle.asking.specs.AskedStage.{file_rows}
use Rattle.asking.specs.Asked.{entry_no, file_of}
use Rattle.asking.specs.Access.{access_rows}
use Rattle.asking.proofs.Outcome.{code_is, settled_success, refusal_keeps, image_by}
use Rattle.asking.proofs.AskedStage.{stage_clear}
use Rattle.asking.proofs.AccessRows.{clear_accessed}
use Rattle.frame.proofs.UntouchedFramed.{untouched_refl}
use Rattle.bodies.specs.Payloads.{payloads_of}
use Rattle.adding.specs.LinkedAddRows.{open_for_adding, linked_add_rows}
use Rattle.adding.proofs.LinkedAddStage.{linked_add_ordered, linked_add_rows_last, linked_add_clear}
use Rattle.stream.specs.Gather.{last_or}
use Rattle.stream.specs.AddedAll.{added_all, taken_blocks, EachAdded}
use Rattle.stream.proofs.Gather.{Gathering, gathered_holds, gathered_bytes, gathered_filled}
use Rattle.stream.proofs.AddedAll.{added_accepted, added_consistent, added_untouched, added_owner, added_payloads}
use Rattle.stream.specs.BytesWriting.{wrong_gather, gathered_in, writing_rows, bytes_written}
use Rattle.stream.proofs.BytesWritingStage.{Fitting}
use Rattle.stream.proofs.BytesWritingAnswers.{write_fitting}

module _ (img : List ℕ) (key : Key) (caller : ℕ) (wrong : Bool) (gather : List ℕ) (filled : ℕ) (put numbers : List ℕ) where
  abbrev rows : List Row
  rows = writing_rows img key caller wrong gather filled put

  abbrev full : List (List ℕ)
  full = (gathered_in img gather filled put).full

  abbrev outcome : Outcome
  outcome = bytes_written img key caller wrong gather filled put numbers

  pub write_code : outcome.code ≡ first_of rows
  unfolding bytes_written
  write_code = code_is rows img gather _

  pub write_ordered : in_order table_order 0 rows ≡ true
  write_ordered = linked_add_ordered img key caller (wrong_gather img gather filled || wrong) (length full)

  -- "A refusal returns its code, any other number in the answer 0 .., and nothing in the image or a lent buffer changes."
  pub write_refused : (outcome.code ≡ 0 → ⊥) → Unchanged outcome (zeroed numbers) img gather
  unfolding bytes_written
  write_refused = refusal_keeps rows img gather _

  -- "A write whose full blocks have no room is refused whole.": with nothing else against it, exactly if fewer blocks are free than become full
  module _ (clear : first_of (file_rows img key (wrong_gather img gather filled || wrong)
      ++ access_rows (file_of img key) caller Write 1 (not (open_for_adding (file_of img key)))) ≡ 0) where
    last_row : outcome.code ≡ first_of (row (ltb (free_count img) (length full)) 0o42 ∷ [])
    last_row =
        let staged = stage_clear img key (wrong_gather img gather filled || wrong) (λ x. access_rows x caller Write 1 (not (open_for_adding x))) clear in
        write_code
        ∙ linked_add_rows_last img key caller (wrong_gather img gather filled || wrong) (length full)
        (record {
          file = staged.file;
          entry = refl;
          access = clear_accessed (file_of img key) caller Write 1 (not (open_for_adding (file_of img key))) staged.behind;
        })

    too_few : free_count img < length full → outcome.code ≡ 0o42
    too_few few = last_row ∙ refuse [] (lt-ltb (free_count img) (length full) few)

    enough : length full ≤ free_count img → outcome.code ≡ 0
    enough more = last_row ∙ pass 0o42 [] (le-ltb (free_count img) (length full) more) ∙ no_rows

    pub write_42_iff : outcome.code ≡ 0o42 ↔ free_count img < length full
    write_42_iff = (by (dec_lt (free_count img) (length full)), too_few)
      where
        by : Dec (free_count img < length full) → outcome.code ≡ 0o42 → free_count img < length full
        by (yes few) code = few
        by (no more) code = absurd (omega (arith, code, enough (omega (arith, more))))

    pub write_else_0 : (outcome.code ≡ 0o42 → ⊥) → outcome.code ≡ 0
    write_else_0 other = by (dec_lt (free_count img) (length full))
      where
        by : Dec (free_count img < length full) → outcome.code ≡ 0
        by (yes few) = absurd (other (too_few few))
        by (no more) = enough (omega (arith, more))

  -- where nothing speaks against it
  module _ (passed : first_of rows ≡ 0) where
    fits : Fitting img wrong gather filled
    fits = write_fitting img key caller wrong gather filled put passed

    held : Gathering (payload_bytes (geometry_of img)) gather (gathered_in img gather filled put)
    held = gathered_holds (payload_bytes (geometry_of img)) gather filled fits.room fits.whole put

    each_added : EachAdded key caller img full
    each_added =
        let argument = (linked_add_clear img key caller (wrong_gather img gather filled || wrong) (length full) passed).0.file.argument in
        added_accepted key caller img full (ap (λ (w : Bool). first_of (linked_add_rows img key caller w (length full))) (sym argument) ∙ passed) held.whole

  -- the request, on success
  module _ (success : outcome.code ≡ 0) where
    passed : first_of rows ≡ 0
    passed = sym write_code ∙ success

    done : outcome
        ≡ record { code = 0; numbers = numbers; image = added_all img key caller full; buffer = (gathered_in img gather filled put).buffer }
    unfolding bytes_written
    done = settled_success rows img gather _ passed

    pub write_numbers : outcome.numbers ≡ numbers
    write_numbers = ap (λ (p : Outcome). p.numbers) done

    -- "adds full blocks"
    pub write_image : outcome.image ≡ added_all img key caller full
    write_image = ap (λ (p : Outcome). p.image) done

    pub write_added : EachAdded key caller img full
    write_added = each_added passed

    -- the payloads of the file afterwards: those before, and the full blocks joined
    pub write_payloads : payloads_of outcome.image (geometry_of img) (blocks_at outcome.image (geometry_of img) (entry_no img key))
        ≡ payloads_of img (geometry_of img) (blocks_at img (geometry_of img) (entry_no img key)) ++ flatten full
    write_payloads = rw write_image (added_payloads key caller (geometry_of img) (entry_no img key) img full write_added refl refl)

    -- how many blocks become full, and the gather buffer: what it holds behind them, where the next byte will lie, and what was not laid over
    pub write_buffer : outcome.buffer ≡ (gathered_in img gather filled put).buffer
    write_buffer = ap (λ (p : Outcome). p.buffer) done

    pub write_gathered : flatten full ++ take (gathered_in img gather filled put).filled outcome.buffer ≡ take filled gather ++ put
    write_gathered =
        ap (λ (s : List ℕ). flatten full ++ take (gathered_in img gather filled put).filled s) write_buffer
        ∙ gathered_bytes (payload_bytes (geometry_of img)) gather filled (fits passed).room (fits passed).whole put

    pub write_left : (gathered_in img gather filled put).filled ≡ (filled + length put) % payload_bytes (geometry_of img)
    write_left = gathered_filled (payload_bytes (geometry_of img)) gather filled (fits passed).room (fits passed).whole put

    -- "Bytes of a lent buffer not laid over stay.": those that it held, or those of the last block that became full
    pub write_stays : drop (gathered_in img gather filled put).filled outcome.buffer ≡ drop (gathered_in img gather filled put).filled (last_or gather full)
    write_stays = ap (drop (gathered_in img gather filled put).filled) write_buffer ∙ (held passed).stays

  -- refused or not
  always : (P : List ℕ → Type 0) → P img → (first_of rows ≡ 0 → P (added_all img key caller full)) → P outcome.image
  unfolding bytes_written
  always P before then = image_by rows img gather _ P before then

  pub write_consistent : Consistent img → Consistent outcome.image
  write_consistent right = always Consistent right (λ clear. added_consistent key caller img full right)

  -- a file that the request does not name
  pub write_untouched : (other : Key) → (other ≡ key → ⊥) → Untouched other img outcome.image
  write_untouched other apart =
      always (Untouched other img) (untouched_refl other img)
      (λ clear.
      added_untouched key caller img full (linked_add_clear img key caller (wrong_gather img gather filled || wrong) (length full) clear).0.file.right other apart)

  -- a block that was not taken is whose it was
  pub write_owner : (b : ℕ) → count b (taken_blocks img key caller full) ≡ 0 → owner_of outcome.image b ≡ owner_of img b
  write_owner b never = always (λ (i : List ℕ). owner_of i b ≡ owner_of img b) refl (λ clear. added_owner key caller img full b never)
