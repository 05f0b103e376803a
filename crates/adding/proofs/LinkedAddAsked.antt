-- What the stages of adding answer, once file and access are judged: of so many blocks, and of one, which is then found.
use Prim.Native.Nat.{ℕ, ◌-◌, ◌≤◌, ◌<◌}
use mathlib.Core.Path.{◌≡◌, sym, ap, subst, ◌∙◌}
use mathlib.Core.Bool.{Bool, not}
use mathlib.Core.List.{List, [], ◌∷◌}
use mathlib.Core.Option.{Option, none, some}
use native.Mathlib.Omega.{arith}
use native.Mathlib.Decide.{dec_lt}
use lib.Dec.{ltb}
use lib.ListN.{length}
use borrow.Author.Tests.{lt-ltb, le-ltb}
use Rattle.answers.specs.Stage.{Verdict, Clear, Refused as Stopped, verdict_of}
use Rattle.answers.specs.Refusals.{first_of, row}
use Rattle.answers.specs.Missing.{or_else}
use Rattle.answers.proofs.Refusals.{refuse, pass, clear}
use Rattle.answers.proofs.Stage.{told_clear, told_refused}
use Rattle.pack.specs.declared.Geometry.{Geometry}
use Rattle.pack.specs.declared.Entry.{Entry}
use Rattle.pack.specs.declared.BlockNo.{BlockNo}
use Rattle.pack.specs.declared.Key.{Key}
use Rattle.pack.specs.GeometrySized.{most_blocks, Sized}
use Rattle.pack.specs.Owner.{free_count}
use Rattle.owners.proofs.OwnerSearch.{measured_sized}
use Rattle.consistency.specs.Mapped.{Mapped, MappedIf}
use Rattle.consistency.proofs.ConsistentTestIff.{consistent_iff}
use Rattle.asking.specs.declared.Right.TheVariants.{Write}
use Rattle.asking.specs.AskedStage.{Asked, File, Refused, stage_of}
use Rattle.asking.specs.AccessStage.{accessed_of}
use Rattle.asking.proofs.AskedStage.{number_found, stage_refuses, stage_gives}
use Rattle.asking.proofs.AccessStage.{Reached, reached_file, unreached_rows}
use Rattle.room.specs.RoomMap.{free_on, run_on}
use Rattle.room.proofs.RoomMapCount.{free_at}
use Rattle.room.proofs.RoomMapRun.{run_is}
use Rattle.room.proofs.RoomNeeds.{needs_one}
use Rattle.adding.specs.LinkedAddRows.{open_for_adding, linked_add_rows}
use Rattle.adding.specs.LinkedAdd.{highest_free, added_block}
use Rattle.adding.specs.LinkedAddStage.{Block, Denied, block_in, adding_of}
use Rattle.adding.proofs.LinkedAddStage.{linked_add_rows_last}

-- `asked` is what was answered of the file and the access to it
module _ (img : List ℕ) (key : Key) (caller : ℕ) (wrong : Bool) (asked : Asked)
    (is : asked ≡ accessed_of img key wrong caller Write 1 (λ x. not (open_for_adding x))) where
  pub adding_unasked : (needed code : ℕ) → asked ≡ Refused code → asked ≡ stage_of (linked_add_rows img key caller wrong needed) img key
  unfolding linked_add_rows
  adding_unasked needed code told =
      told
      ∙ stage_refuses _ img key
      (unreached_rows img key wrong caller Write 1 (λ x. not (open_for_adding x)) (row (ltb (free_count img) needed) 0o42 ∷ []) (sym is ∙ told))

  pub block_unasked : (code : ℕ) → asked ≡ Refused code → Denied code ≡ adding_of img key caller wrong
  unfolding adding_of
  block_unasked code told = ap (block_in (added_block img)) (sym told ∙ adding_unasked 1 code told)

  -- a file open for adding: the map says how often each block is held
  module _ (g : Geometry) (e : ℕ) (x : Entry) (told : asked ≡ File g e x) (map : List ℕ) (mapped : MappedIf map img) where
    reached : Reached img key wrong caller Write 1 (λ y. not (open_for_adding y)) g e x
    reached = reached_file img key wrong caller Write 1 (λ y. not (open_for_adding y)) g e x (sym is ∙ told)

    held_on : Mapped map img
    held_on = mapped ((consistent_iff img).1 reached.file.right)

    pub adding_mapped : g.blocks ≤ length map
    adding_mapped = subst (λ (h : Geometry). h.blocks ≤ length map) reached.file.measures held_on.enough

    pub search_asked : (g.blocks ≤ length map) × (g.blocks ≤ most_blocks) × (0 < 1)
    search_asked =
        let sized : Sized img g = measured_sized reached.file.right reached.file.measures in
        (adding_mapped, sized.most, omega arith)

    stopped_last : (needed : ℕ) {code : ℕ} → first_of (row (ltb (free_count img) needed) 0o42 ∷ []) ≡ code → (code ≡ 0 → ⊥)
        → Refused code ≡ stage_of (linked_add_rows img key caller wrong needed) img key
    stopped_last needed last never =
        stage_refuses (linked_add_rows img key caller wrong needed) img key
        (record { first = linked_add_rows_last img key caller wrong needed reached ∙ last; not_zero = never })

    given_last : (needed : ℕ) → first_of (row (ltb (free_count img) needed) 0o42 ∷ []) ≡ 0 → File g e x ≡ stage_of (linked_add_rows img key caller wrong needed) img key
    given_last needed last =
        stage_gives (linked_add_rows img key caller wrong needed) img key
        (record {
          clear = linked_add_rows_last img key caller wrong needed reached ∙ last;
          measures = reached.file.measures;
          number = number_found img key reached.file.there;
          file = sym reached.entry;
        })

    -- what was judged of the free blocks on the map
    module _ (needed : ℕ) (verdict : Verdict) (judged : verdict ≡ verdict_of (row (ltb (free_on map g.bodies.0 (g.blocks - g.bodies.0)) needed) 0o42 ∷ [])) where
      judged_own : verdict ≡ verdict_of (row (ltb (free_count img) needed) 0o42 ∷ [])
      judged_own =
          judged
          ∙ ap (λ (n : ℕ). verdict_of (row (ltb n needed) 0o42 ∷ [])) (free_at reached.file.right map held_on.says g reached.file.measures)

      pub adding_crowded : (code : ℕ) → verdict ≡ Stopped code → Refused code ≡ stage_of (linked_add_rows img key caller wrong needed) img key
      adding_crowded code told-so = let r = told_refused _ verdict judged_own code told-so in stopped_last needed r.first r.never

      pub adding_given : verdict ≡ Clear → File g e x ≡ stage_of (linked_add_rows img key caller wrong needed) img key
      adding_given told-so = given_last needed (told_clear _ verdict judged_own told-so)

    -- the free block that was sought on the map
    module _ {run : Option ℕ} (sought : run ≡ run_on map g.bodies.0 g.blocks 1 g.blocks) where
      sought_own : run ≡ highest_free img
      sought_own = sought ∙ run_is img map held_on.says g reached.file.measures 1

      pub block_nowhere : run ≡ none → Denied 0o42 ≡ adding_of img key caller wrong
      unfolding adding_of
      block_nowhere told-so =
          let few : free_count img < 1 = (needs_one reached.file.right).1 (sym sought_own ∙ told-so) in
          ap (block_in (added_block img)) (stopped_last 1 (refuse [] (lt-ltb (free_count img) 1 few)) (λ zero. omega (arith, zero)))

      pub block_found : (b : BlockNo) → run ≡ some b.0 → Block g e b ≡ adding_of img key caller wrong
      unfolding adding_of
      block_found b told-so =
          ap (λ (n : ℕ). Block g e (record { 0 = n })) (sym (ap (or_else 0) found))
          ∙ ap (block_in (added_block img)) (given_last 1 (pass 0o42 [] (le-ltb (free_count img) 1 (some_free (dec_lt (free_count img) 1))) ∙ clear))
        where
          found : highest_free img ≡ some b.0
          found = sym sought_own ∙ told-so

          some_free : Dec (free_count img < 1) → 1 ≤ free_count img
          some_free (yes few) =
              let same : ◌≡◌ {A = Option ℕ} (some b.0) none = sym found ∙ (needs_one reached.file.right).0 few in
              let z : ◌≡◌ {A = ℕ} 0 1 = cc in absurd (omega arith)
          some_free (no many) = omega (arith, many)
