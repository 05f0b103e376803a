-- What linked add promises: when it is refused with 42, what a refusal keeps, the block that it takes, the file that it leaves, and what stays as it was.
use Prim.Native.Nat.{ℕ, ◌+◌, ◌≤◌, ◌<◌}
use mathlib.Core.Path.{◌≡◌, refl, sym, ap, subst, ◌∙◌}
use mathlib.Core.Logic.{◌↔◌}
use mathlib.Core.Bool.{not}
use mathlib.Core.List.{List, [], ◌∷◌, ◌++◌}
use native.Mathlib.Omega.{arith}
use native.Mathlib.Decide.{dec_lt}
use lib.Dec.{eqb, ltb}
use borrow.Author.Tests.{lt-ltb, le-ltb}
use Rattle.answers.specs.Refusals.{row, first_of}
use Rattle.answers.proofs.Refusals.{refuse, pass, clear as no_rows}
use Rattle.words.specs.Word.{word_at}
use Rattle.pack.specs.declared.Key.{Key}
use Rattle.pack.specs.Geometry.{geometry_of, block_words}
use Rattle.pack.specs.File.{link_of, one, count}
use Rattle.pack.specs.Map.{HasMap, map_bits, map_bit}
use Rattle.pack.specs.Entry.{entry_of, blocks_at}
use Rattle.pack.specs.Consistent.{Consistent}
use Rattle.pack.specs.Owner.{free_count, FreeBlock}
use Rattle.pack.specs.Key.{key_in, SameKey}
use Rattle.pack.specs.Untouched.{Untouched}
use Rattle.pack.proofs.HeaderRules.{header_sized}
use Rattle.asking.specs.declared.Right.TheVariants.{Write}
use Rattle.asking.specs.Outcome.{Unchanged}
use Rattle.asking.specs.AskedStage.{file_rows}
use Rattle.asking.specs.Asked.{entry_no, file_of}
use Rattle.asking.specs.Access.{access_rows}
use Rattle.asking.proofs.Outcome.{code_is, success_image, success_numbers, refusal_keeps, image_by}
use Rattle.asking.proofs.AskedStage.{stage_clear}
use Rattle.asking.proofs.AccessRows.{clear_accessed}
use Rattle.asking.proofs.AccessStage.{Reached}
use Rattle.pack.proofs.KeySame.{key_single}
use Rattle.frame.specs.Framed.{ChangesOnly, Only}
use Rattle.frame.specs.Framing.{Framed}
use Rattle.pack.proofs.FileCount.{count_one}
use Rattle.pack.proofs.ConsistentHeld.{right_bodies, consistent_says}
use Rattle.frame.proofs.FramedHeld.{held_none}
use Rattle.frame.proofs.UntouchedFramed.{untouched_framed, untouched_refl}
use Rattle.frame.proofs.FramedCompose.{header_kept}
use Rattle.frame.proofs.ChangesWritten.{changes_nothing}
use Rattle.frame.proofs.GrowthConsistent.{grown_framed, grown_blocks, grown_consistent}
use Rattle.room.proofs.RoomNeeds.{none_free}
use Rattle.bodies.specs.BlockBytes.{payload_of}
use Rattle.bodies.specs.BufferSizes.{wrong_payload}
use Rattle.bodies.specs.Payloads.{payloads_of}
use Rattle.bodies.proofs.BufferSizes.{payload_fits}
use Rattle.bodies.proofs.Payloads.{payloads_one, payloads_append, payloads_same}
use Rattle.adding.specs.LinkedAddRows.{open_for_adding, linked_add_rows}
use Rattle.adding.specs.LinkedAdd.{AddWords, added_block, enlarged_by, linked_add}
use Rattle.adding.proofs.LinkedAddStage.{Admitted, admitted, linked_add_rows_last, block_free, block_highest}
use Rattle.adding.proofs.LinkedAddEnlarged.{Touched, Enlarged, added_changes, enlarged}

module _ (img : List ℕ) (key : Key) (caller : ℕ) (payload : List ℕ) where
  pub linked_add_code : (linked_add img key caller payload).code ≡ first_of (linked_add_rows img key caller (wrong_payload img payload) 1)
  unfolding linked_add
  linked_add_code = code_is (linked_add_rows img key caller (wrong_payload img payload) 1) img payload _

  -- "A refusal returns its code, any other number in the answer 0 .., and nothing in the image or a lent buffer changes."
  pub linked_add_refused : ((linked_add img key caller payload).code ≡ 0 → ⊥) → Unchanged (linked_add img key caller payload) (0 ∷ []) img payload
  unfolding linked_add
  linked_add_refused = refusal_keeps (linked_add_rows img key caller (wrong_payload img payload) 1) img payload _

  -- "42: no free block": with nothing else against it, exactly if no block is free
  module _ (clear : first_of (file_rows img key (wrong_payload img payload) ++ access_rows (file_of img key) caller Write 1 (not (open_for_adding (file_of img key)))) ≡ 0) where
    reached : Reached img key (wrong_payload img payload) caller Write 1 (λ x. not (open_for_adding x)) (geometry_of img) (entry_no img key) (file_of img key)
    reached =
        let staged = stage_clear img key (wrong_payload img payload) (λ x. access_rows x caller Write 1 (not (open_for_adding x))) clear in
        record {
          file = staged.file;
          entry = refl;
          access = clear_accessed (file_of img key) caller Write 1 (not (open_for_adding (file_of img key))) staged.behind;
        }

    -- row 42 decides
    last_row : (linked_add img key caller payload).code ≡ first_of (row (ltb (free_count img) 1) 0o42 ∷ [])
    last_row = linked_add_code ∙ linked_add_rows_last img key caller (wrong_payload img payload) 1 reached

    none_left : free_count img < 1 → (linked_add img key caller payload).code ≡ 0o42
    none_left few = last_row ∙ refuse [] (lt-ltb (free_count img) 1 few)

    some_left : 1 ≤ free_count img → (linked_add img key caller payload).code ≡ 0
    some_left more = last_row ∙ pass 0o42 [] (le-ltb (free_count img) 1 more) ∙ no_rows

    pub linked_add_42_iff : (linked_add img key caller payload).code ≡ 0o42 ↔ ((b : ℕ) → FreeBlock img b → ⊥)
    linked_add_42_iff = by (dec_lt (free_count img) 1)
      where
        by : Dec (free_count img < 1) → (linked_add img key caller payload).code ≡ 0o42 ↔ ((b : ℕ) → FreeBlock img b → ⊥)
        by (yes few) = (λ code. (none_free reached.file.right).0 few, λ never. none_left few)
        by (no more) =
            (λ code. absurd (omega (arith, code, some_left (omega (arith, more)))), λ never. none_left ((none_free reached.file.right).1 never))

    pub linked_add_else_0 : ((linked_add img key caller payload).code ≡ 0o42 → ⊥) → (linked_add img key caller payload).code ≡ 0
    linked_add_else_0 other = by (dec_lt (free_count img) 1)
      where
        by : Dec (free_count img < 1) → (linked_add img key caller payload).code ≡ 0
        by (yes few) = absurd (other (none_left few))
        by (no more) = some_left (omega (arith, more))

  -- the image with the block, where nothing speaks against it
  abbrev after : List ℕ
  after = enlarged_by img (geometry_of img) (entry_no img key) (entry_of img (geometry_of img) (entry_no img key)) (added_block img) payload

  free_of : Admitted img key (wrong_payload img payload) → FreeBlock img (added_block img)
  free_of a = block_free a.file.right a.more

  module _ (a : Admitted img key (wrong_payload img payload)) where
    larger : Enlarged img after (geometry_of img) (entry_no img key) (added_block img) payload
    larger =
        enlarged img (geometry_of img) (entry_no img key) (added_block img) payload refl a.file.right (header_sized img a.file.right.header) a.file.inside
        a.linked (free_of a) (payload_fits img payload (geometry_of img) a.file.argument refl)

    after_framed : Framed (Only (entry_no img key)) (Touched img (geometry_of img) (entry_no img key) (added_block img)) img after (geometry_of img)
    after_framed = grown_framed refl a.file.right a.file.inside a.linked (free_of a) larger.grown

    after_blocks : blocks_at after (geometry_of img) (entry_no img key) ≡ blocks_at img (geometry_of img) (entry_no img key) ++ (added_block img ∷ [])
    after_blocks = grown_blocks refl a.file.right a.file.inside a.linked (free_of a) larger.grown

    after_consistent : Consistent after
    after_consistent = grown_consistent refl a.file.right a.file.inside a.linked (free_of a) larger.grown

    -- the payloads of the blocks that the file had
    payloads_kept : payloads_of after (geometry_of img) (blocks_at img (geometry_of img) (entry_no img key))
        ≡ payloads_of img (geometry_of img) (blocks_at img (geometry_of img) (entry_no img key))
    payloads_kept =
        payloads_same img after (geometry_of img) larger.grown.kept.long (blocks_at img (geometry_of img) (entry_no img key))
        (λ b reached i behind small.
        let body = right_bodies img (geometry_of img) (entry_no img key) b (a.file.right.entries (entry_no img key) a.file.inside) reached in
        larger.others b i (not_held b reached) body.0 behind small)
      where
        not_held : (b : ℕ) → 0 < count b (blocks_at img (geometry_of img) (entry_no img key)) → b ≡ added_block img → ⊥
        not_held b reached is =
            omega (
              arith,
              reached,
              ap (λ (z : ℕ). count z (blocks_at img (geometry_of img) (entry_no img key))) is,
              held_none img (geometry_of img) (added_block img) (entry_no img key) refl a.file.inside (free_of a).nobody,
            )

    after_payloads : payloads_of after (geometry_of img) (blocks_at after (geometry_of img) (entry_no img key))
        ≡ payloads_of img (geometry_of img) (blocks_at img (geometry_of img) (entry_no img key)) ++ payload
    after_payloads =
        ap (payloads_of after (geometry_of img)) after_blocks
        ∙ payloads_append after (geometry_of img) (blocks_at img (geometry_of img) (entry_no img key)) (added_block img ∷ [])
        ∙ ap (λ (s : List ℕ). s ++ payloads_of after (geometry_of img) (added_block img ∷ [])) payloads_kept
        ∙ ap (λ (s : List ℕ). payloads_of img (geometry_of img) (blocks_at img (geometry_of img) (entry_no img key)) ++ s)
        (payloads_one after (geometry_of img) (added_block img) ∙ larger.own)

    after_untouched : (other : Key) → (other ≡ key → ⊥) → Untouched other img after
    unfolding file_of
    after_untouched other apart =
        untouched_framed refl a.file.right after_framed other
        (λ e within is used keyed.
        apart (key_single a.file.keyed (subst (λ (i : ℕ). SameKey (key_in (entry_of img (geometry_of img) i)) other) is keyed)))

  -- the request, on success
  module _ (success : (linked_add img key caller payload).code ≡ 0) where
    pub linked_add_admitted : Admitted img key (wrong_payload img payload)
    linked_add_admitted = admitted img key caller (wrong_payload img payload) 1 (omega arith) (sym linked_add_code ∙ success)

    pub linked_add_image : (linked_add img key caller payload).image ≡ after
    unfolding linked_add file_of
    linked_add_image = success_image (linked_add_rows img key caller (wrong_payload img payload) 1) img payload _ (sym linked_add_code ∙ success)

    -- "the highest free block is joined": its number is the answer's
    pub linked_add_highest : ((linked_add img key caller payload).numbers ≡ added_block img ∷ [])
        × FreeBlock img (added_block img)
        × ((b : ℕ) → added_block img < b → FreeBlock img b → ⊥)
    unfolding linked_add
    linked_add_highest = (
      success_numbers (linked_add_rows img key caller (wrong_payload img payload) 1) img payload _ (sym linked_add_code ∙ success),
      free_of linked_add_admitted,
      block_highest linked_add_admitted.file.right linked_add_admitted.more,
    )

    pub linked_add_free : FreeBlock img (added_block img)
    linked_add_free = free_of linked_add_admitted

    pub linked_add_enlarged : Enlarged img (linked_add img key caller payload).image (geometry_of img) (entry_no img key) (added_block img) payload
    linked_add_enlarged =
        subst (λ (img' : List ℕ). Enlarged img img' (geometry_of img) (entry_no img key) (added_block img) payload) (sym linked_add_image) (larger linked_add_admitted)

    -- "joined at the end"
    pub linked_add_blocks : blocks_at (linked_add img key caller payload).image (geometry_of img) (entry_no img key)
        ≡ blocks_at img (geometry_of img) (entry_no img key) ++ (added_block img ∷ [])
    linked_add_blocks = rw linked_add_image (after_blocks linked_add_admitted)

    pub linked_add_payloads : payloads_of (linked_add img key caller payload).image (geometry_of img)
        (blocks_at (linked_add img key caller payload).image (geometry_of img) (entry_no img key))
        ≡ payloads_of img (geometry_of img) (blocks_at img (geometry_of img) (entry_no img key)) ++ payload
    linked_add_payloads = rw linked_add_image (after_payloads linked_add_admitted)

    pub linked_add_payload : payload_of (linked_add img key caller payload).image (geometry_of img) (added_block img) ≡ payload
    linked_add_payload = linked_add_enlarged.own

    -- "with link 0"
    pub linked_add_link : link_of (linked_add img key caller payload).image (geometry_of img) (added_block img) ≡ 0
    linked_add_link = linked_add_enlarged.grown.end

    -- 02 §7: on the map the bit of the block is 1 then, and any other as it was
    pub linked_add_bits : HasMap (geometry_of img) → (z : ℕ) → z < map_bits (geometry_of img)
        → map_bit (linked_add img key caller payload).image (geometry_of img) z ≡ map_bit img (geometry_of img) z + one (eqb z (added_block img))
    linked_add_bits there z within =
        omega (
          arith,
          linked_add_enlarged.grown.map.is there z within,
          (consistent_says img (geometry_of img) refl linked_add_admitted.file.right).is there z within,
          count_one z (added_block img),
        )

  -- refused or not
  always : (P : List ℕ → Type 0) → P img → ((a : Admitted img key (wrong_payload img payload)) → P after) → P (linked_add img key caller payload).image
  unfolding linked_add file_of
  always P before then =
      image_by (linked_add_rows img key caller (wrong_payload img payload) 1) img payload _ P before
      (λ clear. then (admitted img key caller (wrong_payload img payload) 1 (omega arith) clear))

  pub linked_add_consistent : Consistent img → Consistent (linked_add img key caller payload).image
  linked_add_consistent right = always Consistent right after_consistent

  -- no link, nor anything else, is written into block 0
  pub linked_add_block_zero : (w : ℕ) → w < block_words (geometry_of img) → word_at (linked_add img key caller payload).image w ≡ word_at img w
  linked_add_block_zero w within = always (λ (img' : List ℕ). word_at img' w ≡ word_at img w) refl (λ a. header_kept (larger a).grown.kept w within)

  -- a file that the request does not name
  pub linked_add_untouched : (other : Key) → (other ≡ key → ⊥) → Untouched other img (linked_add img key caller payload).image
  linked_add_untouched other apart = always (Untouched other img) (untouched_refl other img) (λ a. after_untouched a other apart)

  -- no other word changes
  pub linked_add_changes : ChangesOnly (AddWords (geometry_of img) (entry_no img key) (file_of img key) (added_block img)) img (linked_add img key caller payload).image
  unfolding file_of
  linked_add_changes =
      always (ChangesOnly (AddWords (geometry_of img) (entry_no img key) (entry_of img (geometry_of img) (entry_no img key)) (added_block img)) img) changes_nothing
      (λ a. added_changes img (geometry_of img) (added_block img) payload (header_sized img a.file.right.header) (free_of a).body (free_of a).below
      (payload_fits img payload (geometry_of img) a.file.argument refl) _ _)
