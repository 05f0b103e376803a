-- What was added is read: a linked add, a close, an open for input and a linked read of the last place give the payload again.
use Prim.Native.Nat.{ℕ, ◌+◌, ◌≤◌, ◌<◌}
use mathlib.Core.Path.{◌≡◌, refl, sym, ap, subst₂, ◌∙◌}
use mathlib.Core.Logic.{◌⊎◌, inl, inr}
use mathlib.Core.Bool.{true, ◌||◌}
use mathlib.Core.List.{List, [], ◌∷◌, ◌++◌}
use native.Mathlib.Omega.{arith}
use native.Mathlib.Decide.{ℕ_discrete}
use lib.Dec.{eqb, ltb}
use lib.ListN.{length, get_or}
use lib.Seq.{get_or-append-add}
use borrow.Author.Tests.{ne_eqb, eqb-true, lt-ltb, not-false}
use Rattle.answers.proofs.Refusals.{none_given}
use Rattle.pack.specs.declared.Geometry.{Geometry}
use Rattle.pack.specs.declared.Key.{Key}
use Rattle.pack.specs.Geometry.{geometry_of, payload_bytes, slots}
use Rattle.pack.specs.File.{one}
use Rattle.pack.specs.Entry.{entry_word, entry_of, blocks_at}
use Rattle.pack.specs.Consistent.{Consistent}
use Rattle.pack.specs.Owner.{FreeBlock}
use Rattle.pack.specs.Key.{key_in, SameKey}
use Rattle.pack.proofs.KeySame.{same_through}
use Rattle.asking.specs.declared.Right.TheVariants.{Read, Write}
use Rattle.asking.specs.KeysTest.{legal_key}
use Rattle.asking.specs.Access.{access_rows}
use Rattle.asking.specs.Asked.{entry_no, file_of}
use Rattle.asking.specs.Outcome.{settled}
use Rattle.asking.specs.Rights.{May}
use Rattle.asking.proofs.Keys.{keyed_used}
use Rattle.asking.proofs.Rights.{may_iff, may_reads}
use Rattle.frame.proofs.FramedStays.{stated_framed, entries_at}
use Rattle.owners.proofs.OwnerSearch.{measured_sized}
use Rattle.frame.proofs.GrowthResized.{resized_alike}
use Rattle.frame.proofs.GrowthConsistent.{grown_framed, grown_blocks, grown_consistent}
use Rattle.owners.proofs.EntryBlocks.{blocks_length}
use Rattle.opening.specs.declared.Opening.TheVariants.{Input}
use Rattle.opening.specs.Open.{opened}
use Rattle.opening.specs.Close.{close}
use Rattle.asking.proofs.AskedCleared.{file_cleared, file_used}
use Rattle.bodies.specs.BlockBytes.{payload_of}
use Rattle.bodies.specs.BufferSizes.{wrong_payload}
use Rattle.transfer.specs.LinkedRead.{linked_read}
use Rattle.adding.specs.LinkedAddRows.{linked_add_rows}
use Rattle.adding.specs.LinkedAdd.{linked_add}
use Rattle.adding.proofs.LinkedAddEnlarged.{Enlarged}
use Rattle.adding.proofs.LinkedAddEffect.{linked_add_admitted, linked_add_free, linked_add_enlarged}
use Rattle.promises.specs.AddedAgain.{added_image, closed_image, opened_image}
use Rattle.promises.proofs.AddedAgainStored.{Stored, read_stored, close_stored, stored_closed, closed_writer, closed_readers, open_stored, stored_opened, opened_readers}

-- a block with the payload joined at the end of the file of entry x
module _ {img img' : List ℕ} {g : Geometry} {x b : ℕ} {payload : List ℕ} (larger : Enlarged img img' g x b payload) where
  word_kept : (i : ℕ) → i < 16 → (i < 6) ⊎ (8 < i) → entry_word img' g x i ≡ entry_word img g x i
  word_kept i small (inl low) = larger.grown.resized.words i small (λ is. omega (arith, is)) (λ is. omega (arith, is)) (λ is. omega (arith, is))
  word_kept i small (inr high) = larger.grown.resized.words i small (λ is. omega (arith, is)) (λ is. omega (arith, is)) (λ is. omega (arith, is))

  protect_kept : (entry_of img' g x).protect ≡ (entry_of img g x).protect
  unfolding entry_of
  protect_kept = word_kept 4 (omega arith) (inl (omega arith))

  kind_kept : (entry_of img' g x).kind ≡ (entry_of img g x).kind
  unfolding entry_of
  kind_kept = word_kept 5 (omega arith) (inl (omega arith))

  enlarged_writer : (entry_of img' g x).writer ≡ (entry_of img g x).writer
  unfolding entry_of
  enlarged_writer = word_kept 9 (omega arith) (inr (omega arith))

  enlarged_readers : (entry_of img' g x).readers ≡ (entry_of img g x).readers
  unfolding entry_of
  enlarged_readers = word_kept 10 (omega arith) (inr (omega arith))

module _
    {img img' : List ℕ}
    {key : Key}
    {g : Geometry}
    {x b caller : ℕ}
    {payload : List ℕ}
    (stated : g ≡ geometry_of img)
    (right : Consistent img)
    (legal : legal_key key ≡ true)
    (within : x < slots g)
    (keyed : SameKey (key_in (entry_of img g x)) key)
    (linked : (entry_of img g x).kind ≡ 2)
    (free : FreeBlock img b)
    (readable : May caller (entry_of img g x).uic (entry_of img g x).protect Read)
    (larger : Enlarged img img' g x b payload) where
  last_block : get_or (blocks_at img' g x) (entry_of img g x).length 0 ≡ b
  last_block =
      let place : (entry_of img g x).length ≡ length (blocks_at img g x) + 0 = omega (arith, blocks_length img g x) in
      ap (λ (bs : List ℕ). get_or bs (entry_of img g x).length 0) (grown_blocks stated right within linked free larger.grown)
      ∙ ap (λ (n : ℕ). get_or (blocks_at img g x ++ (b ∷ [])) n 0) place
      ∙ get_or-append-add (blocks_at img g x) (b ∷ []) 0 0

  stored_enlarged : Stored img' key g x caller (entry_of img g x).length payload
  stored_enlarged =
      let alike = resized_alike larger.grown.resized in
      let measures = stated_framed stated right (grown_framed stated right within linked free larger.grown) in
      let consistent = grown_consistent stated right within linked free larger.grown in
      let own = same_through alike keyed in
      record {
        file =
            record {
              right = consistent;
              measures = measures;
              sized = measured_sized consistent (sym measures);
              inside = within;
              legal = legal;
              keyed = own;
              used = keyed_used img' g key x legal own (entries_at img' g measures consistent x within);
            };
        readable = subst₂ (λ (uic protect : ℕ). May caller uic protect Read) (sym alike.uic) (sym (protect_kept larger)) readable;
        linked = kind_kept larger ∙ linked;
        inside = omega (arith, larger.grown.size);
        bytes = ap (payload_of img' g) last_block ∙ larger.own;
      }

-- "writer 2 or 3"
two_or_three : (writer : ℕ) → eqb writer 2 || eqb writer 3 ≡ true → (2 ≤ writer) × (writer ≤ 3)
two_or_three writer test = by (ℕ_discrete writer 2)
  where
    by : Dec (writer ≡ 2) → (2 ≤ writer) × (writer ≤ 3)
    by (yes is) = (omega (arith, is), omega (arith, is))
    by (no other) =
        let is : writer ≡ 3 = eqb-true writer 3 (rw (ne_eqb writer 2 other) at test) in
        (omega (arith, is), omega (arith, is))

-- what a linked add with code 0 says of the file
record Adding (img : List ℕ) (key : Key) (caller : ℕ) : Type 0 where
  readable : May caller (file_of img key).uic (file_of img key).protect Read
  least : 2 ≤ (file_of img key).writer
  most : (file_of img key).writer ≤ 3
  few : (file_of img key).readers < 62

adding : (img : List ℕ) (key : Key) (caller : ℕ) (payload : List ℕ) → (linked_add img key caller payload).code ≡ 0 → Adding img key caller
unfolding linked_add linked_add_rows access_rows settled
adding img key caller payload done =
    let f = file_cleared img key (wrong_payload img payload) _ done in
    let denied = none_given _ _ _ (λ z. omega (arith, z)) f.1 in
    let contiguous = none_given _ _ _ (λ z. omega (arith, z)) denied.1 in
    let shut = none_given _ _ _ (λ z. omega (arith, z)) contiguous.1 in
    let writer = two_or_three (file_of img key).writer (not-false _ shut.0) in
    let counted : one (ltb 0 (file_of img key).writer) ≡ 1 = ap one (lt-ltb 0 (file_of img key).writer (omega (arith, writer.0))) in
    record {
      readable = may_reads caller _ _ Write ((may_iff Write caller _ _).0 (not-false _ denied.0));
      least = writer.0;
      most = writer.1;
      few = omega (arith, (file_used f.0).opens, counted);
    }

module _ (img : List ℕ) (key : Key) (caller : ℕ) (payload : List ℕ) where
  abbrev img₁ : List ℕ
  img₁ = added_image img key caller payload

  abbrev img₂ : List ℕ
  img₂ = closed_image img key caller payload

  abbrev img₃ : List ℕ
  img₃ = opened_image img key caller payload

  module _ (done : (linked_add img key caller payload).code ≡ 0) where
    opens : Adding img key caller
    opens = adding img key caller payload done

    stored_added : Stored img₁ key (geometry_of img) (entry_no img key) caller (file_of img key).length payload
    unfolding file_of
    stored_added =
        let a = linked_add_admitted img key caller payload done in
        stored_enlarged refl a.file.right a.file.legal a.file.inside a.file.keyed a.linked (linked_add_free img key caller payload done)
        opens.readable (linked_add_enlarged img key caller payload done)

    added_writer : (entry_of img₁ (geometry_of img) (entry_no img key)).writer ≡ (file_of img key).writer
    unfolding file_of
    added_writer = enlarged_writer (linked_add_enlarged img key caller payload done)

    added_readers : (entry_of img₁ (geometry_of img) (entry_no img key)).readers ≡ (file_of img key).readers
    unfolding file_of
    added_readers = enlarged_readers (linked_add_enlarged img key caller payload done)

    -- the file is open with that mode
    pub add_close : (close (added_image img key caller payload) key (file_of img key).writer).code ≡ 0
    add_close = close_stored stored_added (file_of img key).writer opens.least opens.most added_writer

    after_close : Stored img₂ key (geometry_of img) (entry_no img key) caller (file_of img key).length payload
    after_close = stored_closed stored_added (file_of img key).writer opens.least opens.most added_writer

    no_writer : (entry_of img₂ (geometry_of img) (entry_no img key)).writer ≡ 0
    no_writer = closed_writer stored_added (file_of img key).writer opens.least opens.most added_writer

    few_readers : (entry_of img₂ (geometry_of img) (entry_no img key)).readers < 62
    few_readers = omega (arith, opens.few, added_readers, closed_readers stored_added (file_of img key).writer opens.least opens.most added_writer)

    -- no writer is left, the opens are one less than they were, and who may write may read
    pub add_open : (opened Input (closed_image img key caller payload) key caller).code ≡ 0
    add_open = open_stored after_close no_writer few_readers

    -- the place that the old length counts is that of the added block
    pub add_again : (lent : List ℕ) → length lent ≡ payload_bytes (geometry_of img)
        → linked_read (opened_image img key caller payload) key caller (file_of img key).length lent
        ≡ record { code = 0; numbers = []; image = opened_image img key caller payload; buffer = payload }
    add_again =
        read_stored (stored_opened after_close no_writer few_readers) (omega (arith, opened_readers after_close no_writer few_readers))
