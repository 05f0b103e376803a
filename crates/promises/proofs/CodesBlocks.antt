-- Requests on a block of a file give each code in its case: BLOCK, linked read, linked add.
use Prim.Native.Nat.{ℕ}
use mathlib.Core.Path.{◌≡◌}
use mathlib.Core.Logic.{◌↔◌}
use mathlib.Core.Bool.{Bool, true, not}
use mathlib.Core.List.{List, [], ◌∷◌, ◌++◌}
use lib.Dec.{eqb, ltb}
use lib.ListN.{length}
use borrow.Author.Tests.{ltb-true, lt-ltb}
use Rattle.answers.specs.Refusals.{Row, row, first_of}
use Rattle.pack.specs.declared.Key.{Key}
use Rattle.pack.specs.declared.Entry.{Entry}
use Rattle.pack.specs.Geometry.{geometry_of, block_bytes, payload_bytes}
use Rattle.pack.specs.Consistent.{Consistent}
use Rattle.pack.specs.Owner.{FreeBlock, free_count}
use Rattle.asking.specs.declared.Right.{Right}
use Rattle.asking.specs.Access.{access_rows}
use Rattle.asking.specs.Asked.{file_of}
use Rattle.asking.specs.Outcome.{settled}
use Rattle.asking.specs.RightsTest.{may}
use Rattle.transfer.specs.BlockRows.{block_in_rows, block_out_rows}
use Rattle.transfer.specs.Block.{block_in, block_out}
use Rattle.transfer.specs.LinkedReadRows.{linked_read_rows}
use Rattle.transfer.specs.LinkedRead.{linked_read}
use Rattle.adding.specs.LinkedAddRows.{linked_add_rows}
use Rattle.adding.specs.LinkedAdd.{linked_add}
use Rattle.room.proofs.RoomNeeds.{none_free}
use Rattle.requests.specs.Request.{BLOCK-INPUT, BLOCK-OUTPUT, LINKED-READ, LINKED-ADD}
use Rattle.promises.specs.GivenWhen.{Case, ◌when◌, GivesCode}
use Rattle.promises.specs.Codes.{AccessCases, AddingCases, cases_of}
use Rattle.promises.proofs.GivenWhen.{rung, clear}
use Rattle.promises.proofs.CodesTests.{equal_numbers, above, at_least, denies, either, lacks_right, unread}
use Rattle.promises.proofs.CodesFiles.{argued_code, file_code}

-- the right, the kind and the open that such a request needs
pub access_code : (right : Right) (other : ℕ) (x : Entry) (caller : ℕ) (shut : Bool) (Open : Type 0) → shut ≡ true ↔ (Open → ⊥) → (more : List Row) (own : List Case)
    → GivesCode own (first_of more)
    → GivesCode (AccessCases right other Open x caller ++ own)
    (first_of (row (not (may right caller x.uic x.protect)) 0o6 ∷ (row (eqb x.kind other) 0o43 ∷ (row shut 0o45 ∷ more))))
access_code right other x caller shut Open decides more own rest =
    rung _ 0o6 _ (lacks_right right caller _ _) (λ r. rung _ 0o43 _ (equal_numbers _ other) (λ k. rung _ 0o45 _ decides (λ o. rest)))

-- the size of a buffer
pub sized : (a b : ℕ) → not (eqb a b) ≡ true ↔ (a ≡ b → ⊥)
sized a b = denies (eqb a b) (equal_numbers a b)

module _ (img : List ℕ) (key : Key) (caller place : ℕ) (buffer : List ℕ) where
  pub block_in_code : GivesCode (cases_of (BLOCK-INPUT key caller place buffer) img) (block_in img key caller place buffer).code
  unfolding block_in block_in_rows access_rows settled
  block_in_code =
      file_code img key _ _ (sized (length buffer) (block_bytes (geometry_of img))) _ _ (λ right.
      access_code _ 2 (file_of img key) caller _ _
      (denies _ (either (ltb 0 (file_of img key).readers) (eqb (file_of img key).writer 1) (above 0 _) (equal_numbers _ 1))) _ _
      (rung _ 0o44 _ (at_least _ place) (λ p. clear)))

  pub block_out_code : GivesCode (cases_of (BLOCK-OUTPUT key caller place buffer) img) (block_out img key caller place buffer).code
  unfolding block_out block_out_rows access_rows settled
  block_out_code =
      file_code img key _ _ (sized (length buffer) (block_bytes (geometry_of img))) _ _ (λ right.
      access_code _ 2 (file_of img key) caller _ _ (denies _ (equal_numbers (file_of img key).writer 1)) _ _
      (rung _ 0o44 _ (at_least _ place) (λ p. clear)))

  pub linked_read_code : GivesCode (cases_of (LINKED-READ key caller place buffer) img) (linked_read img key caller place buffer).code
  unfolding linked_read linked_read_rows access_rows settled
  linked_read_code =
      file_code img key _ _ (sized (length buffer) (payload_bytes (geometry_of img))) _ _ (λ right.
      access_code _ 1 (file_of img key) caller _ _ (unread (file_of img key).readers) _ _ (rung _ 0o44 _ (at_least _ place) (λ p. clear)))

-- no block is free
pub counted_free : {img : List ℕ} → Consistent img → ltb (free_count img) 1 ≡ true ↔ ((b : ℕ) → FreeBlock img b → ⊥)
counted_free {img} right =
    (λ t. (none_free right).0 (ltb-true (free_count img) 1 t), λ never. lt-ltb (free_count img) 1 ((none_free right).1 never))

-- adding to a file, where so many blocks are needed
pub adding_code : (img : List ℕ) (key : Key) (caller : ℕ) (wrong : Bool) (Wrong : Type 0) → wrong ≡ true ↔ Wrong → (needed : ℕ) (Short : Type 0)
    → (Consistent img → (Wrong → ⊥) → ltb (free_count img) needed ≡ true ↔ Short)
    → GivesCode (AddingCases img key caller Wrong ++ 0o42 when Short ∷ []) (first_of (linked_add_rows img key caller wrong needed))
unfolding linked_add_rows access_rows
adding_code img key caller wrong Wrong decides needed Short short =
    argued_code img key wrong Wrong decides _ _ (λ right good.
    access_code _ 1 (file_of img key) caller _ _
    (denies _ (either (eqb (file_of img key).writer 2) (eqb (file_of img key).writer 3) (equal_numbers _ 2) (equal_numbers _ 3))) _ _
    (rung _ 0o42 _ (short right good) (λ b. clear)))

pub linked_add_code : (img : List ℕ) (key : Key) (caller : ℕ) (payload : List ℕ)
    → GivesCode (cases_of (LINKED-ADD key caller payload) img) (linked_add img key caller payload).code
unfolding linked_add settled
linked_add_code img key caller payload =
    adding_code img key caller _ _ (sized (length payload) (payload_bytes (geometry_of img))) 1 _ (λ right good. counted_free right)
