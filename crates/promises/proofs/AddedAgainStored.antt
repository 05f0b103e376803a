-- A payload that is stored in a file stays there through CLOSE and OPENI, and a linked read gives it.
use Prim.Native.Nat.{ℕ, ◌+◌, ◌≤◌, ◌<◌}
use mathlib.Core.Path.{◌≡◌, refl, sym, ap, subst, ◌∙◌}
use mathlib.Core.Bool.{false}
use mathlib.Core.List.{List, []}
use native.Mathlib.Omega.{arith}
use lib.Dec.{eqb}
use lib.ListN.{length, get_or}
use borrow.Author.Tests.{eq-eqb, ne_eqb}
use Rattle.pack.specs.declared.Geometry.{Geometry}
use Rattle.pack.specs.declared.Entry.{Entry}
use Rattle.pack.specs.declared.Key.{Key}
use Rattle.pack.specs.Geometry.{geometry_of, payload_bytes}
use Rattle.pack.specs.File.{blocks_of}
use Rattle.pack.specs.Entry.{entry_of, blocks_at}
use Rattle.pack.specs.Consistent.{Consistent}
use Rattle.pack.proofs.FileCount.{count_at}
use Rattle.asking.specs.declared.Right.TheVariants.{Read}
use Rattle.asking.specs.Asked.{file_of}
use Rattle.asking.specs.Rights.{May}
use Rattle.asking.proofs.Rights.{may_iff}
use Rattle.asking.proofs.AskedCleared.{Cleared}
use Rattle.frame.specs.Framed.{Kept}
use Rattle.frame.proofs.FramedCompose.{block_kept}
use Rattle.frame.proofs.Described.{described_blocks}
use Rattle.owners.proofs.EntryBlocks.{blocks_length}
use Rattle.opening.specs.declared.Opening.TheVariants.{Input}
use Rattle.opening.specs.Open.{opened}
use Rattle.opening.specs.Close.{close}
use Rattle.opening.proofs.OpenWords.{OpensSet, opens_framed, opens_entry, opens_described}
use Rattle.opening.proofs.CloseEffect.{close_consistent}
use Rattle.opening.proofs.OpenEffect.{open_consistent}
use Rattle.bodies.specs.BlockBytes.{payload_of}
use Rattle.bodies.specs.BufferSizes.{wrong_payload}
use Rattle.transfer.specs.LinkedRead.{linked_read}
use Rattle.asking.proofs.AccessRows.{Accessed}
use Rattle.transfer.proofs.LinkedReadStage.{linked_read_given}
use Rattle.bodies.proofs.BlockBytes.{payload_same}
use Rattle.promises.proofs.FileOpened.{own, asked, file_set, file_closes, closed_set, file_opens, opened_set}

-- the payload of a block that is not written
payload_kept : {Named Written : ℕ → Type 0} {img img' : List ℕ} {g : Geometry} → Kept Named Written img img' g
    → (b : ℕ) → g.contents < b → (Written b → ⊥) → payload_of img' g b ≡ payload_of img g b
payload_kept {Named} {Written} {img} {img'} {g} kept b behind other =
    payload_same img img' g b kept.long (λ i past small. block_kept kept b behind other i small)

-- the key's file is linked and the caller may read it, and its block at the place has the payload
pub record Stored (img : List ℕ) (key : Key) (g : Geometry) (e caller place : ℕ) (payload : List ℕ) : Type 0 where
  pub file : Cleared img key g e
  pub readable : May caller (entry_of img g e).uic (entry_of img g e).protect Read
  pub linked : (entry_of img g e).kind ≡ 2
  pub inside : place < (entry_of img g e).length
  pub bytes : payload_of img g (get_or (blocks_at img g e) place 0) ≡ payload

module _ {img : List ℕ} {key : Key} {g : Geometry} {e caller place : ℕ} {payload : List ℕ} (stored : Stored img key g e caller place payload) where
  -- linked read: "read right, a reader"
  pub read_stored : 0 < (entry_of img g e).readers → (lent : List ℕ) → length lent ≡ payload_bytes g
      → linked_read img key caller place lent ≡ record { code = 0; numbers = []; image = img; buffer = payload }
  read_stored reader lent long =
      linked_read_given img key caller place lent
      (record { file = asked stored.file (wrong_payload img lent) argument; entry = sym (own stored.file); access = access }) stored.inside
      ∙ ap (λ (bytes : List ℕ). record { code = 0; numbers = []; image = img; buffer = bytes }) given
    where
      argument : wrong_payload img lent ≡ false
      argument = rw (eq-eqb (length lent) (payload_bytes (geometry_of img)) (long ∙ ap payload_bytes stored.file.measures))

      access : Accessed (entry_of img g e) caller Read 1 (eqb (entry_of img g e).readers 0)
      access =
          record {
            right_given = (may_iff Read caller (entry_of img g e).uic (entry_of img g e).protect).1 stored.readable;
            kind = λ is. omega (arith, is, stored.linked);
            opened = ne_eqb (entry_of img g e).readers 0 (λ none. omega (arith, none, reader));
          }

      given : payload_of img (geometry_of img) (get_or (blocks_of img (geometry_of img) (file_of img key)) place 0) ≡ payload
      given =
          ap (λ (x : Entry). payload_of img (geometry_of img) (get_or (blocks_of img (geometry_of img) x) place 0)) (own stored.file)
          ∙ subst (λ (h : Geometry). payload_of img h (get_or (blocks_of img h (entry_of img g e)) place 0) ≡ payload) stored.file.measures stored.bytes

  -- the writer or the readers set: the rest of the file is as it was
  stored_set : {img' : List ℕ} {writer readers : ℕ} → OpensSet img img' g e writer readers → Consistent img' → Stored img' key g e caller place payload
  stored_set {img'} set right =
      let kept = opens_framed stored.file set in
      let entry = opens_entry stored.file set in
      let block : ℕ = get_or (blocks_at img g e) place 0 in
      let range = stored.file.used.bodies block (count_at (blocks_at img g e) place block (omega (arith, stored.inside, blocks_length img g e)) refl) in
      record {
        file = file_set stored.file set right;
        readable = subst (λ (x : Entry). May caller x.uic x.protect Read) (sym entry) stored.readable;
        linked = ap (λ (x : Entry). x.kind) entry ∙ stored.linked;
        inside = omega (arith, stored.inside, ap (λ (x : Entry). x.length) entry);
        bytes = ap (λ (bs : List ℕ). payload_of img' g (get_or bs place 0)) (described_blocks (opens_described stored.file set))
            ∙ payload_kept kept.kept block (omega (arith, range.0, stored.file.sized.contents)) (λ never. never) ∙ stored.bytes;
      }

  -- CLOSE of the writer, 2 or 3
  module _ (mode : ℕ) (low : 2 ≤ mode) (high : mode ≤ 3) (writer : (entry_of img g e).writer ≡ mode) where
    pub close_stored : (close img key mode).code ≡ 0
    close_stored = file_closes stored.file mode low high writer

    set_closed : OpensSet img (close img key mode).image g e 0 (entry_of img g e).readers
    set_closed = closed_set stored.file mode low high writer

    pub stored_closed : Stored (close img key mode).image key g e caller place payload
    stored_closed = stored_set set_closed (close_consistent img key mode stored.file.right)

    pub closed_writer : (entry_of (close img key mode).image g e).writer ≡ 0
    closed_writer = ap (λ (x : Entry). x.writer) (opens_entry stored.file set_closed)

    pub closed_readers : (entry_of (close img key mode).image g e).readers ≡ (entry_of img g e).readers
    closed_readers = ap (λ (x : Entry). x.readers) (opens_entry stored.file set_closed)

  -- OPENI where there is no writer
  module _ (writer : (entry_of img g e).writer ≡ 0) (few : (entry_of img g e).readers < 62) where
    pub open_stored : (opened Input img key caller).code ≡ 0
    open_stored = file_opens stored.file stored.readable writer few

    set_opened : OpensSet img (opened Input img key caller).image g e (entry_of img g e).writer ((entry_of img g e).readers + 1)
    set_opened = opened_set stored.file stored.readable writer few

    pub stored_opened : Stored (opened Input img key caller).image key g e caller place payload
    stored_opened = stored_set set_opened (open_consistent Input img key caller stored.file.right)

    pub opened_readers : (entry_of (opened Input img key caller).image g e).readers ≡ (entry_of img g e).readers + 1
    opened_readers = ap (λ (x : Entry). x.readers) (opens_entry stored.file set_opened)
