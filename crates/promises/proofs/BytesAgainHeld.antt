-- The payloads of a linked file stay through CLOSE of its writer and OPENI, and it can then be read.
use Prim.Native.Nat.{ℕ, ◌+◌, ◌*◌, ◌≤◌, ◌<◌}
use mathlib.Core.Path.{◌≡◌, sym, ap, subst, ◌∙◌}
use mathlib.Core.Bool.{Bool, false}
use mathlib.Core.List.{List}
use native.Mathlib.Omega.{arith}
use lib.Dec.{eqb}
use lib.ListN.{length}
use borrow.Author.Tests.{ne_eqb}
use Rattle.pack.specs.declared.Geometry.{Geometry}
use Rattle.pack.specs.declared.Entry.{Entry}
use Rattle.pack.specs.declared.Key.{Key}
use Rattle.pack.specs.Geometry.{payload_bytes}
use Rattle.pack.specs.Entry.{entry_of, blocks_at}
use Rattle.pack.specs.Consistent.{Consistent}
use Rattle.asking.specs.declared.Right.TheVariants.{Read}
use Rattle.asking.specs.Asked.{file_of}
use Rattle.asking.specs.Rights.{May}
use Rattle.asking.proofs.Rights.{may_iff}
use Rattle.asking.proofs.AskedCleared.{Cleared}
use Rattle.asking.proofs.AccessStage.{Reached}
use Rattle.frame.proofs.FramedCompose.{block_kept}
use Rattle.frame.proofs.Described.{described_blocks}
use Rattle.owners.proofs.EntryBlocks.{blocks_length}
use Rattle.opening.specs.declared.Opening.TheVariants.{Input}
use Rattle.opening.specs.Open.{opened}
use Rattle.opening.specs.Close.{close}
use Rattle.opening.proofs.OpenWords.{OpensSet, opens_framed, opens_entry, opens_described}
use Rattle.opening.proofs.CloseEffect.{close_consistent}
use Rattle.opening.proofs.OpenEffect.{open_consistent}
use Rattle.bodies.specs.Payloads.{payloads_of}
use Rattle.bodies.proofs.Payloads.{payloads_length, payloads_same}
use Rattle.promises.specs.BytesAgain.{payloads_in}
use Rattle.promises.proofs.FileOpened.{own, asked, file_set, file_closes, closed_set, file_opens, opened_set}

-- the key's file is linked, the caller may read it, and these are its payloads, joined
pub record Held (img : List ℕ) (key : Key) (g : Geometry) (e caller : ℕ) (payloads : List ℕ) : Type 0 where
  pub file : Cleared img key g e
  pub readable : May caller (entry_of img g e).uic (entry_of img g e).protect Read
  pub linked : (entry_of img g e).kind ≡ 2
  pub bytes : payloads_of img g (blocks_at img g e) ≡ payloads

module _ {img : List ℕ} {key : Key} {g : Geometry} {e caller : ℕ} {payloads : List ℕ} (held : Held img key g e caller payloads) where
  pub held_payloads : payloads_in img key ≡ payloads
  held_payloads = rw (own held.file, ← held.file.measures) held.bytes

  pub held_length : length payloads ≡ (entry_of img g e).length * payload_bytes g
  held_length =
      ap length (sym held.bytes)
      ∙ payloads_length img g held.file.sized (blocks_at img g e) (λ b reached. (held.file.used.bodies b reached).1)
      ∙ ap (λ (n : ℕ). n * payload_bytes g) (blocks_length img g e)

  -- reading bytes: "read right, a reader"
  pub held_reached : 0 < (entry_of img g e).readers → (wrong : Bool) → wrong ≡ false
      → Reached img key wrong caller Read 1 (λ y. eqb y.readers 0) g e (entry_of img g e)
  held_reached reader wrong right =
      record {
        file = asked held.file wrong right;
        entry = sym (own held.file);
        access =
            record {
              right_given = (may_iff Read caller (entry_of img g e).uic (entry_of img g e).protect).1 held.readable;
              kind = λ is. omega (arith, is, held.linked);
              opened = ne_eqb (entry_of img g e).readers 0 (λ none. omega (arith, none, reader));
            };
      }

  -- the writer or the readers set: the rest of the file is as it was
  held_set : {img' : List ℕ} {writer readers : ℕ} → OpensSet img img' g e writer readers → Consistent img' → Held img' key g e caller payloads
  held_set {img'} set right =
      let kept = opens_framed held.file set in
      let entry = opens_entry held.file set in
      record {
        file = file_set held.file set right;
        readable = subst (λ (x : Entry). May caller x.uic x.protect Read) (sym entry) held.readable;
        linked = ap (λ (x : Entry). x.kind) entry ∙ held.linked;
        bytes = ap (payloads_of img' g) (described_blocks (opens_described held.file set))
            ∙ payloads_same img img' g kept.kept.long (blocks_at img g e)
            (λ b reached i past small.
            let range = held.file.used.bodies b reached in
            block_kept kept.kept b (omega (arith, range.0, held.file.sized.contents)) (λ never. never) i small) ∙ held.bytes;
      }

  -- CLOSE of the writer, 2 or 3
  module _ (mode : ℕ) (is : (file_of img key).writer ≡ mode) (low : 2 ≤ mode) (high : mode ≤ 3) where
    writer_is : (entry_of img g e).writer ≡ mode
    writer_is = ap (λ (x : Entry). x.writer) (sym (own held.file)) ∙ is

    pub close_held : (close img key mode).code ≡ 0
    close_held = file_closes held.file mode low high writer_is

    pub held_closed : Held (close img key mode).image key g e caller payloads
    held_closed = held_set (closed_set held.file mode low high writer_is) (close_consistent img key mode held.file.right)

    pub closed_opens : ((entry_of (close img key mode).image g e).writer ≡ 0) × ((entry_of (close img key mode).image g e).readers ≡ (entry_of img g e).readers)
    closed_opens =
        let entry = opens_entry held.file (closed_set held.file mode low high writer_is) in
        (ap (λ (x : Entry). x.writer) entry, ap (λ (x : Entry). x.readers) entry)

  -- OPENI where there is no writer
  module _ (writer : (entry_of img g e).writer ≡ 0) (few : (entry_of img g e).readers < 62) where
    pub open_held : (opened Input img key caller).code ≡ 0
    open_held = file_opens held.file held.readable writer few

    set_opened : OpensSet img (opened Input img key caller).image g e (entry_of img g e).writer ((entry_of img g e).readers + 1)
    set_opened = opened_set held.file held.readable writer few

    pub held_opened : Held (opened Input img key caller).image key g e caller payloads
    held_opened = held_set set_opened (open_consistent Input img key caller held.file.right)

    pub held_readers : (entry_of (opened Input img key caller).image g e).readers ≡ (entry_of img g e).readers + 1
    held_readers = ap (λ (x : Entry). x.readers) (opens_entry held.file set_opened)
