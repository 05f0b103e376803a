-- What BLOCK output wrote BLOCK input reads: at the same place, by a caller who may read.
use Prim.Native.Nat.{ℕ, ◌<◌}
use mathlib.Core.Path.{◌≡◌, refl, sym, ap, subst, ◌∙◌}
use mathlib.Core.Bool.{Bool, true, false, not, ◌||◌}
use mathlib.Core.List.{List, []}
use mathlib.Core.Option.{some}
use native.Mathlib.Omega.{arith}
use lib.Dec.{eqb, ltb}
use lib.ListN.{length}
use borrow.Author.Tests.{eq-eqb, not-false}
use Rattle.pack.specs.declared.Geometry.{Geometry}
use Rattle.pack.specs.declared.Entry.{Entry}
use Rattle.pack.specs.declared.Key.{Key}
use Rattle.pack.specs.Geometry.{geometry_of, block_bytes, slots}
use Rattle.pack.specs.Entry.{entry_of}
use Rattle.pack.specs.Key.{key_in, SameKey}
use Rattle.consistency.proofs.ConsistentTestIff.{consistent_iff}
use Rattle.asking.specs.declared.Right.TheVariants.{Read}
use Rattle.asking.specs.KeysTest.{found}
use Rattle.asking.specs.Asked.{entry_no, file_of}
use Rattle.asking.specs.RightsTest.{may}
use Rattle.asking.proofs.Keys.{found_iff}
use Rattle.asking.proofs.AskedStage.{FileAsked, asked_is_file, asked_file}
use Rattle.asking.proofs.AccessRows.{Accessed}
use Rattle.bodies.specs.BlockBytes.{block_start, block_of}
use Rattle.bodies.specs.BufferSizes.{wrong_block}
use Rattle.bodies.proofs.BlockBytes.{room_of, part_again}
use Rattle.transfer.specs.BlockRows.{open_for_input}
use Rattle.transfer.specs.Block.{block_at_place, block_in, block_out}
use Rattle.transfer.proofs.BlockStage.{BlockAsked}
use Rattle.transfer.proofs.BlockIn.{block_in_given}
use Rattle.transfer.proofs.BlockWritten.{block_written, written_consistent, written_measures, entry_written}
use Rattle.transfer.proofs.BlockWritten.{block_out_access, block_out_within, block_out_asked, block_out_fits, block_out_image}

-- a file whose writer is 1 is open for input too
writer_serves : (x : Entry) → eqb x.writer 1 ≡ true → not (open_for_input x) ≡ false
writer_serves x is = by (ltb 0 x.readers) (eqb x.writer 1) is
  where
    by : (reader writer : Bool) → writer ≡ true → not (reader || writer) ≡ false
    by true writer is = refl
    by false writer is = rw is

-- an image whose block is written has the file that it had, and the block's bytes
module _ {img : List ℕ} {key : Key} {wrong : Bool} {e : ℕ} {x : Entry} {place : ℕ} (asked : BlockAsked img key wrong (geometry_of img) e x place)
    (buffer : List ℕ) (fits : length buffer ≡ block_bytes (geometry_of img)) where
  abbrev after : List ℕ
  after = block_written img (geometry_of img) x place buffer

  entry_again : entry_of after (geometry_of after) e ≡ x
  entry_again =
      ap (λ (h : Geometry). entry_of after h e) (written_measures asked buffer fits)
      ∙ entry_written asked buffer fits e asked.file.inside ∙ sym asked.file.entry

  found_again : found after key ≡ some e
  found_again =
      (found_iff (written_consistent asked buffer fits) key asked.file.legal e).1 (
        subst (λ (h : Geometry). e < slots h) (sym (written_measures asked buffer fits)) asked.file.inside,
        subst (λ (x : Entry). SameKey (key_in x) key) (sym entry_again) asked.file.keyed,
      )

  file_again : (argument : Bool) → argument ≡ false → FileAsked after key argument (geometry_of after) e x
  file_again argument right =
      subst (FileAsked after key argument (geometry_of after) e) entry_again
      (asked_is_file after key argument _ _ _
      (sym (asked_file after key argument ((consistent_iff after).1 (written_consistent asked buffer fits)) asked.file.legal right e found_again)))

  own_again : x ≡ file_of after key
  unfolding file_of entry_no
  own_again = rw found_again (sym entry_again)

  bytes_again : block_of after (geometry_of after) (block_at_place (file_of after key) place) ≡ buffer
  bytes_again =
      let room = room_of img (geometry_of img) (block_at_place x place) asked.sized asked.below in
      rw (← own_again, written_measures asked buffer fits)
      (part_again img buffer (block_start (geometry_of img) (block_at_place x place)) (block_bytes (geometry_of img)) (omega (arith, room.inside)) fits)

  input_again : (reader : ℕ) (lent : List ℕ) → length lent ≡ length buffer → Accessed x reader Read 2 (not (open_for_input x)) → place < x.length
      → block_in after key reader place lent ≡ record { code = 0; numbers = []; image = after; buffer = buffer }
  input_again reader lent size access inside =
      let long : length lent ≡ block_bytes (geometry_of after) = size ∙ fits ∙ ap block_bytes (sym (written_measures asked buffer fits)) in
      let argument : wrong_block after lent ≡ false = rw (eq-eqb (length lent) (block_bytes (geometry_of after)) long) in
      block_in_given after key reader place lent (record { file = file_again (wrong_block after lent) argument; entry = own_again; access = access }) inside
      ∙ ap (λ (bytes : List ℕ). record { code = 0; numbers = []; image = after; buffer = bytes }) bytes_again

-- an output with code 0, then an input of the same place by a caller with the right, into a buffer of the size asked
pub block_again : (img : List ℕ) (key : Key) (caller reader place : ℕ) (buffer lent : List ℕ) → (block_out img key caller place buffer).code ≡ 0
    → length lent ≡ length buffer → may Read reader (file_of img key).uic (file_of img key).protect ≡ true
    → block_in (block_out img key caller place buffer).image key reader place lent
    ≡ record { code = 0; numbers = []; image = (block_out img key caller place buffer).image; buffer = buffer }
block_again img key caller reader place buffer lent success size right =
    let access = block_out_access img key caller place buffer success in
    rw (block_out_image img key caller place buffer success)
    (input_again (block_out_asked img key caller place buffer success) buffer (block_out_fits img key caller place buffer success) reader lent size
    (record { right_given = right; kind = access.kind; opened = writer_serves (file_of img key) (not-false _ access.opened) })
    (block_out_within img key caller place buffer success))
