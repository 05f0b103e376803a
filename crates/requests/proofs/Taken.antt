-- Lines written and ended, of text and binary, take the highest free blocks and join them at the end of the file.
use Prim.Native.Nat.{ℕ, ◌<◌}
use mathlib.Core.Path.{◌≡◌, refl, sym, subst, ◌∙◌}
use mathlib.Core.Bool.{Bool, false}
use mathlib.Core.List.{List, [], ◌∷◌}
use native.Mathlib.Omega.{arith}
use native.Mathlib.Decide.{ℕ_discrete, dec_lt}
use lib.Dec.{ltb}
use lib.ListN.{length}
use Rattle.pack.specs.declared.Key.{Key}
use Rattle.pack.specs.declared.Geometry.{Geometry}
use Rattle.pack.specs.Geometry.{geometry_of}
use Rattle.pack.specs.File.{count}
use Rattle.pack.specs.Consistent.{Consistent}
use Rattle.pack.specs.Owner.{owner_of, FreeBlock}
use Rattle.pack.proofs.FileCount.{count_nil, count_same, count_other}
use Rattle.owners.proofs.OneOwner.{owner_free}
use Rattle.asking.specs.Asked.{entry_no}
use Rattle.adding.specs.LinkedAdd.{added_block, linked_add}
use Rattle.adding.proofs.LinkedAddEffect.{linked_add_admitted, linked_add_consistent, linked_add_highest, linked_add_free}
use Rattle.adding.proofs.LinkedAddOwners.{linked_add_owner}
use Rattle.adding.proofs.LinkedAddAgain.{again_measures}
use Rattle.stream.specs.AddedAll.{added_all, taken_blocks, EachAdded}
use Rattle.stream.specs.AddedAll.EachAdded.{none, also}
use Rattle.stream.proofs.AddedAll.{added_blocks}
use Rattle.lines.specs.LineReading.{mode_of}
use Rattle.lines.specs.LineWrite.{put_all, taken_of}
use Rattle.stream.specs.BytesWriting.{gathered_in, bytes_written}
use Rattle.lines.specs.LineWriting.{nuls_for, line_write, line_end}
use Rattle.binary.specs.BinaryLine.{binary_line}
use Rattle.binary.specs.BinaryWriting.{binary_write}
use Rattle.stream.proofs.BytesWritingEffect.{write_image, write_added}
use Rattle.requests.specs.Taken.{Taken}

-- a block is free in one image that is free in the other, where the pack's measures and the block's owner are the same
same_free : {img img' : List ℕ} → Consistent img → Consistent img' → geometry_of img' ≡ geometry_of img → (b : ℕ) → owner_of img' b ≡ owner_of img b
    → FreeBlock img b → FreeBlock img' b
same_free {img} {img'} right right' measures b same free =
    let still = (owner_free right' b).0 (same ∙ (owner_free right b).1 (free.body, free.nobody)) in
    record { body = still.0; below = subst (λ (g : Geometry). b < g.blocks) (sym measures) free.below; nobody = still.1 }

module _ (key : Key) (caller : ℕ) where
  pub taken_free : (img : List ℕ) (payloads : List (List ℕ)) → EachAdded key caller img payloads
      → (b : ℕ) → 0 < count b (taken_blocks img key caller payloads) → FreeBlock img b
  unfolding taken_blocks
  taken_free img [] none b among = absurd (omega (arith, among, count_nil b))
  taken_free img (payload ∷ more) (also success rest) b among = by (ℕ_discrete b (added_block img)) (taken_free (linked_add img key caller payload).image more rest b)
    where
      by : Dec (b ≡ added_block img)
          → (0 < count b (taken_blocks (linked_add img key caller payload).image key caller more) → FreeBlock (linked_add img key caller payload).image b) → FreeBlock img b
      by (yes is) later = subst (FreeBlock img) (sym is) (linked_add_free img key caller payload success)
      by (no other) later =
          let right = (linked_add_admitted img key caller payload success).file.right in
          same_free (linked_add_consistent img key caller payload right) right (sym (again_measures img key caller payload success)) b
          (sym (linked_add_owner img key caller payload b other))
          (later (omega (arith, among, count_other b (added_block img) (taken_blocks (linked_add img key caller payload).image key caller more) other)))

  pub taken_highest : (img : List ℕ) (payloads : List (List ℕ)) → EachAdded key caller img payloads
      → (b other : ℕ) → 0 < count b (taken_blocks img key caller payloads) → FreeBlock img other → count other (taken_blocks img key caller payloads) ≡ 0 → other < b
  unfolding taken_blocks
  taken_highest img [] none b other among free never = absurd (omega (arith, among, count_nil b))
  taken_highest img (payload ∷ more) (also success rest) b other among free never =
      by (ℕ_discrete b (added_block img)) (ℕ_discrete other (added_block img)) (dec_lt (added_block img) other)
      (taken_highest (linked_add img key caller payload).image more rest b other)
    where
      later : List ℕ
      later = taken_blocks (linked_add img key caller payload).image key caller more

      by : Dec (b ≡ added_block img) → Dec (other ≡ added_block img) → Dec (added_block img < other)
          → (0 < count b later → FreeBlock (linked_add img key caller payload).image other → count other later ≡ 0 → other < b) → other < b
      by first (yes is) above rest = absurd (omega (arith, never, count_same other (added_block img) later is))
      by first (no apart) (yes above) rest = absurd ((linked_add_highest img key caller payload success).2 other above free)
      by (yes is) (no apart) (no below) rest = omega (arith, is, below, apart)
      by (no differs) (no apart) (no below) rest =
          let right = (linked_add_admitted img key caller payload success).file.right in
          rest (omega (arith, among, count_other b (added_block img) later differs))
          (same_free right (linked_add_consistent img key caller payload right) (again_measures img key caller payload success) other
          (linked_add_owner img key caller payload other apart) free)
          (omega (arith, never, count_other other (added_block img) later apart))

  pub added_taken : (img : List ℕ) (payloads : List (List ℕ)) → EachAdded key caller img payloads
      → Taken img (added_all img key caller payloads) key (taken_blocks img key caller payloads)
  added_taken img payloads each =
      record {
        joined = added_blocks key caller (geometry_of img) (entry_no img key) img payloads each refl refl;
        free = taken_free img payloads each;
        highest = taken_highest img payloads each;
      }

bytes_taken : (img : List ℕ) (key : Key) (caller : ℕ) (wrong : Bool) (gather : List ℕ) (filled : ℕ) (bytes numbers : List ℕ)
    → (bytes_written img key caller wrong gather filled bytes numbers).code ≡ 0
    → Taken img (bytes_written img key caller wrong gather filled bytes numbers).image key (taken_blocks img key caller (gathered_in img gather filled bytes).full)
bytes_taken img key caller wrong gather filled bytes numbers success =
    rw (write_image img key caller wrong gather filled bytes numbers success)
    (added_taken key caller img (gathered_in img gather filled bytes).full (write_added img key caller wrong gather filled bytes numbers success))

pub line_write_taken : (img : List ℕ) (key : Key) (caller mode : ℕ) (text gather : List ℕ) (filled : ℕ) → (line_write img key caller mode text gather filled).code ≡ 0
    → Taken img (line_write img key caller mode text gather filled).image key
    (taken_blocks img key caller (gathered_in img gather filled (put_all (taken_of (mode_of mode) text))).full)
unfolding line_write
line_write_taken img key caller mode text gather filled = bytes_taken img key caller (ltb 1 mode) gather filled (put_all (taken_of (mode_of mode) text)) _

pub line_end_taken : (img : List ℕ) (key : Key) (caller : ℕ) (gather : List ℕ) (filled : ℕ) → (line_end img key caller gather filled).code ≡ 0
    → Taken img (line_end img key caller gather filled).image key (taken_blocks img key caller (gathered_in img gather filled (nuls_for img filled)).full)
unfolding line_end
line_end_taken img key caller gather filled = bytes_taken img key caller false gather filled (nuls_for img filled) []

pub binary_write_taken : (img : List ℕ) (key : Key) (caller : ℕ) (content gather : List ℕ) (filled : ℕ) → (binary_write img key caller content gather filled).code ≡ 0
    → Taken img (binary_write img key caller content gather filled).image key (taken_blocks img key caller (gathered_in img gather filled (binary_line content)).full)
unfolding binary_write
binary_write_taken img key caller content gather filled = bytes_taken img key caller (ltb 512 (length content)) gather filled (binary_line content) _
