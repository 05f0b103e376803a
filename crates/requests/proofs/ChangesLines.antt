-- Adding several payloads changes no other word than the entry's 6 to 8, the blocks that are taken with their bits, and the link of the last block; so do lines written and ended, of text and binary.
use Prim.Native.Nat.{ℕ, ◌+◌, ◌≤◌, ◌<◌}
use mathlib.Core.Path.{◌≡◌, refl, ap, subst, subst₂, ◌∙◌}
use mathlib.Core.Logic.{◌⊎◌, inl, inr}
use mathlib.Core.Bool.{Bool, false}
use mathlib.Core.List.{List, [], ◌∷◌}
use native.Mathlib.Omega.{arith}
use native.Mathlib.Decide.{ℕ_discrete}
use lib.Dec.{ltb}
use lib.ListN.{length}
use Rattle.pack.specs.declared.Geometry.{Geometry}
use Rattle.pack.specs.declared.Key.{Key}
use Rattle.pack.specs.Geometry.{geometry_of, block_words, block_at, entry_at}
use Rattle.pack.specs.File.{count}
use Rattle.pack.proofs.FileCount.{count_same, count_more}
use Rattle.pack.proofs.HeaderRules.{header_sized}
use Rattle.asking.specs.Asked.{entry_no, file_of}
use Rattle.adding.specs.LinkedAdd.{added_block, linked_add}
use Rattle.adding.proofs.LinkedAddEffect.{linked_add_refused, linked_add_admitted, linked_add_enlarged, linked_add_changes}
use Rattle.adding.proofs.LinkedAddAgain.{again_measures, again_number}
use Rattle.stream.specs.AddedAll.{added_all, taken_blocks}
use Rattle.lines.specs.LineReading.{mode_of}
use Rattle.lines.specs.LineWrite.{put_all, taken_of}
use Rattle.stream.specs.BytesWriting.{gathered_in, writing_rows, bytes_written}
use Rattle.lines.specs.LineWriting.{nuls_for, line_write, line_end}
use Rattle.binary.specs.BinaryLine.{binary_line}
use Rattle.binary.specs.BinaryWriting.{binary_write}
use Rattle.requests.specs.Request.{LINKED-ADD, LINE-WRITE, LINE-END, BINARY-WRITE}
use Rattle.requests.specs.Changes.{IsLastLink, MayAdd, MayChange}
use Rattle.frame.specs.Framed.{ChangesOnly, MapWord}
use Rattle.frame.proofs.ChangesWritten.{changes_nothing, changes_then, changes_wider}
use Rattle.requests.proofs.ChangesWritten.{changes_settled}

module _ (key : Key) (caller : ℕ) (img payload : List ℕ) (more : List (List ℕ)) where
  abbrev image : List ℕ
  image = (linked_add img key caller payload).image

  -- the block of the first payload is one of those taken
  first_taken : 0 < count (added_block img) (taken_blocks img key caller (payload ∷ more))
  unfolding taken_blocks
  first_taken = omega (arith, count_same (added_block img) (added_block img) (taken_blocks image key caller more) refl)

  wider_first : (w : ℕ) → MayChange (LINKED-ADD key caller payload) img w → MayAdd img key caller (payload ∷ more) w
  wider_first w (inl words) = inl words
  wider_first w (inr (inl block)) = inr (inl (added_block img, (first_taken, inl block)))
  wider_first w (inr (inr (inl link))) = inr (inr link)
  wider_first w (inr (inr (inr word))) = inr (inl (added_block img, (first_taken, inr word)))

  -- what the other payloads may change, where measures and entry stay, by what the link of the last block then is
  wider_rest : geometry_of image ≡ geometry_of img → entry_no image key ≡ entry_no img key
      → ((w : ℕ) → IsLastLink image (file_of image key) w → MayAdd img key caller (payload ∷ more) w)
      → (w : ℕ) → MayAdd image key caller more w → MayAdd img key caller (payload ∷ more) w
  unfolding taken_blocks
  wider_rest measures number last w (inl words) = inl (subst₂ (λ (g : Geometry) (e : ℕ). (entry_at g e + 6 ≤ w) × (w ≤ entry_at g e + 8)) measures number words)
  wider_rest measures number last w (inr (inl (b, (among, block)))) =
      inr (inl (
        b,
        (
          omega (arith, among, count_more b (added_block img) (taken_blocks image key caller more)),
          subst (λ (g : Geometry). ((block_at g b ≤ w) × (w < block_at g b + block_words g)) ⊎ MapWord g b w) measures block,
        ),
      ))
  wider_rest measures number last w (inr (inr link)) = last w link

  -- the file that the first payload was added to ends with its block
  module _ (success : (linked_add img key caller payload).code ≡ 0) where
    ends : (file_of image key).last.0 ≡ added_block img
    unfolding file_of
    ends =
        rw (again_measures img key caller payload success, again_number img key caller payload success)
        (linked_add_enlarged img key caller payload success).grown.final

    link_taken : (w : ℕ) → IsLastLink image (file_of image key) w → MayAdd img key caller (payload ∷ more) w
    link_taken w (some, link) =
        let at : w ≡ block_at (geometry_of img) (added_block img) = link ∙ rw (again_measures img key caller payload success, ends) refl in
        let sized = header_sized img (linked_add_admitted img key caller payload success).file.right.header in
        inr (inl (added_block img, (first_taken, inl (omega (arith, at), omega (arith, at, sized.some)))))

  -- accepted or refused
  wider : (w : ℕ) → MayAdd image key caller more w → MayAdd img key caller (payload ∷ more) w
  wider = by (ℕ_discrete (linked_add img key caller payload).code 0)
    where
      by : Dec ((linked_add img key caller payload).code ≡ 0) → (w : ℕ) → MayAdd image key caller more w → MayAdd img key caller (payload ∷ more) w
      by (yes success) = wider_rest (again_measures img key caller payload success) (again_number img key caller payload success) (link_taken success)
      by (no refused) =
          let same = (linked_add_refused img key caller payload refused).same_image in
          wider_rest (ap geometry_of same) (ap (λ (i : List ℕ). entry_no i key) same)
          (λ w link. inr (inr (subst (λ (i : List ℕ). IsLastLink i (file_of i key) w) same link)))

pub added_all_changes : (key : Key) (caller : ℕ) (img : List ℕ) (payloads : List (List ℕ))
    → ChangesOnly (MayAdd img key caller payloads) img (added_all img key caller payloads)
unfolding added_all
added_all_changes key caller img [] = changes_nothing
added_all_changes key caller img (payload ∷ more) =
    changes_then (changes_wider (wider_first key caller img payload more) (linked_add_changes img key caller payload))
    (changes_wider (wider key caller img payload more) (added_all_changes key caller (linked_add img key caller payload).image more))

bytes_changes : (img : List ℕ) (key : Key) (caller : ℕ) (wrong : Bool) (gather : List ℕ) (filled : ℕ) (bytes numbers : List ℕ)
    → ChangesOnly (MayAdd img key caller (gathered_in img gather filled bytes).full) img (bytes_written img key caller wrong gather filled bytes numbers).image
unfolding bytes_written
bytes_changes img key caller wrong gather filled bytes numbers =
    changes_settled (writing_rows img key caller wrong gather filled bytes) img gather _
    (λ clear. added_all_changes key caller img (gathered_in img gather filled bytes).full)

pub line_write_changes : (img : List ℕ) (key : Key) (caller mode : ℕ) (text gather : List ℕ) (filled : ℕ)
    → ChangesOnly (MayChange (LINE-WRITE key caller mode text gather filled) img) img (line_write img key caller mode text gather filled).image
unfolding line_write
line_write_changes img key caller mode text gather filled =
    bytes_changes img key caller (ltb 1 mode) gather filled (put_all (taken_of (mode_of mode) text)) _

pub line_end_changes : (img : List ℕ) (key : Key) (caller : ℕ) (gather : List ℕ) (filled : ℕ)
    → ChangesOnly (MayChange (LINE-END key caller gather filled) img) img (line_end img key caller gather filled).image
unfolding line_end
line_end_changes img key caller gather filled = bytes_changes img key caller false gather filled (nuls_for img filled) []

pub binary_write_changes : (img : List ℕ) (key : Key) (caller : ℕ) (content gather : List ℕ) (filled : ℕ)
    → ChangesOnly (MayChange (BINARY-WRITE key caller content gather filled) img) img (binary_write img key caller content gather filled).image
unfolding binary_write
binary_write_changes img key caller content gather filled = bytes_changes img key caller (ltb 512 (length content)) gather filled (binary_line content) _
