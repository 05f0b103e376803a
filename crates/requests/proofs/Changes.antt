-- Nothing else changes: on any image, consistent or not, refused or done, a request changes the words that it may change and no other.
use Prim.Native.Nat.{ℕ, ◌/◌}
use mathlib.Core.Path.{◌≡◌, sym, subst}
use mathlib.Core.List.{List}
use lib.ListN.{length, get_or}
use Rattle.words.specs.Word.{word_at}
use Rattle.opening.specs.declared.Opening.TheVariants.{Input, Update, Extension}
use Rattle.opening.proofs.OpenEffect.{open_changes}
use Rattle.directory.proofs.DeletEffect.{delet_changes}
use Rattle.adding.proofs.LinkedAddEffect.{linked_add_changes}
use Rattle.lines.proofs.LineReadingStage.{line_read_image}
use Rattle.binary.proofs.BinaryReadingStage.{binary_read_image}
use Rattle.requests.specs.Request.{Request, outcome, FORMAT, ALLOC, OPENO, OPEN, CLOSE, DELET, RENAM, APPND, LOOK, KEEP, BLOCK-INPUT, BLOCK-OUTPUT, LINKED-READ, LINKED-ADD}
use Rattle.requests.specs.Request.{LINE-READ, LINE-WRITE, LINE-END, BINARY-READ, BINARY-WRITE, FINISH, OWNER}
use Rattle.requests.specs.Changes.{MayChange}
use Rattle.requests.proofs.RequestAsking.{look_image, owner_image, block_in_image, linked_read_image}
use Rattle.frame.specs.Framed.{ChangesOnly}
use Rattle.frame.proofs.ChangesWritten.{word_kept, changes_nothing}
use Rattle.requests.proofs.ChangesEntries.{openo_changes, close_changes, keep_changes, renam_changes}
use Rattle.requests.proofs.ChangesBodies.{format_changes, alloc_changes, appnd_changes, block_output_changes}
use Rattle.requests.proofs.ChangesFinish.{finish_changes}
use Rattle.requests.proofs.ChangesLines.{line_write_changes, line_end_changes, binary_write_changes}

-- the image is as it was
kept_changes : {May : ℕ → Type 0} {img after : List ℕ} → after ≡ img → ChangesOnly May img after
kept_changes {May} {img} same = subst (ChangesOnly May img) (sym same) changes_nothing

changes_only : (r : Request) (img : List ℕ) → ChangesOnly (MayChange r img) img (outcome r img).image
changes_only (FORMAT form blocks contents uics) img = format_changes img form blocks contents uics
changes_only (ALLOC key caller protect segments) img = alloc_changes img key caller protect segments
changes_only (OPENO key caller protect) img = openo_changes img key caller protect
changes_only (OPEN Input key caller) img = open_changes Input img key caller
changes_only (OPEN Update key caller) img = open_changes Update img key caller
changes_only (OPEN Extension key caller) img = open_changes Extension img key caller
changes_only (CLOSE key mode) img = close_changes img key mode
changes_only (DELET key caller) img = delet_changes img key caller
changes_only (RENAM old name1 name2 extension protect caller) img = renam_changes img old name1 name2 extension protect caller
changes_only (APPND first second caller) img = appnd_changes img first second caller
changes_only (LOOK key) img = kept_changes (look_image img key)
changes_only (KEEP key caller) img = keep_changes img key caller
changes_only (BLOCK-INPUT key caller place buffer) img = kept_changes (block_in_image img key caller place buffer)
changes_only (BLOCK-OUTPUT key caller place buffer) img = block_output_changes img key caller place buffer
changes_only (LINKED-READ key caller place buffer) img = kept_changes (linked_read_image img key caller place buffer)
changes_only (LINKED-ADD key caller payload) img = linked_add_changes img key caller payload
changes_only (LINE-READ key caller mode position buffer) img = kept_changes (line_read_image img key caller mode position buffer)
changes_only (LINE-WRITE key caller mode text gather filled) img = line_write_changes img key caller mode text gather filled
changes_only (LINE-END key caller gather filled) img = line_end_changes img key caller gather filled
changes_only (BINARY-READ key caller mode position to_come sum buffer) img = kept_changes (binary_read_image img key caller mode position to_come sum buffer)
changes_only (BINARY-WRITE key caller content gather filled) img = binary_write_changes img key caller content gather filled
changes_only (FINISH caller) img = finish_changes img caller
changes_only (OWNER block) img = kept_changes (owner_image img block)

-- every other word is the same,
pub nothing_else : (r : Request) (img : List ℕ) (w : ℕ) → (MayChange r img w → ⊥) → word_at (outcome r img).image w ≡ word_at img w
nothing_else r img = word_kept (changes_only r img)

-- and every byte of one
pub no_other_byte : (r : Request) (img : List ℕ) (k : ℕ) → (MayChange r img (k / 2) → ⊥) → get_or (outcome r img).image k 0 ≡ get_or img k 0
no_other_byte r img = (changes_only r img).bytes

pub same_length : (r : Request) (img : List ℕ) → length (outcome r img).image ≡ length img
same_length r img = (changes_only r img).long
