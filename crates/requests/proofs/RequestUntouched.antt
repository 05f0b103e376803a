-- A file that a request does not name has the same entry words and the same body bytes afterwards.
use Prim.Native.Nat.{ℕ}
use mathlib.Core.Path.{◌≡◌, sym, subst, ◌∙◌}
use mathlib.Core.Logic.{inl, inr}
use mathlib.Core.List.{List}
use Rattle.pack.specs.declared.Key.{Key}
use Rattle.pack.specs.Consistent.{Consistent}
use Rattle.pack.specs.Untouched.{Untouched}
use Rattle.frame.proofs.UntouchedFramed.{untouched_refl}
use Rattle.creation.proofs.AllocEffect.{alloc_untouched}
use Rattle.creation.proofs.OpenoEffect.{openo_untouched}
use Rattle.opening.proofs.OpenEffect.{open_untouched}
use Rattle.opening.proofs.CloseEffect.{close_untouched}
use Rattle.directory.specs.Renam.{new_key}
use Rattle.directory.proofs.DeletEffect.{delet_untouched}
use Rattle.directory.proofs.KeepEffect.{keep_untouched}
use Rattle.directory.proofs.RenamEffect.{renam_untouched}
use Rattle.finishing.proofs.FinishEffect.{finish_untouched}
use Rattle.transfer.proofs.BlockWritten.{block_out_untouched}
use Rattle.appending.proofs.AppndEffect.{appnd_untouched}
use Rattle.adding.proofs.LinkedAddEffect.{linked_add_untouched}
use Rattle.lines.proofs.LineReadingStage.{line_read_image}
use Rattle.lines.proofs.LineWritingEffect.{line_write_untouched}
use Rattle.lines.proofs.LineWritingEnding.{line_end_untouched}
use Rattle.binary.proofs.BinaryReadingStage.{binary_read_image}
use Rattle.binary.proofs.BinaryWritingEffect.{binary_write_untouched}
use Rattle.requests.specs.Request.{Request, outcome, Names, FORMAT, ALLOC, OPENO, OPEN, CLOSE, DELET, RENAM, APPND, LOOK, KEEP, BLOCK-INPUT, BLOCK-OUTPUT, LINKED-READ, LINKED-ADD}
use Rattle.requests.specs.Request.{LINE-READ, LINE-WRITE, LINE-END, BINARY-READ, BINARY-WRITE, FINISH, OWNER}
use Rattle.requests.proofs.RequestAsking.{look_image, owner_image, block_in_image, linked_read_image}

-- the image is as it was
kept_untouched : {img after : List ℕ} (who : Key) → after ≡ img → Untouched who img after
kept_untouched {img} who same = subst (Untouched who img) (sym same) (untouched_refl who img)

-- what a request leaves alone: every file that it does not name
pub who_is_not_named : (r : Request) {img : List ℕ} → Consistent img → (who : Key) → (Names r who → ⊥) → Untouched who img (outcome r img).image
who_is_not_named (FORMAT form blocks contents uics) {img} right who apart = absurd (apart tt)
who_is_not_named (ALLOC key caller protect segments) {img} right who apart = alloc_untouched img key caller protect segments who
who_is_not_named (OPENO key caller protect) {img} right who apart = openo_untouched img key caller protect who
who_is_not_named (OPEN mode key caller) {img} right who apart = open_untouched mode img key caller who apart
who_is_not_named (CLOSE key mode) {img} right who apart = close_untouched img key mode who apart
who_is_not_named (DELET key caller) {img} right who apart = delet_untouched img key caller right who apart
who_is_not_named (RENAM old name1 name2 extension protect caller) {img} right who apart =
    renam_untouched img old (new_key old name1 name2 extension) protect caller right who (λ is. apart (inl is))
who_is_not_named (APPND first second caller) {img} right who apart =
    appnd_untouched img first second caller who (λ is. apart (inl is)) (λ is. apart (inr is))
who_is_not_named (LOOK key) {img} right who apart = kept_untouched who (look_image img key)
who_is_not_named (KEEP key caller) {img} right who apart = keep_untouched img key caller right who apart
who_is_not_named (BLOCK-INPUT key caller place buffer) {img} right who apart = kept_untouched who (block_in_image img key caller place buffer)
who_is_not_named (BLOCK-OUTPUT key caller place buffer) {img} right who apart = block_out_untouched img key caller place buffer who apart
who_is_not_named (LINKED-READ key caller place buffer) {img} right who apart = kept_untouched who (linked_read_image img key caller place buffer)
who_is_not_named (LINKED-ADD key caller payload) {img} right who apart = linked_add_untouched img key caller payload who apart
who_is_not_named (LINE-READ key caller mode position buffer) {img} right who apart = kept_untouched who (line_read_image img key caller mode position buffer)
who_is_not_named (LINE-WRITE key caller mode text gather filled) {img} right who apart = line_write_untouched img key caller mode text gather filled who apart
who_is_not_named (LINE-END key caller gather filled) {img} right who apart = line_end_untouched img key caller gather filled who apart
who_is_not_named (BINARY-READ key caller mode position to_come sum buffer) {img} right who apart =
    kept_untouched who (binary_read_image img key caller mode position to_come sum buffer)
who_is_not_named (BINARY-WRITE key caller content gather filled) {img} right who apart = binary_write_untouched img key caller content gather filled who apart
who_is_not_named (FINISH caller) {img} right who apart = finish_untouched right caller who (λ e scratch keyed. apart (sym keyed.uic ∙ scratch.own))
who_is_not_named (OWNER block) {img} right who apart = kept_untouched who (owner_image img block)
