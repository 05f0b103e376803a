-- From a consistent image every request leaves a consistent one, refused or done.
use Prim.Native.Nat.{ℕ}
use mathlib.Core.Path.{◌≡◌, refl, sym, subst}
use mathlib.Core.List.{List}
use Rattle.pack.specs.Consistent.{Consistent}
use Rattle.creation.proofs.FormatEffect.{format_consistent}
use Rattle.creation.proofs.AllocEffect.{alloc_consistent}
use Rattle.creation.proofs.OpenoEffect.{openo_consistent}
use Rattle.opening.proofs.OpenEffect.{open_consistent}
use Rattle.opening.proofs.CloseEffect.{close_consistent}
use Rattle.directory.specs.Renam.{new_key}
use Rattle.directory.proofs.DeletEffect.{delet_consistent}
use Rattle.directory.proofs.KeepEffect.{keep_consistent}
use Rattle.directory.proofs.RenamEffect.{renam_consistent}
use Rattle.finishing.proofs.FinishEffect.{finish_consistent}
use Rattle.transfer.proofs.BlockWritten.{block_out_consistent}
use Rattle.appending.proofs.AppndEffect.{appnd_consistent}
use Rattle.adding.proofs.LinkedAddEffect.{linked_add_consistent}
use Rattle.lines.proofs.LineReadingStage.{line_read_image}
use Rattle.lines.proofs.LineWritingEffect.{line_write_consistent}
use Rattle.lines.proofs.LineWritingEnding.{line_end_consistent}
use Rattle.binary.proofs.BinaryReadingStage.{binary_read_image}
use Rattle.binary.proofs.BinaryWritingEffect.{binary_write_consistent}
use Rattle.requests.specs.Request.{Request, outcome, FORMAT, ALLOC, OPENO, OPEN, CLOSE, DELET, RENAM, APPND, LOOK, KEEP, BLOCK-INPUT, BLOCK-OUTPUT, LINKED-READ, LINKED-ADD}
use Rattle.requests.specs.Request.{LINE-READ, LINE-WRITE, LINE-END, BINARY-READ, BINARY-WRITE, FINISH, OWNER}
use Rattle.requests.proofs.RequestFormat.{format_by}
use Rattle.requests.proofs.RequestAsking.{look_image, owner_image, block_in_image, linked_read_image}

-- the image is as it was
kept_right : {img after : List ℕ} → after ≡ img → Consistent img → Consistent after
kept_right same right = subst Consistent (sym same) right

-- 2.2 "The image stays consistent"
pub stays_consistent : (r : Request) {img : List ℕ} → Consistent img → Consistent (outcome r img).image
stays_consistent (FORMAT form blocks contents uics) {img} right = format_by img form blocks contents uics Consistent right (format_consistent img form blocks contents uics)
stays_consistent (ALLOC key caller protect segments) {img} right = alloc_consistent img key caller protect segments right
stays_consistent (OPENO key caller protect) {img} right = openo_consistent img key caller protect right
stays_consistent (OPEN mode key caller) {img} right = open_consistent mode img key caller right
stays_consistent (CLOSE key mode) {img} right = close_consistent img key mode right
stays_consistent (DELET key caller) {img} right = delet_consistent img key caller right
stays_consistent (RENAM old name1 name2 extension protect caller) {img} right =
    renam_consistent img old (new_key old name1 name2 extension) protect caller right refl
stays_consistent (APPND first second caller) {img} right = appnd_consistent img first second caller right
stays_consistent (LOOK key) {img} right = kept_right (look_image img key) right
stays_consistent (KEEP key caller) {img} right = keep_consistent img key caller right
stays_consistent (BLOCK-INPUT key caller place buffer) {img} right = kept_right (block_in_image img key caller place buffer) right
stays_consistent (BLOCK-OUTPUT key caller place buffer) {img} right = block_out_consistent img key caller place buffer right
stays_consistent (LINKED-READ key caller place buffer) {img} right = kept_right (linked_read_image img key caller place buffer) right
stays_consistent (LINKED-ADD key caller payload) {img} right = linked_add_consistent img key caller payload right
stays_consistent (LINE-READ key caller mode position buffer) {img} right = kept_right (line_read_image img key caller mode position buffer) right
stays_consistent (LINE-WRITE key caller mode text gather filled) {img} right = line_write_consistent img key caller mode text gather filled right
stays_consistent (LINE-END key caller gather filled) {img} right = line_end_consistent img key caller gather filled right
stays_consistent (BINARY-READ key caller mode position to_come sum buffer) {img} right = kept_right (binary_read_image img key caller mode position to_come sum buffer) right
stays_consistent (BINARY-WRITE key caller content gather filled) {img} right = binary_write_consistent img key caller content gather filled right
stays_consistent (FINISH caller) {img} right = finish_consistent img caller right
stays_consistent (OWNER block) {img} right = kept_right (owner_image img block) right
