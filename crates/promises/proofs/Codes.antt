-- Every request on an image gives each code exactly in its case, and its cases stand in the order of the paper's table.
use Prim.Native.Nat.{ℕ, ◌<◌}
use mathlib.Core.Path.{◌≡◌, refl}
use mathlib.Core.Logic.{◌↔◌, ◌⊎◌}
use mathlib.Core.List.{List}
use lib.ListN.{length}
use Rattle.answers.specs.Refusals.{table_order, place_in}
use Rattle.opening.specs.declared.Opening.TheVariants.{Input, Update, Extension}
use Rattle.directory.specs.Renam.{new_key}
use Rattle.requests.specs.Request.{Request, outcome, FORMAT, ALLOC, OPENO, OPEN, CLOSE, DELET, RENAM, APPND, LOOK, KEEP, BLOCK-INPUT, BLOCK-OUTPUT, LINKED-READ, LINKED-ADD}
use Rattle.requests.specs.Request.{LINE-READ, LINE-WRITE, LINE-END, BINARY-READ, BINARY-WRITE, FINISH, OWNER}
use Rattle.promises.specs.GivenWhen.{GivesCode, InTableOrder}
use Rattle.promises.specs.Codes.{cases_of}
use Rattle.promises.proofs.GivenWhen.{exactly, gives_known}
use Rattle.promises.proofs.CodesFiles.{owner_code, finish_code, look_code, open_code, close_code, delet_code, keep_code, renam_code, appnd_code}
use Rattle.promises.proofs.CodesCreation.{format_code, openo_code, alloc_code}
use Rattle.promises.proofs.CodesBlocks.{block_in_code, block_out_code, linked_read_code, linked_add_code}
use Rattle.promises.proofs.CodesLines.{line_read_code, line_write_code, line_end_code}
use Rattle.promises.proofs.CodesBinary.{binary_read_code, binary_write_code}

pub code_given : (r : Request) (img : List ℕ) → GivesCode (cases_of r img) (outcome r img).code
code_given (FORMAT form blocks contents uics) img = format_code img form blocks contents uics
code_given (ALLOC key caller protect segments) img = alloc_code img key caller protect segments
code_given (OPENO key caller protect) img = openo_code img key caller protect
code_given (OPEN mode key caller) img = open_code mode img key caller
code_given (CLOSE key mode) img = close_code img key mode
code_given (DELET key caller) img = delet_code img key caller
code_given (RENAM old name1 name2 extension protect caller) img = renam_code img old (new_key old name1 name2 extension) protect caller
code_given (APPND first second caller) img = appnd_code img first second caller
code_given (LOOK key) img = look_code img key
code_given (KEEP key caller) img = keep_code img key caller
code_given (BLOCK-INPUT key caller place buffer) img = block_in_code img key caller place buffer
code_given (BLOCK-OUTPUT key caller place buffer) img = block_out_code img key caller place buffer
code_given (LINKED-READ key caller place buffer) img = linked_read_code img key caller place buffer
code_given (LINKED-ADD key caller payload) img = linked_add_code img key caller payload
code_given (LINE-READ key caller mode position buffer) img = line_read_code img key caller mode position buffer
code_given (LINE-WRITE key caller mode text gather filled) img = line_write_code img key caller mode text gather filled
code_given (LINE-END key caller gather filled) img = line_end_code img key caller gather filled
code_given (BINARY-READ key caller mode position to_come sum buffer) img = binary_read_code img key caller mode position to_come sum buffer
code_given (BINARY-WRITE key caller content gather filled) img = binary_write_code img key caller content gather filled
code_given (FINISH caller) img = finish_code img caller
code_given (OWNER block) img = owner_code img block

-- 1.2 "What cannot be done is refused with the code that the build document orders first"
pub code_iff : (r : Request) (img : List ℕ) (code : ℕ) → (outcome r img).code ≡ code ↔ GivesCode (cases_of r img) code
code_iff r img = exactly (cases_of r img) (code_given r img)

pub cases_ordered : (r : Request) (img : List ℕ) → InTableOrder (cases_of r img)
cases_ordered (FORMAT form blocks contents uics) img = refl
cases_ordered (ALLOC key caller protect segments) img = refl
cases_ordered (OPENO key caller protect) img = refl
cases_ordered (OPEN Input key caller) img = refl
cases_ordered (OPEN Update key caller) img = refl
cases_ordered (OPEN Extension key caller) img = refl
cases_ordered (CLOSE key mode) img = refl
cases_ordered (DELET key caller) img = refl
cases_ordered (RENAM old name1 name2 extension protect caller) img = refl
cases_ordered (APPND first second caller) img = refl
cases_ordered (LOOK key) img = refl
cases_ordered (KEEP key caller) img = refl
cases_ordered (BLOCK-INPUT key caller place buffer) img = refl
cases_ordered (BLOCK-OUTPUT key caller place buffer) img = refl
cases_ordered (LINKED-READ key caller place buffer) img = refl
cases_ordered (LINKED-ADD key caller payload) img = refl
cases_ordered (LINE-READ key caller mode position buffer) img = refl
cases_ordered (LINE-WRITE key caller mode text gather filled) img = refl
cases_ordered (LINE-END key caller gather filled) img = refl
cases_ordered (BINARY-READ key caller mode position to_come sum buffer) img = refl
cases_ordered (BINARY-WRITE key caller content gather filled) img = refl
cases_ordered (FINISH caller) img = refl
cases_ordered (OWNER block) img = refl

-- 1.1: any request on any image has a code, 0 or one of the paper's table
pub code_known : (r : Request) (img : List ℕ) → ((outcome r img).code ≡ 0) ⊎ (place_in table_order (outcome r img).code < length table_order)
code_known r img = gives_known (cases_of r img) (cases_ordered r img) (code_given r img)
