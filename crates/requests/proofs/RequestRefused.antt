-- A refused request leaves the image and what was lent as they were, and answers zeros.
use Prim.Native.Nat.{ℕ}
use mathlib.Core.Path.{◌≡◌, refl, subst}
use mathlib.Core.List.{List, []}
use lib.ListN.{replicate}
use Rattle.pack.specs.declared.Key.{Key}
use Rattle.pack.specs.declared.Owner.{Owner}
use Rattle.pack.specs.declared.Owner.TheVariants.{System, Free, Held}
use Rattle.pack.specs.Owner.{owner_of}
use Rattle.asking.specs.Outcome.{zeroed, Unchanged}
use Rattle.asking.proofs.Outcome.{refusal_keeps}
use Rattle.owners.specs.OwnerQuestionRows.{owner_rows}
use Rattle.owners.specs.OwnerQuestion.{owner_numbers, owner}
use Rattle.creation.proofs.FormatRows.{format_unchanged}
use Rattle.creation.proofs.AllocEffect.{alloc_refused}
use Rattle.creation.proofs.OpenoEffect.{openo_refused}
use Rattle.opening.proofs.OpenEffect.{open_refused}
use Rattle.opening.proofs.CloseEffect.{close_refused}
use Rattle.directory.specs.LookRows.{look_rows}
use Rattle.directory.specs.Look.{look}
use Rattle.directory.specs.Renam.{new_key}
use Rattle.directory.proofs.DeletEffect.{delet_refused}
use Rattle.directory.proofs.KeepEffect.{keep_refused}
use Rattle.directory.proofs.RenamEffect.{renam_refused}
use Rattle.finishing.proofs.FinishEffect.{finish_refused}
use Rattle.transfer.proofs.BlockIn.{block_in_refused}
use Rattle.transfer.proofs.BlockOut.{block_out_refused}
use Rattle.transfer.proofs.LinkedReadStage.{linked_read_refused}
use Rattle.appending.proofs.AppndEffect.{appnd_refused}
use Rattle.adding.proofs.LinkedAddEffect.{linked_add_refused}
use Rattle.lines.proofs.LineReadingStage.{line_read_refused}
use Rattle.lines.proofs.LineWritingEffect.{line_write_refused}
use Rattle.lines.proofs.LineWritingEnding.{line_end_refused}
use Rattle.binary.proofs.BinaryReadingStage.{binary_read_refused}
use Rattle.binary.proofs.BinaryWritingEffect.{binary_write_refused}
use Rattle.requests.specs.Contract.{numbers_in, contract_of}
use Rattle.requests.specs.Request.{Request, outcome, buffer_lent, FORMAT, ALLOC, OPENO, OPEN, CLOSE, DELET, RENAM, APPND, LOOK, KEEP}
use Rattle.requests.specs.Request.{BLOCK-INPUT, BLOCK-OUTPUT, LINKED-READ, LINKED-ADD, LINE-READ, LINE-WRITE, LINE-END, BINARY-READ, BINARY-WRITE, FINISH, OWNER}

look_unchanged : (img : List ℕ) (key : Key) → ((look img key).code ≡ 0 → ⊥) → Unchanged (look img key) (replicate 6 0) img []
unfolding look
look_unchanged img key = refusal_keeps (look_rows img key) img [] _

owner_zeros : (who : Owner) → zeroed (owner_numbers who) ≡ replicate 3 0
unfolding owner_numbers
owner_zeros System = refl
owner_zeros Free = refl
owner_zeros (Held e p) = refl

owner_unchanged : (img : List ℕ) (block : ℕ) → ((owner img block).code ≡ 0 → ⊥) → Unchanged (owner img block) (replicate 3 0) img []
unfolding owner
owner_unchanged img block never =
    subst (λ (zeros : List ℕ). Unchanged (owner img block) zeros img []) (owner_zeros (owner_of img block)) (refusal_keeps (owner_rows img block) img [] _ never)

-- 1.3 "and the image and each lent buffer then hold what they held before"; "any other number in the answer 0"
pub refusal_leaves : (r : Request) (img : List ℕ) → ((outcome r img).code ≡ 0 → ⊥)
    → Unchanged (outcome r img) (replicate (numbers_in (contract_of r)) 0) img (buffer_lent r)
refusal_leaves (FORMAT form blocks contents uics) img = format_unchanged img form blocks contents uics
refusal_leaves (ALLOC key caller protect segments) img = alloc_refused img key caller protect segments
refusal_leaves (OPENO key caller protect) img = openo_refused img key caller protect
refusal_leaves (OPEN mode key caller) img = open_refused mode img key caller
refusal_leaves (CLOSE key mode) img = close_refused img key mode
refusal_leaves (DELET key caller) img = delet_refused img key caller
refusal_leaves (RENAM old name1 name2 extension protect caller) img = renam_refused img old (new_key old name1 name2 extension) protect caller
refusal_leaves (APPND first second caller) img = appnd_refused img first second caller
refusal_leaves (LOOK key) img = look_unchanged img key
refusal_leaves (KEEP key caller) img = keep_refused img key caller
refusal_leaves (BLOCK-INPUT key caller place buffer) img = block_in_refused img key caller place buffer
refusal_leaves (BLOCK-OUTPUT key caller place buffer) img = block_out_refused img key caller place buffer
refusal_leaves (LINKED-READ key caller place buffer) img = linked_read_refused img key caller place buffer
refusal_leaves (LINKED-ADD key caller payload) img = linked_add_refused img key caller payload
refusal_leaves (LINE-READ key caller mode position buffer) img = line_read_refused img key caller mode position buffer
refusal_leaves (LINE-WRITE key caller mode text gather filled) img = line_write_refused img key caller mode text gather filled
refusal_leaves (LINE-END key caller gather filled) img = line_end_refused img key caller gather filled
refusal_leaves (BINARY-READ key caller mode position to_come sum buffer) img = binary_read_refused img key caller mode position to_come sum buffer
refusal_leaves (BINARY-WRITE key caller content gather filled) img = binary_write_refused img key caller content gather filled
refusal_leaves (FINISH caller) img = finish_refused img caller
refusal_leaves (OWNER block) img = owner_unchanged img block
