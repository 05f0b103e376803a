-- The requests that only ask leave the image as it is.
use Prim.Native.Nat.{ℕ}
use mathlib.Core.Path.{◌≡◌, refl}
use mathlib.Core.List.{List, []}
use Rattle.answers.specs.Refusals.{Row}
use Rattle.pack.specs.declared.Key.{Key}
use Rattle.asking.specs.Outcome.{settled}
use Rattle.asking.proofs.Outcome.{image_by}
use Rattle.owners.specs.OwnerQuestionRows.{owner_rows}
use Rattle.owners.specs.OwnerQuestion.{owner}
use Rattle.directory.specs.LookRows.{look_rows}
use Rattle.directory.specs.Look.{look}
use Rattle.transfer.specs.BlockRows.{block_in_rows}
use Rattle.transfer.specs.Block.{block_in}
use Rattle.bodies.specs.BufferSizes.{wrong_payload}
use Rattle.transfer.specs.LinkedReadRows.{linked_read_rows}
use Rattle.transfer.specs.LinkedRead.{linked_read}

-- an effect that has the image as it was
asked_image : (rows : List Row) (img buffer numbers given : List ℕ)
    → (settled rows img buffer (record { code = 0; numbers = numbers; image = img; buffer = given })).image ≡ img
asked_image rows img buffer numbers given = image_by rows img buffer _ (λ (after : List ℕ). after ≡ img) refl (λ clear. refl)

pub look_image : (img : List ℕ) (key : Key) → (look img key).image ≡ img
unfolding look
look_image img key = asked_image (look_rows img key) img [] _ []

pub owner_image : (img : List ℕ) (block : ℕ) → (owner img block).image ≡ img
unfolding owner
owner_image img block = asked_image (owner_rows img block) img [] _ []

pub block_in_image : (img : List ℕ) (key : Key) (caller place : ℕ) (buffer : List ℕ) → (block_in img key caller place buffer).image ≡ img
unfolding block_in
block_in_image img key caller place buffer = asked_image (block_in_rows img key caller place buffer) img buffer [] _

pub linked_read_image : (img : List ℕ) (key : Key) (caller place : ℕ) (buffer : List ℕ) → (linked_read img key caller place buffer).image ≡ img
unfolding linked_read
linked_read_image img key caller place buffer = asked_image (linked_read_rows img key caller place (wrong_payload img buffer)) img buffer [] _
