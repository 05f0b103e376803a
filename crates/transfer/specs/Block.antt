-- BLOCK, input and output.
use Rattle.std.specs.Prelude.{ℕ, ◌+◌, List, []}
use Rattle.pack.specs.declared.Entry.{Entry}
use Rattle.pack.specs.declared.Key.{Key}
use Rattle.pack.specs.Geometry.{geometry_of}
use Rattle.asking.specs.Outcome.{Outcome, settled}
use Rattle.asking.specs.Asked.{file_of}
use Rattle.bodies.specs.BlockBytes.{block_start, block_of, with_part}
use Rattle.transfer.specs.BlockRows.{block_in_rows, block_out_rows}

-- "BLOCK: contiguous, places counted from 0 as for linked read": the block of a contiguous file at a place
abbrev pub block_at_place : Entry → ℕ → ℕ
block_at_place x place = x.first.0 + place

unfoldable pub block_in : List ℕ → Key → ℕ → ℕ → List ℕ → Outcome
block_in img key caller place buffer =
    settled (block_in_rows img key caller place buffer) img buffer
    (record { code = 0; numbers = []; image = img; buffer = block_of img (geometry_of img) (block_at_place (file_of img key) place) })

-- "and changes the 512 bytes of the image, starting at that block"
unfoldable pub block_out : List ℕ → Key → ℕ → ℕ → List ℕ → Outcome
block_out img key caller place buffer =
    settled (block_out_rows img key caller place buffer) img buffer
    (record {
      code = 0;
      numbers = [];
      image = with_part img (block_start (geometry_of img) (block_at_place (file_of img key) place)) buffer;
      buffer = buffer;
    })
