-- Linked read.
use Rattle.std.specs.Prelude.{ℕ, List, [], get_or}
use Rattle.pack.specs.declared.Key.{Key}
use Rattle.pack.specs.File.{blocks_of}
use Rattle.pack.specs.Geometry.{geometry_of}
use Rattle.asking.specs.Outcome.{Outcome, settled}
use Rattle.asking.specs.Asked.{file_of}
use Rattle.bodies.specs.BlockBytes.{payload_of}
use Rattle.bodies.specs.BufferSizes.{wrong_payload}
use Rattle.transfer.specs.LinkedReadRows.{linked_read_rows}

-- the payload of the place-th block of the chain, counted from 0
unfoldable pub linked_read : List ℕ → Key → ℕ → ℕ → List ℕ → Outcome
linked_read img key caller place buffer =
    settled (linked_read_rows img key caller place (wrong_payload img buffer)) img buffer
    (record {
      code = 0;
      numbers = [];
      image = img;
      buffer = payload_of img (geometry_of img) (get_or (blocks_of img (geometry_of img) (file_of img key)) place 0);
    })
