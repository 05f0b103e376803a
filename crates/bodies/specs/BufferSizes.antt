-- Means: is a lent buffer of another size than asked? `code_iff` (promises) ties it to the propositions of the paper.
use Rattle.std.specs.Prelude.{ℕ, Bool, not, List, eqb, length}
use Rattle.pack.specs.Geometry.{geometry_of, block_bytes, payload_bytes}

-- "41: .. buffer not of the size asked": "buffer of 512", the bytes of a block of the image's form
abbrev pub wrong_block : List ℕ → List ℕ → Bool
wrong_block img buffer = not (eqb (length buffer) (block_bytes (geometry_of img)))

-- "buffer of 510": the bytes of a payload of the image's form
abbrev pub wrong_payload : List ℕ → List ℕ → Bool
wrong_payload img buffer = not (eqb (length buffer) (payload_bytes (geometry_of img)))
