-- Bytes read from a linked file: what the requests that read have in common.
use Rattle.std.specs.Prelude.{ℕ, List, drop}
use Rattle.pack.specs.declared.Key.{Key}
use Rattle.pack.specs.Geometry.{geometry_of}
use Rattle.pack.specs.File.{blocks_of}
use Rattle.asking.specs.Asked.{file_of}
use Rattle.bodies.specs.Payloads.{payloads_of}

-- "Reading starts at a byte position in the file's payloads, joined": the bytes from there on
abbrev pub bytes_behind : List ℕ → Key → ℕ → List ℕ
bytes_behind img key position = drop position (payloads_of img (geometry_of img) (blocks_of img (geometry_of img) (file_of img key)))
