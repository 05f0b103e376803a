-- The payloads of a file, and the image after a CLOSE and an OPENI: what the round trips of lines speak of.
use Rattle.std.specs.Prelude.{ℕ, List}
use Rattle.pack.specs.declared.Key.{Key}
use Rattle.pack.specs.Geometry.{geometry_of}
use Rattle.pack.specs.File.{blocks_of}
use Rattle.asking.specs.Asked.{file_of}
use Rattle.opening.specs.declared.Opening.TheVariants.{Input}
use Rattle.opening.specs.Open.{opened}
use Rattle.opening.specs.Close.{close}
use Rattle.bodies.specs.Payloads.{payloads_of}

-- "the file's payloads, joined"
abbrev pub payloads_in : List ℕ → Key → List ℕ
payloads_in img key = payloads_of img (geometry_of img) (blocks_of img (geometry_of img) (file_of img key))

-- CLOSE of a mode, then OPENI: the image
abbrev pub reopened : List ℕ → Key → ℕ → ℕ → List ℕ
reopened img key mode caller = (opened Input (close img key mode).image key caller).image
