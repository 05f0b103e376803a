-- A linked add, then CLOSE of the mode that the file is open with, then OPENI: the images after each.
use Rattle.std.specs.Prelude.{ℕ, List}
use Rattle.pack.specs.declared.Key.{Key}
use Rattle.asking.specs.Asked.{file_of}
use Rattle.opening.specs.declared.Opening.TheVariants.{Input}
use Rattle.opening.specs.Open.{opened}
use Rattle.opening.specs.Close.{close}
use Rattle.adding.specs.LinkedAdd.{linked_add}

abbrev pub added_image : List ℕ → Key → ℕ → List ℕ → List ℕ
added_image img key caller payload = (linked_add img key caller payload).image

abbrev pub closed_image : List ℕ → Key → ℕ → List ℕ → List ℕ
closed_image img key caller payload = (close (added_image img key caller payload) key (file_of img key).writer).image

abbrev pub opened_image : List ℕ → Key → ℕ → List ℕ → List ℕ
opened_image img key caller payload = (opened Input (closed_image img key caller payload) key caller).image
