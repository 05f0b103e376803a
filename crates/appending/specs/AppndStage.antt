-- Means: the stages of APPND: two files looked for, what its rows decide, and what is known where the files are joined.
use Rattle.std.specs.Prelude.{ℕ, ◌+◌, ◌≤◌, ◌<◌, List, Result, Ok, Err, Some, None}
use Rattle.std.specs.declared.option.Option.{Option as Answered}
use Rattle.std.proofs.Math.Option.{Option, none, some}
use Rattle.answers.specs.declared.Refusal.{Refusal}
use Rattle.answers.specs.Refusals.{first_of, on_success, code_of}
use Rattle.pack.specs.declared.Geometry.{Geometry}
use Rattle.pack.specs.declared.Entry.{Entry}
use Rattle.pack.specs.declared.Key.{Key}
use Rattle.pack.specs.Geometry.{geometry_of, slots}
use Rattle.pack.specs.GeometrySized.{Sized}
use Rattle.pack.specs.Entry.{entry_of}
use Rattle.asking.specs.KeysTest.{find_from}
use Rattle.asking.specs.Asked.{entry_no, file_of}
use Rattle.appending.specs.declared.appnd.Joining.{Joining}
use Rattle.appending.specs.AppndRows.{appnd_rows}

-- the entries of two files, or that one of them is missing
pub data Both : Type 0 where
  Files : ℕ → Entry → ℕ → Entry → Both
  Missing : Both

-- what to join: the measures, the first file's entry and its number, the second's; or a refusal's code
pub data Appending : Type 0 where
  Join : Geometry → ℕ → Entry → ℕ → Entry → Appending
  Refused : ℕ → Appending

-- the entries of two keys
unfoldable pub both_at : List ℕ → Geometry → Option ℕ → Option ℕ → Both
both_at img g none o = Missing
both_at img g (some e) none = Missing
both_at img g (some e) (some f) = Files e (entry_of img g e) f (entry_of img g f)

unfoldable pub both_of : List ℕ → Geometry → Key → Key → Both
both_of img g first second = both_at img g (find_from img g first 0 (slots g)) (find_from img g second 0 (slots g))

-- what all rows together decide
unfoldable pub appending_of : List ℕ → Key → Key → ℕ → Appending
appending_of img first second caller =
    on_success (first_of (appnd_rows img first second caller))
    (Join (geometry_of img) (entry_no img first) (file_of img first) (entry_no img second) (file_of img second))
    (Refused (first_of (appnd_rows img first second caller)))

-- both answers as the code gives them
abbrev pub both_in : Answered Joining → Both
both_in (Some both) = Files both.first.number both.first.entry both.second.number both.second.entry
both_in None = Missing

abbrev pub appending_in : Result Joining Refusal → Appending
appending_in (Ok both) = Join both.first.geometry both.first.number both.first.entry both.second.number both.second.entry
appending_in (Err refusal) = Refused (code_of refusal)

-- what the writing of a joined chain counts on: no number is too large for a word, and the last block of a file that has blocks is a body
pub record Joinable (img : List ℕ) (g : Geometry) (e : ℕ) (x y : Entry) : Type 0 where
  pub sized : Sized img g
  pub entry : e < slots g
  pub fits : x.length + y.length < 65536
  pub first : x.first.0 < 65536
  pub begin : y.first.0 < 65536
  pub end : y.last.0 < 65536
  pub last : 0 < x.length → (g.bodies.0 ≤ x.last.0) × (x.last.0 < g.blocks)
