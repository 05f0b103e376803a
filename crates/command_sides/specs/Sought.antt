-- Means: what is known where a side, or the rest of one, was read: how many specifications it has, where one of them begins, whether their numbers keep
-- the bounds, and where it ends.
use Rattle.std.specs.Prelude.{ℕ, ◌≡◌, true, false, List, length, Result, Ok, Err}
use Rattle.std.proofs.Math.Option.{none, some}
use Rattle.command_grammar.specs.LineCharacters.{comma}
use Rattle.command_grammar.specs.Parsed.{Specification, Parsed}
use Rattle.command_grammar.specs.Reading.{side_of, specification_at}
use Rattle.command_grammar.specs.Keeps.{side_keeps, line_keeps}
use Rattle.command_grammar.specs.Reader.{is, Res, ok, no, seq, one_character, many, second, specification, from, read_line}
use Rattle.command_cursor.specs.declared.Cursor.{Cursor}
use Rattle.command_cursor.specs.declared.Misread.{Misread}
use Rattle.command_sides.specs.declared.SideFound.{SideFound}
use Rattle.command_sides.specs.Located.{Located}
use Rattle.command_sides.specs.Located as L

-- what was read, and where it ends; or the place of the refusal
pub data Sought : Type 0 where
  Read : SideFound → Cursor → Sought
  Refused : ℕ → Sought

abbrev pub sought_in : Result (SideFound × Cursor) Misread → Sought
sought_in (Ok read) = Read read.0 read.1
sought_in (Err misread) = Refused misread.place

-- "each comma outside brackets begins another": what a side has behind a specification
unfoldable pub behind_comma : List ℕ → Res (List Specification)
unfolding specification one_character many
behind_comma = many (is comma) (seq second (one_character (is comma)) specification)

-- specification k of the list, if it has one there, begins at this place of the line
abbrev pub BeginsAt : List ℕ → ℕ → List Specification → ℕ → Type 0
BeginsAt line k vs start = (v : Specification) → specification_at k vs ≡ some v → (end : ℕ) × (from specification line start ≡ ok v end)

pub data SoughtAt (line : List ℕ) (k : ℕ) : Res (List Specification) → Sought → Type 0 where
  refused : {place : ℕ} → SoughtAt line k (no place) (Refused place)
  read : {vs : List Specification} {end : ℕ} {found : SideFound} → found.count ≡ length vs → BeginsAt line k vs found.start.at → found.keeps ≡ side_keeps vs
      → SoughtAt line k (ok vs end) (Read found (record { at = end }))

-- where specification k of a side of the whole line begins; that there is none; that a number is over its bound; or the place at which the line is refused
pub data LocatedIn (line : List ℕ) (side k : ℕ) : Located → Type 0 where
  refused : {place : ℕ} → read_line line ≡ no place → LocatedIn line side k (L.Refused place)
  large : {said : Parsed} {n : ℕ} → read_line line ≡ ok said n → line_keeps said ≡ false → LocatedIn line side k L.TooLarge
  missing : {said : Parsed} {n : ℕ} → read_line line ≡ ok said n → line_keeps said ≡ true → specification_at k (side_of side said) ≡ none
      → LocatedIn line side k L.Missing
  located : {said : Parsed} {n start end : ℕ} {v : Specification} → read_line line ≡ ok said n → line_keeps said ≡ true → specification_at k (side_of side said) ≡ some v
      → from specification line start ≡ ok v end → LocatedIn line side k (L.At (record { at = start }))
