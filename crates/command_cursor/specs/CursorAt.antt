-- Means: what a cursor answers where it passes over one character, and what stands at a place of a line.
use Rattle.std.specs.Prelude.{ℕ, ◌+◌, List, Bool, cond, ◌&&◌, eqb, ltb, length, get_or}
use Rattle.radix.specs.Names.{blank}
use Rattle.command_grammar.specs.Reader.{Res, ok, no}
use Rattle.command_cursor.specs.Part.{Part, Read, Refused}

-- a reader that started at `at`
abbrev pub part_at : {A : Type 0} → ℕ → Res A → Part
part_at at (ok a n) = Read (record { at = at + n })
part_at at (no n) = Refused (at + n)

-- does the character stand at the place of the line?
unfoldable pub stands_at : List ℕ → ℕ → ℕ → Bool
stands_at line place character = ltb place (length line) && eqb (get_or line place 0) character

-- what stands at a place of a line; blanks from the end on
unfoldable pub character_at : List ℕ → ℕ → ℕ → ℕ
character_at line place end = cond (ltb place end) (get_or line place 0) blank
