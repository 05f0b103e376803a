-- Means: how what was read of a side, and of the two sides, goes together.
use Rattle.std.specs.Prelude.{ℕ, zero, suc, ◌+◌, ◌<◌, ◌^◌, Bool, true, cond, ◌&&◌, List, eqb, ltb}
use Rattle.std.proofs.Math.Option.{Option}
use Rattle.command_grammar.specs.LineCharacters.{less}
use Rattle.command_grammar.specs.Parsed.{Specification}
use Rattle.command_grammar.specs.Reading.{input_of}
use Rattle.command_grammar.specs.Reader.{is, Res, mapped, from, seq, one_character, opt, second, side}
use Rattle.command_cursor.specs.declared.Cursor.{Cursor}
use Rattle.command_sides.specs.declared.SideFound.{SideFound}
use Rattle.command_sides.specs.Sought.{Sought}
use Rattle.command_sides.specs.Sought as S
use Rattle.command_sides.specs.Located.{Located}
use Rattle.command_sides.specs.Located as L

-- "output side, or output side, `<`, input side": what stands behind the output side
unfoldable pub behind_output : List ℕ → Res (Option (List Specification))
unfolding side one_character opt
behind_output = opt (is less) (seq second (one_character (is less)) side)

-- the side that a sign begins, if it stands there: `,` what a side has behind a specification, `<` the input side
unfoldable pub begun_by : ℕ → List ℕ → ℕ → Res (List Specification)
unfolding side one_character opt
begun_by sign line at = mapped input_of (from (opt (is sign) (seq second (one_character (is sign)) side)) line at)

-- where specification k begins, of one that begins here and of the rest
abbrev pub start_of : ℕ → Cursor → Cursor → Cursor
start_of zero here rest = here
start_of (suc k) here rest = rest

-- no specification
abbrev pub none_found : Cursor → SideFound
none_found start = record { count = 0; start = start; keeps = true }

-- a specification that begins here, and those behind it
unfoldable pub joined : ℕ → Cursor → Bool → SideFound → SideFound
joined k here keeps rest = record { count = rest.count + 1; start = start_of k here rest.start; keeps = keeps && rest.keeps }

-- and what its side has behind it
unfoldable pub sought_joined : ℕ → Cursor → Bool → Sought → Sought
sought_joined k here keeps (S.Read rest end) = S.Read (joined k here keeps rest) end
sought_joined k here keeps (S.Refused place) = S.Refused place

-- one more can be counted
abbrev pub Countable : Sought → Type 0
Countable (S.Read rest end) = rest.count + 1 < 2 ^ 64
Countable (S.Refused place) = Unit {0}

-- specification k of a side, if it has one
unfoldable pub among_found : SideFound → ℕ → Located
among_found found k = cond (ltb k found.count) (L.At found.start) L.Missing

-- "side 0 is output, 1 input"; any other number is no side
unfoldable pub chosen : ℕ → ℕ → SideFound → SideFound → Located
unfolding among_found
chosen side k output input = cond (eqb side 0) (among_found output k) (cond (eqb side 1) (among_found input k) L.Missing)
