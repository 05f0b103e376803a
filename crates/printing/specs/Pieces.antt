-- Means: the line of an entry in the pieces that the code puts one behind another, and the most bytes of each; `line_pieces` says that they make the line.
use Rattle.std.specs.Prelude.{ℕ, ◌+◌, ◌*◌, ◌/◌, ◌%◌, List, ◌++◌}
use Rattle.words.specs.Text.{bytes}
use Rattle.pack.specs.GeometrySized.{most_entries}
use Rattle.printing.specs.Listing.{five, three, spelled, kind_letter}

-- FREQ.DAT
unfoldable pub name_text : ℕ → ℕ → ℕ → List ℕ
name_text name1 name2 extension = spelled name1 ++ (spelled name2 ++ (bytes "." ++ spelled extension))

abbrev pub most_name : ℕ
most_name = 10

-- C 00003 behind a blank
unfoldable pub size_text : ℕ → ℕ → List ℕ
size_text kind length = bytes " " ++ (kind_letter kind ++ (bytes " " ++ five length))

abbrev pub most_size : ℕ
most_size = 8

-- [023,010] between blanks
unfoldable pub uic_text : ℕ → List ℕ
uic_text uic = bytes " [" ++ (three (uic / 256) ++ (bytes "," ++ (three (uic % 256) ++ bytes "] ")))

abbrev pub most_uic : ℕ
most_uic = 11

-- with the protect code, three digits, and the line's end
abbrev pub most_line : ℕ
most_line = most_name + most_size + most_uic + 3 + 1

-- BLOCKS 00016 FREE 00011
abbrev pub most_head : ℕ
most_head = 24

-- the longest text: the head, and a line for each entry of the most that a pack has
abbrev pub longest_text : ℕ
longest_text = most_head + most_line * most_entries
