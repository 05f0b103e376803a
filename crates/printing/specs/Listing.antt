-- What the listing program prints of an image.
use Rattle.std.specs.Prelude.{ℕ, suc, zero, ◌+◌, ◌/◌, ◌%◌, cond, ◌&&◌, List, [], ◌∷◌, ◌++◌, eqb, leb, length}
use Rattle.answers.specs.Missing.{or_else}
use Rattle.radix.specs.Packing.{characters_of}
use Rattle.numerals.specs.Digits.{digits}
use Rattle.pack.specs.declared.Geometry.{Geometry}
use Rattle.pack.specs.declared.Entry.{Entry}
use Rattle.pack.specs.Geometry.{geometry_of, slots}
use Rattle.pack.specs.Entry.{entry_of}
use Rattle.pack.specs.Owner.{free_count}
use Rattle.consistency.specs.ConsistentTest.{consistent}
use Rattle.words.specs.Text.{bytes}

abbrev pub newline : List ℕ
newline = 10 ∷ []

-- "Counts are decimal, five digits; UIC and protect code octal, three."
abbrev pub five : ℕ → List ℕ
five number = digits 10 5 number

abbrev pub three : ℕ → List ℕ
three number = digits 8 3 number

-- BLOCKS 00016 FREE 00011
unfoldable pub head_line : ℕ → ℕ → List ℕ
head_line blocks free = bytes "BLOCKS " ++ (five blocks ++ (bytes " FREE " ++ (five free ++ newline)))

-- "Blanks stay": the three characters of a name word, all legal in a consistent image
abbrev pub spelled : ℕ → List ℕ
spelled word = or_else [] (characters_of word)

-- "linked files show L"; contiguous ones C
abbrev pub kind_letter : ℕ → List ℕ
kind_letter kind = cond (eqb kind 1) (bytes "C") (bytes "L")

-- FREQ.DAT C 00003 [023,010] 003
unfoldable pub entry_line : Entry → List ℕ
entry_line x =
    spelled x.name1 ++ (spelled x.name2 ++ (bytes "." ++ (spelled x.extension ++ (bytes " " ++ (kind_letter x.kind ++ (bytes " " ++ (five x.length
    ++ (bytes " [" ++ (three (x.uic / 256) ++ (bytes "," ++ (three (x.uic % 256) ++ (bytes "] " ++ (three x.protect ++ newline)))))))))))))

-- a line for each entry in use: in a consistent image the others have a first word 0
abbrev pub line_of : Entry → List ℕ
line_of x = cond (eqb x.name1 0) [] (entry_line x)

-- "entries in stored order": `k` entries from e on
unfoldable pub lines_from : List ℕ → Geometry → ℕ → ℕ → List ℕ
lines_from img g e zero = []
lines_from img g e (suc k) = line_of (entry_of img g e) ++ lines_from img g (e + 1) k

-- "The listing program reads an image of up to 65536 bytes": a longer input is refused
abbrev pub longest : ℕ
longest = 65536

-- "an image not consistent, or a longer input, prints only `REFUSED 40`"
abbrev pub refused_line : List ℕ
refused_line = bytes "REFUSED 40" ++ newline

unfoldable pub listing : List ℕ → List ℕ
listing img =
    cond (leb (length img) longest && consistent img)
    (head_line (geometry_of img).blocks (free_count img) ++ lines_from img (geometry_of img) 0 (slots (geometry_of img)))
    refused_line
