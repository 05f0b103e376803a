-- The examples that document 01 marks P, as one table: a row for each, in its words.
use Rattle.std.specs.Prelude.{ℕ, ◌+◌, ◌*◌, ◌≡◌, List, [], ◌∷◌, ◌++◌, length, replicate}
use Prim.Native.String.{String}
use Rattle.std.proofs.Math.Option.{none, some}
use Rattle.answers.specs.declared.Answer.{Answer}
use Rattle.answers.specs.Conversion.{Converted}
use Rattle.radix.specs.Radpk.{radpk}
use Rattle.radix.specs.Radup.{radup}
use Rattle.numerals.specs.Decimal.{d2bin, bin2d}
use Rattle.numerals.specs.Octal.{o2bin, bin2o}
use Rattle.words.specs.Text.{bytes}
use Rattle.asking.specs.declared.Right.TheVariants.{Read, Write}
use Rattle.asking.specs.Rights.{May}
use Rattle.command_grammar.specs.Parsed.{Specification}
use Rattle.command_grammar.specs.Reading.{Reading, Reads, OverBound, side_of, specification_at}
use Rattle.command_grammar.specs.LinePlace.{LinePlace}
use Rattle.command_parts.specs.declared.Numbers.{Numbers}
use Rattle.command_parts.specs.Numbers.{numbers_of}

-- a text converts to a number, and the number to the text, in a buffer of that size whatever it held
pub record Converts (to_number : List ℕ → Answer) (to_characters : ℕ → List ℕ → Converted) (size : ℕ) (text : String) (number : ℕ) : Type 0 where
  pub forth : to_number (bytes text) ≡ record { code = 0; number = number }
  pub back : (buffer : List ℕ) → length buffer ≡ size → to_characters number buffer ≡ record { code = 0; buffer = bytes text }

-- a number is refused with 60, and the buffer is left as it was
abbrev pub NumberRefused : (ℕ → List ℕ → Converted) → ℕ → ℕ → Type 0
NumberRefused to_characters size number = (buffer : List ℕ) → length buffer ≡ size → to_characters number buffer ≡ record { code = 0o60; buffer = buffer }

-- a text is refused with 60, and the number is 0
abbrev pub TextRefused : (List ℕ → Answer) → String → Type 0
TextRefused to_number text = to_number (bytes text) ≡ record { code = 0o60; number = 0 }

-- "UIC (group high byte, user low byte)"
abbrev pub uic_word : ℕ → ℕ → ℕ
uic_word group user = 256 * group + user

-- CSI2's numbers of specification k of a side of the line's reading
pub data Gives (line : List ℕ) (side k : ℕ) : Numbers → Type 0 where
  gives : {reading : Reading} {v : Specification} → Reads line reading → specification_at k (side_of side reading) ≡ some v → Gives line side k (numbers_of v)

abbrev pub empty_specification : Specification
empty_specification = record { device = none; file = none; uic = none; switches = [] }

pub record Examples : Type 0 where
  -- P1 `KB ` = 17680 (042420).
  pub p1 : Converts radpk radup 3 "KB " 17680 × Converts o2bin bin2o 6 "042420" 17680
  -- P2 `DS1` = 7191.
  pub p2 : Converts radpk radup 3 "DS1" 7191
  -- P3 `999` = 63999; 64000 refused.
  pub p3 : Converts radpk radup 3 "999" 63999 × NumberRefused radup 3 64000
  -- P4 decimal 65535 taken, 65536 refused.
  pub p4 : Converts d2bin bin2d 5 "65535" 65535 × (TextRefused d2bin "65536" × NumberRefused bin2d 5 65536)
  -- P5 octal 177777 taken, 200000 refused.
  pub p5 : Converts o2bin bin2o 6 "177777" 0o177777 × (TextRefused o2bin "200000" × NumberRefused bin2o 6 0o200000)
  -- P6 empty line: one empty output specification, no input side. P7 `<`: one empty on each.
  pub p6 : Reads (bytes "") (record { output = empty_specification ∷ []; input = none })
  pub p7 : Reads (bytes "<") (record { output = empty_specification ∷ []; input = some (empty_specification ∷ []) })
  -- P8 `DT1:FREQ.DAT<PR:`: device 7200, unit 1; words 10325, 27200, 6460.
  pub p8 : Gives (bytes "DT1:FREQ.DAT<PR:") 0 0
      (record { present = 7; device = 7200; unit = 1; name1 = 10325; name2 = 27200; extension = 6460; group = 0; user = 0; switches = 0 })
  -- P9 `A<B<C` place 3. P10 `ABCDEFG` 6. P11 `DT8:` 3. P12 `/S:` 3.
  pub p9 : LinePlace (bytes "A<B<C") 3
  pub p10 : LinePlace (bytes "ABCDEFG") 6
  pub p11 : LinePlace (bytes "DT8:") 3
  pub p12 : LinePlace (bytes "/S:") 3
  -- P13 protect 3, owner [23,10]: [12,4] may read, not write.
  pub p13 : May (uic_word 0o12 0o4) (uic_word 0o23 0o10) 3 Read × (May (uic_word 0o12 0o4) (uic_word 0o23 0o10) 3 Write → ⊥)

-- a device DT with so many digits of a kind, and what follows them; a digit has the ASCII number 48 + its value
abbrev pub device_with : ℕ → ℕ → String → List ℕ
device_with count digit rest = bytes "DT" ++ (replicate count (48 + digit) ++ bytes rest)

-- what §3 of document 02 says of them: "A unit must be at most 7, a group and a user at most 377 octal, leading zeros allowed"
pub record BoundExamples : Type 0 where
  -- "An operator typed unit 401"
  pub unit401 : OverBound (bytes "DT401:")
  -- each bound at its value, and one over
  pub unit7 : Reads (bytes "DT7:") (record { output = record { device = some (record { letters = bytes "DT"; unit = 7 }); file = none; uic = none; switches = [] } ∷ []; input = none })
  pub unit10 : OverBound (bytes "DT10:")
  pub uic377 : Reads (bytes "[377,377]") (record { output = record { device = none; file = none; uic = some (record { group = 0o377; user = 0o377 }); switches = [] } ∷ []; input = none })
  pub group400 : OverBound (bytes "[400,1]")
  pub user400 : OverBound (bytes "[1,400]")
  -- wherever in the line the number stands, and a grammar fault behind it comes first
  pub input_side : OverBound (bytes "A,B<C,DT10:")
  pub fault_behind : LinePlace (bytes "DT10:A<B<C") 8
  -- digits of any number: 120 times 7, and 100 zeros and a 7
  pub many7 : OverBound (device_with 120 7 ":")
  pub zeros7 : Gives (device_with 100 0 "7:") 0 0
      (record { present = 1; device = 7200; unit = 7; name1 = 0; name2 = 0; extension = 0; group = 0; user = 0; switches = 0 })
