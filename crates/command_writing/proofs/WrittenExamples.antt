-- Examples: lines, and how the panel shows them.
use Prim.Native.String.{String}
use mathlib.Core.Path.{◌≡◌, refl}
use mathlib.Core.List.{[], ◌∷◌}
use mathlib.Core.Option.{none, some}
use native.Mathlib.Omega.{arith}
use Rattle.words.specs.Text.{bytes}
use Rattle.numerals.specs.Digits.{value_of}
use Rattle.command_grammar.specs.Parsed.{Device, Uic}
use Rattle.command_grammar.specs.Bounded.{Bounded}
use Rattle.command_grammar.specs.Bounded as B
use Rattle.command_grammar.specs.Reader.{read_line}
use Rattle.command_grammar.specs.Reading.{Reading, Reads, reads}
use Rattle.command_grammar.proofs.ReaderLines.{said_by}
use Rattle.command_writing.specs.WrittenLine.{octal_digits, written_unit, written_device, written_file, written_uic, written_values, written_switches}
use Rattle.command_writing.specs.WrittenLine.{written_specification, written_side, written}

-- the line has a reading, and this is what is written of it
pub record Shown (line shown : String) : Type 0 where
  pub reading : Reading
  pub has : Reads (bytes line) reading
  pub same : written reading ≡ bytes shown

abbrev tape : Device
tape = record { letters = bytes "DT"; unit = 1 }

abbrev printer : Device
printer = record { letters = bytes "PR"; unit = 0 }

abbrev owner : Uic
owner = record { group = 0o23; user = 0o10 }

abbrev parts_reading : Reading
parts_reading =
    record {
      output =
          record {
            device = some tape;
            file = some (record { name = bytes "FREQ"; extension = some (bytes "DAT") });
            uic = some owner;
            switches = record { name = bytes "S"; values = bytes "A1" ∷ (bytes "B" ∷ []) } ∷ [];
          }
          ∷ [];
      input =
          some
          (record { device = none; file = none; uic = none; switches = [] }
          ∷ (record { device = some printer; file = none; uic = none; switches = [] } ∷ []));
    }

parts_bounded : Bounded parts_reading
parts_bounded =
    record {
      output =
          B.BoundedSide.more (record { device = B.BoundedDevice.device {d = tape} (omega arith); uic = B.BoundedUic.uic {u = owner} (omega arith) (omega arith) }) B.BoundedSide.end;
      input =
          B.BoundedInput.side
          (B.BoundedSide.more (record { device = B.BoundedDevice.absent; uic = B.BoundedUic.absent })
          (B.BoundedSide.more (record { device = B.BoundedDevice.device {d = printer} (omega arith); uic = B.BoundedUic.absent }) B.BoundedSide.end));
    }

-- "no blanks, unit shown only if not 0, group and user in octal without leading zeros"
pub shown_parts : Shown "DT01:FREQ.DAT[023,0010]/S:A1:B<,PR0:" "DT1:FREQ.DAT[23,10]/S:A1:B<,PR:"
unfolding read_line value_of octal_digits written_unit written_device written_file written_uic written_values written_switches written_specification written_side written
shown_parts = record { reading = parts_reading; has = reads (said_by _ _ _ refl) parts_bounded; same = refl }
