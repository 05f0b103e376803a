-- The examples of document 01 hold.
use Prim.Native.Nat.{ℕ}
use mathlib.Core.Path.{◌≡◌, refl, sym, ◌∙◌}
use mathlib.Core.Bool.{Bool, true, false}
use mathlib.Core.List.{List}
use native.Mathlib.Omega.{arith}
use Rattle.answers.proofs.Conversion.{characters_60, characters_given}
use Rattle.answers.specs.Refusals.{first_of, on_success, answered}
use Rattle.answers.specs.Conversion.{conversion_rows, to_number}
use Rattle.radix.specs.Characters.{table, code_of, character_of}
use Rattle.radix.specs.Packing.{word_of, characters_of}
use Rattle.radix.specs.Radpk.{radpk}
use Rattle.radix.specs.Radup.{radup}
use Rattle.numerals.specs.Digits.{value_of, number_of, digits_of}
use Rattle.numerals.specs.Decimal.{d2bin, bin2d}
use Rattle.numerals.specs.Octal.{o2bin, bin2o}
use Rattle.asking.specs.declared.Right.{Right}
use Rattle.asking.specs.declared.Right.TheVariants.{Read, Write}
use Rattle.asking.specs.RightsTest.{may, in_field}
use Rattle.asking.specs.Rights.{May}
use Rattle.asking.proofs.Rights.{may_iff}
use Rattle.command_cursor.specs.FilledWord.{filled_word}
use Rattle.command_grammar.specs.Parsed.{Parsed}
use Rattle.command_grammar.specs.Reading.{Reads, reads, OverBound, exceeds, side_of, specification_at}
use Rattle.command_grammar.specs.Keeps.{line_keeps}
use Rattle.command_grammar.specs.Reader.{ok, read_line}
use Rattle.command_grammar.proofs.Keeps.{keeps_bounded, not_bounded}
use Rattle.command_grammar.proofs.ReaderLines.{said_by, placed_by}
use Rattle.command_parts.specs.Numbers.{numbers_of}
use Rattle.promises.specs.Examples.{Examples, BoundExamples, gives}

-- what the test denies nobody may do
denied : (right : Right) (caller uic protect : ℕ) → may right caller uic protect ≡ false → May caller uic protect right → ⊥
denied right caller uic protect fails allowed =
    let both : ◌≡◌ {A = Bool} true false = sym ((may_iff right caller uic protect).1 allowed) ∙ fails in
    let z : ◌≡◌ {A = ℕ} 0 1 = cc in
    omega arith

-- a line is computed: what the reader gives is its reading if the numbers keep the bounds, and else a number is over its bound
read_by : (line : List ℕ) (said : Parsed) (n : ℕ) → read_line line ≡ ok said n → line_keeps said ≡ true → Reads line said
read_by line said n is keeps = reads (said_by line said n is) (keeps_bounded said keeps)

large_by : (line : List ℕ) (said : Parsed) (n : ℕ) → read_line line ≡ ok said n → line_keeps said ≡ false → OverBound line
large_by line said n is fails = exceeds (said_by line said n is) (not_bounded said fails)

pub examples : Examples
unfolding radpk radup d2bin bin2d o2bin bin2o to_number conversion_rows answered on_success first_of word_of characters_of code_of character_of table number_of value_of digits_of read_line line_keeps
examples =
    record {
      p1 = (
        record { forth = refl; back = λ buffer same. characters_given 3 characters_of 17680 buffer same refl },
        record { forth = refl; back = λ buffer same. characters_given 6 (digits_of 8 6) 17680 buffer same refl },
      );
      p2 = record { forth = refl; back = λ buffer same. characters_given 3 characters_of 7191 buffer same refl };
      p3 = (
        record { forth = refl; back = λ buffer same. characters_given 3 characters_of 63999 buffer same refl },
        λ buffer same. characters_60 3 characters_of 64000 buffer same refl,
      );
      p4 = (
        record { forth = refl; back = λ buffer same. characters_given 5 (digits_of 10 5) 65535 buffer same refl },
        (refl, λ buffer same. characters_60 5 (digits_of 10 5) 65536 buffer same refl),
      );
      p5 = (
        record { forth = refl; back = λ buffer same. characters_given 6 (digits_of 8 6) 0o177777 buffer same refl },
        (refl, λ buffer same. characters_60 6 (digits_of 8 6) 0o200000 buffer same refl),
      );
      p6 = read_by _ _ _ refl refl;
      p7 = read_by _ _ _ refl refl;
      p8 = unfold side_of specification_at numbers_of filled_word in (gives (read_by _ _ _ refl refl) refl);
      p9 = placed_by _ _ refl;
      p10 = placed_by _ _ refl;
      p11 = placed_by _ _ refl;
      p12 = placed_by _ _ refl;
      p13 = ((may_iff Read _ _ 3).0 (unfold may in_field in refl), denied Write _ _ 3 (unfold may in_field in refl));
    }

pub bound_examples : BoundExamples
unfolding value_of read_line line_keeps word_of code_of table
bound_examples =
    record {
      unit401 = large_by _ _ _ refl refl;
      unit7 = read_by _ _ _ refl refl;
      unit10 = large_by _ _ _ refl refl;
      uic377 = read_by _ _ _ refl refl;
      group400 = large_by _ _ _ refl refl;
      user400 = large_by _ _ _ refl refl;
      input_side = large_by _ _ _ refl refl;
      fault_behind = placed_by _ _ refl;
      many7 = large_by _ _ _ refl refl;
      zeros7 = unfold side_of specification_at numbers_of filled_word in (gives (read_by _ _ _ refl refl) refl);
    }
