-- The edges: no output specification, and empty specifications, of which a side of n + 1 is n commas.
use Prim.Native.Nat.{ℕ, zero, suc, ◌+◌, ◌*◌, ◌≤◌}
use mathlib.Core.Path.{◌≡◌, refl, ap, ◌∙◌}
use mathlib.Core.List.{List, [], ◌∷◌, append-nil}
use mathlib.Core.Option.{none}
use native.Mathlib.Omega.{arith}
use lib.ListN.{length, replicate, length-replicate, replicate-append-replicate}
use Rattle.answers.specs.declared.Answer.{Answer}
use Rattle.words.specs.Word.{word_bytes}
use Rattle.command_grammar.specs.LineCharacters.{comma}
use Rattle.command_grammar.specs.Parsed.{Specification, Parsed}
use Rattle.command_grammar.specs.Grammar.{IsSide, Command}
use Rattle.command_grammar.specs.Grammar as G
use Rattle.command_grammar.specs.Bounded.{BoundedSide}
use Rattle.command_grammar.specs.Bounded as B
use Rattle.command_grammar.specs.Reading.{Reading, Reads, reads}
use Rattle.command_parts.specs.Numbers.{numbers_of}
use Rattle.command_switches.specs.Encoded.{all_switch_words, encoded}
use Rattle.command_writing.specs.WrittenLine.{written_device, written_file, written_uic, written_switches, written_specification, written_side, written}
use Rattle.command_writing.specs.Records.{record_of, records_of, Given}
use Rattle.command_writing.specs.CsiWrite.{CsiWriteAnswered}
use Rattle.command_writing.proofs.CsiWriteCauses.{csi_write_unread_iff, csi_write_long_iff, csi_write_written_iff}

-- "Side: one or more specifications"

side_some : {s : List ℕ} {vs : List Specification} → IsSide s vs → 1 ≤ length vs
side_some (G.IsSide.one one) = omega arith
side_some (G.IsSide.more one rest) = omega arith

output_some : {s : List ℕ} {said : Parsed} → Command s said → 1 ≤ length said.output
output_some (G.Command.output output) = side_some output
output_some (G.Command.both output input) = side_some output

read_some : {line : List ℕ} {reading : Reading} → Reads line reading → 1 ≤ length reading.output
read_some (reads says bounds) = output_some says

-- without an output specification there is no reading: 41
pub no_outputs : (inputs : ℕ) (records buffer : List ℕ) (answer : Answer) (after : List ℕ) → CsiWriteAnswered 0 inputs records buffer answer after
    → answer.code ≡ 0o41
no_outputs inputs records buffer answer after is =
    (csi_write_unread_iff 0 inputs records buffer answer after is).1 (λ reading given. omega (arith, given.gives.output, read_some given.reads))

-- empty specifications

abbrev empty : Specification
empty = record { device = none; file = none; uic = none; switches = [] }

abbrev empties : ℕ → Reading
empties n = record { output = replicate (suc n) empty; input = none }

commas_side : (n : ℕ) → IsSide (replicate n comma) (replicate (suc n) empty)
commas_side zero = G.IsSide.one (G.IsSpecification.specification G.IsDevice.absent G.IsFile.absent G.IsUic.absent G.AreSwitches.end)
commas_side (suc n) = G.IsSide.more (G.IsSpecification.specification G.IsDevice.absent G.IsFile.absent G.IsUic.absent G.AreSwitches.end) (commas_side n)

empties_bounded : (n : ℕ) → BoundedSide (replicate n empty)
empties_bounded zero = B.BoundedSide.end
empties_bounded (suc n) = B.BoundedSide.more (record { device = B.BoundedDevice.absent; uic = B.BoundedUic.absent }) (empties_bounded n)

commas_read : (n : ℕ) → Reads (replicate n comma) (empties n)
commas_read n = reads (G.Command.output (commas_side n)) (record { output = empties_bounded (suc n); input = B.BoundedInput.absent })

commas_written : (n : ℕ) → written_side (replicate (suc n) empty) ≡ replicate n comma
unfolding written_side written_specification written_device written_file written_uic written_switches
commas_written zero = refl
commas_written (suc n) = ap (λ (l : List ℕ). comma ∷ l) (commas_written n)

empty_record : record_of empty ≡ replicate 18 0
unfolding record_of numbers_of word_bytes encoded all_switch_words
empty_record = refl

zeros : (n : ℕ) → records_of (replicate n empty) ≡ replicate (18 * n) 0
unfolding records_of
zeros zero = refl
zeros (suc n) =
    let long : 18 + 18 * n ≡ 18 * suc n = omega arith in
    rw (empty_record, zeros n) (replicate-append-replicate 18 (18 * n) 0 ∙ ap (λ (m : ℕ). replicate m 0) long)

empties_given : (n : ℕ) → Given (suc n) 0 (replicate (18 * suc n) 0) (empties n)
unfolding records_of
empties_given n =
    record {
      line = replicate n comma;
      reads = commas_read n;
      gives = record { output = length-replicate (suc n) empty; input = refl; bytes = append-nil (records_of (replicate (suc n) empty)) ∙ zeros (suc n) };
    }

empties_long : (n : ℕ) → length (written (empties n)) ≡ n
unfolding written
empties_long n = rw (append-nil, commas_written n) (length-replicate n comma)

-- 129 of them are a line at its limit, 130 are a line over it
pub empties_129 : (buffer : List ℕ) (answer : Answer) (after : List ℕ) → 128 ≤ length buffer
    → CsiWriteAnswered 129 0 (replicate (18 * 129) 0) buffer answer after → answer.code ≡ 0
empties_129 buffer answer after room is =
    (csi_write_written_iff 129 0 (replicate (18 * 129) 0) buffer answer after is).1
    (empties 128, empties_given 128, omega (arith, empties_long 128), omega (arith, empties_long 128, room))

pub empties_130 : (buffer : List ℕ) (answer : Answer) (after : List ℕ)
    → CsiWriteAnswered 130 0 (replicate (18 * 130) 0) buffer answer after → answer.code ≡ 0o53
empties_130 buffer answer after is =
    (csi_write_long_iff 130 0 (replicate (18 * 130) 0) buffer answer after is).1 (empties 129, empties_given 129, omega (arith, empties_long 129))
