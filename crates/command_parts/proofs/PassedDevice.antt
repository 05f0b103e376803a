-- A device, as the code passes over it and reads it: its letters end at `middle`, its digits begin there.
use Prim.Native.Nat.{ℕ, ◌+◌, ◌-◌, ◌≤◌, ◌<◌}
use mathlib.Core.Path.{◌≡◌, refl, ap, ◌∙◌}
use mathlib.Core.Bool.{Bool}
use Rattle.std.specs.Prelude.{Some, None}
use mathlib.Core.List.{List}
use native.Mathlib.Omega.{arith}
use lib.Dec.{leb}
use lib.ListN.{length, take, drop}
use Rattle.radix.specs.Names.{is_letter, is_letter_or_digit}
use Rattle.numerals.specs.Digits.{value_of}
use Rattle.command_grammar.specs.LineCharacters.{is_octal, colon}
use Rattle.command_grammar.specs.Grammar.{All}
use Rattle.command_grammar.specs.Keeps.{unit_keeps}
use Rattle.command_grammar.specs.Reader.{is, Res, no, mapped, from, seq, first, mk_device, word, span, span_all, one_character, device}
use Rattle.command_grammar.proofs.ReaderPlaces.{from_seq, from_seq_no}
use Rattle.command_cursor.specs.Capped.{capped}
use Rattle.command_cursor.specs.CursorAt.{part_at}
use Rattle.command_cursor.specs.FilledWord.{filled_word}
use Rattle.command_cursor.specs.NumberAt.{octals_at, NumberAt}
use Rattle.command_cursor.specs.declared.Cursor.{Cursor}
use Rattle.command_cursor.specs.declared.Number.{Number}
use Rattle.command_cursor.specs.Part as P
use Rattle.command_cursor.proofs.CappedOctal.{capped_keeps}
use Rattle.command_cursor.proofs.CursorAtRuns.{found, missed, run_up, run_found, run_most, run_read, run_short, letters_run}
use Rattle.command_cursor.proofs.NumberAt.{number_read}
use Rattle.command_parts.specs.Made.{device_found}
use Rattle.command_parts.specs.Passed.{passing, always, unit_of_device}
use Rattle.command_parts.specs.declared.reading.ReadAt.{ReadAt}
use Rattle.command_parts.specs.declared.reading.DeviceNumbers.{DeviceNumbers}
use Rattle.command_parts.specs.Passing as W
use Rattle.command_parts.proofs.Passed.{passing_on, passing_not}

abbrev unit_and_colon : List ℕ → Res (List ℕ)
unit_and_colon = seq first (word 0 (span_all is_octal)) (one_character (is colon))

-- the test of the number as far as it is read is that of the whole number
pub tested : (bound value : ℕ) → bound < 256 → {number : ℕ} → number ≡ capped value → leb number bound ≡ leb value bound
tested bound value small same = ap (λ (n : ℕ). leb n bound) same ∙ capped_keeps value bound small

module _ (s : List ℕ) (i middle : ℕ) (m : middle ≡ i + span is_letter 3 (drop i s)) where
  pub pass_few : middle - i < 2 → W.Refused middle ≡ passing unit_of_device (from device s i)
  unfolding device
  pass_few few = passing_not mk_device (word 2 (span is_letter 3)) unit_and_colon s i unit_of_device (run_short is_letter 3 s i middle m 2 few)

  device_few : middle - i < 2 → from device s i ≡ no middle
  unfolding device
  device_few few = from_seq_no mk_device (word 2 (span is_letter 3)) unit_and_colon s i middle (run_short is_letter 3 s i middle m 2 few)

  pub no_letters : middle - i < 2 → ◌≡◌ {A = ReadAt DeviceNumbers} (record { part = None; next = record { at = i } }) (device_found i (from device s i))
  unfolding device_found
  no_letters few = rw (device_few few)

  module _ (enough : 2 ≤ middle - i) where
    pub letters_wordable : ((i ≤ middle) × (middle ≤ length s)) × ((middle ≤ i + 3) × All is_letter_or_digit (take (middle - i) (drop i s)))
    letters_wordable =
        let up = run_up is_letter 3 s i middle m in
        let longer : i < middle = omega (arith, up) in
        ((up, run_found is_letter 3 s i middle m longer), (run_most is_letter 3 s i middle m 65 refl, letters_run 3 s i middle m))

    module _ {unit : Number} (n : NumberAt s middle unit) where
      pub pass_colon : passing (always (leb unit.value 7)) (from (one_character (is colon)) s unit.next.at) ≡ passing unit_of_device (from device s i)
      unfolding device
      pass_colon =
          ap (λ (b : Bool). passing (always b) (from (one_character (is colon)) s unit.next.at)) (tested 7 _ (omega arith) n.is)
          ∙ passing_on first (word 0 (span_all is_octal)) (one_character (is colon)) s middle (λ (u : List ℕ). unit_keeps (value_of 8 u)) (number_read n 0 (omega arith))
          ∙ passing_on mk_device (word 2 (span is_letter 3)) unit_and_colon s i unit_of_device (run_read is_letter 3 s i middle m 2 enough)

      -- the device, by what stands behind its digits
      by_colon : from device s i ≡ mapped (mk_device (take (middle - i) (drop i s))) (mapped (first (octals_at s middle)) (from (one_character (is colon)) s unit.next.at))
      unfolding device
      by_colon =
          from_seq mk_device (word 2 (span is_letter 3)) unit_and_colon s i (take (middle - i) (drop i s)) middle (run_read is_letter 3 s i middle m 2 enough)
          ∙ ap (mapped (mk_device (take (middle - i) (drop i s))))
          (from_seq first (word 0 (span_all is_octal)) (one_character (is colon)) s middle (octals_at s middle) unit.next.at (number_read n 0 (omega arith)))

      pub no_colon : {p : ℕ} → part_at unit.next.at (one_character (is colon) (drop unit.next.at s)) ≡ P.Refused p
          → ◌≡◌ {A = ReadAt DeviceNumbers} (record { part = None; next = record { at = i } }) (device_found i (from device s i))
      unfolding device_found
      no_colon {p} h = rw (by_colon, missed colon s unit.next.at p h)

      pub device_made : {next : Cursor} → part_at unit.next.at (one_character (is colon) (drop unit.next.at s)) ≡ P.Read next
          → {w : ℕ} → w ≡ filled_word (take (middle - i) (drop i s))
          → ◌≡◌ {A = ReadAt DeviceNumbers} (record { part = Some (record { word = w; unit = unit.value }); next = next }) (device_found i (from device s i))
      unfolding device_found
      device_made {next} h is = rw (by_colon, (found colon s unit.next.at next h).1, is, n.is)
