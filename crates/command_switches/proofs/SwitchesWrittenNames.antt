-- The name or value of up to 6 characters that stands at a place.
use Prim.Native.Nat.{ℕ, ◌+◌, ◌-◌, ◌≤◌}
use mathlib.Core.Path.{◌≡◌, ap, ◌∙◌}
use mathlib.Core.List.{List}
use native.Mathlib.Omega.{arith}
use lib.ListN.{length, take, drop, length-drop}
use Rattle.words.specs.Word.{set_word}
use Rattle.radix.specs.Names.{is_letter_or_digit}
use Rattle.command_grammar.specs.Reader.{span}
use Rattle.command_grammar.proofs.ReaderLeaves.{span_within}
use Rattle.command_cursor.specs.FilledWord.{first_word, second_word}
use Rattle.command_cursor.specs.declared.NameWords.{NameWords}
use Rattle.command_switches.specs.SwitchesWritten.{set_words, name_at, behind_name, name_words}

module _ (line : List ℕ) (at : ℕ) where
  pub behind_after : at ≤ behind_name line at
  unfolding behind_name
  behind_after = omega arith

  pub behind_within : at ≤ length line → behind_name line at ≤ length line
  unfolding behind_name
  behind_within inside = omega (arith, span_within is_letter_or_digit 6 (drop at line), length-drop at line)

  -- the same, for a run that ended at `end`
  module _ (end : ℕ) (is : end ≡ at + span is_letter_or_digit 6 (drop at line)) where
    pub end_behind : end ≡ behind_name line at
    unfolding behind_name
    end_behind = is

    pub name_between : take (end - at) (drop at line) ≡ name_at line at
    unfolding name_at
    name_between = let long : end - at ≡ span is_letter_or_digit 6 (drop at line) = omega arith in ap (λ (n : ℕ). take n (drop at line)) long

    -- the two words of the name were set, one after the other
    pub name_written : (before first after : List ℕ) (i : ℕ) (words : NameWords)
        → (words.first ≡ first_word (take (end - at) (drop at line))) × (words.second ≡ second_word (take (end - at) (drop at line)))
        → first ≡ set_word before i words.first → after ≡ set_word first (i + 1) words.second → after ≡ set_words before i (name_words (name_at line at))
    unfolding set_words
    name_written before first after i words are one_set two-set =
        two-set ∙ ap (λ (l : List ℕ). set_word l (i + 1) words.second) one_set
        ∙ rw (are.0, are.1, name_between)
