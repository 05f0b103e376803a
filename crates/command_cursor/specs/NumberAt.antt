-- Means: the octal number that stands at a place of a line, as far as 256, and the place behind its digits.
use Rattle.std.specs.Prelude.{ℕ, ◌+◌, ◌≡◌, List, take, drop}
use Rattle.numerals.specs.Digits.{value_from, value_of}
use Rattle.command_grammar.specs.LineCharacters.{is_octal}
use Rattle.command_grammar.specs.Reader.{span_all}
use Rattle.command_cursor.specs.Capped.{capped}
use Rattle.command_cursor.specs.declared.Number.{Number}

-- the octal digits at a place
abbrev pub octals_at : List ℕ → ℕ → List ℕ
octals_at line at = take (span_all is_octal (drop at line)) (drop at line)

-- the number that they write behind a number that those before them wrote
unfoldable pub capped_from : ℕ → List ℕ → ℕ → ℕ
unfolding capped
capped_from before line at = capped (value_from 8 before (octals_at line at))

pub record NumberAt (line : List ℕ) (at : ℕ) (x : Number) : Type 0 where
  pub ends : x.next.at ≡ at + span_all is_octal (drop at line)
  pub is : x.value ≡ capped (value_of 8 (octals_at line at))
