-- Means: a report printed into a lent buffer, and the room that the longest takes.
use Rattle.std.specs.Prelude.{ℕ, ◌+◌, ◌≤◌, ◌≡◌, List, [], ◌++◌, length, drop, Option, Some, None}
use Rattle.printing.specs.Listing.{five}
use Rattle.printing.specs.ReportText.{ReportPrints}

-- the longest name of a rule
abbrev pub most_rule : ℕ
most_rule = 7

-- a number that the rule names, if it does, in five decimal digits behind what it is
abbrev pub member_text : List ℕ → Option ℕ → List ℕ
member_text what None = []
member_text what (Some number) = what ++ five number

-- FAULT, a rule's name, ENTRY, WORD and BLOCK with their numbers, and the line's end
abbrev pub longest_report : ℕ
longest_report = 5 + most_rule + 12 + 11 + 12 + 1

-- the text stands at the start of the buffer, whose rest stays
pub record PrintedReport (img before behind : List ℕ) (count : ℕ) : Type 0 where
  pub text : List ℕ
  pub prints : ReportPrints img text
  pub long : count ≡ length text
  pub whole : behind ≡ text ++ drop (length text) before
  pub fits : count ≤ longest_report
