-- Means: where a reader of a line ends, and whether what it read there passes a test; or the place of the refusal.
use Rattle.std.specs.Prelude.{ℕ, Bool, true, ◌&&◌, List, ◌∷◌}
use Rattle.std.proofs.Math.Option.{Option, some}
use Rattle.radix.specs.Names.{is_letter, is_letter_or_digit}
use Rattle.numerals.specs.Digits.{value_of}
use Rattle.command_grammar.specs.LineCharacters.{is_octal, comma, period, slash, colon, opening, closing}
use Rattle.command_grammar.specs.Parsed.{Device, Uic, Switch}
use Rattle.command_grammar.specs.Keeps.{octet_keeps, device_keeps}
use Rattle.command_grammar.specs.Reader.{is, Res, ok, no, seq, opt, many, one_character, word, span, span_all, first, second, uic, mk_switch, switch_value, switch, mk_tail, Tail}
use Rattle.command_cursor.specs.Part.{Part, Read, Refused}
use Rattle.command_parts.specs.Passing.{Passing}
use Rattle.command_parts.specs.Passing as W

unfoldable pub passed : {A : Type 0} → Res A → Part
passed (ok a end) = Read (record { at = end })
passed (no place) = Refused place

unfoldable pub passing : {A : Type 0} → (A → Bool) → Res A → Passing
passing test (ok a end) = W.Read (record { at = end }) (test a)
passing test (no place) = W.Refused place

-- tests: one whose answer is known; that of a device's unit; and that of a user behind a group of which it is known
abbrev pub always : {A : Type 0} → Bool → A → Bool
always keeps a = keeps

abbrev pub unit_of_device : Device → Bool
unit_of_device d = device_keeps (some d)

unfoldable pub user_behind : Bool → List ℕ → Bool
user_behind group digits = group && octet_keeps (value_of 8 digits)

-- what a device that was passed over says of its unit; where there is none, nothing is over its bound
abbrev pub keeps_of : Passing → Bool
keeps_of (W.Read next keeps) = keeps
keeps_of (W.Refused place) = true

-- what stands behind a name
abbrev pub extension : List ℕ → Res (Option (List ℕ))
extension = opt (is period) (seq second (one_character (is period)) (word 1 (span is_letter_or_digit 3)))

-- what stands behind a group's digits
abbrev pub user : List ℕ → Res (List ℕ)
user = seq second (one_character (is comma)) (seq first (word 1 (span_all is_octal)) (one_character (is closing)))

abbrev pub brackets : List ℕ → Res (Option Uic)
brackets = opt (is opening) uic

-- a switch behind its slash
unfoldable pub behind_slash : List ℕ → Res Switch
unfolding word span one_character many switch_value
behind_slash = seq mk_switch (seq ◌∷◌ (one_character is_letter) (word 0 (span is_letter_or_digit 5))) (many (is colon) switch_value)

abbrev pub switches : List ℕ → Res (List Switch)
switches = many (is slash) switch

-- what stands behind device and file
abbrev pub tail : List ℕ → Res Tail
tail = seq mk_tail brackets switches
