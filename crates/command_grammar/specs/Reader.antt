-- Means: a reader of command lines, which the code and the proofs go by. Nothing that is promised speaks of it.
use Rattle.std.specs.Prelude.{ℕ, suc, zero, ◌+◌, List, [], ◌∷◌, Bool, cond, leb, eqb, length, take, drop}
use Rattle.std.proofs.Math.Option.{Option, none, some}
use Rattle.radix.specs.Names.{is_letter, is_letter_or_digit}
use Rattle.numerals.specs.Digits.{value_of}
use Rattle.command_grammar.specs.LineCharacters.{is_octal, comma, period, slash, colon, less, opening, closing}
use Rattle.command_grammar.specs.Parsed.{Device, FileName, Uic, Switch, Specification, Parsed}

-- is it the character c
abbrev pub is : ℕ → ℕ → Bool
is c x = eqb x c

-- the answer of a reader: what was read, and in how many characters; or the refusal, with its place
pub data Res (A : Type 0) : Type 0 where
  ok : A → ℕ → Res A
  no : ℕ → Res A

module _ {A : Type 0} where
  abbrev pub used : Res A → ℕ
  used (ok a n) = n
  used (no n) = n

module _ {A B : Type 0} where
  -- the answer of a reader that started n characters later
  abbrev pub later : ℕ → (A → B) → Res A → Res B
  later n h (ok a m) = ok (h a) (n + m)
  later n h (no m) = no (n + m)

  abbrev pub mapped : (A → B) → Res A → Res B
  mapped h (ok a m) = ok (h a) m
  mapped h (no m) = no m

module _ {A B C : Type 0} where
  abbrev pub and_then : (A → B → C) → (List ℕ → Res B) → List ℕ → Res A → Res C
  and_then k g s (ok a n) = later n (k a) (g (drop n s))
  and_then k g s (no n) = no n

  -- one reader, and then another
  abbrev pub seq : (A → B → C) → (List ℕ → Res A) → (List ℕ → Res B) → List ℕ → Res C
  seq k f g s = and_then k g s (f s)

module _ {A : Type 0} where
  -- what begins with a character of u, where one stands
  unfoldable pub opt : (ℕ → Bool) → (List ℕ → Res A) → List ℕ → Res (Option A)
  opt u f [] = ok none 0
  opt u f (x ∷ s) = cond (u x) (mapped some (f (x ∷ s))) (ok none 0)

  -- any number of what begins with a character of u
  unfoldable pub many_by : ℕ → (ℕ → Bool) → (List ℕ → Res A) → List ℕ → Res (List A)
  many_by zero u f s = ok [] 0
  many_by (suc k) u f [] = ok [] 0
  many_by (suc k) u f (x ∷ s) = cond (u x) (seq ◌∷◌ f (many_by k u f) (x ∷ s)) (ok [] 0)

  unfoldable pub many : (ℕ → Bool) → (List ℕ → Res A) → List ℕ → Res (List A)
  unfolding many_by
  many u f s = many_by (length s) u f s

-- how many characters at the start pass the test: at most m; or all
unfoldable pub span : (ℕ → Bool) → ℕ → List ℕ → ℕ
span t zero s = 0
span t (suc m) [] = 0
span t (suc m) (x ∷ s) = cond (t x) (suc (span t m s)) 0

unfoldable pub span_all : (ℕ → Bool) → List ℕ → ℕ
span_all t [] = 0
span_all t (x ∷ s) = cond (t x) (suc (span_all t s)) 0

-- one character that passes the test
unfoldable pub one_character : (ℕ → Bool) → List ℕ → Res ℕ
one_character t [] = no 0
one_character t (x ∷ s) = cond (t x) (ok x 1) (no 0)

-- the first n s characters, if they are a or more
unfoldable pub word : ℕ → (List ℕ → ℕ) → List ℕ → Res (List ℕ)
word a n s = cond (leb a (n s)) (ok (take (n s) s) (n s)) (no (n s))

abbrev pub second : {A B : Type 0} → A → B → B
second a b = b

abbrev pub first : {A B : Type 0} → A → B → A
first a b = a

abbrev pub mk_uic : List ℕ → List ℕ → Uic
mk_uic g u = record { group = value_of 8 g; user = value_of 8 u }

abbrev pub mk_device : List ℕ → List ℕ → Device
mk_device l u = record { letters = l; unit = value_of 8 u }

abbrev pub mk_file : List ℕ → Option (List ℕ) → FileName
mk_file n e = record { name = n; extension = e }

abbrev pub mk_switch : List ℕ → List (List ℕ) → Switch
mk_switch n vs = record { name = n; values = vs }

pub record Head : Type 0 where
  pub device : Option Device
  pub file : Option FileName

abbrev pub mk_head : Option Device → Option FileName → Head
mk_head d f = record { device = d; file = f }

pub record Tail : Type 0 where
  pub uic : Option Uic
  pub switches : List Switch

abbrev pub mk_tail : Option Uic → List Switch → Tail
mk_tail u w = record { uic = u; switches = w }

abbrev pub mk_specification : Head → Tail → Specification
mk_specification h t = record { device = h.device; file = h.file; uic = t.uic; switches = t.switches }

abbrev pub mk_reading : List Specification → Option (List Specification) → Parsed
mk_reading o i = record { output = o; input = i }

unfoldable pub device : List ℕ → Res Device
unfolding word span span_all one_character
device = seq mk_device (word 2 (span is_letter 3)) (seq first (word 0 (span_all is_octal)) (one_character (is colon)))

unfoldable pub file : List ℕ → Res (Option FileName)
unfolding opt word span one_character
file = opt is_letter_or_digit (seq mk_file (word 1 (span is_letter_or_digit 6)) (opt (is period) (seq second (one_character (is period)) (word 1 (span is_letter_or_digit 3)))))

-- a device if there is one. Else a file; where a device could go on longer than a name of 6, the refusal is the device's
unfoldable pub head_from : List ℕ → Res Device → Res Head
unfolding file span
head_from s (ok d n) = later n (mk_head (some d)) (file (drop n s))
head_from s (no k) = cond (leb k (span is_letter_or_digit 6 s)) (mapped (mk_head none) (file s)) (no k)

unfoldable pub head : List ℕ → Res Head
unfolding head_from device
head s = head_from s (device s)

unfoldable pub uic : List ℕ → Res Uic
unfolding word span_all one_character
uic = seq second (one_character (is opening)) (seq mk_uic (word 1 (span_all is_octal)) (seq second (one_character (is comma)) (seq first (word 1 (span_all is_octal)) (one_character (is closing)))))

unfoldable pub switch_value : List ℕ → Res (List ℕ)
unfolding word span one_character
switch_value = seq second (one_character (is colon)) (word 1 (span is_letter_or_digit 6))

unfoldable pub switch : List ℕ → Res Switch
unfolding word span one_character many switch_value
switch = seq second (one_character (is slash)) (seq mk_switch (seq ◌∷◌ (one_character is_letter) (word 0 (span is_letter_or_digit 5))) (many (is colon) switch_value))

unfoldable pub specification : List ℕ → Res Specification
unfolding head opt uic many switch
specification = seq mk_specification head (seq mk_tail (opt (is opening) uic) (many (is slash) switch))

unfoldable pub side : List ℕ → Res (List Specification)
unfolding specification many one_character
side = seq ◌∷◌ specification (many (is comma) (seq second (one_character (is comma)) specification))

unfoldable pub command : List ℕ → Res Parsed
unfolding side opt one_character
command = seq mk_reading side (opt (is less) (seq second (one_character (is less)) side))

-- a whole line
unfoldable pub whole_from : List ℕ → Res Parsed → Res Parsed
whole_from s (ok r n) = cond (eqb n (length s)) (ok r n) (no n)
whole_from s (no n) = no n

unfoldable pub read_line : List ℕ → Res Parsed
unfolding command whole_from
read_line s = whole_from s (command s)

-- how many values switches have in all
unfoldable pub values_in : List Switch → ℕ
values_in [] = 0
values_in (w ∷ ws) = length w.values + values_in ws

-- Readers at a place of a line: the answer's numbers are places of the line.

abbrev pub moved : {A : Type 0} → ℕ → Res A → Res A
moved i (ok a n) = ok a (i + n)
moved i (no n) = no (i + n)

unfoldable pub from : {A : Type 0} → (List ℕ → Res A) → List ℕ → ℕ → Res A
from f s i = moved i (f (drop i s))
