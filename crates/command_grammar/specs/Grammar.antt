-- The grammar of command lines, rule by rule from document 01: a relation between lines and what they say.
use Rattle.std.specs.Prelude.{ℕ, ◌≤◌, ◌≡◌, List, [], ◌∷◌, ◌++◌, Bool, true, length}
use Rattle.std.proofs.Math.Option.{Option, none, some}
use Rattle.radix.specs.Names.{is_letter, is_letter_or_digit}
use Rattle.numerals.specs.Digits.{value_of}
use Rattle.command_grammar.specs.LineCharacters.{is_octal, comma, period, slash, colon, less, opening, closing}
use Rattle.command_grammar.specs.Parsed.{Device, FileName, Uic, Switch, Specification, Parsed}

-- every character passes the test
pub data All (test : ℕ → Bool) : List ℕ → Type 0 where
  nil : All test []
  cons : {c : ℕ} {s : List ℕ} → test c ≡ true → All test s → All test (c ∷ s)

-- from `fewest` to `greatest` characters that pass the test
pub record Between (fewest greatest : ℕ) (test : ℕ → Bool) (s : List ℕ) : Type 0 where
  pub all : All test s
  pub least : fewest ≤ length s
  pub most : length s ≤ greatest

-- one or more characters that pass the test
pub record Some (test : ℕ → Bool) (s : List ℕ) : Type 0 where
  pub all : All test s
  pub least : 1 ≤ length s

-- "each part optional": nothing, or "device and `:`"; "Device: 2 or 3 letters, then any number of octal digits (unit; none is 0)."
pub data IsDevice : List ℕ → Option Device → Type 0 where
  absent : IsDevice [] none
  device : {l u : List ℕ} → Between 2 3 is_letter l → All is_octal u →
      IsDevice (l ++ (u ++ (colon ∷ []))) (some (record { letters = l; unit = value_of 8 u }))

-- nothing, or "name of 1-6 A-Z, 0-9, after which `.` and an extension of 1-3 such may stand"
pub data IsFile : List ℕ → Option FileName → Type 0 where
  absent : IsFile [] none
  name : {n : List ℕ} → Between 1 6 is_letter_or_digit n → IsFile n (some (record { name = n; extension = none }))
  extended : {n e : List ℕ} → Between 1 6 is_letter_or_digit n → Between 1 3 is_letter_or_digit e →
      IsFile (n ++ (period ∷ e)) (some (record { name = n; extension = some e }))

-- nothing, or "`[`, one or more octal digits, `,`, one or more, `]`"
pub data IsUic : List ℕ → Option Uic → Type 0 where
  absent : IsUic [] none
  uic : {g u : List ℕ} → Some is_octal g → Some is_octal u →
      IsUic (opening ∷ (g ++ (comma ∷ (u ++ (closing ∷ []))))) (some (record { group = value_of 8 g; user = value_of 8 u }))

-- "then any number of `:` with 1-6 A-Z, 0-9"
pub data AreValues : List ℕ → List (List ℕ) → Type 0 where
  end : AreValues [] []
  more : {v s : List ℕ} {vs : List (List ℕ)} → Between 1 6 is_letter_or_digit v → AreValues s vs → AreValues (colon ∷ (v ++ s)) (v ∷ vs)

-- "Switch: `/`, a letter, up to 5 more A-Z, 0-9;" then its values
pub data IsSwitch : List ℕ → Switch → Type 0 where
  switch : {c : ℕ} {n s : List ℕ} {vs : List (List ℕ)} → is_letter c ≡ true → Between 0 5 is_letter_or_digit n → AreValues s vs →
      IsSwitch (slash ∷ (c ∷ (n ++ s))) (record { name = c ∷ n; values = vs })

-- "any number of switches"
pub data AreSwitches : List ℕ → List Switch → Type 0 where
  end : AreSwitches [] []
  more : {s t : List ℕ} {w : Switch} {ws : List Switch} → IsSwitch s w → AreSwitches t ws → AreSwitches (s ++ t) (w ∷ ws)

-- "Specification, each part optional, in this order"
pub data IsSpecification : List ℕ → Specification → Type 0 where
  specification : {a b c e : List ℕ} {d : Option Device} {f : Option FileName} {u : Option Uic} {ws : List Switch} →
      IsDevice a d → IsFile b f → IsUic c u → AreSwitches e ws →
      IsSpecification (a ++ (b ++ (c ++ e))) (record { device = d; file = f; uic = u; switches = ws })

-- "Side: one or more specifications; each comma outside brackets begins another."
pub data IsSide : List ℕ → List Specification → Type 0 where
  one : {s : List ℕ} {v : Specification} → IsSpecification s v → IsSide s (v ∷ [])
  more : {s t : List ℕ} {v : Specification} {vs : List Specification} → IsSpecification s v → IsSide t vs →
      IsSide (s ++ (comma ∷ t)) (v ∷ vs)

-- "Command: output side, or output side, `<`, input side."
pub data Command : List ℕ → Parsed → Type 0 where
  output : {s : List ℕ} {o : List Specification} → IsSide s o → Command s (record { output = o; input = none })
  both : {s t : List ℕ} {o i : List Specification} → IsSide s o → IsSide t i →
      Command (s ++ (less ∷ t)) (record { output = o; input = some i })
