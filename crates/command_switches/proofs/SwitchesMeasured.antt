-- The bytes of switches, value by value and switch by switch.
use Prim.Native.Nat.{ℕ, ◌+◌, ◌*◌, ◌≤◌, ◌<◌}
use mathlib.Core.Path.{◌≡◌, refl, sym, ap, ◌∙◌}
use mathlib.Core.List.{List, [], ◌∷◌}
use native.Mathlib.Omega.{arith}
use lib.ListN.{length, drop}
use Rattle.radix.specs.Names.{is_letter_or_digit}
use Rattle.command_grammar.specs.LineCharacters.{colon, slash}
use Rattle.command_grammar.specs.Parsed.{Switch}
use Rattle.command_grammar.specs.Reader.{is, ok, span, one_character, many, switch, mk_switch, from, values_in}
use Rattle.command_cursor.specs.CursorAt.{part_at}
use Rattle.command_cursor.specs.declared.Cursor.{Cursor}
use Rattle.command_cursor.specs.Part as P
use Rattle.command_cursor.proofs.CursorAtRuns.{found, missed, found_place}
use Rattle.command_switches.specs.Encoded.{encoded}
use Rattle.command_switches.specs.SwitchesMeasured.{BehindName}
use Rattle.command_switches.specs.SwitchesWritten.{name_at}
use Rattle.command_switches.proofs.EncodedLength.{encoded_length}
use Rattle.command_switches.proofs.SwitchesWrittenNames.{end_behind, behind_after}
use Rattle.command_switches.proofs.SwitchesWrittenStanding.{values_none, values_more, switches_none, switches_more}

no_switch : length (encoded []) ≡ 0
unfolding values_in
no_switch = omega (arith, encoded_length [])

one_switch : (w : Switch) (ws : List Switch) → length (encoded (w ∷ ws)) ≡ 6 + (4 * length w.values + length (encoded ws))
unfolding values_in
one_switch w ws = omega (arith, encoded_length (w ∷ ws), encoded_length ws)

-- so many bytes less are left behind a name
abbrev Less : List ℕ → ℕ → ℕ → ℕ → Type 0
Less line n taken next = (m : ℕ) × BehindName line next m × (n ≡ taken + m)

-- the switches at a place
module _ (line : List ℕ) (at : ℕ) where
  pub measured_none : (p : ℕ) → part_at at (one_character (is slash) (drop at line)) ≡ P.Refused p
      → (ws : List Switch) (end : ℕ) → from (many (is slash) switch) line at ≡ ok ws end → 0 ≡ length (encoded ws)
  measured_none p h ws end stand =
      let none = switches_none line at ws end stand p (missed slash line at p h) in
      sym (ap (λ (l : List Switch). length (encoded l)) none.0 ∙ no_switch)

  module _ (a : Cursor) (h : part_at at (one_character (is slash) (drop at line)) ≡ P.Read a) (e : ℕ) (q : e ≡ a.at + span is_letter_or_digit 6 (drop a.at line)) where
    measured_switch : (ws : List Switch) (end : ℕ) → from (many (is slash) switch) line at ≡ ok ws end → Less line (length (encoded ws)) 6 e
    measured_switch ws end stand =
        let f = found slash line at a h in
        let m = switches_more line at ws end stand f.0 a.at f.1 in (
          4 * length m.values + length (encoded m.rest),
          record {
            values = m.values;
            middle = m.middle;
            switches = m.rest;
            end = end;
            values_stand = rw (end_behind line a.at e q) m.behind;
            switches_stand = m.then;
            all = refl;
          },
          ap (λ (l : List Switch). length (encoded l)) m.all ∙ one_switch (mk_switch (name_at line a.at) m.values) m.rest,
        )

    pub slash_on : (at < e) × (at < length line)
    slash_on =
        let o = found_place slash line at a h in
        (omega (arith, o.0, end_behind line a.at e q, behind_after line a.at), omega (arith, o.0, o.1))

    pub measured_from : {r : ℕ} → ((n : ℕ) → BehindName line e n → r ≡ 6 + n)
        → (ws : List Switch) (end : ℕ) → from (many (is slash) switch) line at ≡ ok ws end → r ≡ length (encoded ws)
    measured_from is ws end stand = let m = measured_switch ws end stand in is m.0 m.1 ∙ sym m.2

-- behind a name
module _ (line : List ℕ) (at : ℕ) where
  module _ (a : Cursor) (h : part_at at (one_character (is colon) (drop at line)) ≡ P.Read a) (e : ℕ) (q : e ≡ a.at + span is_letter_or_digit 6 (drop a.at line)) where
    one_value : (n : ℕ) → BehindName line at n → Less line n 4 e
    one_value n b =
        let f = found colon line at a h in
        let m = values_more line at b.values b.middle b.values_stand f.0 a.at f.1 in (
          4 * length m.rest + length (encoded b.switches),
          record {
            values = m.rest;
            middle = b.middle;
            switches = b.switches;
            end = b.end;
            values_stand = rw (end_behind line a.at e q) m.behind;
            switches_stand = b.switches_stand;
            all = refl;
          },
          omega (arith, b.all, ap (λ (l : List (List ℕ)). length l) m.all),
        )

    pub colon_on : (at < e) × (at < length line)
    colon_on =
        let o = found_place colon line at a h in
        (omega (arith, o.0, end_behind line a.at e q, behind_after line a.at), omega (arith, o.0, o.1))

  module _ (p : ℕ) (h : part_at at (one_character (is colon) (drop at line)) ≡ P.Refused p) where
    -- no value more: the switches stand here
    only_switches : (n : ℕ) (b : BehindName line at n) → (from (many (is slash) switch) line at ≡ ok b.switches b.end) × (n ≡ length (encoded b.switches))
    only_switches n b =
        let none = values_none line at b.values b.middle b.values_stand p (missed colon line at p h) in (
          ap (from (many (is slash) switch) line) (sym none.1) ∙ b.switches_stand,
          omega (arith, b.all, ap (λ (l : List (List ℕ)). length l) none.0),
        )

    one_switch_more : (a : Cursor) → part_at at (one_character (is slash) (drop at line)) ≡ P.Read a → (e : ℕ) → e ≡ a.at + span is_letter_or_digit 6 (drop a.at line)
        → (n : ℕ) → BehindName line at n → Less line n 6 e
    one_switch_more a found-slash e q n b =
        let s = only_switches n b in
        let m = measured_switch line at a found-slash e q b.switches b.end s.0 in
        (m.0, m.1, s.1 ∙ m.2)

    nothing_more : (p' : ℕ) → part_at at (one_character (is slash) (drop at line)) ≡ P.Refused p' → (n : ℕ) → BehindName line at n → n ≡ 0
    nothing_more p' no_slash n b = let s = only_switches n b in s.1 ∙ sym (measured_none line at p' no_slash b.switches b.end s.0)

-- what was left at the start is what was added since and what is left now
pub record Measures (line : List ℕ) (start bytes at sum : ℕ) : Type 0 where
  pub few : sum ≤ 6 * at
  pub left : (n : ℕ) → BehindName line start n → (m : ℕ) × BehindName line at m × (bytes + n ≡ sum + m)

pub measures_start : {line : List ℕ} {at bytes : ℕ} → bytes ≤ 6 * at → Measures line at bytes at bytes
measures_start few = record { few = few; left = λ n b. (n, b, refl) }

module _ {line : List ℕ} {start bytes at sum : ℕ} (so_far : Measures line start bytes at sum) where
  measures_on : (taken next : ℕ) → taken ≤ 6 → at < next → ((n : ℕ) → BehindName line at n → Less line n taken next) → Measures line start bytes next (sum + taken)
  measures_on taken next most further one =
      record {
        few = omega (arith, so_far.few);
        left = λ n b.
            let m = so_far.left n b in
            let l = one m.0 m.1 in
            (l.0, l.1, omega (arith, m.2, l.2));
      }

  pub measures_value : (a : Cursor) → part_at at (one_character (is colon) (drop at line)) ≡ P.Read a → {e : ℕ} → e ≡ a.at + span is_letter_or_digit 6 (drop a.at line)
      → Measures line start bytes e (sum + 4)
  measures_value a h {e} q = measures_on 4 e (omega arith) (colon_on line at a h e q).0 (one_value line at a h e q)

  module _ (p : ℕ) (no_colon : part_at at (one_character (is colon) (drop at line)) ≡ P.Refused p) where
    pub measures_switch : (a : Cursor) → part_at at (one_character (is slash) (drop at line)) ≡ P.Read a → {e : ℕ} → e ≡ a.at + span is_letter_or_digit 6 (drop a.at line)
        → Measures line start bytes e (sum + 6)
    measures_switch a h {e} q = measures_on 6 e (omega arith) (slash_on line at a h e q).0 (one_switch_more line at p no_colon a h e q)

    pub measures_done : (p' : ℕ) → part_at at (one_character (is slash) (drop at line)) ≡ P.Refused p' → (n : ℕ) → BehindName line start n → sum ≡ bytes + n
    measures_done p' no_slash n b = let m = so_far.left n b in omega (arith, m.2, nothing_more line at p no_colon p' no_slash m.0 m.1)
