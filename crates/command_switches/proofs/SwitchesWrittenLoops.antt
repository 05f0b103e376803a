-- The loops of the writer: whatever the rest comes to, the whole comes to.
use Prim.Native.Nat.{ℕ, ◌+◌, ◌*◌, ◌≤◌, ◌<◌}
use mathlib.Core.Path.{◌≡◌, refl, ◌∙◌}
use mathlib.Core.List.{List}
use native.Mathlib.Omega.{arith}
use lib.ListN.{length, drop}
use Rattle.command_grammar.specs.LineCharacters.{colon, slash}
use Rattle.command_grammar.specs.Reader.{is, one_character}
use Rattle.command_cursor.specs.CursorAt.{part_at}
use Rattle.command_cursor.specs.declared.Cursor.{Cursor}
use Rattle.command_cursor.specs.Part as P
use Rattle.command_switches.specs.declared.WrittenValues.{WrittenValues}
use Rattle.command_switches.specs.SwitchesWritten.{set_words, name_at, behind_name, name_words, ValuesFit, ValuesWritten, SwitchWritten, SwitchesFit, SwitchesWritten}
use Rattle.command_switches.proofs.SwitchesWrittenParts.{no_values, value_asked, values_on, values_asked, values_written}
use Rattle.command_switches.proofs.SwitchesWrittenParts.{no_switches, values_room, switches_on, switches_asked, switches_written}

pub record ValuesLead (line : List ℕ) (start i first : ℕ) (before : List ℕ) (at place count : ℕ) (buffer : List ℕ) : Type 0 where
  pub few : count ≤ at
  pub within : at ≤ length line
  pub fit : ValuesFit line at place (length buffer)
  pub kept : length buffer ≡ length before
  pub leads : (r : WrittenValues) (after : List ℕ) → ValuesWritten line at place count buffer r after → ValuesWritten line start i first before r after

pub values_start : {line : List ℕ} {at i : ℕ} {before : List ℕ} → at ≤ length line → ValuesFit line at i (length before) → ValuesLead line at i 0 before at i 0 before
values_start within fit = record { few = omega arith; within = within; fit = fit; kept = refl; leads = λ r after written. written }

module _ {line : List ℕ} {start i first : ℕ} {before : List ℕ} {at place count : ℕ} {buffer : List ℕ} (so_far : ValuesLead line start i first before at place count buffer) where
  pub values_done : (p : ℕ) → part_at at (one_character (is colon) (drop at line)) ≡ P.Refused p
      → ValuesWritten line start i first before (record { values = count; next = record { at = at } }) buffer
  values_done p h = so_far.leads _ buffer (no_values line (record { at = at }) place count p buffer so_far.few so_far.within h)

  module _ (a : Cursor) (read : part_at at (one_character (is colon) (drop at line)) ≡ P.Read a) where
    pub value_room : (a.at ≤ length line) × (2 * place + 3 < length buffer)
    value_room = value_asked line at a read place (length buffer) so_far.fit

    module _ (next : Cursor) (behind : next.at ≡ behind_name line a.at) where
      pub value_on : (at < next.at) × (next.at ≤ length line)
      value_on = values_on line at a read next behind

      pub value_more : {after : List ℕ} → length after ≡ length buffer → after ≡ set_words buffer place (name_words (name_at line a.at))
          → ValuesLead line start i first before next.at (place + 2) (count + 1) after
      value_more {after} long set =
          let on = value_on in
          record {
            few = omega (arith, on.0, so_far.few);
            within = on.1;
            fit = values_asked line at a read next behind place (length buffer) (length after) long so_far.fit;
            kept = long ∙ so_far.kept;
            leads = λ r last written. so_far.leads r last (values_written line at a read next behind place count buffer after last r set written);
          }

pub record SwitchesLead (line : List ℕ) (start i first : ℕ) (before : List ℕ) (at place count : ℕ) (buffer : List ℕ) : Type 0 where
  pub few : count ≤ at
  pub fit : SwitchesFit line at place (length buffer)
  pub kept : length buffer ≡ length before
  pub leads : (r : ℕ) (after : List ℕ) → SwitchesWritten line at place count buffer r after → SwitchesWritten line start i first before r after

pub switches_start : {line : List ℕ} {at i : ℕ} {before : List ℕ} → SwitchesFit line at i (length before) → SwitchesLead line at i 0 before at i 0 before
switches_start fit = record { few = omega arith; fit = fit; kept = refl; leads = λ r after written. written }

module _ {line : List ℕ} {start i first : ℕ} {before : List ℕ} {at place count : ℕ} {buffer : List ℕ} (so_far : SwitchesLead line start i first before at place count buffer) where
  pub switches_done : (p : ℕ) → part_at at (one_character (is slash) (drop at line)) ≡ P.Refused p → SwitchesWritten line start i first before count buffer
  switches_done p h = so_far.leads count buffer (no_switches line at place count p buffer h)

  module _ (a : Cursor) (read : part_at at (one_character (is slash) (drop at line)) ≡ P.Read a) (r : WrittenValues) {after : List ℕ} (set : SwitchWritten line a.at place buffer r after) where
    pub switch_room : 2 * (place + 3 + 2 * r.values) ≤ length buffer
    switch_room = values_room line at a read place buffer after r set (length buffer) so_far.fit

    pub switch_on : (at < r.next.at) × (at < length line)
    switch_on = switches_on line at a read place buffer after r set (length buffer) so_far.fit

    pub switch_more : length after ≡ length buffer → SwitchesLead line start i first before r.next.at (place + 3 + 2 * r.values) (count + 1) after
    switch_more long =
        record {
          few = omega (arith, switch_on.0, so_far.few);
          fit = switches_asked line at a read place buffer after r set (length buffer) (length after) long so_far.fit;
          kept = long ∙ so_far.kept;
          leads = λ r' last written. so_far.leads r' last (switches_written line at a read place buffer after r set count r' last written);
        }
