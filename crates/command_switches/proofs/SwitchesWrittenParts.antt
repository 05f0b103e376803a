-- What each part of the writer asks of the parts that it calls, and what it promises by what they did.
use Prim.Native.Nat.{ℕ, ◌+◌, ◌*◌, ◌≤◌, ◌<◌}
use mathlib.Core.Path.{◌≡◌, refl, sym, ap, ◌∙◌}
use mathlib.Core.List.{List, ◌++◌}
use native.Mathlib.Omega.{arith}
use lib.ListN.{length, drop, length-append}
use Rattle.words.specs.Word.{set_word}
use Rattle.command_grammar.specs.LineCharacters.{colon, slash}
use Rattle.command_grammar.specs.Parsed.{Switch}
use Rattle.command_grammar.specs.Reader.{is, ok, one_character, many, switch_value, switch, mk_switch, from}
use Rattle.command_cursor.specs.CursorAt.{part_at}
use Rattle.command_cursor.specs.declared.Cursor.{Cursor}
use Rattle.command_cursor.specs.Part as P
use Rattle.command_cursor.proofs.CursorAtRuns.{found, missed, found_place}
use Rattle.command_switches.specs.declared.WrittenValues.{WrittenValues}
use Rattle.command_switches.specs.Encoded.{value_words, switch_words, all_switch_words, encoded}
use Rattle.command_switches.specs.SwitchesWritten.{SwitchesWritable, set_words, name_at, behind_name, name_words, ValuesFit, ValuesWritten, SwitchWritten, SwitchesFit, SwitchesWritten}
use Rattle.command_switches.proofs.EncodedLength.{switch_length, bytes_length}
use Rattle.command_switches.proofs.SwitchesWrittenWords.{set_append, set_first, from_start}
use Rattle.command_switches.proofs.SwitchesWrittenNames.{behind_after, behind_within}
use Rattle.command_switches.proofs.SwitchesWrittenStanding.{MoreValues, values_none, values_more, MoreSwitches, switches_none, switches_more}

words_joined : (xs ys before first after : List ℕ) (i j : ℕ) → j ≡ i + length xs → first ≡ set_words before i xs → after ≡ set_words first j ys
    → after ≡ set_words before i (xs ++ ys)
words_joined xs ys before first after i j next first-set second-set =
    second-set ∙ rw (first-set, next) (sym (set_append xs ys before i))

-- The values of a switch.

pub no_values : (line : List ℕ) (c : Cursor) (i count p : ℕ) (before : List ℕ) → count ≤ c.at → c.at ≤ length line
    → part_at c.at (one_character (is colon) (drop c.at line)) ≡ P.Refused p → ValuesWritten line c.at i count before (record { values = count; next = c }) before
unfolding set_words value_words
no_values line c i count p before few within refused = record {
  done = λ values end stand.
      let n = values_none line c.at values end stand p (missed colon line c.at p refused) in
      (rw n.0, rw n.0 (omega arith), sym n.1);
  few = few;
  within = within;
}

module _ (line : List ℕ) (at : ℕ) (a : Cursor) (read : part_at at (one_character (is colon) (drop at line)) ≡ P.Read a) where
  more_values : (values : List (List ℕ)) (end : ℕ) → from (many (is colon) switch_value) line at ≡ ok values end → MoreValues line a.at values end
  more_values values end stand = let f = found colon line at a read in values_more line at values end stand f.0 a.at f.1

  -- a place behind the colon, and room for a value
  pub value_asked : (i room : ℕ) → ValuesFit line at i room → (a.at ≤ length line) × (2 * i + 3 < room)
  value_asked i room fit =
      let m = more_values fit.values fit.end fit.stand in
      ((found_place colon line at a read).1, omega (arith, fit.fits, ap (λ (l : List (List ℕ)). length l) m.all))

  module _ (next : Cursor) (behind : next.at ≡ behind_name line a.at) where
    pub values_on : (at < next.at) × (next.at ≤ length line)
    values_on =
        let o = found_place colon line at a read in
        (omega (arith, o.0, behind_after line a.at), omega (arith, behind_within line a.at o.1))

    pub values_asked : (i room left : ℕ) → left ≡ room → ValuesFit line at i room → ValuesFit line next.at (i + 2) left
    values_asked i room left same fit =
        let m = more_values fit.values fit.end fit.stand in
        record {
          values = m.rest;
          end = fit.end;
          stand = rw behind m.behind;
          fits = omega (arith, fit.fits, ap (λ (l : List (List ℕ)). length l) m.all);
        }

    pub values_written : (i count : ℕ) (before first after : List ℕ) (r : WrittenValues) → first ≡ set_words before i (name_words (name_at line a.at))
        → ValuesWritten line next.at (i + 2) (count + 1) first r after → ValuesWritten line at i count before r after
    unfolding value_words
    values_written i count before first after r name_set rest = record {
      done = λ values end stand.
          let m = more_values values end stand in
          let d = rest.done m.rest end (rw behind m.behind) in
          let words = words_joined (name_words (name_at line a.at)) (value_words m.rest) before first after i (i + 2) refl name_set d.0 in (
            words ∙ ap (λ (l : List (List ℕ)). set_words before i (value_words l)) (sym m.all),
            omega (arith, d.1, ap (λ (l : List (List ℕ)). length l) m.all),
            d.2,
          );
      few = rest.few;
      within = rest.within;
    }

-- A switch.

module _ (line : List ℕ) (at : ℕ) (next : Cursor) (behind : next.at ≡ behind_name line at) where
  pub behind_name_law : at ≤ length line → next.at ≤ length line
  behind_name_law within = omega (arith, behind_within line at within)

  pub its_values_asked : (i room left : ℕ) → left ≡ room → ValuesFit line (behind_name line at) i room → ValuesFit line next.at i left
  its_values_asked i room left same fit = rw (behind, same) fit

  pub switch_written : (i : ℕ) (before first second after : List ℕ) (r : WrittenValues) → first ≡ set_words before (i + 1) (name_words (name_at line at))
      → ValuesWritten line next.at (i + 3) 0 first r second → after ≡ set_word second i r.values → SwitchWritten line at i before r after
  switch_written i before first second after r name_set values count_set = record {
    done = λ vs end stand.
        let d = values.done vs end (rw behind stand) in
        let count : r.values ≡ length vs = omega (arith, d.1) in
        let words = words_joined (name_words (name_at line at)) (value_words vs) before first second (i + 1) (i + 3) (omega arith) name_set d.0 in
        (count_set ∙ rw (count, words) (set_first (name_words (name_at line at) ++ value_words vs) before i (length vs)), count, d.2);
  }

-- Switches.

pub no_switches : (line : List ℕ) (at i count p : ℕ) (before : List ℕ) → part_at at (one_character (is slash) (drop at line)) ≡ P.Refused p
    → SwitchesWritten line at i count before count before
unfolding set_words all_switch_words
no_switches line at i count p before refused = record {
  done = λ switches end stand. let n = switches_none line at switches end stand p (missed slash line at p refused) in (rw n.0, rw n.0 (omega arith));
}

module _ (line : List ℕ) (at : ℕ) (a : Cursor) (read : part_at at (one_character (is slash) (drop at line)) ≡ P.Read a) where
  more_switches : (switches : List Switch) (end : ℕ) → from (many (is slash) switch) line at ≡ ok switches end → MoreSwitches line at a.at switches end
  more_switches switches end stand = let f = found slash line at a read in switches_more line at switches end stand f.0 a.at f.1

  more_words : (switches : List Switch) (end : ℕ) (m : MoreSwitches line at a.at switches end)
      → length (all_switch_words switches) ≡ 3 + 2 * length m.values + length (all_switch_words m.rest)
  unfolding all_switch_words
  more_words switches end m =
      omega (
        arith,
        ap (λ (l : List Switch). length (all_switch_words l)) m.all,
        length-append (switch_words (mk_switch (name_at line a.at) m.values)) (all_switch_words m.rest),
        switch_length (mk_switch (name_at line a.at) m.values),
      )

  pub switch_asked : (i room : ℕ) → SwitchesFit line at i room → (a.at ≤ length line) × (length line ≤ 65535) × ValuesFit line (behind_name line a.at) (i + 3) room
  switch_asked i room fit =
      let m = more_switches fit.switches fit.end fit.stand in (
        (found_place slash line at a read).1,
        fit.short,
        record { values = m.values; end = m.middle; stand = m.behind; fits = omega (arith, fit.fits, more_words fit.switches fit.end m) },
      )

  module _ (i : ℕ) (before first : List ℕ) (r : WrittenValues) (set : SwitchWritten line a.at i before r first) where
    -- the values of this switch are so many that the word behind them stands in the buffer or at its end
    pub values_room : (room : ℕ) → SwitchesFit line at i room → 2 * (i + 3 + 2 * r.values) ≤ room
    values_room room fit =
        let m = more_switches fit.switches fit.end fit.stand in
        omega (arith, fit.fits, more_words fit.switches fit.end m, (set.done m.values m.middle m.behind).1)

    pub switches_on : (room : ℕ) → SwitchesFit line at i room → (at < r.next.at) × (at < length line)
    switches_on room fit =
        let m = more_switches fit.switches fit.end fit.stand in
        let o = found_place slash line at a read in
        (omega (arith, m.on, (set.done m.values m.middle m.behind).2), omega (arith, o.0, o.1))

    pub switches_asked : (room left : ℕ) → left ≡ room → SwitchesFit line at i room → SwitchesFit line r.next.at (i + 3 + 2 * r.values) left
    switches_asked room left same fit =
        let m = more_switches fit.switches fit.end fit.stand in
        let d = set.done m.values m.middle m.behind in
        record {
          switches = m.rest;
          end = fit.end;
          stand = rw d.2 m.then;
          fits = omega (arith, fit.fits, more_words fit.switches fit.end m, d.1);
          short = fit.short;
        }

    pub switches_written : (count r' : ℕ) (after : List ℕ) → SwitchesWritten line r.next.at (i + 3 + 2 * r.values) (count + 1) first r' after
        → SwitchesWritten line at i count before r' after
    unfolding all_switch_words
    switches_written count r' after rest = record {
      done = λ switches end stand.
          let m = more_switches switches end stand in
          let w = mk_switch (name_at line a.at) m.values in
          let d = set.done m.values m.middle m.behind in
          let e = rest.done m.rest end (rw d.2 m.then) in
          let next : i + 3 + 2 * r.values ≡ i + length (switch_words w) = omega (arith, d.1, switch_length w) in (
            words_joined (switch_words w) (all_switch_words m.rest) before first after i (i + 3 + 2 * r.values) next d.0 e.0
                ∙ ap (λ (l : List Switch). set_words before i (all_switch_words l)) (sym m.all),
            omega (arith, e.1, ap (λ (l : List Switch). length l) m.all),
          );
    }

-- The whole: from the start of the buffer.

module _ (line : List ℕ) (at : ℕ) where
  pub all_asked : (room : ℕ) → SwitchesWritable line at room → SwitchesFit line at 0 room
  unfolding encoded
  all_asked room w = record { switches = w.switches; end = w.end; stand = w.stand; fits = omega (arith, w.fits, bytes_length (all_switch_words w.switches)); short = w.short }

  pub all_written : (before : List ℕ) (r : ℕ) (after : List ℕ) → SwitchesWritable line at (length before) → SwitchesWritten line at 0 0 before r after
      → (ws : List Switch) (end : ℕ) → from (many (is slash) switch) line at ≡ ok ws end → (after ≡ encoded ws ++ drop (length (encoded ws)) before) × (r ≡ length ws)
  unfolding encoded
  all_written before r after w written ws end stand =
      let e = sym w.stand ∙ stand in
      let same : w.switches ≡ ws = cc in
      let d = written.done ws end stand in
      (d.0 ∙ from_start (all_switch_words ws) before (rw (← same) w.fits), omega (arith, d.1))
