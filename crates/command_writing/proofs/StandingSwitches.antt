-- Values and switches that stand in records, and what is laid of them.
use Prim.Native.Nat.{ℕ, ◌+◌, ◌≤◌}
use mathlib.Core.Path.{◌≡◌, refl, sym, ap, ◌∙◌}
use mathlib.Core.Bool.{true}
use mathlib.Core.List.{List, [], ◌∷◌, ◌++◌}
use native.Mathlib.Omega.{arith}
use lib.ListN.{length, get_or, drop}
use Rattle.std.specs.Prelude.{Option, Some}
use Rattle.radix.specs.Names.{is_letter_or_digit}
use Rattle.radix.specs.NamesTest.{legal_name}
use Rattle.command_grammar.specs.LineCharacters.{slash, colon}
use Rattle.command_grammar.specs.Parsed.{Switch}
use Rattle.command_grammar.specs.Grammar.{Between}
use Rattle.command_cursor.specs.FilledWord.{first_word, second_word}
use Rattle.command_switches.specs.Encoded.{value_words, switch_words, all_switch_words}
use Rattle.command_writing.specs.declared.Walk.{Walk}
use Rattle.command_writing.specs.WrittenLine.{written_values, written_switches}
use Rattle.command_writing.specs.Sayable.{Each, SayableSwitch}
use Rattle.command_writing.specs.Standing.{joined, name_words, Taken, Never}
use Rattle.command_writing.specs.LaidText.{Puts, shown_name, StepLaid}
use Rattle.command_writing.specs.LaidText as L
use Rattle.command_writing.specs.PartFits.{NameOf, SwitchNameOf, value_text, switch_text}
use Rattle.command_writing.proofs.LaidPieces.{puts_both, puts_same}
use Rattle.command_writing.proofs.LaidNames.{name_shown}
use Rattle.command_writing.proofs.NameTests.{named, switch_run}
use Rattle.command_writing.proofs.RecordRows.{two_rows, three_rows, stands_within}

-- the words and the characters of lists

pub values_joined : (vs : List (List ℕ)) → joined name_words vs ≡ value_words vs
unfolding joined value_words
values_joined [] = refl
values_joined (v ∷ vs) = ap (λ (l : List ℕ). first_word v ∷ (second_word v ∷ l)) (values_joined vs)

pub values_text : (vs : List (List ℕ)) → joined value_text vs ≡ written_values vs
unfolding joined written_values
values_text [] = refl
values_text (v ∷ vs) = ap (λ (l : List ℕ). colon ∷ (v ++ l)) (values_text vs)

pub switches_joined : (ws : List Switch) → joined switch_words ws ≡ all_switch_words ws
unfolding joined all_switch_words
switches_joined [] = refl
switches_joined (w ∷ ws) = ap (λ (l : List ℕ). switch_words w ++ l) (switches_joined ws)

pub switches_text : (ws : List Switch) → joined switch_text ws ≡ written_switches ws
unfolding joined written_switches switch_text
switches_text [] = refl
switches_text (w ∷ ws) = ap (λ (l : List ℕ). (slash ∷ (w.name ++ written_values w.values)) ++ l) (switches_text ws)

-- a value: its two words

module _ {records : List ℕ} {at : ℕ} where
  pub value_none : at ≤ length records → (at + 2 ≤ length records → ⊥) → Never (Between 1 6 is_letter_or_digit) name_words records at
  value_none fits short = record { never = λ v rest says is. short (stands_within records at fits (name_words v) rest is) }

  module _ {first second : ℕ} (inside : at + 2 ≤ length records) (one : first ≡ get_or records at 0) (two : second ≡ get_or records (at + 1) 0) where
    pub value_other : (NameOf first second → ⊥) → Never (Between 1 6 is_letter_or_digit) name_words records at
    value_other other = record { never = never }
      where
        never : (v rest : List ℕ) → Between 1 6 is_letter_or_digit v → drop at records ≡ name_words v ++ rest → ⊥
        never v rest says is =
            let rows = two_rows records at inside in
            let p : first_word v ≡ first = cc in
            let q : second_word v ≡ second = cc in
            other (record { name = v; run = says; first_is = p; second_is = q })

    pub value_taken : (k : NameOf first second) → Taken (Between 1 6 is_letter_or_digit) name_words records at k.name (at + 2)
    value_taken k = record { says = k.run; stands = stands; within = inside; only = only }
      where
        rows : drop at records ≡ get_or records at 0 ∷ (get_or records (at + 1) 0 ∷ drop (at + 2) records)
        rows = two_rows records at inside

        stands : drop at records ≡ name_words k.name ++ drop (at + 2) records
        stands = let p = k.first_is in let q = k.second_is in cc rows

        only : (other rest : List ℕ) → Between 1 6 is_letter_or_digit other → drop at records ≡ name_words other ++ rest → rest ≡ drop (at + 2) records
        only other rest says is = cc rows

    pub value_laid : {before between after : List ℕ} {count middle next : ℕ} → legal_name first second ≡ true → Puts before count between middle (colon ∷ [])
        → Puts between middle after next (shown_name first second)
        → StepLaid (Between 1 6 is_letter_or_digit) name_words value_text records at before count (Some (record { at = at + 2; count = next })) after
    value_laid legal p q =
        let k = named legal in
        L.StepLaid.to (value_taken k) (puts_both p (puts_same (shows k) q))
      where
        shows : (k : NameOf first second) → shown_name first second ≡ k.name
        shows k = ap (λ (w : ℕ). shown_name w second) (sym k.first_is) ∙ ap (shown_name (first_word k.name)) (sym k.second_is) ∙ name_shown k.name k.run

-- a switch: how many values, its name, and they

-- so many values
abbrev pub Values : ℕ → List (List ℕ) → Type 0
Values many = Each (Between 1 6 is_letter_or_digit) many

module _ (records : List ℕ) (at : ℕ) where
  pub switch_none : at ≤ length records → (at + 3 ≤ length records → ⊥) → Never SayableSwitch switch_words records at
  switch_none fits short =
      record { never = λ w rest says is. short (omega (arith, stands_within records at fits (switch_words w) rest is)) }

  module _ {first second : ℕ} (inside : at + 3 ≤ length records) (one : first ≡ get_or records (at + 1) 0) (two : second ≡ get_or records (at + 2) 0) where
    rows : drop at records ≡ get_or records at 0 ∷ (get_or records (at + 1) 0 ∷ (get_or records (at + 2) 0 ∷ drop (at + 3) records))
    rows = three_rows records at inside

    pub switch_other : (SwitchNameOf first second → ⊥) → Never SayableSwitch switch_words records at
    switch_other other = record { never = never }
      where
        never : (w : Switch) (rest : List ℕ) → SayableSwitch w → drop at records ≡ switch_words w ++ rest → ⊥
        never w rest says is =
            let p : first_word w.name ≡ first = cc rows in
            let q : second_word w.name ≡ second = cc rows in
            other (record { name = w.name; begins = says.name; first_is = p; second_is = q })

    -- whatever switch stands there, its values stand behind
    values_behind : (w : Switch) (rest : List ℕ) → drop at records ≡ switch_words w ++ rest
        → (length w.values ≡ get_or records at 0) × (drop (at + 3) records ≡ joined name_words w.values ++ rest)
    values_behind w rest is =
        let joins = values_joined w.values in
        (cc rows, (rw joins (let p : drop (at + 3) records ≡ value_words w.values ++ rest = cc rows in p)))

    module _ {values : ℕ} (many : values ≡ get_or records at 0) where
      pub switch_taken : (k : SwitchNameOf first second) {vs : List (List ℕ)} {end : ℕ} → Taken (Values values) (joined name_words) records (at + 3) vs end
          → Taken SayableSwitch switch_words records at (record { name = k.name; values = vs }) end
      switch_taken k {vs} {end} t =
          record { says = record { name = k.begins; values = t.says.all }; stands = stands; within = t.within; only = only }
        where
          stands : drop at records ≡ switch_words (record { name = k.name; values = vs }) ++ drop end records
          stands =
              let p = k.first_is in
              let q = k.second_is in
              let l = t.says.long in
              let behind : drop (at + 3) records ≡ value_words vs ++ drop end records = rw (values_joined vs) at t.stands in
              cc rows

          only : (other : Switch) (rest : List ℕ) → SayableSwitch other → drop at records ≡ switch_words other ++ rest → rest ≡ drop end records
          only other rest says is =
              let b = values_behind other rest is in
              t.only other.values rest (record { long = b.0 ∙ sym many; all = says.values }) b.1

      pub switch_never : Never (Values values) (joined name_words) records (at + 3) → Never SayableSwitch switch_words records at
      switch_never none = record { never = never }
        where
          never : (w : Switch) (rest : List ℕ) → SayableSwitch w → drop at records ≡ switch_words w ++ rest → ⊥
          never w rest says is =
              let b = values_behind w rest is in
              none.never w.values rest (record { long = b.0 ∙ sym many; all = says.values }) b.1

      pub switch_laid : {before between further after : List ℕ} {count middle later : ℕ} {step : Option Walk} → SwitchNameOf first second
          → Puts before count between middle (slash ∷ []) → Puts between middle further later (shown_name first second)
          → StepLaid (Values values) (joined name_words) (joined value_text) records (at + 3) further later step after
          → StepLaid SayableSwitch switch_words switch_text records at before count step after
      unfolding switch_text
      switch_laid k p q (L.StepLaid.to {v = vs} t r) =
          L.StepLaid.to (switch_taken k t) (puts_both p (puts_both (puts_same (shows k) q) (puts_same (values_text vs) r)))
        where
          shows : (k : SwitchNameOf first second) → shown_name first second ≡ k.name
          shows k = ap (λ (w : ℕ). shown_name w second) (sym k.first_is) ∙ ap (shown_name (first_word k.name)) (sym k.second_is)
              ∙ name_shown k.name (switch_run k.begins)
      switch_laid k p q (L.StepLaid.wrong none) = L.StepLaid.wrong (switch_never none)
