-- What stands at a place, where the values of a switch or switches were read there.
use Prim.Native.Nat.{ℕ, suc, ◌+◌, ◌<◌}
use mathlib.Core.Path.{◌≡◌, refl, sym, ap, ◌∙◌}
use mathlib.Core.List.{List, [], ◌∷◌}
use mathlib.Core.Bool.{Bool, true, false, cond, ◌||◌}
use native.Mathlib.Omega.{arith}
use borrow.Author.Tests.{le-leb}
use lib.ListN.{take, drop}
use Rattle.radix.specs.Names.{is_letter, is_digit, is_letter_or_digit}
use Rattle.command_grammar.specs.LineCharacters.{colon, slash}
use Rattle.command_grammar.specs.Parsed.{Switch}
use Rattle.command_grammar.specs.Reader.{is, Res, ok, no, moved, later, and_then, from, seq, second, mk_switch, many, word, span, one_character, switch_value, switch}
use Rattle.command_grammar.proofs.ReaderParts.{value_reads, value_first, switch_part, switch_first, is_out, is_in, after_uic}
use Rattle.command_grammar.proofs.ReaderPlaces.{from_many_missed, from_many_found, seq_both, word_taken, progress}
use Rattle.command_switches.specs.SwitchesWritten.{name_at, behind_name}

clash : {A : Type 0} {P : Type 0} (a : A) (n p : ℕ) → ◌≡◌ {A = Res A} (no p) (ok a n) → P
clash a n p told = let z : ◌≡◌ {A = ℕ} 0 1 = cc in absurd (omega arith)

-- where no character c stands, nothing that begins with it was read
none_read : {A : Type 0} (c : ℕ) (f : List ℕ → Res A) (s : List ℕ) (i p : ℕ) (read : List A) (end : ℕ) → from (one_character (is c)) s i ≡ no p
    → from (many (is c) f) s i ≡ ok read end → (read ≡ []) × (end ≡ i)
none_read c f s i p read end missed told = let e = sym (from_many_missed c f s i p missed) ∙ told in (cc, cc)

-- behind the colon, at `next`, stands a value
value_read : (line : List ℕ) (at x next : ℕ) (v : List ℕ) (end : ℕ) → from (one_character (is colon)) line at ≡ ok x next → from switch_value line at ≡ ok v end
    → (v ≡ name_at line next) × (end ≡ behind_name line next)
unfolding switch_value name_at behind_name
value_read line at x next v end found told =
    let b = seq_both second (one_character (is colon)) (word 1 (span is_letter_or_digit 6)) line at told in
    let e = sym b.3 ∙ found in
    let same : b.1 ≡ next = cc in
    let w = word_taken 1 (span is_letter_or_digit 6) line next (rw same at b.4) in
    (b.5 ∙ w.1, w.0)

pub record MoreValues (line : List ℕ) (next : ℕ) (values : List (List ℕ)) (end : ℕ) : Type 0 where
  pub rest : List (List ℕ)
  pub all : values ≡ name_at line next ∷ rest
  pub behind : from (many (is colon) switch_value) line (behind_name line next) ≡ ok rest end

module _ (line : List ℕ) (at : ℕ) (values : List (List ℕ)) (end : ℕ) (stand : from (many (is colon) switch_value) line at ≡ ok values end) where
  pub values_none : (p : ℕ) → from (one_character (is colon)) line at ≡ no p → (values ≡ []) × (end ≡ at)
  values_none p missed = none_read colon switch_value line at p values end missed stand

  pub values_more : (x next : ℕ) → from (one_character (is colon)) line at ≡ ok x next → MoreValues line next values end
  values_more x next found =
      let on = from_many_found colon value_reads value_first (is_out colon is_letter_or_digit refl) line at x next found in
      let b = seq_both ◌∷◌ switch_value (many (is colon) switch_value) line at (sym on ∙ stand) in
      let v = value_read line at x next b.0 b.1 found b.3 in
      record { rest = b.2; all = rw (← v.0) b.5; behind = rw v.1 at b.4 }

word_any : (n : List ℕ → ℕ) (s : List ℕ) → word 0 n s ≡ ok (take (n s) s) (n s)
unfolding word
word_any n s = rw (le-leb 0 (n s) (omega arith))

-- "a letter, up to 5 more A-Z, 0-9" is a run of up to 6
name_run : (d name : List ℕ) (n : ℕ) → seq ◌∷◌ (one_character is_letter) (word 0 (span is_letter_or_digit 5)) d ≡ ok name n
    → (name ≡ take (span is_letter_or_digit 6 d) d) × (n ≡ span is_letter_or_digit 6 d)
unfolding one_character span
name_run [] name n told = clash name n 0 told
name_run (x ∷ d) name n told = go (is_letter x) (is_digit x) told
  where
    go : (letter digit : Bool) → and_then ◌∷◌ (word 0 (span is_letter_or_digit 5)) (x ∷ d) (cond letter (ok x 1) (no 0)) ≡ ok name n
        → (name ≡ take (cond (letter || digit) (suc (span is_letter_or_digit 5 d)) 0) (x ∷ d)) × (n ≡ cond (letter || digit) (suc (span is_letter_or_digit 5 d)) 0)
    go true digit told =
        let e = ap (later 1 (◌∷◌ x)) (sym (word_any (span is_letter_or_digit 5) d)) ∙ told in
        let count : 1 + span is_letter_or_digit 5 d ≡ n = cc in
        (cc, omega arith)
    go false digit told = clash name n 0 told

name_read : (line : List ℕ) (at : ℕ) (name : List ℕ) (end : ℕ) → from (seq ◌∷◌ (one_character is_letter) (word 0 (span is_letter_or_digit 5))) line at ≡ ok name end
    → (name ≡ name_at line at) × (end ≡ behind_name line at)
unfolding from name_at behind_name
name_read line at name end told = go (seq ◌∷◌ (one_character is_letter) (word 0 (span is_letter_or_digit 5)) (drop at line)) refl told
  where
    go : (r : Res (List ℕ)) → seq ◌∷◌ (one_character is_letter) (word 0 (span is_letter_or_digit 5)) (drop at line) ≡ r → moved at r ≡ ok name end
        → (name ≡ take (span is_letter_or_digit 6 (drop at line)) (drop at line)) × (end ≡ at + span is_letter_or_digit 6 (drop at line))
    go (ok v n) read told =
        let w = name_run (drop at line) v n read in
        let same : v ≡ name = cc in
        let place : at + n ≡ end = cc in
        (sym same ∙ w.0, omega (arith, w.1))
    go (no n) read told = clash name end (at + n) told

-- behind the slash, at `next`, stands the name of a switch, and then its values
named_read : (line : List ℕ) (next : ℕ) (w : Switch) (end : ℕ)
    → from (seq mk_switch (seq ◌∷◌ (one_character is_letter) (word 0 (span is_letter_or_digit 5))) (many (is colon) switch_value)) line next ≡ ok w end
    → (values : List (List ℕ)) × (w ≡ mk_switch (name_at line next) values) × (from (many (is colon) switch_value) line (behind_name line next) ≡ ok values end)
named_read line next w end told =
    let b = seq_both mk_switch (seq ◌∷◌ (one_character is_letter) (word 0 (span is_letter_or_digit 5))) (many (is colon) switch_value) line next told in
    let n = name_read line next b.0 b.1 b.3 in
    (b.2, rw (← n.0) b.5, rw n.1 at b.4)

switch_read : (line : List ℕ) (at x next : ℕ) (w : Switch) (end : ℕ) → from (one_character (is slash)) line at ≡ ok x next → from switch line at ≡ ok w end
    → (values : List (List ℕ)) × (w ≡ mk_switch (name_at line next) values) × (from (many (is colon) switch_value) line (behind_name line next) ≡ ok values end)
unfolding switch
switch_read line at x next w end found told =
    let b = seq_both second (one_character (is slash)) (seq mk_switch (seq ◌∷◌ (one_character is_letter) (word 0 (span is_letter_or_digit 5))) (many (is colon) switch_value)) line at told in
    let e = sym b.3 ∙ found in
    let same : b.1 ≡ next = cc in
    named_read line next w end (rw (same, ← b.5) at b.4)

pub record MoreSwitches (line : List ℕ) (at next : ℕ) (switches : List Switch) (end : ℕ) : Type 0 where
  pub values : List (List ℕ)
  pub middle : ℕ
  pub rest : List Switch
  pub all : switches ≡ mk_switch (name_at line next) values ∷ rest
  pub behind : from (many (is colon) switch_value) line (behind_name line next) ≡ ok values middle
  pub then : from (many (is slash) switch) line middle ≡ ok rest end
  pub on : at < middle

module _ (line : List ℕ) (at : ℕ) (switches : List Switch) (end : ℕ) (stand : from (many (is slash) switch) line at ≡ ok switches end) where
  pub switches_none : (p : ℕ) → from (one_character (is slash)) line at ≡ no p → (switches ≡ []) × (end ≡ at)
  switches_none p missed = none_read slash switch line at p switches end missed stand

  pub switches_more : (x next : ℕ) → from (one_character (is slash)) line at ≡ ok x next → MoreSwitches line at next switches end
  switches_more x next found =
      let on = from_many_found slash switch_part switch_first (is_in slash after_uic refl) line at x next found in
      let b = seq_both ◌∷◌ switch (many (is slash) switch) line at (sym on ∙ stand) in
      let w = switch_read line at x next b.0 b.1 found b.3 in
      record {
        values = w.0;
        middle = b.1;
        rest = b.2;
        all = rw (← w.1) b.5;
        behind = w.2;
        then = b.4;
        on = (progress slash switch_part switch_first (is_in slash after_uic refl) line at b.0 b.1 b.3).0;
      }
