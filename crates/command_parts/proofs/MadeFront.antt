-- The numbers of a file, where it stands at a place of the line; and the parts of a head.
use Prim.Native.Nat.{ℕ, ◌+◌, ◌-◌, ◌≤◌, ◌<◌}
use mathlib.Core.Path.{◌≡◌, refl, sym, ap, ◌∙◌}
use mathlib.Core.List.{List}
use mathlib.Core.Option.{Option, none, some}
use mathlib.Core.Bool.{Bool, true, false, cond}
use Rattle.std.specs.Prelude.{Some, None}
use native.Mathlib.Omega.{arith}
use lib.Dec.{leb}
use lib.ListN.{length, take, drop}
use Rattle.radix.specs.Names.{is_letter_or_digit}
use Rattle.command_grammar.specs.LineCharacters.{period}
use Rattle.command_grammar.specs.Grammar.{All}
use Rattle.command_grammar.specs.Parsed.{Device, FileName}
use Rattle.command_grammar.specs.Keeps.{device_keeps}
use Rattle.command_grammar.specs.Reader.{is, Res, ok, no, mapped, moved, from, second, mk_file, mk_head, word, span, one_character, Head, device, file, head, head_from}
use Rattle.command_grammar.proofs.ReaderPlaces.{from_opt_missed, from_opt_found, from_seq, mapped_ok, seq_both, word_taken}
use Rattle.command_cursor.specs.CursorAt.{part_at}
use Rattle.command_cursor.specs.FilledWord.{filled_word, first_word, second_word}
use Rattle.command_cursor.specs.declared.Cursor.{Cursor}
use Rattle.command_cursor.specs.declared.NameWords.{NameWords}
use Rattle.command_cursor.specs.Part as P
use Rattle.command_cursor.proofs.CursorAtRuns.{found, missed, found_place, run_up, run_within, run_found, run_most, named_run}
use Rattle.command_parts.specs.Made.{extension_found, file_found}
use Rattle.command_parts.specs.Passed.{extension, passing, unit_of_device, keeps_of}
use Rattle.command_parts.specs.declared.reading.ReadAt.{ReadAt}
use Rattle.command_parts.specs.declared.reading.FileNumbers.{FileNumbers}
use Rattle.command_parts.specs.Passing.{Passing}
use Rattle.command_parts.specs.Passing as W
use Rattle.command_parts.proofs.Passed.{passing_ok, passing_no}
use Rattle.command_parts.proofs.PassedFile.{extended, named, file_absent, file_present}
use Rattle.command_parts.proofs.PassedHead.{head_with, moved_mapped}

-- behind a name that ends at `i`: nothing, or a period and characters
module _ (s : List ℕ) (i : ℕ) where
  pub extension_none : {p : ℕ} → part_at i (one_character (is period) (drop i s)) ≡ P.Refused p
      → (x : Option (List ℕ)) (j : ℕ) → from extension s i ≡ ok x j → ◌≡◌ {A = ReadAt ℕ} (record { part = None; next = record { at = i } })
      (extension_found x j)
  unfolding extension_found
  extension_none {p} h x j stands =
      let told = sym (from_opt_missed period extended s i p (missed period s i p h)) ∙ stands in
      let absent : none ≡ x = cc in
      let ends : i ≡ j = cc in
      rw (← absent, ← ends)

  module _ (a : Cursor) (h : part_at i (one_character (is period) (drop i s)) ≡ P.Read a) (e : ℕ) (q : e ≡ a.at + span is_letter_or_digit 3 (drop a.at s)) where
    pub extension_wordable : ((a.at ≤ e) × (e ≤ length s)) × ((e ≤ a.at + 3) × All is_letter_or_digit (take (e - a.at) (drop a.at s)))
    extension_wordable = (
      (run_up is_letter_or_digit 3 s a.at e q, run_within is_letter_or_digit 3 s a.at e q (found_place period s i a h).1),
      (run_most is_letter_or_digit 3 s a.at e q 65 refl, named_run 3 s a.at e q),
    )

    extension_parts : {x : Option (List ℕ)} {j : ℕ} → from extension s i ≡ ok x j → (x ≡ some (take (e - a.at) (drop a.at s))) × (j ≡ e)
    extension_parts stands =
        let f = found period s i a h in
        let y = mapped_ok some (from extended s i) (sym (from_opt_found period extended s i f.0 a.at f.1) ∙ stands) in
        let z = mapped_ok (second f.0) (from (word 1 (span is_letter_or_digit 3)) s a.at)
        (sym (from_seq second (one_character (is period)) (word 1 (span is_letter_or_digit 3)) s i f.0 a.at f.1) ∙ y.1) in
        let w = word_taken 1 (span is_letter_or_digit 3) s a.at z.1 in
        let long : span is_letter_or_digit 3 (drop a.at s) ≡ e - a.at = omega (arith, q) in
        (y.2 ∙ ap some (z.2 ∙ w.1 ∙ ap (λ (n : ℕ). take n (drop a.at s)) long), w.0 ∙ sym q)

    pub extension_made : {w : ℕ} → w ≡ filled_word (take (e - a.at) (drop a.at s))
        → (x : Option (List ℕ)) (j : ℕ) → from extension s i ≡ ok x j → ◌≡◌ {A = ReadAt ℕ}
        (record { part = Some w; next = record { at = e } }) (extension_found x j)
    unfolding extension_found
    extension_made is x j stands = let y = extension_parts stands in rw (y.0, y.1, is)

-- the characters of a name have words
pub name_wordable : (s : List ℕ) (i e : ℕ) → e ≡ i + span is_letter_or_digit 6 (drop i s) → (e ≡ i → ⊥)
    → ((i ≤ e) × (e ≤ length s)) × ((e ≤ i + 6) × All is_letter_or_digit (take (e - i) (drop i s)))
name_wordable s i e q z =
    let up = run_up is_letter_or_digit 6 s i e q in
    let longer : i < e = omega (arith, up) in
    ((up, run_found is_letter_or_digit 6 s i e q longer), (run_most is_letter_or_digit 6 s i e q 65 refl, named_run 6 s i e q))

-- a file: a name up to `e`, and what stands behind it
module _ (s : List ℕ) (i e : ℕ) (q : e ≡ i + span is_letter_or_digit 6 (drop i s)) where
  pub file_none : e ≡ i → (f : Option FileName) (j : ℕ) → from file s i ≡ ok f j
      → ◌≡◌ {A = ReadAt FileNumbers} (record { part = None; next = record { at = i } }) (file_found f j)
  unfolding file_found
  file_none z f j stands =
      let told = sym (file_absent s i e q z) ∙ stands in
      let absent : none ≡ f = cc in
      let ends : i ≡ j = cc in
      rw (← absent, ← ends)

  module _ (z : e ≡ i → ⊥) where
    file_parts : {f : Option FileName} {j : ℕ} → from file s i ≡ ok f j → (x : Option (List ℕ)) × (from extension s e ≡ ok x j) × (f ≡ some (mk_file (take (e - i) (drop i s)) x))
    file_parts h =
        let f = mapped_ok some (from named s i) (sym (file_present s i e q z) ∙ h) in
        let x = seq_both mk_file (word 1 (span is_letter_or_digit 6)) extension s i f.1 in
        let w = word_taken 1 (span is_letter_or_digit 6) s i x.3 in
        let ends : x.1 ≡ e = w.0 ∙ sym q in
        let long : span is_letter_or_digit 6 (drop i s) ≡ e - i = omega (arith, q) in
        let name : x.0 ≡ take (e - i) (drop i s) = w.1 ∙ ap (λ (n : ℕ). take n (drop i s)) long in
        (x.2, ap (from extension s) (sym ends) ∙ x.4, f.2 ∙ ap some (x.5 ∙ ap (λ (n : List ℕ). mk_file n x.2) name))

    pub file_made : {n : NameWords} → (n.first ≡ first_word (take (e - i) (drop i s))) × (n.second ≡ second_word (take (e - i) (drop i s)))
        → (x : ReadAt ℕ) → ((y : Option (List ℕ)) (j : ℕ) → from extension s e ≡ ok y j → x ≡ extension_found y j)
        → (f : Option FileName) (j : ℕ) → from file s i ≡ ok f j
        → ◌≡◌ {A = ReadAt FileNumbers} (record { part = Some (record { name1 = n.first; name2 = n.second; extension = x.part }); next = x.next }) (file_found f j)
    unfolding file_found extension_found
    file_made names x is f j stands = let y = file_parts stands in rw (y.2, names.0, names.1, is y.0 j y.1)

-- a device and a file
module _ (s : List ℕ) (i j : ℕ) where
  pub with_parts : {b : ℕ} {d : Device} {h : Head} → from device s i ≡ ok d b → from head s i ≡ ok h j → (f : Option FileName) × (from file s b ≡ ok f j) × (h ≡ mk_head (some d) f)
  with_parts {b} {d} here all = mapped_ok (mk_head (some d)) (from file s b) (sym (head_with s i d b here) ∙ all)

  without_from : {h : Head} {p : ℕ} (r : Res Device) → device (drop i s) ≡ r → moved i r ≡ no p → from head s i ≡ ok h j
      → (f : Option FileName) × (from file s i ≡ ok f j) × (h ≡ mk_head none f)
  unfolding from head head_from
  without_from (ok d n) c l all = let z : ◌≡◌ {A = ℕ} 0 1 = cc in absurd (omega arith)
  without_from {h} (no n) c l all = go (leb n (span is_letter_or_digit 6 (drop i s))) (sym (ap (λ (r : Res Device). moved i (head_from (drop i s) r)) c) ∙ all)
    where
      go : (b : Bool) → moved i (cond b (mapped (mk_head none) (file (drop i s))) (no n)) ≡ ok h j → (f : Option FileName) × (from file s i ≡ ok f j) × (h ≡ mk_head none f)
      go true q = mapped_ok (mk_head none) (from file s i) (sym (moved_mapped i none (file (drop i s))) ∙ q)
      go false q = let z : ◌≡◌ {A = ℕ} 0 1 = cc in absurd (omega arith)

  pub without_parts : {h : Head} {p : ℕ} → from device s i ≡ no p → from head s i ≡ ok h j → (f : Option FileName) × (from file s i ≡ ok f j) × (h ≡ mk_head none f)
  unfolding from
  without_parts none_here all = without_from (device (drop i s)) refl none_here all

  -- what `pass_device` says of the unit is so of the head's device
  pub unit_kept : {d : Passing} {h : Head} → d ≡ passing unit_of_device (from device s i) → from head s i ≡ ok h j → keeps_of d ≡ device_keeps h.device
  unit_kept {d} {h} found all = by d (sym found)
    where
      by : (d : Passing) → passing unit_of_device (from device s i) ≡ d → keeps_of d ≡ device_keeps h.device
      by (W.Read b keeps) is =
          let d = passing_ok unit_of_device b keeps (from device s i) is in
          rw (d.2, (with_parts d.1 all).2)
      by (W.Refused p) is = rw (without_parts (passing_no unit_of_device p (from device s i) is) all).2
