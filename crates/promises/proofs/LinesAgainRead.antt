-- Lines that stand in the payloads of a file that is open for input are read by whole requests, in either mode at each call.
use Prim.Native.Nat.{ℕ, ◌+◌, ◌≤◌, ◌<◌}
use mathlib.Core.Path.{◌≡◌, refl, sym, ap, ◌∙◌}
use mathlib.Core.Logic.{◌⊎◌, inl, inr}
use mathlib.Core.Bool.{Bool, true, false, not}
use mathlib.Core.List.{List, [], ◌∷◌}
use native.Mathlib.Omega.{arith}
use lib.ListN.{length, drop, length-append, length-drop}
use lib.Seq.{drop-drop}
use borrow.Author.Tests.{ne_eqb, le-ltb}
use Rattle.pack.specs.declared.Geometry.{Geometry}
use Rattle.pack.specs.declared.Key.{Key}
use Rattle.pack.specs.Entry.{entry_of}
use Rattle.lines.specs.declared.LineMode.{LineMode}
use Rattle.lines.specs.declared.LineMode.TheVariants.{Normal}
use Rattle.lines.specs.LineRead.{LineFound, kept_line, is_terminated, status_bit, line_found}
use Rattle.lines.specs.LineReadingRows.{wrong_reading}
use Rattle.lines.specs.LineReading.{mode_of, found_outcome, line_read}
use Rattle.lines.specs.LineRoundTrip.{TextLine, terminated, TextLines, no_line, one_more, ReadBack, at_end as found_end, one_read as found-line}
use Rattle.lines.proofs.LineReadCases.{ReadCase, whole, surplus, stop, found_case}
use Rattle.lines.proofs.LineReadProgress.{passed_most}
use Rattle.lines.proofs.LineReadingStage.{LineAsked, line_read_given}
use Rattle.promises.specs.BytesAgain.{payloads_in}
use Rattle.promises.specs.LinesAgain.{ReadAgain, at_end, one_read}
use Rattle.promises.proofs.BytesAgainHeld.{Held, held_payloads, held_length, held_reached}

-- where bit 0 is not set, both modes find the same
module _ (most : ℕ) (s : List ℕ) where
  never_both : length (kept_line s) ≤ most → (is_terminated s ≡ false → length (kept_line s) < most) → most ≤ length (kept_line s)
      → (is_terminated s ≡ true → most < length (kept_line s)) → ⊥
  never_both short unended long ended = by (is_terminated s) refl
    where
      by : (ends : Bool) → is_terminated s ≡ ends → ⊥
      by true is = omega (arith, short, ended is)
      by false is = omega (arith, long, unended is)

  either_mode : (mode : LineMode) → ((line_found Normal most s).status ≡ 0) ⊎ ((line_found Normal most s).status ≡ 64) → line_found mode most s ≡ line_found Normal most s
  either_mode mode even = by (found_case Normal most s) (found_case mode most s) even
    where
      odd : {A : Type 0} (unended : Bool) → (1 + status_bit unended 64 ≡ 0) ⊎ (1 + status_bit unended 64 ≡ 64) → A
      odd true (inl is) = absurd (omega (arith, is))
      odd true (inr is) = absurd (omega (arith, is))
      odd false (inl is) = absurd (omega (arith, is))
      odd false (inr is) = absurd (omega (arith, is))

      by : {m : LineMode} {f h : LineFound} → ReadCase most s Normal f → ReadCase most s m h → (f.status ≡ 0) ⊎ (f.status ≡ 64) → h ≡ f
      by (surplus long ended) other even = odd (not (is_terminated s)) even
      by (whole short unended) (whole again before) even = refl
      by (whole short unended) (surplus long ended) even = absurd (never_both short unended long ended)
      by (whole short unended) (stop long ended) even = absurd (never_both short unended long ended)

line_some : {line : List ℕ} → TextLine line → 0 < length line
line_some (terminated {text = text} t plain ends) = omega (arith, length-append text (t ∷ []))

-- one after another, from a position on
module _ {img : List ℕ} {key : Key} {g : Geometry} {e caller : ℕ} {payloads : List ℕ} (held : Held img key g e caller payloads) (reader : 0 < (entry_of img g e).readers) where
  read_held : (mode position : ℕ) (buffer : List ℕ) → mode ≤ 1 → 0 < length buffer → position ≤ length payloads
      → line_read img key caller mode position buffer ≡ found_outcome img position buffer (line_found (mode_of mode) (length buffer) (drop position payloads))
  read_held mode position buffer small lent within =
      let right : wrong_reading mode buffer ≡ false = rw (ne_eqb (length buffer) 0 (λ none. omega (arith, none, lent)), le-ltb 1 mode small) in
      line_read_given (asked_reading right) (omega (arith, within, held_length held))
      ∙ ap (λ (s : List ℕ). found_outcome img position buffer (line_found (mode_of mode) (length buffer) (drop position s))) (held_payloads held)
    where
      asked_reading : wrong_reading mode buffer ≡ false → LineAsked img key caller mode position buffer g e (entry_of img g e)
      asked_reading right = record { reached = held_reached held reader (wrong_reading mode buffer) right }

  read_found : (mode position : ℕ) (buffer : List ℕ) → mode ≤ 1 → 0 < length buffer → position ≤ length payloads → (found : LineFound)
      → line_found Normal (length buffer) (drop position payloads) ≡ found → (found.status ≡ 0) ⊎ (found.status ≡ 64)
      → line_read img key caller mode position buffer ≡ found_outcome img position buffer found
  read_found mode position buffer small lent within found is even =
      read_held mode position buffer small lent within
      ∙ ap (found_outcome img position buffer) (either_mode (length buffer) (drop position payloads) (mode_of mode) (rw is even) ∙ is)

  pub read_lines : {lines : List (List ℕ)} → TextLines lines → (position : ℕ) → position ≤ length payloads → ReadBack Normal (drop position payloads) lines
      → ReadAgain img key caller position lines
  read_lines no_line position within (found_end found) =
      at_end (λ mode buffer small lent.
      let end : position + length (drop position payloads) ≡ length (payloads_in img key) = omega (arith, length-drop position payloads, ap length (held_payloads held)) in
      read_found mode position buffer small lent within _ (found (length buffer) lent) (inr refl)
      ∙ ap (λ (n : ℕ). record { code = 0; numbers = 0 ∷ (64 ∷ (n ∷ [])); image = img; buffer = buffer }) end)
  read_lines (one_more {line} {lines} is rest) position within (found-line passed found more) =
      let some = line_some is in
      let most : passed ≤ length (drop position payloads) =
      rw (sym (ap (λ (f : LineFound). f.passed) (found (length line) (omega arith)))) (passed_most Normal (length line) (drop position payloads)) in
      one_read {line = line} {lines = lines} (position + passed)
      (λ mode buffer small fits. read_found mode position buffer small (omega (arith, some, fits)) within _ (found (length buffer) fits) (inl refl))
      (read_lines rest (position + passed) (omega (arith, most, length-drop position payloads)) (rw (← drop-drop passed position payloads) more))
