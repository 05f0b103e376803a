-- What the first byte does to the result of reading: one that is discarded is passed, a terminator ends, and in special mode a plain one is laid before the rest.
use Prim.Native.Nat.{ℕ, zero, suc, ◌≤◌, ◌<◌}
use mathlib.Core.Path.{◌≡◌, refl, ap, ◌∙◌}
use mathlib.Core.Bool.{Bool, true, false, cond}
use mathlib.Core.List.{List, [], ◌∷◌}
use native.Mathlib.Omega.{arith}
use lib.Dec.{leb-suc-suc, eqb-suc-suc}
use lib.ListN.{length}
use Rattle.lines.specs.declared.LineMode.{LineMode}
use Rattle.lines.specs.declared.LineMode.TheVariants.{Normal, Special}
use Rattle.lines.specs.TextBytes.{seven_bits, is_discarded, is_terminator}
use Rattle.lines.specs.LineRead.{LineFound, line_passed, kept_line, is_terminated, is_over, passed_for, whole_line, surplus_laid, stopped, line_found}
use Rattle.lines.proofs.LineReadBytes.{Behind, behind_discarded, behind_plain, behind_end, terminated_some}
use Rattle.lines.proofs.LineReadCases.{ReadCase, whole, surplus, stop, found_case}

-- the same with a byte more passed, and with a byte more laid
abbrev pub one_passed : LineFound → LineFound
one_passed f = record { laid = f.laid; count = f.count; status = f.status; passed = suc f.passed }

abbrev pub one_laid : ℕ → LineFound → LineFound
one_laid y f = record { laid = y ∷ f.laid; count = suc f.count; status = f.status; passed = suc f.passed }

one_passed_law : (over : Bool) (f g : LineFound) → cond over (one_passed f) (one_passed g) ≡ one_passed (cond over f g)
one_passed_law true f g = refl
one_passed_law false f g = refl

one_laid_law : (over : Bool) (y : ℕ) (f g : LineFound) → cond over (one_laid y f) (one_laid y g) ≡ one_laid y (cond over f g)
one_laid_law true y f g = refl
one_laid_law false y f g = refl

module _ (x : ℕ) (s : List ℕ) where
  passed_for_discarded : (k : ℕ) → 0 < k → is_discarded (seven_bits x) ≡ true → passed_for k (x ∷ s) ≡ suc (passed_for k s)
  unfolding passed_for
  passed_for_discarded zero some d = absurd (omega arith)
  passed_for_discarded (suc k) some d = rw d

  passed_for_kept : (k : ℕ) → is_discarded (seven_bits x) ≡ false → passed_for (suc k) (x ∷ s) ≡ suc (passed_for k s)
  unfolding passed_for
  passed_for_kept k d = rw d

  pub found_discarded : (mode : LineMode) (most : ℕ) → 0 < most → is_discarded (seven_bits x) ≡ true → is_terminator (seven_bits x) ≡ false
      → line_found mode most (x ∷ s) ≡ one_passed (line_found mode most s)
  unfolding line_found
  found_discarded Normal most some d t =
      let b = behind_discarded x s d t in
      rw (b.line_is, b.terminated_is, b.passed_is) (one_passed_law (is_over most s) (surplus_laid most s) (whole_line s))
  found_discarded Special most some d t =
      let b = behind_discarded x s d t in
      rw (b.line_is, b.terminated_is, b.passed_is, passed_for_discarded most some d) (one_passed_law (is_over most s) (stopped most s) (whole_line s))

  pub found_end : (mode : LineMode) (most : ℕ) → 0 < most → is_discarded (seven_bits x) ≡ false → is_terminator (seven_bits x) ≡ true
      → line_found mode most (x ∷ s) ≡ record { laid = seven_bits x ∷ []; count = 1; status = 0; passed = 1 }
  found_end mode most some d t = by (found_case mode most (x ∷ s))
    where
      b : Behind x s 0 (seven_bits x ∷ []) true
      b = behind_end x s d t

      by : {m : LineMode} {f : LineFound} → ReadCase most (x ∷ s) m f → f ≡ record { laid = seven_bits x ∷ []; count = 1; status = 0; passed = 1 }
      by (whole short unended) = rw (b.line_is, b.terminated_is, b.passed_is)
      by (surplus long ended) = absurd (omega (arith, rw b.line_is at (ended b.terminated_is)))
      by (stop long ended) = absurd (omega (arith, rw b.line_is at (ended b.terminated_is)))

  module _ (d : is_discarded (seven_bits x) ≡ false) (t : is_terminator (seven_bits x) ≡ false) where
    pub special_full : line_found Special 1 (x ∷ s) ≡ record { laid = seven_bits x ∷ []; count = 1; status = 1; passed = 1 }
    special_full = by (found_case Special 1 (x ∷ s))
      where
        b : Behind x s (line_passed s) (seven_bits x ∷ kept_line s) (is_terminated s)
        b = behind_plain x s d t

        long_is : length (kept_line (x ∷ s)) ≡ suc (length (kept_line s))
        long_is = ap (λ (line : List ℕ). length line) b.line_is

        never : (terminated : Bool) → is_terminated s ≡ terminated → length (kept_line (x ∷ s)) ≤ 1
            → (is_terminated (x ∷ s) ≡ false → length (kept_line (x ∷ s)) < 1) → ⊥
        never true is short unended = omega (arith, long_is, terminated_some s is)
        never false is short unended = omega (arith, long_is, unended (b.terminated_is ∙ is))

        by : {f : LineFound} → ReadCase 1 (x ∷ s) Special f → f ≡ record { laid = seven_bits x ∷ []; count = 1; status = 1; passed = 1 }
        by (whole short unended) = absurd (never (is_terminated s) refl short unended)
        by (stop long ended) = rw (b.line_is, passed_for_kept 0 d) (unfold passed_for in refl)

    pub special_plain : (k : ℕ) → line_found Special (suc (suc k)) (x ∷ s) ≡ one_laid (seven_bits x) (line_found Special (suc k) s)
    unfolding line_found
    special_plain k =
        let b = behind_plain x s d t in
        rw (b.line_is, b.terminated_is, b.passed_is, passed_for_kept (suc k) d, leb-suc-suc, eqb-suc-suc) (one_laid_law (is_over (suc k) s) (seven_bits x) (stopped (suc k) s) (whole_line s))
