-- What reading lays and counts is what is kept of the bytes passed: laid whole in special mode, counted in both.
use Prim.Native.Nat.{ℕ, zero, suc}
use mathlib.Core.Path.{◌≡◌, refl, sym, ap, ◌∙◌}
use mathlib.Core.Bool.{Bool, true, false, cond}
use mathlib.Core.List.{List, [], ◌∷◌, ◌++◌}
use lib.ListN.{length, take, drop, take-append-drop}
use lib.Seq.{take-append-le}
use Rattle.lines.specs.declared.LineMode.{LineMode}
use Rattle.lines.specs.declared.LineMode.TheVariants.{Normal, Special}
use Rattle.lines.specs.TextBytes.{seven_bits, is_discarded, kept_of}
use Rattle.lines.specs.LineRead.{LineFound, line_passed, kept_line, passed_for, line_found}
use Rattle.lines.proofs.TextBytes.{kept_append}
use Rattle.lines.proofs.LineReadCases.{ReadCase, whole, surplus, stop, found_case}
use Rattle.lines.proofs.LineReadProgress.{special_count}

-- what is kept of the bytes passed and of those behind
pub kept_split : (n : ℕ) (s : List ℕ) → kept_of (take n s) ++ kept_of (drop n s) ≡ kept_of s
kept_split n s = sym (kept_append (take n s) (drop n s)) ∙ ap kept_of (take-append-drop n s)

kept_first : (k : ℕ) (s : List ℕ) → take k (kept_of s) ≡ kept_of (take (passed_for k s) s)
unfolding kept_of passed_for
kept_first zero s = refl
kept_first (suc k) [] = refl
kept_first (suc k) (x ∷ s) = by (is_discarded (seven_bits x)) refl (kept_first (suc k) s) (kept_first k s)
  where
    by : (b : Bool) → is_discarded (seven_bits x) ≡ b → take (suc k) (kept_of s) ≡ kept_of (take (passed_for (suc k) s) s) → take k (kept_of s) ≡ kept_of (take (passed_for k s) s)
        → take (suc k) (cond b (kept_of s) (seven_bits x ∷ kept_of s)) ≡ kept_of (take (suc (cond b (passed_for (suc k) s) (passed_for k s))) (x ∷ s))
    by true d same less = rw d same
    by false d same less = rw (d, less)

pub special_laid : (most : ℕ) (s : List ℕ) → (line_found Special most s).laid ≡ kept_of (take (line_found Special most s).passed s)
special_laid most s = by (found_case Special most s)
  where
    by : {f : LineFound} → ReadCase most s Special f → f.laid ≡ kept_of (take f.passed s)
    by (whole short unended) = refl
    by (stop long ended) =
        sym (take-append-le most (kept_line s) (kept_of (drop (line_passed s) s)) long) ∙ ap (λ (l : List ℕ). take most l) (kept_split (line_passed s) s) ∙ kept_first most s

pub read_count : (mode : LineMode) (most : ℕ) (s : List ℕ) → (line_found mode most s).count ≡ length (kept_of (take (line_found mode most s).passed s))
read_count Normal most s = by (found_case Normal most s)
  where
    by : {f : LineFound} → ReadCase most s Normal f → f.count ≡ length (kept_of (take f.passed s))
    by (whole short unended) = refl
    by (surplus long ended) = refl
read_count Special most s = special_count most s ∙ ap (λ (l : List ℕ). length l) (special_laid most s)
