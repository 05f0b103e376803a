-- Reading a line makes progress and keeps within the buffer: what is passed, what is laid, and what the count is.
use Prim.Native.Nat.{ℕ, zero, suc, ◌-◌, ◌≤◌, ◌<◌, min}
use mathlib.Core.Path.{◌≡◌, refl}
use mathlib.Core.Bool.{Bool, true, false, cond}
use mathlib.Core.List.{List, [], ◌∷◌, ◌++◌}
use native.Mathlib.Omega.{arith}
use lib.Dec.{leb}
use lib.ListN.{length, take, get_or, length-take, length-append}
use borrow.Author.Tests.{leb-true, leb-false}
use Rattle.lines.specs.declared.LineMode.{LineMode}
use Rattle.lines.specs.declared.LineMode.TheVariants.{Normal, Special}
use Rattle.lines.specs.TextBytes.{seven_bits, is_discarded, kept_of, through, any_of}
use Rattle.lines.specs.LineRead.{LineFound, ends_line, kept_line, passed_for, overlaid, line_found}
use Rattle.lines.proofs.TextBytes.{through_most, through_some}
use Rattle.lines.proofs.LineReadCases.{ReadCase, whole, surplus, stop, found_case}

passed_for_most : (k : ℕ) (s : List ℕ) → passed_for k s ≤ length s
unfolding passed_for
passed_for_most zero s = omega arith
passed_for_most (suc k) [] = omega arith
passed_for_most (suc k) (x ∷ s) = by (is_discarded (seven_bits x)) (passed_for_most (suc k) s) (passed_for_most k s)
  where
    by : (discarded : Bool) → passed_for (suc k) s ≤ length s → passed_for k s ≤ length s
        → suc (cond discarded (passed_for (suc k) s) (passed_for k s)) ≤ suc (length s)
    by true same less = omega arith
    by false same less = omega arith

passed_for_some : (k : ℕ) (s : List ℕ) → 0 < k → 0 < length s → 0 < passed_for k s
unfolding passed_for
passed_for_some zero s some there = some
passed_for_some (suc k) [] some there = there
passed_for_some (suc k) (x ∷ s) some there = omega arith

pub overlaid_length : (most : ℕ) (line : List ℕ) → 0 < most → length (overlaid most line) ≡ min most (length line)
overlaid_length most line some = by (leb (length line) most) refl
  where
    by : (short : Bool) → leb (length line) most ≡ short
        → length (cond short line (take (most - 1) line ++ (get_or line (length line - 1) 0 ∷ []))) ≡ min most (length line)
    by true is = omega (arith, leb-true (length line) most is)
    by false is = simp (length-append, length-take) (omega (arith, leb-false (length line) most is))

module _ (mode : LineMode) (most : ℕ) (s : List ℕ) where
  pub passed_most : (line_found mode most s).passed ≤ length s
  passed_most = by (found_case mode most s)
    where
      by : {m : LineMode} {f : LineFound} → ReadCase most s m f → f.passed ≤ length s
      by (whole short unended) = through_most ends_line s
      by (surplus long ended) = through_most ends_line s
      by (stop long ended) = passed_for_most most s

  pub passed_some : 0 < most → 0 < length s → 0 < (line_found mode most s).passed
  passed_some some there = by (found_case mode most s)
    where
      by : {m : LineMode} {f : LineFound} → ReadCase most s m f → 0 < f.passed
      by (whole short unended) = through_some ends_line s there
      by (surplus long ended) = through_some ends_line s there
      by (stop long ended) = passed_for_some most s some there

  -- as many bytes are laid as the line has, or as the buffer
  pub laid_length : 0 < most → length (line_found mode most s).laid ≡ min most (length (kept_line s))
  laid_length some = by (found_case mode most s)
    where
      by : {m : LineMode} {f : LineFound} → ReadCase most s m f → length f.laid ≡ min most (length (kept_line s))
      by (whole short unended) = omega arith
      by (surplus long ended) = overlaid_length most (kept_line s) some
      by (stop long ended) = length-take most (kept_line s)

  pub laid_most : 0 < most → length (line_found mode most s).laid ≤ most
  laid_most some = omega (arith, laid_length some)

-- normal mode counts the whole line, special mode what is laid
pub normal_count : (most : ℕ) (s : List ℕ) → (line_found Normal most s).count ≡ length (kept_line s)
normal_count most s = by (found_case Normal most s)
  where
    by : {f : LineFound} → ReadCase most s Normal f → f.count ≡ length (kept_line s)
    by (whole short unended) = refl
    by (surplus long ended) = refl

pub special_count : (most : ℕ) (s : List ℕ) → (line_found Special most s).count ≡ length (line_found Special most s).laid
special_count most s = by (found_case Special most s)
  where
    by : {f : LineFound} → ReadCase most s Special f → f.count ≡ length f.laid
    by (whole short unended) = refl
    by (stop long ended) = omega (arith, length-take most (kept_line s))

-- at the end of the file there is nothing to read
pub found_empty : (mode : LineMode) (most : ℕ) → 0 < most → line_found mode most [] ≡ record { laid = []; count = 0; status = 64; passed = 0 }
unfolding kept_of through any_of
found_empty mode most some = by (found_case mode most [])
  where
    by : {m : LineMode} {f : LineFound} → ReadCase most [] m f → f ≡ record { laid = []; count = 0; status = 64; passed = 0 }
    by (whole short unended) = refl
    by (surplus long ended) = absurd (omega arith)
    by (stop long ended) = absurd (omega arith)
