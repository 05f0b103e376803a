-- The three results of reading a line: the whole line, in either mode; the line with its surplus laid over the last byte; and the stop where the buffer is full.
use Prim.Native.Nat.{ℕ, ◌≤◌, ◌<◌}
use mathlib.Core.Path.{◌≡◌, refl}
use mathlib.Core.Bool.{Bool, true, false, not, cond, ◌&&◌, ◌||◌, true≢false, false≢true}
use mathlib.Core.List.{List}
use native.Mathlib.Omega.{arith}
use lib.Dec.{eqb, ltb}
use lib.ListN.{length}
use borrow.Author.Tests.{ltb-true, ltb-false, eqb-true, eqb-false}
use Rattle.lines.specs.declared.LineMode.{LineMode}
use Rattle.lines.specs.declared.LineMode.TheVariants.{Normal, Special}
use Rattle.lines.specs.LineRead.{LineFound, kept_line, is_terminated, is_over, whole_line, surplus_laid, stopped, line_found}

-- a line comes before the count is reached, or the count before the line's end
pub data ReadCase (most : ℕ) (s : List ℕ) : LineMode → LineFound → Type 0 where
  whole : {mode : LineMode} → length (kept_line s) ≤ most → (is_terminated s ≡ false → length (kept_line s) < most) → ReadCase most s mode (whole_line s)
  surplus : most ≤ length (kept_line s) → (is_terminated s ≡ true → most < length (kept_line s)) → ReadCase most s Normal (surplus_laid most s)
  stop : most ≤ length (kept_line s) → (is_terminated s ≡ true → most < length (kept_line s)) → ReadCase most s Special (stopped most s)

module _ (most long : ℕ) (terminated : Bool) where
  over : (ltb most long || (eqb long most && not terminated)) ≡ true → (most ≤ long) × (terminated ≡ true → most < long)
  over is = by (ltb most long) (eqb long most) terminated refl refl is
    where
      by : (more same t : Bool) → ltb most long ≡ more → eqb long most ≡ same → (more || (same && not t)) ≡ true → (most ≤ long) × (t ≡ true → most < long)
      by true same t m e is = (omega (arith, ltb-true most long m), λ ended. ltb-true most long m)
      by false true true m e is = absurd (false≢true is)
      by false true false m e is = (omega (arith, eqb-true long most e), λ ended. absurd (false≢true ended))
      by false false t m e is = absurd (false≢true is)

  within : (ltb most long || (eqb long most && not terminated)) ≡ false → (long ≤ most) × (terminated ≡ false → long < most)
  within is = by (ltb most long) (eqb long most) terminated refl refl is
    where
      by : (more same t : Bool) → ltb most long ≡ more → eqb long most ≡ same → (more || (same && not t)) ≡ false → (long ≤ most) × (t ≡ false → long < most)
      by true same t m e is = absurd (true≢false is)
      by false true true m e is = (ltb-false most long m, λ unended. absurd (true≢false unended))
      by false true false m e is = absurd (true≢false is)
      by false false t m e is = (ltb-false most long m, λ unended. omega (arith, ltb-false most long m, eqb-false long most e))

pub found_case : (mode : LineMode) (most : ℕ) (s : List ℕ) → ReadCase most s mode (line_found mode most s)
unfolding line_found
found_case Normal most s = by (is_over most s) refl
  where
    by : (b : Bool) → is_over most s ≡ b → ReadCase most s Normal (cond b (surplus_laid most s) (whole_line s))
    by true is = let facts = over most (length (kept_line s)) (is_terminated s) is in surplus facts.0 facts.1
    by false is = let facts = within most (length (kept_line s)) (is_terminated s) is in whole facts.0 facts.1
found_case Special most s = by (is_over most s) refl
  where
    by : (b : Bool) → is_over most s ≡ b → ReadCase most s Special (cond b (stopped most s) (whole_line s))
    by true is = let facts = over most (length (kept_line s)) (is_terminated s) is in stop facts.0 facts.1
    by false is = let facts = within most (length (kept_line s)) (is_terminated s) is in whole facts.0 facts.1
