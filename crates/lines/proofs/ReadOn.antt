-- Reading on to the end of the file: it ends, it lays in special mode what the text keeps, and it counts that in both modes.
use Prim.Native.Nat.{ℕ, zero, suc, ◌≤◌, ◌<◌}
use mathlib.Core.Path.{◌≡◌, refl, ap}
use mathlib.Core.List.{List, [], ◌∷◌}
use native.Mathlib.Omega.{arith}
use lib.ListN.{length, take, drop, length-drop, length-append}
use Rattle.lines.specs.declared.LineMode.{LineMode}
use Rattle.lines.specs.declared.LineMode.TheVariants.{Special}
use Rattle.lines.specs.TextBytes.{kept_of}
use Rattle.lines.specs.LineRead.{LineFound, line_found}
use Rattle.lines.specs.ReadOn.{ReadOn, finished, next, laid_joined, counts_added}
use Rattle.lines.proofs.LineReadProgress.{passed_some}
use Rattle.lines.proofs.LineReadKept.{kept_split, special_laid, read_count}

-- whatever the buffers, there are not more calls than bytes
pub read_on_few : {mode : LineMode} {mosts : ℕ → ℕ} {s : List ℕ} {found : List LineFound} → ReadOn mode mosts s found → length found ≤ length s
read_on_few finished = omega arith
read_on_few {mode} {mosts} (next {s = s} some there rest) =
    omega (arith, read_on_few rest, length-drop (line_found mode (mosts 0) s).passed s, passed_some mode (mosts 0) s some there)

-- and the end is reached with any
pub read_on_ends : (mode : LineMode) (mosts : ℕ → ℕ) → ((i : ℕ) → 0 < mosts i) → (s : List ℕ) → (found : List LineFound) × ReadOn mode mosts s found
read_on_ends mode mosts some s = within (length s) mosts some s (omega arith)
  where
    within : (bound : ℕ) (mosts : ℕ → ℕ) → ((i : ℕ) → 0 < mosts i) → (s : List ℕ) → length s ≤ bound → (found : List LineFound) × ReadOn mode mosts s found
    within zero mosts some [] few = ([], finished)
    within (suc bound) mosts some [] few = ([], finished)
    within zero mosts some (x ∷ s) few = absurd (omega arith)
    within (suc bound) mosts some (x ∷ s) few =
        let passed = (line_found mode (mosts 0) (x ∷ s)).passed in
        let there : 0 < length (x ∷ s) = omega arith in
        let fewer : length (drop passed (x ∷ s)) ≤ bound =
        omega (arith, length-drop passed (x ∷ s), passed_some mode (mosts 0) (x ∷ s) (some 0) there) in
        let rest = within bound (λ i. mosts (suc i)) (λ i. some (suc i)) (drop passed (x ∷ s)) fewer in
        (line_found mode (mosts 0) (x ∷ s) ∷ rest.0, next (some 0) there rest.1)

pub special_joined : {mosts : ℕ → ℕ} {s : List ℕ} {found : List LineFound} → ReadOn Special mosts s found → laid_joined found ≡ kept_of s
unfolding laid_joined
special_joined finished = (unfold kept_of in refl)
special_joined {mosts} (next {s = s} some there rest) =
    rw (special_joined rest, special_laid (mosts 0) s) (kept_split (line_found Special (mosts 0) s).passed s)

pub counts_added_law : {mode : LineMode} {mosts : ℕ → ℕ} {s : List ℕ} {found : List LineFound} → ReadOn mode mosts s found
    → counts_added found ≡ length (kept_of s)
unfolding counts_added
counts_added_law finished = (unfold kept_of in refl)
counts_added_law {mode} {mosts} (next {s = s} some there rest) =
    let passed = (line_found mode (mosts 0) s).passed in
    omega (
      arith,
      counts_added_law rest,
      read_count mode (mosts 0) s,
      length-append (kept_of (take passed s)) (kept_of (drop passed s)),
      ap (λ (l : List ℕ). length l) (kept_split passed s),
    )
