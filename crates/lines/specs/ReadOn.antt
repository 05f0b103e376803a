-- Reading on to the end of the file: every call in the same mode, from where the last one stopped, with a buffer of its own length.
use Rattle.std.specs.Prelude.{ℕ, suc, ◌+◌, ◌<◌, List, [], ◌∷◌, ◌++◌, length, drop}
use Rattle.lines.specs.declared.LineMode.{LineMode}
use Rattle.lines.specs.LineRead.{LineFound, line_found}

-- the lengths of the buffers that the calls lend, the bytes from here on, and what the calls find until there are none
pub data ReadOn (mode : LineMode) : (ℕ → ℕ) → List ℕ → List LineFound → Type 0 where
  finished : {mosts : ℕ → ℕ} → ReadOn mode mosts [] []
  next : {mosts : ℕ → ℕ} {s : List ℕ} {more : List LineFound} → 0 < mosts 0 → 0 < length s
      → ReadOn mode (λ i. mosts (suc i)) (drop (line_found mode (mosts 0) s).passed s) more
      → ReadOn mode mosts s (line_found mode (mosts 0) s ∷ more)

-- what all the calls laid, joined, and what they counted, added
unfoldable pub laid_joined : List LineFound → List ℕ
laid_joined [] = []
laid_joined (f ∷ more) = f.laid ++ laid_joined more

unfoldable pub counts_added : List LineFound → ℕ
counts_added [] = 0
counts_added (f ∷ more) = f.count + counts_added more
