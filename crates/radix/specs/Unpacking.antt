-- Means: how RADUP takes a word apart without dividing. The word is held above twelve bits, and each weight that is taken away leaves its bit there.
use Rattle.std.specs.Prelude.{ℕ, ◌+◌, ◌-◌, ◌*◌, ◌/◌, cond, List, [], ◌∷◌, leb}

-- what the bits of the first code weigh in a word, then those of the second
abbrev pub weights : List ℕ
weights = 51200 ∷ (25600 ∷ (12800 ∷ (6400 ∷ (3200 ∷ (1600 ∷ (1280 ∷ (640 ∷ (320 ∷ (160 ∷ (80 ∷ (40 ∷ [])))))))))))

-- one weight, taken away where what is held reaches it
unfoldable pub lessened : ℕ → ℕ → ℕ → ℕ
lessened weight bit held = cond (leb weight held) (held - weight + bit) held

-- one weight after another, each with half the bit of the one before it
unfoldable pub through : List ℕ → ℕ → ℕ → ℕ
through [] bit held = held
through (w ∷ ws) bit held = through ws (bit / 2) (lessened (4096 * w) bit held)
