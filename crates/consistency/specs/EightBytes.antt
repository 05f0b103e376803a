-- Means: eight bytes as one number, the lowest byte first.
use Rattle.std.specs.Prelude.{ℕ, ◌+◌, ◌*◌, List, get_or}

abbrev pub joined : ℕ → ℕ → ℕ → ℕ → ℕ → ℕ → ℕ → ℕ → ℕ
joined b₀ b₁ b₂ b₃ b₄ b₅ b₆ b₇ =
    b₀ + 256 * b₁ + 65536 * b₂ + 16777216 * b₃ + 4294967296 * b₄ + 1099511627776 * b₅ + 281474976710656 * b₆ + 72057594037927936 * b₇

unfoldable pub eight_at : List ℕ → ℕ → ℕ
eight_at bytes i =
    joined (get_or bytes i 0) (get_or bytes (i + 1) 0) (get_or bytes (i + 2) 0) (get_or bytes (i + 3) 0)
    (get_or bytes (i + 4) 0) (get_or bytes (i + 5) 0) (get_or bytes (i + 6) 0) (get_or bytes (i + 7) 0)
