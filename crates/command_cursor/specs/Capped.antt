-- Means: a number as far as 256, so that digits of any length are read without overflow. No bound is as large, so a number that keeps its bound is whole.
use Rattle.std.specs.Prelude.{ℕ, cond, ltb}

unfoldable pub capped : ℕ → ℕ
capped number = cond (ltb number 256) number 256
