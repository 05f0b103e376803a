-- What Format asks of its arguments.
use Rattle.std.specs.Prelude.{ℕ, ◌/◌, ◌%◌, ◌≡◌, List, length}
use Rattle.pack.specs.Header.{Measured, DistinctWords}

-- the UICs come as bytes, two for each, low byte first
abbrev pub uics_in : List ℕ → ℕ
uics_in uics = length uics / 2

-- "41 unless the image is 512n bytes and n, c, UICs are as above", else "a bad format argument"; a form that is not known, or a part of a UIC, is one too.
-- "Code 40 is not for Format": any image will do.
pub record Formattable (long form blocks contents : ℕ) (uics : List ℕ) : Type 0 where
  -- the bytes of the UICs are whole words
  pub whole : length uics % 2 ≡ 0
  -- n and c are in the form's bounds, there is a body, and "the image is 512n bytes", as of block 0
  pub measured : Measured long form blocks contents (uics_in uics)
  -- "then u UICs, distinct and not 0;"
  pub distinct : DistinctWords uics 0 (uics_in uics)
