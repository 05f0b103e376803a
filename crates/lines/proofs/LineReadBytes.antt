-- A line byte by byte: what its first byte, by its kind, adds to what is passed, to what is kept, and to whether there is a terminator.
use Prim.Native.Nat.{ℕ, suc, ◌<◌}
use mathlib.Core.Path.{◌≡◌, sym, ◌∙◌}
use mathlib.Core.Bool.{Bool, true, false, false≢true}
use mathlib.Core.List.{List, [], ◌∷◌}
use Rattle.lines.specs.TextBytes.{seven_bits, is_discarded, is_terminator, kept_of, through, any_of}
use Rattle.lines.specs.LineRead.{line_passed, kept_line, is_terminated}
use native.Mathlib.Omega.{arith}
use lib.ListN.{length}
use Rattle.lines.proofs.TextBytes.{ByteKind, discarded, ends, plain, kind_of}

-- what a line is, behind a byte
pub record Behind (x : ℕ) (s : List ℕ) (passed : ℕ) (line : List ℕ) (terminated : Bool) : Type 0 where
  pub passed_is : line_passed (x ∷ s) ≡ suc passed
  pub line_is : kept_line (x ∷ s) ≡ line
  pub terminated_is : is_terminated (x ∷ s) ≡ terminated

module _ (x : ℕ) (s : List ℕ) where
  pub behind_discarded : is_discarded (seven_bits x) ≡ true → is_terminator (seven_bits x) ≡ false → Behind x s (line_passed s) (kept_line s) (is_terminated s)
  unfolding kept_of through any_of
  behind_discarded d t = record { passed_is = rw t; line_is = rw (t, d); terminated_is = rw t }

  pub behind_plain : is_discarded (seven_bits x) ≡ false → is_terminator (seven_bits x) ≡ false
      → Behind x s (line_passed s) (seven_bits x ∷ kept_line s) (is_terminated s)
  unfolding kept_of through any_of
  behind_plain d t = record { passed_is = rw t; line_is = rw (t, d); terminated_is = rw t }

  pub behind_end : is_discarded (seven_bits x) ≡ false → is_terminator (seven_bits x) ≡ true → Behind x s 0 (seven_bits x ∷ []) true
  unfolding kept_of through any_of
  behind_end d t = record { passed_is = rw t; line_is = rw (t, d); terminated_is = rw t }

-- a terminator is a byte of the line
pub terminated_some : (s : List ℕ) → is_terminated s ≡ true → 0 < length (kept_line s)
terminated_some [] is = absurd (false≢true (unfold any_of in is))
terminated_some (x ∷ s) is = by (kind_of x) (terminated_some s)
  where
    by : ByteKind x → (is_terminated s ≡ true → 0 < length (kept_line s)) → 0 < length (kept_line (x ∷ s))
    by (discarded d t) rest =
        let b = behind_discarded x s d t in
        rw b.line_is (rest (sym b.terminated_is ∙ is))
    by (ends d t) rest = rw (behind_end x s d t).line_is (omega arith)
    by (plain d t) rest = rw (behind_plain x s d t).line_is (omega arith)
