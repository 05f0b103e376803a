-- The code's tests of a character: whether it ends a line, and how many bytes are put for it.
use Prim.Native.Nat.{ℕ}
use mathlib.Core.Path.{◌≡◌}
use mathlib.Core.Bool.{true}
use lib.Dec.{eqb}
use lib.ListN.{length}
use borrow.Author.Tests.{eq-eqb, ne_eqb}
use Rattle.lines.specs.TextBytes.{is_terminator}
use Rattle.lines.specs.LineWrite.{put_of}

module _ {x : ℕ} where
  pub ends_feed : x ≡ 10 → true ≡ is_terminator x
  ends_feed is = rw (eq-eqb x 10 is)

  pub ends_vertical : (x ≡ 10 → ⊥) → x ≡ 11 → true ≡ is_terminator x
  ends_vertical feed is = rw (ne_eqb x 10 feed, eq-eqb x 11 is)

  pub ends_form : (x ≡ 10 → ⊥) → (x ≡ 11 → ⊥) → eqb x 12 ≡ is_terminator x
  ends_form feed vertical = rw (ne_eqb x 10 feed, ne_eqb x 11 vertical)

  pub two_tab : x ≡ 9 → 2 ≡ length (put_of x)
  two_tab is = rw (eq-eqb x 9 is)

  pub two_form : (x ≡ 9 → ⊥) → x ≡ 12 → 2 ≡ length (put_of x)
  two_form tab is = rw (ne_eqb x 9 tab, eq-eqb x 12 is)

  pub one_else : (x ≡ 9 → ⊥) → (x ≡ 12 → ⊥) → 1 ≡ length (put_of x)
  one_else tab form = rw (ne_eqb x 9 tab, ne_eqb x 12 form)
