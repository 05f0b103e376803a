-- What a character is to a reader: how few tests tell it, and what is known once it is told.
use Prim.Native.Nat.{ℕ, ◌≤◌, ◌<◌}
use mathlib.Core.Path.{◌≡◌, refl}
use mathlib.Core.Bool.{Bool, true, false, ◌||◌}
use native.Mathlib.Omega.{arith}
use lib.Dec.{eqb}
use borrow.Author.Tests.{eq-eqb, ne_eqb, eqb-false}
use Rattle.lines.specs.declared.line_read.Role.TheVariants.{Discarded, Terminator, Plain}
use Rattle.lines.specs.TextBytes.{is_discarded, is_terminator}
use Rattle.lines.specs.Reader.{IsRole, discarded, terminator, plain}

-- between NUL and RUBOUT, and from 10 to 12
kept : {y : ℕ} → (y ≡ 0 → ⊥) → (y ≡ 127 → ⊥) → is_discarded y ≡ false
kept {y} nul rubout = rw (ne_eqb y 0 nul, ne_eqb y 127 rubout)

ends : (y : ℕ) → 10 ≤ y → y ≤ 12 → is_terminator y ≡ true
ends y low high = by (eqb y 10) (eqb y 11) refl refl
  where
    by : (feed tab : Bool) → eqb y 10 ≡ feed → eqb y 11 ≡ tab → (feed || (tab || eqb y 12)) ≡ true
    by true tab f t = refl
    by false true f t = refl
    by false false f t = eq-eqb y 12 (omega (arith, eqb-false y 10 f, eqb-false y 11 t))

goes_on : (y : ℕ) → (y ≡ 10 → ⊥) → (y ≡ 11 → ⊥) → (y ≡ 12 → ⊥) → is_terminator y ≡ false
goes_on y feed tab form = rw (ne_eqb y 10 feed, ne_eqb y 11 tab, ne_eqb y 12 form)

module _ {y : ℕ} where
  pub rubout_discarded : y ≡ 127 → IsRole y Discarded
  rubout_discarded is = rw is (discarded refl)

  pub nul_discarded : y ≡ 0 → IsRole y Discarded
  nul_discarded is = rw is (discarded refl)

  pub high_plain : 12 < y → (y ≡ 127 → ⊥) → IsRole y Plain
  high_plain high rubout = plain (kept (λ is. omega arith) rubout) (goes_on y (λ is. omega arith) (λ is. omega arith) (λ is. omega arith))

  pub low_terminator : y ≤ 12 → (y ≡ 0 → ⊥) → 10 ≤ y → IsRole y Terminator
  low_terminator low nul high = terminator (kept nul (λ is. omega arith)) (ends y high low)

  pub low_plain : y ≤ 12 → (y ≡ 0 → ⊥) → y < 10 → IsRole y Plain
  low_plain low nul lower = plain (kept nul (λ is. omega arith)) (goes_on y (λ is. omega arith) (λ is. omega arith) (λ is. omega arith))

  pub role_discarded : IsRole y Discarded → is_discarded y ≡ true
  role_discarded (discarded d) = d

  pub role_terminator : IsRole y Terminator → (is_discarded y ≡ false) × (is_terminator y ≡ true)
  role_terminator (terminator d t) = (d, t)

  pub role_plain : IsRole y Plain → (is_discarded y ≡ false) × (is_terminator y ≡ false)
  role_plain (plain d t) = (d, t)
