-- The numbers of both ways: all that the other laws know of them.
use Prim.Native.Nat.{ℕ, ◌+◌, ◌≤◌, ◌<◌}
use mathlib.Core.Path.{◌≡◌, refl, sym, ap, ◌∙◌}
use mathlib.Core.Logic.{◌⊎◌, inl, inr}
use native.Mathlib.Omega.{arith}
use borrow.Author.Tests.{ne_eqb}
use Rattle.moving.specs.declared.Way.{Way}
use Rattle.moving.specs.Ways.{back, moved, renumbered}
use Rattle.moving.specs.declared.Way.TheVariants.{Up, Down}

pub back_back : (way : Way) → back (back way) ≡ way
back_back Up = refl
back_back Down = refl

-- a step up or down, as one equation
abbrev pub rise : Way → ℕ
rise Up = 1
rise Down = 0

abbrev pub fall : Way → ℕ
fall Up = 0
fall Down = 1

pub moved_by : (way : Way) (b : ℕ) → 0 < b → moved way b + fall way ≡ b + rise way
unfolding moved
moved_by Up b some = omega arith
moved_by Down b some = omega arith

pub step_small : (way : Way) → fall way + rise way ≡ 1
step_small Up = refl
step_small Down = refl

pub rise_back : (way : Way) → rise (back way) ≡ fall way
rise_back Up = refl
rise_back Down = refl

pub fall_back : (way : Way) → fall (back way) ≡ rise way
fall_back Up = refl
fall_back Down = refl

-- a number from a on there came from one from a on here
pub back_most : (way : Way) (a y : ℕ) → 1 < a → moved way a ≤ y → a ≤ moved (back way) y
back_most way a y some most =
    let low : 0 < y = omega (arith, moved_by way a (omega arith), step_small way) in
    omega (arith, moved_by way a (omega arith), moved_by (back way) y low, rise_back way, fall_back way)

pub back_less : (way : Way) (n y : ℕ) → 0 < n → 0 < y → y < moved way n → moved (back way) y < n
back_less way n y some low less = omega (arith, moved_by way n some, moved_by (back way) y low, rise_back way, fall_back way)

pub moved_next : (way : Way) (b : ℕ) → 0 < b → moved way (b + 1) ≡ moved way b + 1
moved_next way b some = omega (arith, moved_by way b some, moved_by way (b + 1) (omega arith))

pub moved_less : (way : Way) (a b : ℕ) → 0 < a → a < b → moved way a < moved way b
moved_less way a b some less = omega (arith, moved_by way a some, moved_by way b (omega arith))

pub moved_most : (way : Way) (a b : ℕ) → 0 < a → a ≤ b → moved way a ≤ moved way b
moved_most way a b some most = omega (arith, moved_by way a some, moved_by way b (omega arith))

pub moved_some : (way : Way) (b : ℕ) → 1 < b → 0 < moved way b
moved_some way b some = omega (arith, moved_by way b (omega arith), step_small way)

-- there and back, from either side
pub moved_from : (way : Way) (x y : ℕ) → 1 < x → y ≡ moved way x → moved (back way) y ≡ x
unfolding moved
moved_from Up x y some is = omega arith
moved_from Down x y some is = omega arith

pub moved_to : (way : Way) (x y : ℕ) → 1 < x → moved (back way) y ≡ x → y ≡ moved way x
unfolding moved
moved_to Up x y some is = omega arith
moved_to Down x y some is = omega arith

pub moved_again : (way : Way) (x : ℕ) → 1 < x → moved (back way) (moved way x) ≡ x
moved_again way x some = moved_from way x (moved way x) some refl

pub moved_low : (way : Way) (x : ℕ) → x ≤ 1 → moved (back way) (moved way x) ≤ 1
unfolding moved
moved_low Up x low = omega arith
moved_low Down x low = omega arith

pub moved_zero : (way : Way) → moved way 0 ≤ 1
unfolding moved
moved_zero Up = omega arith
moved_zero Down = omega arith

-- numbers that are kept in words
pub renumbered_none : (way : Way) → renumbered way 0 ≡ 0
unfolding renumbered
renumbered_none way = refl

pub renumbered_some : (way : Way) (b : ℕ) → 0 < b → renumbered way b ≡ moved way b
unfolding renumbered
renumbered_some way b some = let other : b ≡ 0 → ⊥ = λ is. omega (arith, is) in simp (ne_eqb b 0 other)

pub renumbered_again : (way : Way) (x : ℕ) → (x ≡ 0) ⊎ (1 < x) → renumbered (back way) (renumbered way x) ≡ x
renumbered_again way x (inl none) =
    ap (λ (n : ℕ). renumbered (back way) (renumbered way n)) none ∙ (ap (renumbered (back way)) (renumbered_none way) ∙ (renumbered_none (back way) ∙ sym none))
renumbered_again way x (inr some) =
    ap (renumbered (back way)) (renumbered_some way x (omega arith))
    ∙ (renumbered_some (back way) (moved way x) (moved_some way x some) ∙ moved_again way x some)
