-- Format, refused or done: what holds of the image before and of the formatted one holds of the image afterwards.
use Prim.Native.Nat.{ℕ}
use mathlib.Core.Path.{◌≡◌}
use mathlib.Core.Bool.{true, not}
use mathlib.Core.List.{List, []}
use native.Mathlib.Omega.{arith}
use lib.ListN.{length}
use borrow.Author.Tests.{not-false}
use Rattle.answers.proofs.Refusals.{none_given}
use Rattle.asking.proofs.Outcome.{image_by}
use Rattle.creation.specs.FormatRows.{format_test, format_rows}
use Rattle.creation.specs.Format.{formatted, format}

pub format_by : (img : List ℕ) (form blocks contents : ℕ) (uics : List ℕ) (P : List ℕ → Type 0) → P img
    → (format_test (length img) form blocks contents uics ≡ true → P (formatted img form blocks contents uics)) → P (format img form blocks contents uics).image
unfolding format format_rows
format_by img form blocks contents uics P before after =
    image_by (format_rows img form blocks contents uics) img uics _ P before
    (λ clear. after (not-false _ (none_given (not (format_test (length img) form blocks contents uics)) 0o41 [] (λ is. omega (arith, is)) clear).0))
