-- What the answer of a stage that judges says of its rows: where it refuses, rows behind do not matter; where it lets pass, none of them is given.
-- And what `?` carries on: the refusal that it met.
use mathlib.Core.Path.{◌≡◌, sym, ap, ◌∙◌}
use mathlib.Core.Bool.{Bool, true, not}
use mathlib.Core.List.{List, [], ◌∷◌, ◌++◌}
use native.Mathlib.Omega.{arith}
use borrow.Author.Tests.{not-false}
use Rattle.std.specs.Prelude.{Result, Ok, Err, ⊤}
use Rattle.std.specs.Result.{IsErrAnd}
use Rattle.std.proofs.lemmas.Result.{err_from_is_err_and}
use Rattle.answers.specs.declared.Refusal.{Refusal}
use Rattle.answers.specs.Refusals.{Row, row, first_of, code_of}
use Rattle.answers.specs.Stage.{verdict_of, verdict_in}
use Rattle.answers.proofs.Refusals.{none_given, behind_refused}
use Rattle.answers.proofs.Stage.{makes_refused, told_clear, told_refused}

-- the answer where `?` returns: `c.from_residual.ensures.1` says it
pub carried : {A : Type 0} {outcome : Result A Refusal} {refusal : Refusal} → IsErrAnd outcome (λ met. met ≡ refusal) → outcome ≡ Err refusal
carried {A} {outcome} is = let e = err_from_is_err_and outcome is in e.1 ∙ ap Err e.2

module _ (rows : List Row) {outcome : Result ⊤ Refusal} where
  pub front_refused : (more : List Row) {refusal : Refusal} → verdict_in outcome ≡ verdict_of rows → outcome ≡ Err refusal
      → verdict_in (Err refusal) ≡ verdict_of (rows ++ more)
  front_refused more {refusal} judged is =
      let r = told_refused rows _ judged (code_of refusal) (ap verdict_in is) in
      makes_refused (rows ++ more) (sym (behind_refused more rows r.first r.never)) r.never

  pub front_clear : {done : ⊤} → verdict_in outcome ≡ verdict_of rows → outcome ≡ Ok done → first_of rows ≡ 0
  front_clear judged is = told_clear rows _ judged (ap verdict_in is)

-- of the row of a right
pub right_given : {right : Bool} {outcome : Result ⊤ Refusal} {done : ⊤} → verdict_in outcome ≡ verdict_of (row (not right) 0o6 ∷ []) → outcome ≡ Ok done → right ≡ true
right_given {right} judged is =
    not-false right (none_given (not right) 0o6 [] (λ is. omega (arith, is)) (front_clear (row (not right) 0o6 ∷ []) judged is)).0
