-- The error that a `?` hands on is the one that it met, or what this becomes.
use mathlib.Core.Path.{◌≡◌, ap, ◌∙◌}
use Rattle.std.specs.Prelude.{Result, Err, IsErrAnd}
use Rattle.std.proofs.lemmas.Result.{err_from_is_err_and}

pub carried : {A E : Type 0} {told : Result A E} {met : E} → IsErrAnd told (λ error. error ≡ met) → told ≡ Err met
carried {told} is = let e = err_from_is_err_and told is in e.1 ∙ ap Err e.2
