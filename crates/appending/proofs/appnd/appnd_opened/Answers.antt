-- Rests on `AppndAnswers`: what is decided is the answer, and two files that are to be joined can be joined and the second cleared.
use mathlib.Core.Path.{refl}
use Rattle.std.proofs.lemmas.Result.{err_from_is_err_and}
use Rattle.answers.specs.Refusals.{code_in}
use Rattle.appending.proofs.AppndAnswers.{answer_refused, answer_joinable, answer_clear, answer_joined}
use Rattle.appending.proofs.appnd.appnd_opened.Goals as goal

pub join-requires : goal.join-requires
join-requires c = answer_joinable _ _ _ _ _ c.in_ok-first.ensures _ _ _ _ _ refl

pub clear_entry-requires : goal.clear_entry-requires
clear_entry-requires c = let both = answer_clear _ _ _ _ _ c.in_ok-first.ensures _ _ _ _ _ refl _ c.join.auto.img in
    record { sized = both.0; e_bound = both.1 }

pub returns-in_err-first : goal.returns-in_err-first
unfolding code_in
returns-in_err-first c = let both = answer_refused _ _ _ _ _ c.in_err-first.ensures _ refl in
    let p = err_from_is_err_and c.from_residual.result c.from_residual.ensures.1 in
    record { value = rw (p.1, p.2) both.0; img_after = both.1 }

pub returns : goal.returns
unfolding code_in
returns c = let both = answer_joined _ _ _ _ _ c.in_ok-first.ensures _ _ _ _ _ refl _ _ c.join.ensures c.clear_entry.ensures in
    record { value = both.0; img_after = both.1 }
