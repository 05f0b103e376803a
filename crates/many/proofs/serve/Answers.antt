-- Rests on `Whole`: each of the three refusals, and what was made, is what the whole call comes to.
use Rattle.answers.specs.Refusals.{code_in, code_of}
use Rattle.many.proofs.Whole.{too_many, in_part, no_room, refused, served}
use Rattle.many.proofs.serve.Goals as goal

pub returns-then-size-gt-MOST_RECORDS : goal.returns-then-size-gt-MOST_RECORDS
unfolding code_in code_of
returns-then-size-gt-MOST_RECORDS c =
    let due = refused c.args.img.now _ _ (too_many _ _ c.if-size-gt-MOST_RECORDS.true) in
    record { value = due.0; img_after = due.1.0; answers_after = due.1.1 }

pub returns-then-size-ne0 : goal.returns-then-size-ne0
unfolding code_in code_of
returns-then-size-ne0 c =
    let due = refused c.args.img.now _ _ (in_part _ _ c.if-size-gt-MOST_RECORDS.false c.if-size-ne0.true) in
    record { value = due.0; img_after = due.1.0; answers_after = due.1.1 }

pub returns-then-answers-size : goal.returns-then-answers-size
unfolding code_in code_of
returns-then-answers-size c =
    let due = refused c.args.img.now _ _ (no_room _ _ c.if-size-gt-MOST_RECORDS.false c.if-size-ne0.false c.if-answers-size.true) in
    record { value = due.0; img_after = due.1.0; answers_after = due.1.1 }

pub returns : goal.returns
unfolding code_in
returns c =
    let due = served c.args.img.now _ _ c.if-size-gt-MOST_RECORDS.false c.if-size-ne0.false c.if-answers-size.false c.serve_all.ensures.img_after c.serve_all.ensures.answers_after in
    record { value = due.0; img_after = due.1.0; answers_after = due.1.1 }
