-- Rests on `MovingStage`: a test for each refusal, in the order of the paper.
use Rattle.answers.specs.Refusals.{code_of, code_in}
use Rattle.moving.proofs.MovingStage.{refused_bad, good_sized, good_test, header_read, numbers_small, refused_form, refused_target, source_moves, target_long, target_moved}
use Rattle.moving.proofs.move_marked.Goals as goal

pub returns-in_default : goal.returns-in_default
unfolding code_of code_in
returns-in_default c = refused_bad _ _ _ c.open_behind.ensures.value c.in_default.is

pub word_at-requires : goal.word_at-requires
word_at-requires c = header_read _ c.open_behind.ensures.value c.in-Some.is

pub returns-then-word_at-form_from : goal.returns-then-word_at-form_from
unfolding code_of code_in
returns-then-word_at-form_from c = refused_form _ _ _ c.open_behind.ensures.value c.in-Some.is c.word_at.ensures.value c.form_from.ensures c.if-word_at-form_from.true

pub move_measures-h-requires : goal.move_measures-h-requires
move_measures-h-requires c = numbers_small _ c.open_behind.ensures.value c.in-Some.is

pub returns-then-not-is_measured : goal.returns-then-not-is_measured
unfolding code_of code_in
returns-then-not-is_measured c = refused_target _ _ _ c.open_behind.ensures.value c.in-Some.is c.word_at.ensures.value c.form_from.ensures c.if-word_at-form_from.false
    c.move_measures-h.ensures c.form_to.ensures c.is_measured.ensures c.if-not-is_measured.true

pub invariant_of-write_target : goal.invariant_of-write_target
invariant_of-write_target c = record { sized = good_sized _ c.open_behind.ensures.value c.in-Some.is }

pub write_target-requires : goal.write_target-requires
write_target-requires c = let fine = c.if-not-is_measured.false in
    record {
      source = (
        source_moves _ _ c.args.target.now c.open_behind.ensures.value c.in-Some.is c.word_at.ensures.value c.form_from.ensures c.if-word_at-form_from.false
            c.move_measures-h.ensures c.form_to.ensures c.is_measured.ensures fine,
        c.move_measures-h.ensures,
        target_long _ _ c.args.target.now c.open_behind.ensures.value c.in-Some.is c.word_at.ensures.value c.form_from.ensures c.if-word_at-form_from.false
            c.move_measures-h.ensures c.form_to.ensures c.is_measured.ensures fine,
      );
      marked_behind = c.open_behind.ensures.marked_behind (good_test _ c.open_behind.ensures.value c.in-Some.is);
    }

pub returns : goal.returns
unfolding code_in
returns c = let fine = c.if-not-is_measured.false in
    target_moved _ _ _ c.open_behind.ensures.value c.in-Some.is c.word_at.ensures.value c.form_from.ensures c.if-word_at-form_from.false c.move_measures-h.ensures
    c.form_to.ensures c.is_measured.ensures fine c.write_target.ensures
