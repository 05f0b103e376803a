-- Rests on `CloseStage`: the decision's code and image are the request's, and of a file that it found a reader or the writer can be taken away.
use mathlib.Core.Path.{refl}
use Rattle.answers.specs.Refusals.{code_in}
use Rattle.asking.proofs.Verdicts.{carried}
use Rattle.opening.proofs.CloseStage.{closing_refused, closing_reader, reader_room, reader_done, writer_room, writer_done}
use Rattle.opening.proofs.close.close_opened.Goals as goal

pub returns-in_err-found : goal.returns-in_err-found
unfolding code_in
returns-in_err-found c = let both = closing_refused _ _ _ _ c.in_err-found.ensures _ refl in
    record { value = rw (carried c.from_residual.ensures.1) both.0; img_after = both.1 }

pub overflow_sub-readers : goal.overflow_sub-readers
overflow_sub-readers c = closing_reader _ _ _ _ c.in_ok-found.ensures _ _ _ refl c.if-mode-eq4.true

pub set_entry_word-requires : goal.set_entry_word-requires
set_entry_word-requires c = let both = reader_room _ _ _ _ c.in_ok-found.ensures _ _ _ refl c.if-mode-eq4.true in
    record { sized = both.0; e_bound = both.1 }

pub returns-then-mode-eq4 : goal.returns-then-mode-eq4
unfolding code_in
returns-then-mode-eq4 c = let both = reader_done _ _ _ _ c.in_ok-found.ensures _ _ _ refl c.if-mode-eq4.true _ c.set_entry_word.ensures in
    record { value = both.0; img_after = both.1 }

pub set_entry_word-requires-2 : goal.set_entry_word-requires-2
set_entry_word-requires-2 c = let both = writer_room _ _ _ _ c.in_ok-found.ensures _ _ _ refl c.if-mode-eq4.false in
    record { sized = both.0; e_bound = both.1 }

pub returns : goal.returns
unfolding code_in
returns c = let both = writer_done _ _ _ _ c.in_ok-found.ensures _ _ _ refl c.if-mode-eq4.false _ c.set_entry_word-2.ensures in
    record { value = both.0; img_after = both.1 }
