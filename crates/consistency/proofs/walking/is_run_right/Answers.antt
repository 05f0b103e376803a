-- Rests on `WalkSteps`: a run that is empty, ends behind the pack or at another block is wrong; else its blocks decide.
use mathlib.Core.Path.{◌∙◌}
use Rattle.consistency.proofs.WalkSteps.{run_none, run_high, run_other, run_whole, run_again, marks_again}
use Rattle.consistency.proofs.walking.is_run_right.Goals as goal

pub returns-then-count-lt1 : goal.returns-then-count-lt1
returns-then-count-lt1 c = record { by_index = λ img. run_none _ _ _ _ _ _ c.if-count-lt1.true; by_index_2 = λ img e. cc }

pub returns-then-g-behind : goal.returns-then-g-behind
returns-then-g-behind c = record { by_index = λ img. run_high _ _ _ _ _ _ c.if-count-lt1.false c.if-g-behind.true; by_index_2 = λ img e. cc }

pub returns-then-behind-stored : goal.returns-then-behind-stored
returns-then-behind-stored c = record { by_index = λ img. run_other _ _ _ _ _ _ c.if-count-lt1.false c.if-behind-stored.true; by_index_2 = λ img e. cc }

pub returns : goal.returns
returns c = record {
  by_index = λ img. run_whole _ _ _ _ _ _ c.if-count-lt1.false c.if-behind-stored.false _
      (run_again _ _ _ _ _ (c.take_run.ensures.taken img _ c.requires.blocks_in_bounds.1 c.if-g-behind.false));
  by_index_2 = λ img right. c.take_run.ensures.marked img _ right ∙ marks_again _ _ _ _ _;
}
