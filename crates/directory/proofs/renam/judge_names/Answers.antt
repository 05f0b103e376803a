-- Rests on `RenamStage`: each return judges as the first row that holds, the rows before it being passed.
use mathlib.Core.Path.{ap}
use mathlib.Core.Bool.{not}
use Rattle.answers.specs.Refusals.{code_of}
use Rattle.directory.proofs.RenamStage.{old_illegal, new_illegal, argument_wrong, names_clear}
use Rattle.directory.proofs.renam.judge_names.Goals as goal
use Rattle.directory.proofs.renam.judge_names.Goals.{then-not-is_legal-via-then-not-is_legal, then-not-is_legal-via-else-not-is_legal+then-not-is_legal-2}

pub returns-then-not-is_legal : goal.returns-then-not-is_legal
unfolding code_of
returns-then-not-is_legal c =
    elim c.then-not-is_legal.branch [
      | then-not-is_legal-via-then-not-is_legal w ↦ old_illegal _ _ _ _ c.is_legal.ensures (ap not w.if-not-is_legal.true)
      | then-not-is_legal-via-else-not-is_legal+then-not-is_legal-2 w ↦
          new_illegal _ _ _ _ c.is_legal.ensures (ap not w.if-not-is_legal.false) _ w.is_legal-else-not-is_legal.ensures (ap not w.if-not-is_legal-2.true)
    ]

pub returns-then-wrong : goal.returns-then-wrong
unfolding code_of
returns-then-wrong c = argument_wrong _ _ _ _ c.is_legal.ensures (ap not c.if-not-is_legal.false) _
    c.is_legal-else-not-is_legal.ensures (ap not c.if-not-is_legal-2.false) c.if-wrong.true

pub returns : goal.returns
returns c = names_clear _ _ _ _ c.is_legal.ensures (ap not c.if-not-is_legal.false) _
    c.is_legal-else-not-is_legal.ensures (ap not c.if-not-is_legal-2.false) c.if-wrong.false
