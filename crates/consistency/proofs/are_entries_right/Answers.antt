-- Rests on `ConsistentTestScan`: all but the names, and the names, are the whole.
use mathlib.Core.Path.{sym, ◌∙◌}
use Rattle.answers.proofs.RefusalsTests.{go_on, stop}
use Rattle.consistency.proofs.ConsistentTestScan.{parted}
use Rattle.consistency.proofs.are_entries_right.Goals as goal

pub returns-then-not-are_bodies_right : goal.returns-then-not-are_bodies_right
returns-then-not-are_bodies_right c = record { value = stop _ _ (sym c.are_bodies_right.ensures.value ∙ c.if-not-are_bodies_right.true) ∙ parted _ _ _ _ _; map_after = λ e. cc }

pub returns : goal.returns
returns c = let right = c.if-not-are_bodies_right.false in
    record { value = go_on (sym c.are_bodies_right.ensures.value ∙ right) c.are_names_right.ensures ∙ parted _ _ _ _ _; map_after = λ _. c.are_bodies_right.ensures.map_after right }
