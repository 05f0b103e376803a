-- Rests on `Marking` of `MapMarking`: the bits that are left make what is left of the run; where there is no map nothing is written.
use mathlib.Core.Path.{refl, sym, ◌∙◌}
use native.Mathlib.Omega.{arith}
use Rattle.pack.proofs.MapSet.{bits_set_none}
use Rattle.room.proofs.MapMarking.{marking_next, marking_end}
use Rattle.room.proofs.mark_run.Goals as goal

pub returns-then-not-has_map : goal.returns-then-not-has_map
returns-then-not-has_map c = sym (bits_set_none _ _ _ _ (sym c.has_map.ensures ∙ c.if-not-has_map.true))

pub loop-b-preserved : goal.loop-b-preserved
loop-b-preserved c = marking_next c.loop-b.invariant c.loop-b-test.true c.set_bit.ensures

pub returns : goal.returns
returns c = marking_end c.loop-b.invariant (omega (arith, c.loop-b-test.false)) _ refl
