-- Rests on `ConsistentTestScan`: the entries that are left decide for all, on the map that those before them left, and mark what all mark.
use Prim.Native.Nat.{◌<◌}
use native.Mathlib.Omega.{arith}
use mathlib.Core.Path.{sym, ◌∙◌}
use Rattle.pack.specs.Geometry.{slots}
use Rattle.consistency.proofs.WalkSystem.{taken_mark}
use Rattle.consistency.proofs.ConsistentTestScan.{bodies_step, marks_step, bodies_not, bodies_end, marks_end}
use Rattle.consistency.proofs.are_bodies_right.Goals as goal

pub returns-then-not-is_placed_right : goal.returns-then-not-is_placed_right
returns-then-not-is_placed_right c = record {
  value = sym (c.loop-e.invariant.2 ∙ bodies_not _ _ _ _ _ (omega (arith, c.loop-e-test.true, c.requires.used_end.most))
      (sym c.is_placed_right.ensures.value ∙ c.if-not-is_placed_right.true));
  map_after = λ e. cc;
}

pub loop-e-preserved : goal.loop-e-preserved
loop-e-preserved c = let right = c.if-not-is_placed_right.false in
    let marked = c.is_placed_right.ensures.map_after right in
    let below : c.loop-e.e < slots c.args.view.g = omega (arith, c.loop-e-test.true, c.requires.used_end.most) in (
      c.is_placed_right.auto.map ∙ c.loop-e.invariant.0,
      taken_mark _ _ marked c.loop-e.invariant.1,
      c.loop-e.invariant.2 ∙ bodies_step _ _ _ _ _ below (sym c.is_placed_right.ensures.value ∙ right) _ marked,
      c.loop-e.invariant.3 ∙ marks_step _ _ _ _ _ below _ marked,
    )

pub returns : goal.returns
returns c = record {
  value = sym (c.loop-e.invariant.2 ∙ bodies_end _ _ _ _ _ c.requires.used_end c.loop-e-test.false);
  map_after = λ _. sym
      (c.loop-e.invariant.3 ∙ marks_end _ _ _ _ _ c.requires.used_end c.loop-e-test.false);
}
