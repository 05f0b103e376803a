-- Rests on `ConsistentTestScan`: the entries that are left decide for all; the files before them stand in their lists.
use Prim.Native.Nat.{◌<◌}
use native.Mathlib.Omega.{arith}
use mathlib.Core.Path.{sym, ◌∙◌}
use Rattle.pack.specs.Geometry.{slots}
use Rattle.consistency.proofs.ConsistentTestScan.{names_step, names_not, names_end}
use Rattle.consistency.proofs.are_keys_right.Goals as goal

pub returns-then-not-is_named_right : goal.returns-then-not-is_named_right
returns-then-not-is_named_right c = let below : c.loop-e.e < slots c.args.view.g = omega (arith, c.loop-e-test.true, c.requires.right_header.1.most) in
    sym (c.loop-e.invariant.1 ∙ names_not _ _ _ _ below (sym c.is_named_right.ensures.value ∙ c.if-not-is_named_right.true))

pub loop-e-preserved : goal.loop-e-preserved
loop-e-preserved c = let right = c.if-not-is_named_right.false in
    let below : c.loop-e.e < slots c.args.view.g = omega (arith, c.loop-e-test.true, c.requires.right_header.1.most) in (
      c.is_named_right.ensures.listing right,
      c.loop-e.invariant.1 ∙ names_step _ _ _ _ below (sym c.is_named_right.ensures.value ∙ right),
      c.is_named_right.auto.links ∙ c.loop-e.invariant.2,
      c.is_named_right.auto.heads ∙ c.loop-e.invariant.3,
    )

pub returns : goal.returns
returns c = sym (c.loop-e.invariant.1 ∙ names_end _ _ _ _ c.requires.right_header.1 c.loop-e-test.false)
