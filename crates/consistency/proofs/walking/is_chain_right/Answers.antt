-- Rests on `WalkSteps`: what is left of a chain decides, two steps at a time; one block may be left, or none.
use Prim.Native.Nat.{◌-◌, ◌*◌}
use mathlib.Core.Path.{◌≡◌, refl, sym, ◌∙◌}
use native.Mathlib.Omega.{arith}
use Rattle.consistency.proofs.WalkSteps.{walking_on, walking_ends, chain_on, chain_stops, chain_ends}
use Rattle.consistency.proofs.walking.is_chain_right.Goals as goal

pub returns-then-not-take : goal.returns-then-not-take
returns-then-not-take c = record {
  value = sym (c.loop.invariant.1 ∙ chain_stops _ _ _ _ _ _ _ (omega (arith, c.loop-test.true)) (sym c.take.ensures.value ∙ c.if-not-take.true));
  map_after = λ e. cc;
}

pub returns-then-not-take-2 : goal.returns-then-not-take-2
returns-then-not-take-2 c = let right = c.if-not-take.false in
    record {
      value = sym (c.loop.invariant.1
          ∙ chain_on _ _ _ _ _ _ _ (omega (arith, c.loop-test.true)) c.loop.invariant.0.system (sym c.take.ensures.value ∙ right) (c.take.ensures.map_after right)
          c.next_block-last.ensures.result_value {less = c.args.count - 2 * c.loop.counter - 1} refl
          ∙ chain_stops _ _ _ _ _ _ _ (omega (arith, c.loop-test.true)) (sym c.take-in-loop.ensures.value ∙ c.if-not-take-2.true));
      map_after = λ e. cc;
    }

pub loop-preserved : goal.loop-preserved
loop-preserved c = let right = c.if-not-take.false in
    let right₂ = c.if-not-take-2.false in
    let one = walking_on c.loop.invariant.0 (omega (arith, c.loop-test.true)) (c.take.ensures.map_after right) c.next_block-last.ensures.result_value
    {less = c.args.count - 2 * c.loop.counter - 1} refl in (
      walking_on one (omega (arith, c.loop-test.true)) (c.take-in-loop.ensures.map_after right₂) c.next_block-b.ensures.result_value (omega arith),
      c.loop.invariant.1
          ∙ chain_on _ _ _ _ _ _ _ (omega (arith, c.loop-test.true)) c.loop.invariant.0.system (sym c.take.ensures.value ∙ right) (c.take.ensures.map_after right)
          c.next_block-last.ensures.result_value {less = c.args.count - 2 * c.loop.counter - 1} refl
          ∙ chain_on _ _ _ _ _ _ _ (omega (arith, c.loop-test.true)) one.system (sym c.take-in-loop.ensures.value ∙ right₂)
          (c.take-in-loop.ensures.map_after right₂) c.next_block-b.ensures.result_value (omega arith),
    )

pub returns : goal.returns
returns c = let none : c.args.count - 2 * c.loop.counter ≡ 0 = omega (arith, c.loop-test.false, c.if-count-ne0.false) in
    record { value = rw c.eq.ensures (sym (c.loop.invariant.1 ∙ chain_ends _ _ _ _ _ _ _ none)); map_after = λ _. walking_ends c.loop.invariant.0 none }
