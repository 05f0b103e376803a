-- Rests on `FirstSought` and `LookedFields`: no entry so far has the key.
use Prim.Native.Nat.{ℕ}
use mathlib.Core.Path.{◌≡◌, subst}
use native.Mathlib.Omega.{arith}
use Rattle.faults.specs.Looking.{FirstWrong, OtherKey}
use Rattle.faults.proofs.FirstSought.{sought_none, sought_on, sought_here}
use Rattle.faults.proofs.LookedFields.{same_found, same_not}
use Rattle.faults.proofs.fields.same_before.Goals as goal

pub loop-f-init : goal.loop-f-init
loop-f-init c = (omega arith, sought_none)

pub read_key-requires : goal.read_key-requires
read_key-requires c = record { e_bound = omega (arith, c.requires, c.loop-f-test.true) }

pub returns-then-is_same_key : goal.returns-then-is_same_key
returns-then-is_same_key c = sought_here c.loop-f.invariant.1 c.loop-f-test.true
    (same_found _ _ _ _ c.read_key.ensures c.read_key-key.ensures c.is_same_key.ensures c.if-is_same_key.true)

pub loop-f-preserved : goal.loop-f-preserved
loop-f-preserved c = (
  omega (arith, c.loop-f-test.true),
  sought_on c.loop-f.invariant.1 (same_not _ _ _ _ c.read_key.ensures c.read_key-key.ensures c.is_same_key.ensures c.if-is_same_key.false),
)

pub returns : goal.returns
returns c = let done : c.loop-f.f ≡ c.args.e = omega (arith, c.loop-f.invariant.0, c.loop-f-test.false) in
    subst (λ (n : ℕ). FirstWrong (OtherKey c.args.view.img.now c.args.view.g c.args.e) 0 n n) done c.loop-f.invariant.1
