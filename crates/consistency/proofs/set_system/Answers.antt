-- Rests on `WalkSystem`: the first places filled at once are those of the system set one by one.
use Prim.Native.Nat.{ℕ}
use mathlib.Core.Path.{◌≡◌, ap, ◌∙◌}
use mathlib.Core.List.{List, ◌++◌}
use native.Mathlib.Omega.{arith}
use lib.ListN.{length, drop, take, replicate, length-take}
use Rattle.consistency.proofs.WalkSystem.{system_fill}
use Rattle.consistency.proofs.set_system.Goals as goal

pub returns : goal.returns
returns c = let long : length (take c.args.g.bodies.0 c.args.map.now) ≡ c.args.g.bodies.0 = omega (arith, length-take c.args.g.bodies.0 c.args.map.now) in
    ap (λ (part : List ℕ). part ++ drop c.args.g.bodies.0 c.args.map.now) (c.fill.ensures.after (λ y same. same) ∙ ap (λ (n : ℕ). replicate n c.args.taken) long)
    ∙ system_fill _ _ _ c.requires
