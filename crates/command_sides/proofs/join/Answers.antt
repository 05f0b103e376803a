-- Rests on `joined` alone: where specification k begins, here or where the rest has it.
use mathlib.Core.Path.{◌≡◌, ◌∙◌}
use Rattle.command_sides.specs.SoughtJoined.{start_of, joined}
use Rattle.command_sides.proofs.SoughtChoices.{start_later}
use Rattle.command_sides.proofs.join.Goals.{then-k-eq0, else-k-eq0}
use Rattle.command_sides.proofs.join.Goals as goal

pub returns : goal.returns
unfolding joined
returns c =
    let starts : c.if-k-eq0.result ≡ start_of c.args.k c.args.here c.args.rest.start =
    elim c.if-k-eq0.branch [ then-k-eq0 w ↦ rw w.if-k-eq0.true w.result-is | else-k-eq0 w ↦ w.result-is ∙ start_later _ _ _ w.if-k-eq0.false ] in
    rw starts
