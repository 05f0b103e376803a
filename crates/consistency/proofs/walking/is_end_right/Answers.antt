-- Rests on `WalkSteps`: one step of a chain, and its end.
use mathlib.Core.Path.{refl, sym, ◌∙◌}
use native.Mathlib.Omega.{arith}
use Rattle.consistency.proofs.WalkSteps.{walking_starts, walking_on, walking_ends, chain_on, chain_stops, chain_ends}
use Rattle.consistency.proofs.walking.is_end_right.Goals as goal

pub returns-then-not-take : goal.returns-then-not-take
returns-then-not-take c = record { by_index = λ other. sym (chain_stops _ _ _ other _ _ _ (omega arith) (sym c.take.ensures.value ∙ c.if-not-take.true)); map_after = λ e. cc }

pub returns : goal.returns
returns c = let right = c.if-not-take.false in
    record {
      by_index = λ other. rw c.eq.ensures (sym (chain_on _ _ _ other _ _ _ (omega arith) c.requires.blocks_in_bounds.1 (sym c.take.ensures.value ∙ right) (c.take.ensures.map_after right)
          c.next_block-next.ensures.result_value {less = 0} refl ∙ chain_ends _ _ _ _ _ _ _ refl));
      map_after = λ _. walking_ends (walking_on
          (walking_starts _ _ 2 _ 1 _ c.requires.blocks_in_bounds.1) (omega arith) (c.take.ensures.map_after right) c.next_block-next.ensures.result_value {less = 0} refl) refl;
    }
