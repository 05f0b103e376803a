-- Rests on `Listing`: the measures of a consistent image, with the free blocks counted on the map that opening left.
use borrow.Author.Rules.{rules}
use mathlib.Core.Path.{◌≡◌, sym, ◌∙◌}
use native.Mathlib.Omega.{arith}
use Rattle.std.specs.Prelude.{None}
use Rattle.consistency.proofs.ConsistentTestIff.{opened_good}
use Rattle.printing.proofs.Listing.{map_enough, survey_made, survey_none}
use Rattle.printing.proofs.survey.Goals as goal

pub free_count-requires : goal.free_count-requires
free_count-requires c = let opened = sym c.open_mapped.ensures.value ∙ c.in_ok-g.was in
    record { blocks_in_bounds = map_enough _ opened c.open_mapped.ensures.mapped_if; bodies_le_blocks = omega (arith, (opened_good _ _ opened).2.bodies) }

pub returns-in_err-g : goal.returns-in_err-g
returns-in_err-g c = let nothing : c.from_residual.result ≡ None = search rules in
    nothing ∙ survey_none _ (sym c.open_mapped.ensures.value ∙ c.in_err-g.was)

pub returns : goal.returns
returns c = survey_made _ (sym c.open_mapped.ensures.value ∙ c.in_ok-g.was) _ c.open_mapped.ensures.mapped_if c.free_count.ensures
