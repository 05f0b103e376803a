-- Rests on `LookedMap`: where there is a map, the first bit that is wrong.
use mathlib.Core.Path.{sym, ◌∙◌}
use native.Mathlib.Omega.{arith}
use borrow.Author.Tests.{ltb-true}
use Rattle.faults.proofs.LookedMap.{map_absent, map_none, map_told}
use Rattle.faults.proofs.maps.look_map.Goals as goal

pub returns-then-not-has_map : goal.returns-then-not-has_map
returns-then-not-has_map c = map_absent c.requires.all_right (sym c.has_map.ensures ∙ c.if-not-has_map.true)

pub overflow_mul-end : goal.overflow_mul-end
overflow_mul-end c = omega (arith, c.words-end.ensures, c.args.view.sized.few)

pub wrong_bit-requires : goal.wrong_bit-requires
wrong_bit-requires c = let there = ltb-true _ _ (sym c.has_map.ensures ∙ c.if-not-has_map.false) in
    record { blocks_in_bounds = c.requires.counted.1; has_map = (there, omega (arith, c.words-end.ensures, c.args.view.sized.map)) }

pub returns-in-Some : goal.returns-in-Some
returns-in-Some c = let there = ltb-true _ _ (sym c.has_map.ensures ∙ c.if-not-has_map.false) in
    map_told c.requires.all_right c.requires.counted.0 there c.in-Some.ensures
    (omega (arith, c.words-end.ensures, c.args.view.sized.map))

pub returns : goal.returns
returns c = let there = ltb-true _ _ (sym c.has_map.ensures ∙ c.if-not-has_map.false) in
    map_none c.requires.all_right c.requires.counted.0 there c.in_default.ensures (omega (arith, c.words-end.ensures))
