-- Rests on `MapTestBits`: the marks of eight blocks, laid together, are their eight bits.
use mathlib.Core.Path.{refl}
use native.Mathlib.Omega.{arith}
use Rattle.consistency.proofs.MapTestBits.{spread_small, byte_made}
use Rattle.consistency.proofs.mapping.byte_of.Goals as goal

pub overflow_add-two : goal.overflow_add-two
overflow_add-two c = omega (arith, spread_small _ c.requires.by_index _ c.eight_at-spread.ensures.value)

pub overflow_add-four : goal.overflow_add-four
overflow_add-four c = omega (arith, spread_small _ c.requires.by_index _ c.eight_at-spread.ensures.value)

pub overflow_add-result : goal.overflow_add-result
overflow_add-result c = omega (arith, spread_small _ c.requires.by_index _ c.eight_at-spread.ensures.value)

pub returns : goal.returns
returns c = record { value = byte_made _ c.requires.by_index _ c.eight_at-spread.ensures.value refl refl; upper_bound = omega arith }
