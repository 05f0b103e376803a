-- Rests on `MapTestBits`: two bytes of bits are sixteen bits.
use Prim.Native.Nat.{ℕ, ◌+◌, ◌*◌}
use mathlib.Core.Path.{ap₂, ◌∙◌}
use Rattle.consistency.proofs.MapTestBits.{bits_sixteen}
use Rattle.consistency.proofs.mapping.bits_of.Goals as goal

pub returns : goal.returns
returns c = ap₂ (λ (low high : ℕ). low + 256 * high) c.byte_of.ensures.value c.byte_of-2.ensures.value ∙ bits_sixteen _ _
