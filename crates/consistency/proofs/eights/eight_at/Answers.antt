-- Rests on `EightBytes`: bytes laid above each other are the number that they make.
use native.Mathlib.Omega.{arith}
use mathlib.Core.Path.{◌∙◌}
use Rattle.consistency.specs.EightBytes.{eight_at}
use Rattle.consistency.proofs.EightBytes.{bytes_joined}
use Rattle.consistency.proofs.eights.eight_at.Goals as goal

pub returns-clause-value : goal.returns-clause-value
unfolding eight_at
returns-clause-value c = bytes_joined c.byte_at.ensures.upper_bound c.byte_at-2.ensures.upper_bound
    c.byte_at-3.ensures.upper_bound c.byte_at-4.ensures.upper_bound
    c.byte_at-5.ensures.upper_bound c.byte_at-6.ensures.upper_bound c.byte_at-7.ensures.upper_bound c.byte_at-8.ensures.upper_bound
    ∙ rw (
      c.byte_at.ensures.value,
      c.byte_at-2.ensures.value,
      c.byte_at-3.ensures.value,
      c.byte_at-4.ensures.value,
      c.byte_at-5.ensures.value,
      c.byte_at-6.ensures.value,
      c.byte_at-7.ensures.value,
      c.byte_at-8.ensures.value,
    )

pub returns-clause-bytes_small : goal.returns-clause-bytes_small
returns-clause-bytes_small c = λ k. omega (arith, c.type_inv.bytes k)
