-- Rests on `FirstSought`: three searches one behind another; block 0 stands in an image of the right size.
use Prim.Native.Nat.{ℕ, ◌+◌}
use mathlib.Core.Path.{ap}
use native.Mathlib.Omega.{arith}
use Rattle.std.specs.Prelude.{Some, None}
use Rattle.faults.proofs.FirstSought.{sought_short, sought_then}
use Rattle.faults.proofs.LookedHeader.{block_room, list_room}
use Rattle.faults.proofs.headers.wrong_word.Goals as goal

pub wrong_uic-requires : goal.wrong_uic-requires
wrong_uic-requires c = (
  omega (arith, block_room _ c.requires.0, list_room _ c.in_default.ensures, c.word_at-behind.ensures.value),
  ap (λ (n : ℕ). 4 + n) c.word_at-behind.ensures.value,
)

pub returns-in-Some-wrong_uic : goal.returns-in-Some-wrong_uic
returns-in-Some-wrong_uic c = sought_short {middle = 4 + c.word_at-behind.result} (sought_then _ (Some _) c.in_default.ensures c.in-Some-wrong_uic.ensures)
    (omega (arith, c.requires.1, list_room _ c.in_default.ensures, c.word_at-behind.ensures.value))

pub wrong_rest-requires : goal.wrong_rest-requires
wrong_rest-requires c = (
  omega (arith, c.requires.1, list_room _ c.in_default.ensures, c.word_at-behind.ensures.value),
  omega (arith, block_room _ c.requires.0, c.requires.1),
  ap (λ (n : ℕ). 4 + n) c.word_at-behind.ensures.value,
)

pub returns : goal.returns
returns c = sought_then _ _ (sought_then (4 + c.word_at-behind.result) None c.in_default.ensures c.in_default-wrong_uic.ensures) c.wrong_rest.ensures
