-- Rests on `HeaderRules`: a right header has room for its list; of the hints only their number is known.
use native.Mathlib.Omega.{arith}
use Rattle.pack.proofs.HeaderRules.{uics_room}
use Rattle.consistency.proofs.hinting.set_hints.Goals as goal

pub word_at-requires : goal.word_at-requires
word_at-requires c = omega (arith, c.loop-i-test.true, c.word_at-uics.ensures.value, uics_room _ c.requires.right_header)
