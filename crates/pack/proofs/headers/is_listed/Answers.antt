-- Rests on `HeaderRules`: a right header has room for its list; `HeaderTestWords`: a UIC is listed if it is among the words behind their number.
use native.Mathlib.Omega.{arith}
use Rattle.pack.proofs.HeaderRules.{uics_room}
use Rattle.pack.proofs.HeaderTestWords.{listed_is}
use Rattle.pack.proofs.headers.is_listed.Goals as goal

pub is_among-requires : goal.is_among-requires
is_among-requires c = omega (arith, uics_room _ c.requires, c.word_at.ensures.value)

pub returns : goal.returns
returns c = listed_is _ _ _ _ c.word_at.ensures.value c.is_among.ensures
