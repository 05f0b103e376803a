-- Rests on `WordsIn`: there are half as many words as bytes.
use native.Mathlib.Omega.{arith}
use borrow.Author.Tests.{le-leb, leb-true}
use Rattle.command_writing.proofs.WordsIn.{words_long}
use Rattle.command_writing.proofs.walking.stand.Goals as goal

pub overflow_sub-result : goal.overflow_sub-result
overflow_sub-result c = omega (arith, words_long c.args.records.now)

pub returns : goal.returns
returns c = let long = words_long c.args.records.now in (
  λ is. let most = leb-true _ _ is in record { fits = omega arith; few = omega arith },
  λ room. le-leb _ _ (omega (arith, room.fits)),
)
