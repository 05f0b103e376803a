-- Rests on `code_bound`: it keeps the codes below 40, so that `pack` takes them.
use mathlib.Core.Path.{sym}
use Rattle.radix.proofs.Characters.{code_bound}
use Rattle.radix.proofs.radpk.word_of.Goals as goal

pub pack-word-requires : goal.pack-word-requires
pack-word-requires c = (
  code_bound _ _ (sym c.in_ok-code_of.ensures),
  code_bound _ _ (sym c.in_ok-code_of-2.ensures),
  code_bound _ _ (sym c.in_ok-code_of-3.ensures),
)
