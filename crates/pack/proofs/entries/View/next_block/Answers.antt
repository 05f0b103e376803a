-- Rests on `GeometryRoom`: the link of each block stands in the image; `FileChain`: the next block by the kind of the file.
use native.Mathlib.Omega.{arith}
use mathlib.Core.Path.{sym}
use Rattle.pack.proofs.GeometryRoom.{link_read}
use Rattle.pack.proofs.FileChain.{next_contiguous, next_linked}
use Rattle.pack.proofs.entries.View.next_block.Goals as goal

pub returns-then-kind-eq1 : goal.returns-then-kind-eq1
returns-then-kind-eq1 c = record { result_value = sym (next_contiguous _ _ _ _ c.if-kind-eq1.true); result_bound = omega (arith, c.args.self.sized.most, c.requires.b_lt_blocks) }

pub word_at-requires : goal.word_at-requires
word_at-requires c = link_read c.args.self.sized c.args.b.0 c.words.ensures c.requires.b_lt_blocks

pub returns : goal.returns
returns c = record { result_value = next_linked _ _ _ _ _ c.if-kind-eq1.false c.words.ensures c.word_at.ensures.value; result_bound = c.word_at.ensures.upper_bound }
