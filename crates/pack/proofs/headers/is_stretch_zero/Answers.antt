-- Rests on `HeaderTestWords`: words laid over each other are 0 only if each is, and the words that are left decide the rest (`zeros_laid`).
use Prim.Native.Nat.{suc}
use mathlib.Core.Path.{sym, ◌∙◌}
use native.Mathlib.Omega.{arith}
use Rattle.pack.proofs.HeaderTestWords.{zeros_laid, zeros_done}
use Rattle.pack.proofs.headers.is_stretch_zero.Goals as goal

pub loop-at-preserved : goal.loop-at-preserved
loop-at-preserved c left end = c.loop-at.invariant (suc left) (omega (arith, end)) ∙ zeros_laid _ _ _ c.loop-at.laid _ c.word_at.ensures.value

pub returns : goal.returns
returns c = sym (c.loop-at.invariant 0 (omega arith) ∙ zeros_done _ _ _)
