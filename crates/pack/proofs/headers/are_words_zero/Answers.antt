-- Rests on `HeaderTestWords`: a word that is not 0 decides for ever (`zeros_never`), a 0 leaves it to the words that are left (`zeros_clear`).
use Prim.Native.Nat.{suc}
use mathlib.Core.Path.{sym, ◌∙◌}
use native.Mathlib.Omega.{arith}
use Rattle.pack.proofs.HeaderTestWords.{zeros_clear, zeros_never, zeros_done}
use Rattle.pack.proofs.headers.are_words_zero.Goals as goal
use Rattle.pack.proofs.headers.are_words_zero.Goals.{then-word_at-ne0, else-word_at-ne0}

pub loop-at-preserved : goal.loop-at-preserved
loop-at-preserved c left end = c.loop-at.invariant (suc left) (omega (arith, end)) ∙ elim c.if-word_at-ne0.branch [
  | then-word_at-ne0 w ↦ zeros_never _ _ _ _ _ (λ zero. w.if-word_at-ne0.true (c.word_at.ensures.value ∙ zero)) w.clear-is
  | else-word_at-ne0 w ↦ zeros_clear _ _ _ _ _ (sym c.word_at.ensures.value ∙ w.if-word_at-ne0.false) w.clear-is
]

pub returns : goal.returns
returns c = sym (c.loop-at.invariant 0 (omega arith) ∙ zeros_done _ _ _)
