-- Rests on `HeaderTestWords`: until a word is found, the words that are left decide for all.
use Prim.Native.Nat.{suc, ◌+◌, ◌-◌}
use mathlib.Core.Path.{sym, ◌∙◌}
use native.Mathlib.Omega.{arith}
use Rattle.pack.proofs.HeaderTestWords.{among_step, among_found_law, among_end}
use Rattle.pack.proofs.headers.is_among.Goals as goal

pub returns-then-word_at-word : goal.returns-then-word_at-word
returns-then-word_at-word c = sym (c.loop-at.invariant (suc (c.args.from + c.args.count - (c.loop-at.at + 1))) (omega arith)
    ∙ among_found_law _ _ _ _ (sym c.word_at.ensures.value ∙ c.if-word_at-word.true))

pub loop-at-preserved : goal.loop-at-preserved
loop-at-preserved c left end = c.loop-at.invariant (suc left) (omega (arith, end)) ∙ among_step _ _ _ _ (λ is. c.if-word_at-word.false (c.word_at.ensures.value ∙ is))

pub returns : goal.returns
returns c = sym (c.loop-at.invariant 0 (omega arith) ∙ among_end _ _ _)
