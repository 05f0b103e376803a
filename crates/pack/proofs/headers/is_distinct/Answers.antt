-- Rests on `HeaderTestWords`: the words that are left decide for all, until one is 0 or stands among those behind it, as `is_among` tells.
use Prim.Native.Nat.{suc, ◌+◌, ◌-◌}
use mathlib.Core.Path.{◌≡◌, sym, ◌∙◌}
use native.Mathlib.Omega.{arith}
use Rattle.pack.proofs.HeaderTestWords.{distinct_zero, distinct_again, distinct_step, distinct_end}
use Rattle.pack.proofs.headers.is_distinct.Goals as goal

pub returns-then-word-eq0 : goal.returns-then-word-eq0
returns-then-word-eq0 c = sym (c.loop-at.invariant (suc (c.args.from + c.args.count - (c.loop-at.at + 1))) (omega arith)
    ∙ distinct_zero _ _ _ (sym c.word_at-word.ensures.value ∙ c.if-word-eq0.true))

pub returns-then-is_among : goal.returns-then-is_among
returns-then-is_among c = sym (c.loop-at.invariant (suc (c.args.from + c.args.count - (c.loop-at.at + 1))) (omega arith)
    ∙ distinct_again _ _ _ _ c.word_at-word.ensures.value (λ is. c.if-word-eq0.false (c.word_at-word.ensures.value ∙ is)) (sym c.is_among.ensures ∙ c.if-is_among.true))

pub loop-at-preserved : goal.loop-at-preserved
loop-at-preserved c left end = let same : c.args.from + c.args.count - (c.loop-at.at + 1) ≡ left = omega (arith, end) in
    c.loop-at.invariant (suc left) (omega (arith, end))
    ∙ distinct_step _ _ _ _ c.word_at-word.ensures.value (λ is. c.if-word-eq0.false (c.word_at-word.ensures.value ∙ is)) (rw same at (sym c.is_among.ensures ∙ c.if-is_among.false))

pub returns : goal.returns
returns c = sym (c.loop-at.invariant 0 (omega arith) ∙ distinct_end _ _)
