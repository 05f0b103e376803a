-- Rests on `HeaderTestWords`: a UIC that stands at a place of the list is listed.
use mathlib.Core.Path.{sym, ◌∙◌}
use native.Mathlib.Omega.{arith}
use Rattle.pack.proofs.HeaderTestWords.{listed_iff}
use Rattle.consistency.proofs.hinting.is_listed.Goals as goal

pub returns-then-word_at-uic : goal.returns-then-word_at-uic
returns-then-word_at-uic c = sym
    ((listed_iff _ _).1 (record { at = _; within = omega (arith, c.if-place-uics.true, c.requires.hints_len.1); is = sym c.word_at.ensures.value ∙ c.if-word_at-uic.true }))
