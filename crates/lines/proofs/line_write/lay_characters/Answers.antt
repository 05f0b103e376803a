-- Rests on `LineWriteLaid`: what is put for the character at the index is the first part of what is left to lay.
use mathlib.Core.Path.{refl, ◌∙◌}
use native.Mathlib.Omega.{arith}
use Rattle.stream.proofs.FillingLoop.{laying_start}
use Rattle.lines.proofs.LineWriteLaid.{text_writable, text_next, text_end}
use Rattle.lines.proofs.line_write.lay_characters.Goals as goal

pub loop-character-init : goal.loop-character-init
loop-character-init c = ((refl, refl, refl), laying_start)

pub lay_character-at-requires : goal.lay_character-at-requires
lay_character-at-requires c = text_writable c.args.text.now c.loop-character.invariant.1 c.loop-character-test.true c.requires

pub loop-character-preserved : goal.loop-character-preserved
loop-character-preserved c = (
  (c.lay_character-at.auto.img ∙ c.loop-character.invariant.0.0, c.lay_character-at.auto.map ∙ c.loop-character.invariant.0.1, c.lay_character-at.auto.gather ∙ c.loop-character.invariant.0.2),
  text_next c.args.text.now c.loop-character.invariant.1 c.loop-character-test.true c.lay_character-at.ensures,
)

pub shape_of-img : goal.shape_of-img
shape_of-img c = c.loop-character.invariant.0.0

pub shape_of-map : goal.shape_of-map
shape_of-map c = c.loop-character.invariant.0.1

pub shape_of-gather : goal.shape_of-gather
shape_of-gather c = c.loop-character.invariant.0.2

pub returns : goal.returns
returns c = text_end c.args.text.now c.loop-character.invariant.1 c.loop-character-test.false
