-- Rests on `LineWriteLaid`: what is put for the part is the first of what is left to lay.
use mathlib.Core.Path.{◌≡◌, refl, ap, ◌∙◌}
use native.Mathlib.Omega.{arith}
use Rattle.std.specs.Slice.Iter.{chunks_rest, chunks_size}
use Rattle.lines.proofs.LineWriteLaid.{parts_start, parts_writable, parts_next, parts_end}
use Rattle.lines.proofs.line_write.lay_text.Goals as goal

pub loop-part-init : goal.loop-part-init
loop-part-init c =
    let same = c.into_iter-part-iterator.ensures.into_iter_gives in
    let size : chunks_size c.into_iter-part-iterator.result ≡ 32 = ap (λ (s : _). chunks_size s) same ∙ c.chunks-part-items.ensures.size in
    (omega (arith, size), tt, size, (refl, refl, refl), parts_start c.args.text.now _ (ap (λ (s : _). chunks_rest s) same ∙ c.chunks-part-items.ensures.rest))

pub lay_part-at-requires : goal.lay_part-at-requires
lay_part-at-requires c = parts_writable c.args.text.now _ c.loop-part.invariant.4 _ _ c.in-Some.ensures.steps.1.0 c.requires

pub loop-part-preserved : goal.loop-part-preserved
loop-part-preserved c =
    let size : chunks_size c.next.new.self ≡ 32 = c.in-Some.ensures.steps.0 ∙ c.loop-part.invariant.2 in (
      omega (arith, size),
      tt,
      size,
      (c.lay_part-at.auto.img ∙ c.loop-part.invariant.3.0, c.lay_part-at.auto.map ∙ c.loop-part.invariant.3.1, c.lay_part-at.auto.gather ∙ c.loop-part.invariant.3.2),
      parts_next c.args.text.now _ c.loop-part.invariant.4 _ _ c.in-Some.ensures.steps.1.0 c.lay_part-at.ensures,
    )

pub shape_of-img : goal.shape_of-img
shape_of-img c = c.loop-part.invariant.3.0

pub shape_of-map : goal.shape_of-map
shape_of-map c = c.loop-part.invariant.3.1

pub shape_of-gather : goal.shape_of-gather
shape_of-gather c = c.loop-part.invariant.3.2

pub returns : goal.returns
returns c = parts_end c.args.text.now _ c.loop-part.invariant.4 c.in-None.ensures.steps.1.0
