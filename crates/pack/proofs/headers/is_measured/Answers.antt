-- Rests on `HeaderTestMeasures`: what each rung of the test answers, from the form's numbers as they were read; `GeometryRoom`: the bytes of a pack can be counted.
use Prim.Native.Nat.{◌≤◌}
use native.Mathlib.Omega.{arith}
use Rattle.pack.specs.GeometrySized.{most_blocks, most_segments}
use Rattle.pack.proofs.FormBounds.{segments_few, blocks_most}
use Rattle.pack.proofs.GeometryRoom.{few_bytes}
use Rattle.pack.proofs.HeaderTestMeasures.{not_known, too_few, too_many, no_contents, much_contents, no_room, many_uics, by_size}
use Rattle.pack.proofs.headers.is_measured.Goals as goal

pub returns-then-segments-lt1 : goal.returns-then-segments-lt1
returns-then-segments-lt1 c = not_known _ _ _ _ _ c.segments_of-segments.ensures c.if-segments-lt1.true

pub returns-then-blocks-lt16 : goal.returns-then-blocks-lt16
returns-then-blocks-lt16 c = too_few _ _ _ _ _ c.segments_of-segments.ensures c.if-segments-lt1.false c.if-blocks-lt16.true

pub returns-then-most_blocks-blocks : goal.returns-then-most_blocks-blocks
returns-then-most_blocks-blocks c = too_many _ _ _ _ _ c.segments_of-segments.ensures c.if-segments-lt1.false c.if-blocks-lt16.false
    c.most_blocks.ensures c.if-most_blocks-blocks.true

pub returns-then-contents-lt1 : goal.returns-then-contents-lt1
returns-then-contents-lt1 c = no_contents _ _ _ _ _ c.segments_of-segments.ensures c.if-segments-lt1.false
    c.if-blocks-lt16.false c.most_blocks.ensures c.if-most_blocks-blocks.false c.if-contents-lt1.true

pub returns-then-most_contents-contents : goal.returns-then-most_contents-contents
returns-then-most_contents-contents c = much_contents _ _ _ _ _ c.segments_of-segments.ensures
    c.if-segments-lt1.false c.if-blocks-lt16.false
    c.most_blocks.ensures c.if-most_blocks-blocks.false c.if-contents-lt1.false c.most_contents.ensures
    c.if-most_contents-contents.true

pub returns-then-blocks-bodies : goal.returns-then-blocks-bodies
returns-then-blocks-bodies c = no_room _ _ _ _ _ c.segments_of-segments.ensures
    c.if-segments-lt1.false c.if-blocks-lt16.false
    c.most_blocks.ensures c.if-most_blocks-blocks.false
    c.if-contents-lt1.false c.most_contents.ensures c.if-most_contents-contents.false
    c.bodies_of-bodies.ensures c.if-blocks-bodies.true

pub returns-then-most_uics-uics : goal.returns-then-most_uics-uics
returns-then-most_uics-uics c = many_uics _ _ _ _ _ c.segments_of-segments.ensures
    c.if-segments-lt1.false
    c.if-blocks-lt16.false
    c.most_blocks.ensures
    c.if-most_blocks-blocks.false c.if-contents-lt1.false
    c.most_contents.ensures c.if-most_contents-contents.false
    c.bodies_of-bodies.ensures c.if-blocks-bodies.false c.most_uics.ensures c.if-most_uics-uics.true

pub bytes-requires : goal.bytes-requires
bytes-requires c = omega (arith, c.segments_of-segments.ensures, segments_few c.args.form)

pub overflow_mul-result : goal.overflow_mul-result
overflow_mul-result c = let most : c.args.blocks ≤ most_blocks = omega (arith, c.most_blocks.ensures, c.if-most_blocks-blocks.false, blocks_most c.args.form) in
    let few : c.segments_of-segments.result.0 ≤ most_segments = omega (arith, c.segments_of-segments.ensures, segments_few c.args.form) in
    omega (arith, few_bytes most few c.bytes.ensures)

pub returns : goal.returns
returns c = by_size _ _ _ _ _ c.segments_of-segments.ensures
    c.if-segments-lt1.false
    c.if-blocks-lt16.false
    c.most_blocks.ensures
    c.if-most_blocks-blocks.false c.if-contents-lt1.false
    c.most_contents.ensures c.if-most_contents-contents.false
    c.bodies_of-bodies.ensures c.if-blocks-bodies.false c.most_uics.ensures c.if-most_uics-uics.false
    _ c.bytes.ensures
