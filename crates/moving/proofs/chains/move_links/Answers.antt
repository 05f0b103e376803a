-- Rests on `LinkWalked`: a link more.
use mathlib.Core.Path.{refl, ap, ◌∙◌}
use native.Mathlib.Omega.{arith}
use lib.ListN.{length}
use Rattle.words.proofs.Word.{length_set_word}
use Rattle.moving.proofs.LinkWalked.{walk_start, walk_end, walk_body, walk_number, walk_fits, walk_room, walk_small, walk_again}
use Rattle.moving.proofs.chains.move_links.Goals as goal

pub loop-init : goal.loop-init
loop-init c = (refl, walk_start c.requires.linked_entry c.requires.partly refl refl)

pub next_block-next-requires : goal.next_block-next-requires
next_block-next-requires c = record { b_lt_blocks = (walk_body c.loop.invariant.1 c.loop-test.true).1 }

pub move_number-place-requires : goal.move_number-place-requires
move_number-place-requires c = walk_number c.loop.invariant.1 c.loop-test.true

pub overflow_mul-place : goal.overflow_mul-place
overflow_mul-place c = omega (arith, walk_fits c.loop.invariant.1 c.loop-test.true c.move_number-place.ensures c.words-words.ensures)

pub set_word-requires : goal.set_word-requires
set_word-requires c = (
  walk_room c.loop.invariant.1 c.loop-test.true c.move_number-place.ensures c.words-words.ensures,
  walk_small c.loop.invariant.1 c.loop-test.true c.next_block-next.ensures.result_value c.renumber-number.ensures,
)

pub loop-preserved : goal.loop-preserved
loop-preserved c = (
  ap length c.set_word.ensures ∙ (length_set_word _ _ _ ∙ c.loop.invariant.0),
  walk_again c.loop.invariant.1 c.loop-test.true c.set_word.ensures c.next_block-next.ensures.result_value c.move_number-place.ensures c.renumber-number.ensures
      c.words-words.ensures,
)

pub returns : goal.returns
returns c = walk_end c.loop.invariant.1 c.loop-test.false
