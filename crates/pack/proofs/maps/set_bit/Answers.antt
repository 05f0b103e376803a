-- Rests on `MapSet`: the word of the bit stands in the image, and it alone is written.
use mathlib.Core.Path.{sym, ◌∙◌}
use borrow.Author.Tests.{ltb-true}
use Rattle.pack.proofs.MapSet.{bit_set_none, map_inside, map_written}
use Rattle.pack.proofs.maps.set_bit.Goals as goal

pub word_at-word-requires : goal.word_at-word-requires
word_at-word-requires c = let there = ltb-true _ _ (sym c.has_map.ensures ∙ c.if-has_map.true) in
    map_inside c.requires.sized there c.words.ensures c.requires.b_lt_blocks.0

pub set_word-requires : goal.set_word-requires
set_word-requires c = let there = ltb-true _ _ (sym c.has_map.ensures ∙ c.if-has_map.true) in
    (map_inside c.requires.sized there c.words.ensures c.requires.b_lt_blocks.0, c.with_bit.ensures.upper_bound)

pub returns-then-has_map : goal.returns-then-has_map
returns-then-has_map c = let there = ltb-true _ _ (sym c.has_map.ensures ∙ c.if-has_map.true) in
    c.set_word.ensures
    ∙ map_written c.requires.sized there c.words.ensures _ _
    c.word_at-word.ensures.value c.with_bit.ensures.value

pub returns-else-has_map : goal.returns-else-has_map
returns-else-has_map c = sym (bit_set_none _ _ _ _ (sym c.has_map.ensures ∙ c.if-has_map.false))
