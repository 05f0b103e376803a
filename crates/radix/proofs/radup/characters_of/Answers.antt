-- Rests on `Packing`: from 64000 up there are no characters; below, they are those of the three codes.
use mathlib.Core.Path.{sym, ◌∙◌}
use Rattle.radix.proofs.Packing.{characters_end, characters_by}
use Rattle.radix.proofs.radup.characters_of.Goals as goal

pub returns-then-word-ge-END : goal.returns-then-word-ge-END
returns-then-word-ge-END c = sym (characters_end _ c.if-word-ge-END.true)

pub returns : goal.returns
returns c = c.spell.ensures
    ∙ characters_by _ c.unpack-codes.ensures.first_value c.unpack-codes.ensures.second_value c.unpack-codes.ensures.third_value
