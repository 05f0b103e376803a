-- Rests on `LineWriteLaid`: the character is the first of what is put for it, and one byte or none is left behind it.
use Rattle.lines.proofs.LineWrite.{put_alone, put_above}
use Rattle.lines.proofs.LineWriteLaid.{put_tab, put_form, character_layable, character_alone, after_layable, after_laid}
use Rattle.lines.proofs.line_write.lay_character.Goals as goal

pub lay-next-requires : goal.lay-next-requires
lay-next-requires c = character_layable _ c.requires

pub returns-then-character-gt-FORM_FEED : goal.returns-then-character-gt-FORM_FEED
returns-then-character-gt-FORM_FEED c = character_alone _ c.requires c.lay-next.ensures.gather_after c.lay-next.ensures.laid_byte (put_above _ c.if-character-gt-FORM_FEED.true)

pub lay-requires : goal.lay-requires
lay-requires c = after_layable _ c.requires c.lay-next.ensures.gather_after c.lay-next.ensures.laid_byte _ (put_tab _ c.if-character-eq-TAB.true)

pub returns-then-character-eq-TAB : goal.returns-then-character-eq-TAB
returns-then-character-eq-TAB c = after_laid _ c.requires c.lay-next.ensures.gather_after c.lay-next.ensures.laid_byte _ (put_tab _ c.if-character-eq-TAB.true)
    c.lay.ensures.gather_after c.lay.ensures.laid_byte

pub lay-requires-then-character-eq-FORM_FEED : goal.lay-requires-then-character-eq-FORM_FEED
lay-requires-then-character-eq-FORM_FEED c = after_layable _ c.requires c.lay-next.ensures.gather_after c.lay-next.ensures.laid_byte _ (put_form _ c.if-character-eq-FORM_FEED.true)

pub returns-then-character-eq-FORM_FEED : goal.returns-then-character-eq-FORM_FEED
returns-then-character-eq-FORM_FEED c = after_laid _ c.requires c.lay-next.ensures.gather_after c.lay-next.ensures.laid_byte _ (put_form _ c.if-character-eq-FORM_FEED.true)
    c.lay-then-character-eq-FORM_FEED.ensures.gather_after c.lay-then-character-eq-FORM_FEED.ensures.laid_byte

pub returns : goal.returns
returns c = character_alone _ c.requires c.lay-next.ensures.gather_after c.lay-next.ensures.laid_byte (put_alone _ c.if-character-eq-TAB.false c.if-character-eq-FORM_FEED.false)
