-- Rests on `RecordBeside`: the two words of an answer are words, and its bytes stand at the place of the record.
use Rattle.listed.proofs.RecordBeside.{answer_small, part_long, put_beside}
use Rattle.listed.proofs.beside.Goals as goal

pub put_answer-requires : goal.put_answer-requires
put_answer-requires c = let small = answer_small c.single.ensures.served in
    rw c.from-answer.ensures (part_long _ _ c.requires.1, small.0, small.1)

pub returns : goal.returns
returns c = put_beside _ _ c.requires.1 _ c.single.ensures.served c.single.ensures.fits (rw c.from-answer.ensures at c.put_answer.ensures)
