-- Rests on `FilledWord`: a name of up to three characters has a blank second word; a longer one is its two halves, each read by `word_of`.
use native.Mathlib.Omega.{arith}
use Rattle.command_cursor.proofs.FilledWord.{name_short, first_all, second_all, name_long}
use Rattle.command_cursor.proofs.name_words.Goals as goal

pub returns-then-end-first : goal.returns-then-end-first
returns-then-end-first c =
    let given = name_short c.args.line.now c.args.first c.args.end c.requires.first_le_end.0 c.requires.first_le_end.1 c.if-end-first.true
    (c.word_of.ensures.value, c.word_of.ensures.upper_bound) in
    record { first_value = given.0; first_bound = given.1 }

pub word_of-requires-2 : goal.word_of-requires-2
word_of-requires-2 c = record { first_le_end = (omega arith, omega arith); end_bound = omega arith; all = first_all _ _ _ c.if-end-first.false c.requires.first_le_end.1 c.requires.all }

pub word_of-requires-3 : goal.word_of-requires-3
word_of-requires-3 c = record { first_le_end = (omega arith, omega arith); end_bound = omega arith; all = second_all _ _ _ c.if-end-first.false c.requires.first_le_end.1 c.requires.all }

pub returns : goal.returns
returns c =
    let given = name_long c.args.line.now c.args.first c.args.end c.if-end-first.false c.requires.first_le_end.1
    (c.word_of-2.ensures.value, c.word_of-2.ensures.upper_bound) (c.word_of-3.ensures.value, c.word_of-3.ensures.upper_bound) in
    record { first_value = given.0; first_bound = given.1 }
