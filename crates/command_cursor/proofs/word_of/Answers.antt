-- Rests on `FilledWord`: the three codes that `code_at` gives are those of the characters, filled up with blanks; packed they are the word.
use native.Mathlib.Omega.{arith}
use Rattle.command_cursor.proofs.FilledWord.{named_at, word_given}
use Rattle.command_cursor.proofs.word_of.Goals as goal

pub code_at-a-requires : goal.code_at-a-requires
code_at-a-requires c = record {
  end_in_bounds = c.requires.first_le_end.1;
  place_value = λ below. named_at _ _ _ c.requires.first_le_end.0 c.requires.first_le_end.1
      c.requires.all _ (omega arith) below;
}

pub code_at-b-requires : goal.code_at-b-requires
code_at-b-requires c = record {
  end_in_bounds = c.requires.first_le_end.1;
  place_value = λ below. named_at _ _ _ c.requires.first_le_end.0 c.requires.first_le_end.1
      c.requires.all _ (omega arith) below;
}

pub code_at-c-requires : goal.code_at-c-requires
code_at-c-requires c = record {
  end_in_bounds = c.requires.first_le_end.1;
  place_value = λ below. named_at _ _ _ c.requires.first_le_end.0 c.requires.first_le_end.1
      c.requires.all _ (omega arith) below;
}

pub returns : goal.returns
returns c =
    let given = word_given c.args.line.now c.args.first c.args.end c.requires.first_le_end.0 c.requires.first_le_end.1 c.requires.all c.requires.end_bound
    (c.code_at-a.ensures.value, c.code_at-a.ensures.upper_bound) (c.code_at-b.ensures.value, c.code_at-b.ensures.upper_bound)
    (c.code_at-c.ensures.value, c.code_at-c.ensures.upper_bound) c.pack-word.ensures in
    record { value = given.0; upper_bound = given.1 }
