-- Rests on `SwitchesWrittenNames`: the run from the cursor is the name; its two words are set one after the other, as `name_words` gives them.
use mathlib.Core.Path.{refl}
use Rattle.radix.specs.Names.{is_letter_or_digit}
use Rattle.command_cursor.proofs.CursorAtRuns.{run_up, run_within, run_most, named_run}
use Rattle.command_switches.proofs.SwitchesWrittenNames.{end_behind, name_written}
use Rattle.command_switches.proofs.write_name.Goals as goal

pub name_words-words-requires : goal.name_words-words-requires
name_words-words-requires c = record {
  first_le_end = (
    run_up is_letter_or_digit 6 c.args.line.now c.args.c.at c.named-next.result.at c.named-next.ensures,
    run_within
        is_letter_or_digit 6 c.args.line.now c.args.c.at c.named-next.result.at c.named-next.ensures c.requires.0,
  );
  end_bound = run_most is_letter_or_digit 6 c.args.line.now
      c.args.c.at c.named-next.result.at c.named-next.ensures 65 refl;
  all = named_run 6 c.args.line.now c.args.c.at c.named-next.result.at c.named-next.ensures;
}

pub returns : goal.returns
returns c = record {
  at_value = end_behind c.args.line.now c.args.c.at c.named-next.result.at c.named-next.ensures;
  buffer_after = name_written c.args.line.now c.args.c.at
      c.named-next.result.at c.named-next.ensures _ _ _ _ c.name_words-words.result c.name_words-words.ensures.first_value c.set_word.ensures c.set_word-2.ensures;
}
