-- Rests on `RenamStage`: the four words set one by one are the renamed entry (`name_written`); each call keeps the length, and with it the measures.
use Rattle.directory.proofs.RenamStage.{name_written}
use Rattle.directory.proofs.renam.write_name.Goals as goal

pub returns : goal.returns
returns c = name_written _ c.args.g _ c.args.new _ _ c.set_entry_word.ensures _ c.set_entry_word-2.ensures _ c.set_entry_word-3.ensures _
    c.set_entry_word-4.ensures
