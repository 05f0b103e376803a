-- Rests on `SwitchesWrittenParts`: the name and the values are set first, and the count, which `write_values` knows, in the word before them.
use Rattle.command_switches.proofs.SwitchesWrittenParts.{behind_name_law, its_values_asked, switch_written}
use Rattle.command_switches.proofs.write_switch.Goals as goal

pub write_values-written-requires : goal.write_values-written-requires
write_values-written-requires c = let behind = behind_name_law c.args.line.now c.args.c.at c.write_name-next.result c.write_name-next.ensures.at_value c.requires.0 in
    (behind, its_values_asked c.args.line.now c.args.c.at c.write_name-next.result c.write_name-next.ensures.at_value _ _ _ c.write_name-next.auto.buffer c.requires.2)

pub returns : goal.returns
returns c = switch_written _ _ c.write_name-next.result c.write_name-next.ensures.at_value _ _ _ _ _ _ c.write_name-next.ensures.buffer_after c.write_values-written.ensures c.set_word.ensures
