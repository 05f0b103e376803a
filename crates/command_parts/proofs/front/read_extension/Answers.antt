-- Rests on `MadeFront`: no period, or the word of the characters behind it.
use mathlib.Core.Path.{sym}
use Rattle.command_parts.proofs.MadeFront.{extension_none, extension_wordable, extension_made}
use Rattle.command_parts.proofs.front.read_extension.Goals as goal

pub returns-in_default : goal.returns-in_default
returns-in_default c = extension_none _ _ (sym c.in_default.ensures)

pub word_of-word-requires : goal.word_of-word-requires
word_of-word-requires c = let given = extension_wordable _ c.args.c.at _ (sym c.in-Ok.ensures) _ c.named-next.ensures in
    record { first_le_end = given.0; end_bound = given.1.0; all = given.1.1 }

pub returns : goal.returns
returns c = extension_made _ _ _ (sym c.in-Ok.ensures) _ c.named-next.ensures c.word_of-word.ensures.value
