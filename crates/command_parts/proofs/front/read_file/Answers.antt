-- Rests on `MadeFront`: without a character of a name there is no file; else its words, and what `read_extension` reads.
use Rattle.command_parts.proofs.MadeFront.{file_none, name_wordable, file_made}
use Rattle.command_parts.proofs.front.read_file.Goals as goal

pub returns-then-name-c : goal.returns-then-name-c
returns-then-name-c c = file_none _ _ _ c.named-name.ensures c.if-name-c.true

pub name_words-words-requires : goal.name_words-words-requires
name_words-words-requires c = let given = name_wordable _ _ _ c.named-name.ensures c.if-name-c.false in
    record { first_le_end = given.0; end_bound = given.1.0; all = given.1.1 }

pub returns : goal.returns
returns c = file_made _ _ _ c.named-name.ensures c.if-name-c.false c.name_words-words.ensures.first_value _ c.read_extension-extension.ensures
