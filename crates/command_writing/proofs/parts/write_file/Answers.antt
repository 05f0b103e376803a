-- Rests on `PartsLaid`: an absent file has zeros only; one that is there has a legal name, and then its extension decides.
use mathlib.Core.Path.{sym, ◌∙◌}
use Rattle.command_writing.specs.LaidText.{wrong}
use Rattle.command_writing.proofs.NameTests.{refuted}
use Rattle.command_writing.proofs.PartsLaid.{file_numbers, file_other, file_absent, file_laid}
use Rattle.command_writing.proofs.parts.write_file.Goals as goal

pub returns-then-not-is_no_file : goal.returns-then-not-is_no_file
returns-then-not-is_no_file c = wrong (file_numbers c.if-not-present.true (refuted c.is_no_file.ensures c.if-not-is_no_file.true))

pub returns-then-not-present : goal.returns-then-not-present
returns-then-not-present c = file_absent c.if-not-present.true (c.is_no_file.ensures.0 c.if-not-is_no_file.false)

pub returns-then-not-is_legal_name : goal.returns-then-not-is_legal_name
returns-then-not-is_legal_name c = wrong (file_other c.if-not-present.false (sym c.is_legal_name.ensures ∙ c.if-not-is_legal_name.true))

pub returns : goal.returns
returns c = let legal = sym c.is_legal_name.ensures ∙ c.if-not-is_legal_name.false in
    file_laid c.if-not-present.false legal c.put_name-next.ensures c.write_extension.ensures
