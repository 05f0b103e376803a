-- Rests on `PassedFile`: without a character of a name there is no file; else it ends where `pass_extension` ends.
use mathlib.Core.Path.{◌∙◌}
use Rattle.command_parts.proofs.PassedFile.{pass_no_file, pass_file}
use Rattle.command_parts.proofs.front.pass_named.Goals as goal

pub returns-then-name-c : goal.returns-then-name-c
returns-then-name-c c = pass_no_file _ _ _ c.requires c.if-name-c.true

pub returns : goal.returns
returns c = c.pass_extension.ensures ∙ pass_file _ _ _ c.requires c.if-name-c.false
