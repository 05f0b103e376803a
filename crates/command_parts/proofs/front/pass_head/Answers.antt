-- Rests on `PassedHead`: a device and the file behind it; a file alone where no device could go on behind six characters; else the refusal is the device's.
use mathlib.Core.Path.{sym, ap, ◌∙◌}
use Rattle.command_parts.specs.Passing.{passing_in}
use Rattle.command_parts.proofs.PassedHead.{pass_with, pass_without, pass_neither}
use Rattle.command_parts.proofs.front.pass_head.Goals as goal

pub returns-in-Ok : goal.returns-in-Ok
returns-in-Ok c = c.pass_named.ensures ∙ pass_with _ _ _ _ (sym c.requires ∙ ap passing_in c.in-Ok.is)

pub returns-then-name-misread : goal.returns-then-name-misread
returns-then-name-misread c = pass_neither _ _ _ _ c.named-name.ensures (sym c.requires ∙ ap passing_in c.in-Err.is) c.if-name-misread.true

pub returns-else-name-misread : goal.returns-else-name-misread
returns-else-name-misread c = c.pass_named-in-Err.ensures ∙ pass_without _ _ _ _ c.named-name.ensures (sym c.requires ∙ ap passing_in c.in-Err.is) c.if-name-misread.false
