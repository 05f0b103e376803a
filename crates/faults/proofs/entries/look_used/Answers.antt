-- Rests on `LookedEntry`: words, name and file of an entry in use, each told where those before it are right.
use mathlib.Core.Path.{sym, ◌∙◌}
use Rattle.faults.proofs.LookedEntry.{told_low, told_name, told_middle, told_high, told_file, known_kind}
use Rattle.faults.proofs.entries.look_used.Goals as goal

pub returns-in-Some : goal.returns-in-Some
returns-in-Some c = told_low c.requires.0 (c.in-Some.ensures _)

pub returns-then-is_some : goal.returns-then-is_some
returns-then-is_some c = told_name c.requires.0 (c.in_default.ensures _) _ c.same_before.ensures (sym c.is_some.ensures ∙ c.if-is_some.true)

pub returns-in-Some-wrong_kind : goal.returns-in-Some-wrong_kind
returns-in-Some-wrong_kind c = told_middle c.requires.0 (c.in_default.ensures _) _ c.same_before.ensures
    (sym c.is_some.ensures ∙ c.if-is_some.false) (c.in-Some-wrong_kind.ensures _ _)

pub returns-in-Some-wrong_behind : goal.returns-in-Some-wrong_behind
returns-in-Some-wrong_behind c = told_high c.requires.0 (c.in_default.ensures _) _ c.same_before.ensures
    (sym c.is_some.ensures ∙ c.if-is_some.false) (c.in_default-wrong_kind.ensures _ _) c.in-Some-wrong_behind.ensures

pub look_file-requires : goal.look_file-requires
look_file-requires c = record { here = c.requires; fact = known_kind c.in_default-wrong_kind.ensures }

pub returns : goal.returns
returns c = told_file c.requires.0 (c.in_default.ensures _) _ c.same_before.ensures (sym c.is_some.ensures ∙ c.if-is_some.false)
    (c.in_default-wrong_kind.ensures _ _) c.in_default-wrong_behind.ensures c.look_file.ensures
