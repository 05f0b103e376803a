-- Rests on `PartsLaid`: absent group and user are 0; those that are there are at most 377 octal, and show themselves in brackets.
use Rattle.command_writing.specs.LaidText.{wrong}
use Rattle.command_writing.proofs.PartsLaid.{uic_group, uic_user, uic_large_group, uic_large_user, uic_absent, uic_laid}
use Rattle.command_writing.proofs.parts.write_uic.Goals as goal

pub returns-then-group-ne0 : goal.returns-then-group-ne0
returns-then-group-ne0 c = wrong (uic_group c.if-not-present.true c.if-group-ne0.true)

pub returns-then-user-ne0 : goal.returns-then-user-ne0
returns-then-user-ne0 c = wrong (uic_user c.if-not-present.true c.if-user-ne0.true)

pub returns-then-not-present : goal.returns-then-not-present
returns-then-not-present c = uic_absent c.if-not-present.true c.if-group-ne0.false c.if-user-ne0.false

pub returns-then-group-gt-LAST_OWNER : goal.returns-then-group-gt-LAST_OWNER
returns-then-group-gt-LAST_OWNER c = wrong (uic_large_group c.if-not-present.false c.if-group-gt-LAST_OWNER.true)

pub returns-then-user-gt-LAST_OWNER : goal.returns-then-user-gt-LAST_OWNER
returns-then-user-gt-LAST_OWNER c = wrong (uic_large_user c.if-not-present.false c.if-user-gt-LAST_OWNER.true)

pub returns : goal.returns
returns c = uic_laid c.if-not-present.false c.if-group-gt-LAST_OWNER.false c.if-user-gt-LAST_OWNER.false c.put-opening.ensures c.put_octal-groups.ensures c.put-comma.ensures
    c.put_octal-users.ensures c.put.ensures
