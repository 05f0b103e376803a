-- Rests on `stands_at` alone: before the end stands what is read, and behind it nothing.
use borrow.Author.Tests.{lt-ltb, le-ltb}
use Rattle.command_cursor.specs.CursorAt.{stands_at}
use Rattle.command_cursor.proofs.stands.Goals as goal

pub returns-then-place-line : goal.returns-then-place-line
unfolding stands_at
returns-then-place-line c = rw (lt-ltb _ _ c.if-place-line.true)

pub returns-else-place-line : goal.returns-else-place-line
unfolding stands_at
returns-else-place-line c = rw (le-ltb _ _ c.if-place-line.false)
