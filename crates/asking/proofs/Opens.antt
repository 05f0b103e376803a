-- The laws of opens: what the tests say.
use Prim.Native.Nat.{◌≤◌, ◌<◌}
use mathlib.Core.Path.{◌≡◌}
use mathlib.Core.Logic.{◌↔◌}
use mathlib.Core.Bool.{true}
use borrow.Author.Tests.{lt-ltb, ltb-true, leb-true, le-leb}
use Rattle.pack.specs.declared.Entry.{Entry}
use Rattle.asking.specs.OpensTest.{is_open, is_full}
use Rattle.asking.specs.Opens.{opens}

pub open_iff : (x : Entry) → is_open x ≡ true ↔ 0 < opens x
unfolding is_open
open_iff x = (ltb-true 0 (opens x), lt-ltb 0 (opens x))

pub full_iff : (x : Entry) → is_full x ≡ true ↔ 62 ≤ opens x
unfolding is_full
full_iff x = (leb-true 62 (opens x), le-leb 62 (opens x))
