-- Means: is a file open, and does it have all the opens that there may be? `open_iff`, `full_iff` (proofs) tie them to the number of opens.
use Rattle.std.specs.Prelude.{Bool, leb, ltb}
use Rattle.pack.specs.declared.Entry.{Entry}
use Rattle.asking.specs.Opens.{opens}

-- "14: .. a file is open"
unfoldable pub is_open : Entry → Bool
is_open x = ltb 0 (opens x)

-- "3: 62 opens already"
unfoldable pub is_full : Entry → Bool
is_full x = leb 62 (opens x)
