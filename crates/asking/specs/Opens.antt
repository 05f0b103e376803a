-- How often a file is open.
use Rattle.std.specs.Prelude.{ℕ, ◌+◌, ltb}
use Rattle.pack.specs.declared.Entry.{Entry}
use Rattle.pack.specs.File.{one}

-- "readers, plus 1 if there is a writer"
abbrev pub opens : Entry → ℕ
opens x = x.readers + one (ltb 0 x.writer)
