-- Rests on `DifferTest`: lists that are all empty hold no file, few of them or many.
use mathlib.Core.Path.{sym}
use native.Mathlib.Omega.{arith}
use Rattle.consistency.specs.DifferTest.{few, many}
use Rattle.consistency.proofs.DifferTest.{listing_fresh}
use Rattle.consistency.proofs.ConsistentTestScan.{names_none}
use Rattle.consistency.proofs.are_names_right.Goals as goal

pub returns-then-end-lt1 : goal.returns-then-end-lt1
returns-then-end-lt1 c = sym (names_none _ _ c.requires.right_header.1 c.if-end-lt1.true)

pub are_keys_right-requires : goal.are_keys_right-requires
are_keys_right-requires c = record {
  right_header = (c.requires.right_header.0, c.requires.right_header.1, listing_fresh _ _ 256 128 few);
  end_in_bounds = (omega (arith, c.if-end-le-FEW_FILES.true), omega arith, c.set_hints.auto.hints);
}

pub are_keys_right-requires-2 : goal.are_keys_right-requires-2
are_keys_right-requires-2 c = record {
  right_header = (c.requires.right_header.0, c.requires.right_header.1, listing_fresh _ _ 1024 512 many);
  end_in_bounds = (omega (arith, c.requires.right_header.2, c.requires.right_header.1.most), omega arith, c.set_hints.auto.hints);
}
