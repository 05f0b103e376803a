-- Rests on `FormatMeasures`: the header fits and each number is a word; `headed_is`: four words and the UICs behind them are what is headed.
use native.Mathlib.Omega.{arith}
use Rattle.pack.proofs.FormBounds.{form_small}
use Rattle.creation.proofs.FormatMeasures.{header_long, blocks_small, contents_small, uics_small}
use Rattle.creation.proofs.FormatSteps.{headed_is}
use Rattle.creation.proofs.format.write_header.Goals as goal

pub set_word-requires : goal.set_word-requires
set_word-requires c = (omega (arith, header_long c.requires), form_small _ c.requires.measured.known)

pub set_word-requires-2 : goal.set_word-requires-2
set_word-requires-2 c = (omega (arith, header_long c.requires, c.set_word.auto.bytes), blocks_small c.requires)

pub set_word-requires-3 : goal.set_word-requires-3
set_word-requires-3 c = (omega (arith, header_long c.requires, c.set_word.auto.bytes, c.set_word-2.auto.bytes), contents_small c.requires)

pub set_word-requires-4 : goal.set_word-requires-4
set_word-requires-4 c = (omega (arith, header_long c.requires, c.set_word.auto.bytes, c.set_word-2.auto.bytes, c.set_word-3.auto.bytes), uics_small c.requires)

pub slice_bounds-copy_from_slice-end : goal.slice_bounds-copy_from_slice-end
slice_bounds-copy_from_slice-end c = omega (
  arith,
  header_long c.requires,
  c.set_word.auto.bytes,
  c.set_word-2.auto.bytes,
  c.set_word-3.auto.bytes,
  c.set_word-4.auto.bytes,
)

pub returns : goal.returns
returns c = headed_is _ _ _ _ _ (header_long c.requires) c.set_word.ensures c.set_word-2.ensures c.set_word-3.ensures
    c.set_word-4.ensures c.copy_from_slice.ensures.after
