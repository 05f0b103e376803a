-- Rests on `MapBits`: shifted a bit is a power of 2 or nothing, it is in the word, and the word stays one.
use native.Mathlib.Omega.{arith}
use Rattle.pack.proofs.MapBits.{shift_with, shift_word}
use Rattle.pack.proofs.maps.with_bit.Goals as goal

pub returns : goal.returns
returns c = let is = shift_with c.args.word c.args.place c.args.bit c.requires.1 c.requires.0 c.requires.2 in
    record { value = is; upper_bound = omega (arith, is, shift_word c.args.word c.args.place c.args.bit c.requires.1 c.requires.0 c.requires.2) }
