-- Rests on `put_part`: what is copied into the part stands in the buffer.
use native.Mathlib.Omega.{arith}
use Rattle.printing.proofs.Put.{put_part}
use Rattle.printing.proofs.put_bytes.Goals as goal

pub returns : goal.returns
returns c = rw c.copy_from_slice.ensures.after (put_part _ _ _ _ (omega arith) (omega (arith, c.requires)))
