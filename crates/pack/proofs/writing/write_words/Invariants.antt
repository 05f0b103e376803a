-- What the loop of `write_words` keeps from turn to turn.
use Prim.Native.Nat.{◌-◌, ◌≤◌}
use mathlib.Core.Path.{◌≡◌}
use lib.ListN.{length, drop}
use Rattle.pack.specs.EntryWords.{set_entry_words}
use Rattle.pack.proofs.writing.write_words.Given as goal

abbrev pub invariant-loop-i : goal.invariant-loop-i
invariant-loop-i l = (l.i ≤ 16) × (length l.img ≡ length l.initial.img) × (set_entry_words l.initial.img l.g l.e 0 l.words ≡ set_entry_words l.img l.g l.e l.i (drop l.i l.words))
