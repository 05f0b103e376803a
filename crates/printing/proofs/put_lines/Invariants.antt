-- What the loop of `put_lines` keeps from turn to turn.
use Prim.Native.Nat.{ℕ, ◌+◌, ◌*◌, ◌-◌, ◌≤◌}
use mathlib.Core.Path.{◌≡◌}
use mathlib.Core.List.{List}
use lib.ListN.{length}
use Rattle.pack.specs.Geometry.{slots}
use Rattle.printing.specs.Listing.{lines_from}
use Rattle.printing.specs.Pieces.{most_line}
use Rattle.printing.specs.Put.{Put}
use Rattle.printing.proofs.put_lines.Given as goal

abbrev pub invariant-loop-e : goal.invariant-loop-e
invariant-loop-e l = (length l.out ≡ length l.initial.out)
    × (l.next + most_line * (slots l.view.g - l.e) ≤ l.at + most_line * slots l.view.g)
    × ((u : List ℕ) (k : ℕ) → Put l.out u l.next k (lines_from l.view.img.now l.view.g l.e (slots l.view.g - l.e))
    → Put l.initial.out u l.at k (lines_from l.view.img.now l.view.g 0 (slots l.view.g)))
