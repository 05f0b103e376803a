-- A block is taken before it is joined: the entries are as they were, and so nothing stands against the joining.
use Prim.Native.Nat.{ℕ, ◌≤◌, ◌<◌}
use mathlib.Core.Path.{◌≡◌}
use mathlib.Core.List.{List}
use native.Mathlib.Omega.{arith}
use Rattle.pack.specs.declared.Geometry.{Geometry}
use Rattle.pack.specs.Geometry.{slots}
use Rattle.pack.specs.GeometrySized.{Sized}
use Rattle.pack.specs.Entry.{entry_of}
use Rattle.frame.specs.Framed.{Never}
use Rattle.frame.proofs.FramedCompose.{entry_kept}
use Rattle.room.specs.Cleared.{taken}
use Rattle.room.proofs.Taken.{taken_kept, taken_sized}
use Rattle.adding.specs.LinkedAddStage.{Addable}

module _ {img : List ℕ} {g : Geometry} (sized : Sized img g) (b : ℕ) (body : g.bodies.0 ≤ b) (below : b < g.blocks) where
  pub taken_entry : (e : ℕ) → e < slots g → entry_of (taken img g b 1) g e ≡ entry_of img g e
  taken_entry e within = entry_kept (taken_kept sized b 1 body (omega (arith, below)) {Named = Never}) e within (λ never. never)

  pub taken_addable : {e : ℕ} {payload : List ℕ} → Addable img g e b payload → Addable (taken img g b 1) g e b payload
  taken_addable {e} ready =
      let same = taken_entry e ready.entry in
      record {
        sized = taken_sized sized b 1 body (omega (arith, below));
        entry = ready.entry;
        body = body;
        below = below;
        whole = ready.whole;
        fits = rw same ready.fits;
        last = rw same ready.last;
      }
