-- An entry in use is like no other entry: not like another one in use, nor like an empty one.
use Prim.Native.Nat.{ℕ, ◌+◌, ◌<◌}
use mathlib.Core.Path.{◌≡◌, ◌∙◌}
use mathlib.Core.List.{List}
use mathlib.Core.Logic.{inl, inr}
use native.Mathlib.Omega.{arith}
use native.Mathlib.Decide.{dec_lt}
use Rattle.pack.specs.declared.Geometry.{Geometry}
use Rattle.pack.specs.Geometry.{geometry_of, slots}
use Rattle.pack.specs.Header.{RightHeader}
use Rattle.pack.specs.Entry.{entry_of, Empty, RightEntry}
use Rattle.pack.specs.Key.{key_in, SameKey}
use Rattle.pack.specs.Consistent.{Consistent}
use Rattle.pack.proofs.KeySame.{same_back}
use Rattle.frame.proofs.FramedStays.{entries_at, differ_at}

-- an empty entry has UIC 0, an entry in use has not
pub empty_uic : (img : List ℕ) (g : Geometry) (e : ℕ) → Empty img g e → (entry_of img g e).uic ≡ 0
unfolding entry_of
empty_uic img g e empty = empty.zero 3 (omega arith)

pub used_uic : (img : List ℕ) (g : Geometry) (e : ℕ) → RightHeader img → RightEntry img g e → (Empty img g e → ⊥) → (entry_of img g e).uic ≡ 0 → ⊥
used_uic img g e header (inl empty) used is = used empty
used_uic img g e header (inr rules) used is = header.uics.some (4 + rules.uic.at) (omega arith) (omega (arith, rules.uic.within)) (rules.uic.is ∙ is)

-- an entry like one in use is in use
pub alike_used : (img : List ℕ) (g : Geometry) (e f : ℕ) → RightHeader img → RightEntry img g e → (Empty img g e → ⊥)
    → SameKey (key_in (entry_of img g e)) (key_in (entry_of img g f)) → Empty img g f → ⊥
alike_used img g e f header right used alike empty = used_uic img g e header right used (alike.uic ∙ empty_uic img g f empty)

-- "used entries .. differ in name, extension or UIC", whichever of the two stands first
pub unlike : (img : List ℕ) (g : Geometry) → g ≡ geometry_of img → Consistent img
    → (e f : ℕ) → e < slots g → f < slots g → (e ≡ f → ⊥) → (Empty img g e → ⊥) → SameKey (key_in (entry_of img g e)) (key_in (entry_of img g f)) → ⊥
unlike img g stated consistent e f within within₂ other used alike =
    elim (dec_lt e f) [
      | yes less ↦ differ_at img g stated consistent e f less within₂ used alike
      | no not ↦
          differ_at img g stated consistent f e (omega (arith, not, other)) within
          (alike_used img g e f consistent.header (entries_at img g stated consistent e within) used alike) (same_back alike)
    ]
