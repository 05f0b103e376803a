-- Which of the files in use are scratch files: the caller's own that nothing spares; DELET allows its owner each closed file that has bit 6 clear.
use Prim.Native.Nat.{ℕ, ◌/◌, ◌%◌, ◌<◌}
use mathlib.Core.Path.{◌≡◌, refl, sym, ◌∙◌}
use mathlib.Core.Logic.{◌↔◌}
use mathlib.Core.Bool.{true}
use mathlib.Core.List.{List}
use native.Mathlib.Omega.{arith}
use native.Mathlib.Decide.{ℕ_discrete}
use borrow.Author.Tests.{eqb-true, eq-eqb}
use Rattle.pack.specs.declared.Entry.{Entry}
use Rattle.pack.specs.Geometry.{geometry_of, slots}
use Rattle.pack.specs.Entry.{entry_of, Empty}
use Rattle.pack.specs.Consistent.{Consistent}
use Rattle.asking.specs.declared.Right.TheVariants.{Delete}
use Rattle.asking.specs.Opens.{opens}
use Rattle.asking.proofs.Rights.{may_owner, owners_delete}
use Rattle.finishing.specs.ScratchTest.{is_scratch}
use Rattle.finishing.specs.Finish.{Scratch}
use Rattle.finishing.specs.Spared.{Spared}
use Rattle.finishing.specs.Spared.Spared.{another, kept, opened, denied}
use Rattle.finishing.proofs.ScratchTestPasses.{scratch_passes, passes_scratch}
use Rattle.finishing.proofs.ScratchTestDelet.{used_name}
use Rattle.finishing.proofs.ScratchTestIff.{none_closed, scratch_iff}

module _ {img : List ℕ} (right : Consistent img) (caller e : ℕ) (inside : e < slots (geometry_of img)) where
  abbrev x : Entry
  x = entry_of img (geometry_of img) e

  scratch_bit_6 : Scratch img caller e → ((entry_of img (geometry_of img) e).protect / 64) % 2 ≡ 0
  scratch_bit_6 s =
      let passes = scratch_passes caller x ((scratch_iff right caller e inside).1 s) in
      eqb-true _ 0 (owners_delete Delete x.protect refl ∙ (may_owner Delete caller x.uic x.protect (sym s.own) ∙ passes.granted))

  -- a scratch file is spared by nothing
  pub scratch_unspared : Scratch img caller e → Spared caller (entry_of img (geometry_of img) e) → ⊥
  scratch_unspared s (another other) = other s.own
  scratch_unspared s (kept bit) = omega (arith, bit, s.unkept)
  scratch_unspared s (opened some) = omega (arith, some, s.closed)
  scratch_unspared s (denied bit) = omega (arith, bit, scratch_bit_6 s)

  -- and a file that nothing spares is one
  unspared_scratch : (Empty img (geometry_of img) e → ⊥) → (Spared caller (entry_of img (geometry_of img) e) → ⊥) → Scratch img caller e
  unspared_scratch file spared =
      (scratch_iff right caller e inside).0 (by (ℕ_discrete x.uic caller) (ℕ_discrete ((x.protect / 128) % 2) 0) (ℕ_discrete (opens x) 0) (ℕ_discrete ((x.protect / 64) % 2) 0))
    where
      by : Dec (x.uic ≡ caller) → Dec ((x.protect / 128) % 2 ≡ 0) → Dec (opens x ≡ 0) → Dec ((x.protect / 64) % 2 ≡ 0)
          → is_scratch caller x ≡ true
      by (no other) seven used six = absurd (spared (another other))
      by (yes own) (no set) used six = absurd (spared (kept (omega (arith, set))))
      by (yes own) (yes clear) (no some) six = absurd (spared (opened (omega (arith, some))))
      by (yes own) (yes clear) (yes closed) (no set) = absurd (spared (denied (omega (arith, set))))
      by (yes own) (yes clear) (yes closed) (yes plain) =
          passes_scratch caller x
          (record {
            named = used_name img (geometry_of img) e (right.entries e inside) file;
            own = own;
            unkept = clear;
            closed = none_closed x closed;
            granted = sym (may_owner Delete caller x.uic x.protect (sym own)) ∙ (sym (owners_delete Delete x.protect refl) ∙ eq-eqb _ 0 plain);
          })

  pub spared_iff : (Empty img (geometry_of img) e → ⊥) → Scratch img caller e ↔ (Spared caller (entry_of img (geometry_of img) e) → ⊥)
  spared_iff file = (scratch_unspared, unspared_scratch file)
