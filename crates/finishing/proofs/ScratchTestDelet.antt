-- DELET of the file of an entry that passes the test is done, and the file of that entry is gone.
use Prim.Native.Nat.{ℕ, ◌<◌}
use mathlib.Core.Path.{◌≡◌, refl, sym, subst}
use mathlib.Core.Bool.{true, false}
use mathlib.Core.Logic.{inl, inr}
use mathlib.Core.List.{List}
use mathlib.Core.Option.{some}
use native.Mathlib.Omega.{arith}
use Rattle.radix.proofs.Names.{name_not_zero}
use Rattle.pack.specs.declared.Geometry.{Geometry}
use Rattle.pack.specs.declared.Key.{Key}
use Rattle.pack.specs.Geometry.{geometry_of, slots}
use Rattle.pack.specs.Key.{key_in}
use Rattle.pack.specs.Entry.{entry_of, Empty, Used, RightEntry}
use Rattle.pack.specs.Consistent.{Consistent}
use Rattle.pack.proofs.KeySame.{equal_same}
use Rattle.consistency.proofs.ConsistentTestIff.{consistent_iff}
use Rattle.answers.specs.Stage.{Clear}
use Rattle.asking.specs.AskedStage.{File}
use Rattle.asking.specs.declared.Right.TheVariants.{Delete}
use Rattle.asking.specs.KeysTest.{legal_key, found}
use Rattle.asking.specs.AskedStage.{asked_of, stage_of}
use Rattle.asking.proofs.Keys.{legal_iff, found_iff}
use Rattle.asking.proofs.AskedStage.{asked_file, file_at}
use Rattle.directory.specs.DeletRows.{delet_rows}
use Rattle.directory.specs.Delet.{deleted, delet}
use Rattle.directory.proofs.PermitStage.{permit_clear}
use Rattle.directory.proofs.DeletStage.{decide_passed, deleting_cleared}
use Rattle.frame.proofs.FramedStays.{entries_at}
use Rattle.finishing.specs.ScratchTest.{is_scratch}
use Rattle.finishing.proofs.ScratchTestPasses.{Passes, scratch_passes}

-- an empty entry's first word is 0, and that of another is not
pub empty_name : (img : List ℕ) (g : Geometry) (e : ℕ) → Empty img g e → (entry_of img g e).name1 ≡ 0
unfolding entry_of
empty_name img g e empty = empty.zero 0 (omega arith)

pub used_name : (img : List ℕ) (g : Geometry) (e : ℕ) → RightEntry img g e → (Empty img g e → ⊥) → (entry_of img g e).name1 ≡ 0 → ⊥
used_name img g e (inl empty) used is = used empty
used_name img g e (inr rules) used is = name_not_zero _ _ rules.name is

pub named_used : (img : List ℕ) (g : Geometry) (e : ℕ) → RightEntry img g e → ((entry_of img g e).name1 ≡ 0 → ⊥) → Used img g e (entry_of img g e)
named_used img g e (inl empty) named = absurd (named (empty_name img g e empty))
named_used img g e (inr rules) named = rules

-- an entry in use has a legal key, and is the one found by it
module _ {img : List ℕ} {g : Geometry} (stated : g ≡ geometry_of img) (right : Consistent img) (e : ℕ) (inside : e < slots g) where
  pub used_legal : Used img g e (entry_of img g e) → legal_key (key_in (entry_of img g e)) ≡ true
  used_legal used = (legal_iff (key_in (entry_of img g e))).1 (used.name, used.extension)

  pub found_own : legal_key (key_in (entry_of img g e)) ≡ true → found img (key_in (entry_of img g e)) ≡ some e
  found_own legal =
      subst (λ (h : Geometry). e < slots h → legal_key (key_in (entry_of img h e)) ≡ true → found img (key_in (entry_of img h e)) ≡ some e) (sym stated)
      (λ within known. (found_iff right (key_in (entry_of img (geometry_of img) e)) known e).1 (within, equal_same refl)) inside legal

  -- "that DELET would allow"
  module _ (caller : ℕ) (is : is_scratch caller (entry_of img g e) ≡ true) where
    abbrev key : Key
    key = key_in (entry_of img g e)

    passes : Passes caller (entry_of img g e)
    passes = scratch_passes caller (entry_of img g e) is

    legal : legal_key key ≡ true
    legal = used_legal (named_used img g e (entries_at img g stated right e inside) passes.named)

    asked : File g e (entry_of img g e) ≡ asked_of img key false
    asked =
        file_at img key false g e (entry_of img g e) (sym stated) refl
        (asked_file img key false ((consistent_iff img).1 right) legal refl e (found_own legal))

    decided : File g e (entry_of img g e) ≡ stage_of (delet_rows img key caller) img key
    decided =
        decide_passed img key caller _ asked g e (entry_of img g e) refl Clear
        (permit_clear Delete caller (entry_of img g e) passes.granted _ refl passes.closed) refl

    done : (0 ≡ (delet img key caller).code) × (deleted img g e ≡ (delet img key caller).image)
    done = deleting_cleared img key caller _ decided g e (entry_of img g e) refl (deleted img g e) refl

    pub scratch_code : (delet img (key_in (entry_of img g e)) caller).code ≡ 0
    scratch_code = sym done.0

    pub scratch_image : (delet img (key_in (entry_of img g e)) caller).image ≡ deleted img g e
    scratch_image = sym done.1
