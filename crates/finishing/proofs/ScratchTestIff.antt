-- The test says exactly which files Finish removes, and the keys are theirs, in stored order: these and no others.
use Prim.Native.Nat.{ℕ, suc, zero, ◌+◌, ◌≤◌, ◌<◌}
use mathlib.Core.Path.{◌≡◌, refl, sym, ap, subst, ◌∙◌}
use mathlib.Core.Logic.{◌↔◌}
use mathlib.Core.Bool.{Bool, true, false, not, cond}
use mathlib.Core.List.{List, [], ◌∷◌}
use native.Mathlib.Omega.{arith}
use borrow.Author.Tests.{le-ltb, ltb-false, not-false}
use Rattle.answers.proofs.Refusals.{none_given}
use Rattle.answers.proofs.RefusalsTests.{true_not_false}
use Rattle.pack.specs.declared.Entry.{Entry}
use Rattle.pack.specs.declared.Key.{Key}
use Rattle.pack.specs.Geometry.{geometry_of, slots}
use Rattle.pack.specs.Key.{key_in}
use Rattle.pack.specs.Entry.{entry_of}
use Rattle.pack.specs.Consistent.{Consistent}
use Rattle.asking.specs.declared.Right.TheVariants.{Delete}
use Rattle.asking.specs.RightsTest.{may}
use Rattle.asking.specs.OpensTest.{is_open}
use Rattle.asking.specs.Opens.{opens}
use Rattle.asking.specs.Asked.{file_of}
use Rattle.asking.proofs.AskedStage.{stage_clear, file_found_law}
use Rattle.asking.proofs.Outcome.{code_is}
use Rattle.directory.specs.PermitRows.{permit_rows}
use Rattle.directory.specs.DeletRows.{delet_rows}
use Rattle.directory.specs.Delet.{delet}
use Rattle.finishing.specs.ScratchTest.{is_scratch, keys_from, scratch_keys}
use Rattle.finishing.specs.Finish.{Scratch, ScratchFrom}
use Rattle.finishing.specs.Finish.ScratchFrom.{end, here, other}
use Rattle.finishing.proofs.ScratchTestPasses.{scratch_passes, passes_scratch}
use Rattle.finishing.proofs.ScratchTestDelet.{empty_name, used_name, named_used, used_legal, found_own, scratch_code}

-- a file that is not open
closed_none : (x : Entry) → is_open x ≡ false → opens x ≡ 0
unfolding is_open
closed_none x is = omega (arith, ltb-false 0 (opens x) is)

pub none_closed : (x : Entry) → opens x ≡ 0 → is_open x ≡ false
unfolding is_open
none_closed x none = le-ltb 0 (opens x) (omega (arith, none))

-- DELET that is done had the right
delet_granted : (img : List ℕ) (key : Key) (caller : ℕ) → (delet img key caller).code ≡ 0 → may Delete caller (file_of img key).uic (file_of img key).protect ≡ true
unfolding delet delet_rows
delet_granted img key caller success =
    let passed = sym (code_is (delet_rows img key caller) img [] _) ∙ success in
    let behind = (stage_clear img key false (permit_rows Delete caller) passed).behind in
    not-false _ (none_given (not (may Delete caller (file_of img key).uic (file_of img key).protect)) 0o6 _ (λ is. omega (arith, is)) behind).0

module _ {img : List ℕ} (right : Consistent img) (caller : ℕ) where
  -- "every file of the caller's UIC that has bit 7 clear, is not open, and that DELET would allow"
  pub scratch_iff : (e : ℕ) → e < slots (geometry_of img) → is_scratch caller (entry_of img (geometry_of img) e) ≡ true ↔ Scratch img caller e
  scratch_iff e inside = (to, from)
    where
      to : is_scratch caller (entry_of img (geometry_of img) e) ≡ true → Scratch img caller e
      to is =
          let passes = scratch_passes caller _ is in
          record {
            inside = inside;
            file = λ empty. passes.named (empty_name img (geometry_of img) e empty);
            own = passes.own;
            unkept = passes.unkept;
            closed = closed_none _ passes.closed;
            allowed = scratch_code refl right e inside caller is;
          }

      from : Scratch img caller e → is_scratch caller (entry_of img (geometry_of img) e) ≡ true
      from s =
          let named = used_name img (geometry_of img) e (right.entries e inside) s.file in
          let legal = used_legal refl right e inside (named_used img (geometry_of img) e (right.entries e inside) named) in
          let file = file_found_law img (key_in (entry_of img (geometry_of img) e)) (geometry_of img) e refl (found_own refl right e inside legal) in
          passes_scratch caller _
          (record {
            named = named;
            own = s.own;
            unkept = s.unkept;
            closed = none_closed _ s.closed;
            granted = subst (λ (x : Entry). may Delete caller x.uic x.protect ≡ true) file (delet_granted img _ caller s.allowed);
          })

  -- "in stored order"
  listed_from : (e k : ℕ) → e + k ≡ slots (geometry_of img) → ScratchFrom img caller e (keys_from img (geometry_of img) caller e k)
  unfolding keys_from
  listed_from e zero all = let past : slots (geometry_of img) ≤ e = omega (arith, all) in end past
  listed_from e (suc k) all =
      by (is_scratch caller (entry_of img (geometry_of img) e)) refl (listed_from (e + 1) k (omega (arith, all)))
    where
      by : (test : Bool) → is_scratch caller (entry_of img (geometry_of img) e) ≡ test
          → ScratchFrom img caller (e + 1) (keys_from img (geometry_of img) caller (e + 1) k)
          → ScratchFrom img caller e
          (cond test (key_in (entry_of img (geometry_of img) e) ∷ keys_from img (geometry_of img) caller (e + 1) k) (keys_from img (geometry_of img) caller (e + 1) k))
      by true is rest = here ((scratch_iff e (omega (arith, all))).0 is) rest
      by false is rest = other {e = e} (omega (arith, all)) (λ s. true_not_false (sym ((scratch_iff e (omega (arith, all))).1 s) ∙ is)) rest

  pub keys_listed : ScratchFrom img caller 0 (scratch_keys img caller)
  unfolding scratch_keys
  keys_listed = listed_from 0 (slots (geometry_of img)) (omega arith)

-- no other list of keys is that
pub keys_single : {img : List ℕ} {caller e : ℕ} {keys keys' : List Key} → ScratchFrom img caller e keys → ScratchFrom img caller e keys' → keys ≡ keys'
keys_single (end past) (end past') = refl
keys_single (end past) (here s rest) = absurd (omega (arith, past, s.inside))
keys_single (end past) (other inside never rest) = absurd (omega (arith, past, inside))
keys_single (here s rest) (end past) = absurd (omega (arith, past, s.inside))
keys_single {img} {caller} {e} (here s rest) (here s' rest') = ap (λ (more : List Key). key_in (entry_of img (geometry_of img) e) ∷ more) (keys_single rest rest')
keys_single (here s rest) (other inside never rest') = absurd (never s)
keys_single (other inside never rest) (end past) = absurd (omega (arith, past, inside))
keys_single (other inside never rest) (here s rest') = absurd (never s)
keys_single (other inside never rest) (other inside' never' rest') = keys_single rest rest'
