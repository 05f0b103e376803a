-- A file that a request does not name is there after it exactly if it was there before, and at the same entry: no request makes a file that it does not name.
use Prim.Native.Nat.{ℕ, ◌<◌}
use mathlib.Core.Path.{◌≡◌, refl, sym, subst, ◌∙◌}
use mathlib.Core.List.{List}
use native.Mathlib.Omega.{arith}
use native.Mathlib.Decide.{ℕ_discrete}
use Rattle.pack.specs.declared.Geometry.{Geometry}
use Rattle.pack.specs.declared.Key.{Key}
use Rattle.pack.specs.Geometry.{geometry_of, slots}
use Rattle.pack.specs.Key.{key_in, SameKey}
use Rattle.pack.specs.Entry.{entry_of, Empty, RightEntry}
use Rattle.pack.specs.Consistent.{Consistent}
use Rattle.pack.specs.Untouched.{Untouched}
use Rattle.frame.proofs.FramedStays.{entries_at}
use Rattle.frame.proofs.UntouchedFramed.{untouched_used, untouched_keyed}
use Rattle.finishing.proofs.ScratchTestDelet.{used_name}
use Rattle.requests.specs.Request.{Request, outcome, Names}
use Rattle.requests.specs.FileAt.{FileAt}
use Rattle.requests.proofs.RequestConsistent.{stays_consistent}
use Rattle.requests.proofs.RequestRefused.{refusal_leaves}
use Rattle.requests.proofs.RequestUntouched.{who_is_not_named}
use Rattle.requests.proofs.RequestKeys.{SameKeyWords, key_words}

-- the same at measures that are those of the image
record At (img : List ℕ) (who : Key) (e : ℕ) (g : Geometry) : Type 0 where
  inside : e < slots g
  used : Empty img g e → ⊥
  keyed : SameKey (key_in (entry_of img g e)) who

at_measures : {img : List ℕ} {who : Key} {e : ℕ} {g : Geometry} → geometry_of img ≡ g → FileAt img who e → At img who e g
at_measures {img} {who} {e} stated there = subst (At img who e) stated (record { inside = there.inside; used = there.used; keyed = there.keyed })

of_measures : {img : List ℕ} {who : Key} {e : ℕ} {g : Geometry} → g ≡ geometry_of img → At img who e g → FileAt img who e
of_measures {img} {who} {e} stated at =
    let here : At img who e (geometry_of img) = subst (At img who e) stated at in
    record { inside = here.inside; used = here.used; keyed = here.keyed }

-- an entry that has the words of a name had them, and was in use: an entry that is right has a name exactly if it is in use
words_before : {img img' : List ℕ} {who : Key} {e : ℕ} {g : Geometry} → RightEntry img' g e → SameKeyWords img img' g e → At img' who e g → At img who e g
unfolding entry_of
words_before {img} {img'} {who} {e} {g} right words at =
    record {
      inside = at.inside;
      used = λ empty. used_name img' g e right at.used (words 0 (omega arith) ∙ empty.zero 0 (omega arith));
      keyed =
          record {
            name1 = sym (words 0 (omega arith)) ∙ at.keyed.name1;
            name2 = sym (words 1 (omega arith)) ∙ at.keyed.name2;
            extension = sym (words 2 (omega arith)) ∙ at.keyed.extension;
            uic = sym (words 3 (omega arith)) ∙ at.keyed.uic;
          };
    }

-- an untouched file stays where it is
pub untouched_there : {img img' : List ℕ} {who : Key} {e : ℕ} → Consistent img → Untouched who img img' → FileAt img who e → FileAt img' who e
untouched_there {img} {img'} {who} {e} right untouched there =
    of_measures (sym untouched.measures)
    (record {
      inside = there.inside;
      used = untouched_used who img img' (geometry_of img) refl right.header untouched e there.inside there.used there.keyed;
      keyed = untouched_keyed who img img' (geometry_of img) refl right.header untouched e there.inside there.used there.keyed;
    })

-- a file that is there after a request which does not name it was there before, at that entry
pub there_before : (r : Request) {img : List ℕ} → Consistent img → (who : Key) → (Names r who → ⊥) → (e : ℕ) → FileAt (outcome r img).image who e → FileAt img who e
there_before r {img} right who apart e there = by (ℕ_discrete (outcome r img).code 0)
  where
    measures : geometry_of (outcome r img).image ≡ geometry_of img
    measures = (who_is_not_named r right who apart).measures

    at : At (outcome r img).image who e (geometry_of img)
    at = at_measures measures there

    by : Dec ((outcome r img).code ≡ 0) → FileAt img who e
    by (yes success) =
        of_measures refl
        (words_before (entries_at (outcome r img).image (geometry_of img) (sym measures) (stays_consistent r right) e at.inside)
        (key_words r right who apart success e at.inside there at.used at.keyed) at)
    by (no never) = subst (λ (image : List ℕ). FileAt image who e) (refusal_leaves r img never).same_image there
