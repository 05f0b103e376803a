-- APPND accepted: what is known of the image and of the two files where no row is given.
use Prim.Native.Nat.{ℕ, ◌+◌, ◌≤◌, ◌<◌}
use mathlib.Core.Path.{◌≡◌, refl, sym, subst, ◌∙◌}
use mathlib.Core.Bool.{true, false}
use mathlib.Core.List.{List}
use mathlib.Core.Option.{some}
use native.Mathlib.Omega.{arith}
use lib.Dec.{eqb}
use borrow.Author.Tests.{not-false}
use Rattle.answers.specs.Refusals.{first_of}
use Rattle.answers.specs.Missing.{missing}
use Rattle.answers.proofs.Refusals.{none_given}
use Rattle.answers.proofs.Missing.{present}
use Rattle.pack.specs.declared.Entry.{Entry}
use Rattle.pack.specs.declared.Key.{Key}
use Rattle.pack.specs.Geometry.{geometry_of, slots}
use Rattle.pack.specs.GeometrySized.{Sized}
use Rattle.pack.specs.Entry.{entry_of}
use Rattle.pack.specs.Consistent.{Consistent, total}
use Rattle.pack.specs.KeyTest.{same_key}
use Rattle.pack.specs.Key.{key_in, SameKey}
use Rattle.answers.proofs.RefusalsTests.{true_not_false}
use Rattle.consistency.specs.ConsistentTest.{consistent}
use Rattle.consistency.proofs.ConsistentTestIff.{consistent_iff}
use Rattle.asking.specs.KeysTest.{legal_key, found}
use Rattle.asking.specs.Asked.{entry_no, file_of}
use Rattle.asking.proofs.Keys.{found_iff, not_empty}
use Rattle.pack.proofs.HeaderRules.{header_sized}
use Rattle.pack.proofs.ConsistentTotal.{total_two}
use Rattle.owners.proofs.OwnerSum.{sum_of_blocks}
use Rattle.bodies.proofs.EntryChainLinked.{linked_kind, first_small, last_small, last_body}
use Rattle.pack.proofs.KeySame.{same_key_iff, same_back, same_through}
use Rattle.appending.specs.AppndRows.{name_rows, permit_rows, appnd_rows}
use Rattle.appending.specs.AppndStage.{Joinable}

-- one file of the two
pub record LinkedFile (img : List ℕ) (key : Key) : Type 0 where
  pub legal : legal_key key ≡ true
  pub there : found img key ≡ some (entry_no img key)
  pub within : entry_no img key < slots (geometry_of img)
  pub keyed : SameKey (key_in (entry_of img (geometry_of img) (entry_no img key))) key
  pub linked : (entry_of img (geometry_of img) (entry_no img key)).kind ≡ 2

pub asked : {img : List ℕ} (key : Key) → Consistent img → legal_key key ≡ true → missing (found img key) ≡ false → eqb (file_of img key).kind 1 ≡ false → LinkedFile img key
unfolding file_of entry_no
asked {img} key right legal there kind =
    let is : found img key ≡ some (entry_no img key) = present (found img key) there in
    let at = (found_iff right key legal (entry_no img key)).0 is in
    record {
      legal = legal;
      there = is;
      within = at.0;
      keyed = at.1;
      linked = linked_kind img (geometry_of img) (entry_no img key) (not_empty img (geometry_of img) key (entry_no img key) legal at.1) kind
          (right.entries (entry_no img key) at.0);
    }

-- two files that are joined
pub record Accepted (img : List ℕ) (first second : Key) : Type 0 where
  pub right : Consistent img
  pub one : LinkedFile img first
  pub two : LinkedFile img second
  pub other : entry_no img first ≡ entry_no img second → ⊥

apart : (a b : Key) (x : Entry) → SameKey (key_in x) a → SameKey (key_in x) b → same_key a b ≡ true
apart a b x one two = (same_key_iff a b).1 (same_through (same_back one) two)

pub accepted : (img : List ℕ) (first second : Key) (caller : ℕ) → first_of (appnd_rows img first second caller) ≡ 0 → Accepted img first second
unfolding appnd_rows name_rows permit_rows
accepted img first second caller clear =
    let r1 = none_given _ _ _ (λ is. omega (arith, is)) clear in
    let r2 = none_given _ _ _ (λ is. omega (arith, is)) r1.1 in
    let r3 = none_given _ _ _ (λ is. omega (arith, is)) r2.1 in
    let r4 = none_given _ _ _ (λ is. omega (arith, is)) r3.1 in
    let r5 = none_given _ _ _ (λ is. omega (arith, is)) r4.1 in
    let r6 = none_given _ _ _ (λ is. omega (arith, is)) r5.1 in
    let r7 = none_given _ _ _ (λ is. omega (arith, is)) r6.1 in
    let r8 = none_given _ _ _ (λ is. omega (arith, is)) r7.1 in
    let r9 = none_given _ _ _ (λ is. omega (arith, is)) r8.1 in
    let r10 = none_given _ _ _ (λ is. omega (arith, is)) r9.1 in
    let right = (consistent_iff img).0 (not-false (consistent img) r1.0) in
    let one : LinkedFile img first = asked first right (not-false (legal_key first) r2.0) r5.0 r9.0 in
    let two : LinkedFile img second = asked second right (not-false (legal_key second) r3.0) r6.0 r10.0 in
    record {
      right = right;
      one = one;
      two = two;
      other = λ is. true_not_false
          (sym (apart first second (entry_of img (geometry_of img) (entry_no img second))
          (subst (λ (e : ℕ). SameKey (key_in (entry_of img (geometry_of img) e)) first) is one.keyed) two.keyed)
          ∙ r4.0);
    }

-- so their join can be written
pub joinable : {img : List ℕ} {first second : Key} → Accepted img first second
    → Joinable img (geometry_of img) (entry_no img first) (file_of img first) (file_of img second)
unfolding file_of
joinable {img} {first} {second} a =
    let g = geometry_of img in
    let sized : Sized img (geometry_of img) = header_sized img a.right.header in
    record {
      sized = sized;
      entry = a.one.within;
      fits = omega (arith, lengths, sum_of_blocks a.right, sized.most);
      first = first_small (geometry_of img) refl a.right sized (entry_no img first) a.one.within a.one.linked;
      begin = first_small (geometry_of img) refl a.right sized (entry_no img second) a.two.within a.two.linked;
      end = last_small (geometry_of img) refl a.right sized (entry_no img second) a.two.within a.two.linked;
      last = last_body (geometry_of img) refl a.right sized (entry_no img first) a.one.within a.one.linked;
    }
  where
    lengths : (entry_of img (geometry_of img) (entry_no img first)).length + (entry_of img (geometry_of img) (entry_no img second)).length
        ≤ total (λ e. (entry_of img (geometry_of img) e).length) 0 (slots (geometry_of img))
    lengths =
        total_two (λ e. (entry_of img (geometry_of img) e).length) (entry_no img first) (entry_no img second) 0 (slots (geometry_of img)) a.other (omega arith)
        (omega (arith, a.one.within)) (omega arith) (omega (arith, a.two.within))
