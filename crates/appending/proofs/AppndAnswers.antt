-- What a decision comes to: the code and the image that APPND answers.
use Prim.Native.Nat.{ℕ, ◌<◌}
use mathlib.Core.Path.{◌≡◌, refl, sym, ap, ◌∙◌}
use mathlib.Core.Bool.{Bool, true, false, cond}
use mathlib.Core.List.{List, []}
use native.Mathlib.Omega.{arith}
use lib.Dec.{eqb}
use lib.ListN.{length}
use borrow.Author.Tests.{eqb-true, eqb-false}
use Rattle.answers.specs.Refusals.{first_of, on_success}
use Rattle.pack.specs.declared.Geometry.{Geometry}
use Rattle.pack.specs.declared.Entry.{Entry}
use Rattle.pack.specs.declared.Key.{Key}
use Rattle.pack.specs.Geometry.{geometry_of, slots}
use Rattle.pack.specs.GeometrySized.{Sized}
use Rattle.asking.specs.Outcome.{Outcome}
use Rattle.asking.specs.Asked.{entry_no, file_of}
use Rattle.pack.specs.EntryWords.{clear_entry}
use Rattle.asking.proofs.Outcome.{settled_refused, settled_success}
use Rattle.pack.proofs.GeometryRoom.{sized_same}
use Rattle.appending.specs.AppndRows.{appnd_rows}
use Rattle.appending.specs.Appnd.{chain_joined, appnd}
use Rattle.appending.specs.AppndStage.{Appending, Join, Refused, appending_of, Joinable}
use Rattle.appending.proofs.AppndAccepted.{Accepted, accepted, joinable}

module _ (img : List ℕ) (first second : Key) (caller : ℕ) where
  -- a refusal changes nothing
  pub appnd_code : {code : ℕ} → first_of (appnd_rows img first second caller) ≡ code → (code ≡ 0 → ⊥)
      → appnd img first second caller ≡ record { code = code; numbers = []; image = img; buffer = [] }
  unfolding appnd
  appnd_code is never = settled_refused (appnd_rows img first second caller) img [] _ is never

  pub appnd_success : first_of (appnd_rows img first second caller) ≡ 0
      → appnd img first second caller ≡ record {
        code = 0;
        numbers = [];
        image =
            clear_entry (chain_joined img (geometry_of img) (entry_no img first) (file_of img first) (file_of img second)) (geometry_of img) (entry_no img second);
        buffer = [];
      }
  unfolding appnd
  appnd_success is = settled_success (appnd_rows img first second caller) img [] _ is

-- what the two decisions say
refused_by : (test : Bool) (found code : ℕ) (g : Geometry) (e : ℕ) (x : Entry) (f : ℕ) (y : Entry) → eqb found 0 ≡ test
    → cond test (Join g e x f y) (Refused found) ≡ Refused code → (found ≡ code) × (code ≡ 0 → ⊥)
refused_by true found code g e x f y t is = let z : ◌≡◌ {A = ℕ} 0 1 = cc in absurd (omega arith)
refused_by false found code g e x f y t is = let same : found ≡ code = cc in (same, λ none. eqb-false found 0 t (same ∙ none))

record Chosen (img : List ℕ) (first second : Key) (caller : ℕ) (g : Geometry) (e : ℕ) (x : Entry) (f : ℕ) (y : Entry) : Type 0 where
  clear : first_of (appnd_rows img first second caller) ≡ 0
  measures : geometry_of img ≡ g
  entry : entry_no img first ≡ e
  file : file_of img first ≡ x
  entry₂ : entry_no img second ≡ f
  file₂ : file_of img second ≡ y

chosen_by : (test : Bool) (img : List ℕ) (first second : Key) (caller : ℕ) (g : Geometry) (e : ℕ) (x : Entry) (f : ℕ) (y : Entry)
    → eqb (first_of (appnd_rows img first second caller)) 0 ≡ test
    → cond test (Join (geometry_of img) (entry_no img first) (file_of img first) (entry_no img second) (file_of img second))
    (Refused (first_of (appnd_rows img first second caller))) ≡ Join g e x f y
    → Chosen img first second caller g e x f y
chosen_by true img first second caller g e x f y t is =
    let clear = eqb-true (first_of (appnd_rows img first second caller)) 0 t in
    record { clear = clear; measures = cc; entry = cc; file = cc; entry₂ = cc; file₂ = cc }
chosen_by false img first second caller g e x f y t is = let z : ◌≡◌ {A = ℕ} 0 1 = cc in absurd (omega arith)

module _ (img : List ℕ) (first second : Key) (caller : ℕ) (decision : Appending) (is : decision ≡ appending_of img first second caller) where
  pub answer_refused : (code : ℕ) → decision ≡ Refused code → (code ≡ (appnd img first second caller).code) × (img ≡ (appnd img first second caller).image)
  unfolding appending_of on_success
  answer_refused code told =
      let why = refused_by (eqb (first_of (appnd_rows img first second caller)) 0) _ code _ _ _ _ _ refl (sym is ∙ told) in
      let whole = appnd_code img first second caller why.0 why.1 in
      (sym (ap (λ (r : Outcome). r.code) whole), sym (ap (λ (r : Outcome). r.image) whole))

  module _ (g : Geometry) (e : ℕ) (x : Entry) (f : ℕ) (y : Entry) (told : decision ≡ Join g e x f y) where
    chosen : Chosen img first second caller g e x f y
    unfolding appending_of on_success
    chosen = chosen_by (eqb (first_of (appnd_rows img first second caller)) 0) img first second caller g e x f y refl (sym is ∙ told)

    taken : Accepted img first second
    taken = accepted img first second caller chosen.clear

    pub answer_joinable : Joinable img g e x y
    answer_joinable = rw (← chosen.measures, ← chosen.entry, ← chosen.file, ← chosen.file₂) (joinable taken)

    pub answer_clear : (img' : List ℕ) → length img' ≡ length img → Sized img' g × (f < slots g)
    answer_clear img' long =
        (sized_same answer_joinable.sized long, rw (← chosen.measures, ← chosen.entry₂) taken.two.within)

    pub answer_joined : (one two : List ℕ) → one ≡ chain_joined img g e x y → two ≡ clear_entry one g f
        → (0 ≡ (appnd img first second caller).code) × (two ≡ (appnd img first second caller).image)
    answer_joined one two a b =
        let whole = appnd_success img first second caller chosen.clear in
        let here : two ≡ clear_entry (chain_joined img (geometry_of img) (entry_no img first) (file_of img first) (file_of img second)) (geometry_of img) (entry_no img second)
        = rw (chosen.measures, chosen.entry, chosen.file, chosen.entry₂, chosen.file₂) (b ∙ ap (λ (s : List ℕ). clear_entry s g f) a) in
        (sym (ap (λ (r : Outcome). r.code) whole), here ∙ sym (ap (λ (r : Outcome). r.image) whole))
