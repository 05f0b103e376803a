-- Whether a file may be made: what each answer of that stage comes to, and what its answers say.
use Prim.Native.Nat.{ℕ, ◌≤◌, ◌<◌}
use mathlib.Core.Path.{◌≡◌, refl, sym, ap, ◌∙◌}
use mathlib.Core.Bool.{Bool, true, false, not}
use mathlib.Core.List.{List}
use mathlib.Core.Logic.{◌⊎◌, inl, inr}
use mathlib.Core.Option.{Option, none, some}
use native.Mathlib.Omega.{arith}
use native.Mathlib.Decide.{ℕ_discrete}
use lib.Dec.{eqb, ltb}
use borrow.Author.Tests.{eq-eqb, ne_eqb, eqb-true, lt-ltb, le-ltb, ltb-false, not-false}
use Rattle.answers.specs.Refusals.{first_of, on_success, table_order, in_order}
use Rattle.answers.specs.Missing.{missing, value_in}
use Rattle.answers.proofs.Refusals.{none_given, coded, success_is, refusal_is}
use Rattle.answers.proofs.Missing.{present, absent}
use Rattle.pack.specs.declared.Geometry.{Geometry}
use Rattle.pack.specs.declared.Key.{Key}
use Rattle.pack.specs.Geometry.{geometry_of, slots}
use Rattle.pack.specs.GeometrySized.{Sized}
use Rattle.pack.specs.Consistent.{Consistent}
use Rattle.pack.specs.HeaderTest.{listed}
use Rattle.pack.proofs.HeaderRules.{header_sized}
use Rattle.std.specs.Prelude.{Some, None, is_some}
use Rattle.std.specs.declared.option.Option.{Option as Answered}
use Rattle.consistency.specs.ConsistentTest.{consistent, opened_of}
use Rattle.consistency.proofs.ConsistentTestIff.{consistent_iff, opened_good}
use Rattle.consistency.proofs.ConsistentTestOpened.{consistent_good}
use Rattle.asking.specs.KeysTest.{legal_key, found, find_from}
use Rattle.asking.proofs.AskedStage.{found_at}
use Rattle.creation.specs.CreatingLowest.{lowest_empty, empty_from}
use Rattle.creation.specs.CreatingRows.{creating_rows}
use Rattle.creation.specs.Creating.{LowestEmpty, entry_for}
use Rattle.creation.specs.CreatingStage.{Creating, At, Refused, creating_of}
use Rattle.creation.proofs.CreatingLowest.{empty_lowest, lowest_at}

-- what the test of a search that may find nothing says of what there is
pub missing_tested : (answer : Answered ℕ) {o : Option ℕ} {there : Bool} → value_in answer ≡ o → there ≡ is_some answer → missing o ≡ not there
missing_tested answer found tested = sym (ap missing found) ∙ by answer ∙ sym (ap not tested)
  where
    by : (a : Answered ℕ) → missing (value_in a) ≡ not (is_some a)
    by (Some i) = refl
    by None = refl

module _ (img : List ℕ) (key : Key) (caller protect : ℕ) (wrong : Bool) where
  -- 40, 15, 41, 13, 2, 6 and 12 stand in the order of the table
  pub creating_ordered : in_order table_order 0 (creating_rows img key caller protect wrong) ≡ true
  unfolding creating_rows
  creating_ordered = refl

  pub creating_coded : coded (creating_rows img key caller protect wrong) ≡ true
  unfolding creating_rows
  creating_coded = refl

  -- each answer of the stage, in the order in which the code gives them
  pub creating_40 : consistent img ≡ false → Refused 0o40 ≡ creating_of img key caller protect wrong
  unfolding creating_of creating_rows first_of on_success
  creating_40 h = rw h

  module _ {g : Geometry} (good : opened_of img ≡ Some g) where
    c : consistent img ≡ true
    c = sym (consistent_good img (opened_of img) g refl good)

    pub creating_15 : legal_key key ≡ false → Refused 0o15 ≡ creating_of img key caller protect wrong
    unfolding creating_of creating_rows first_of on_success
    creating_15 h = rw (c, h)

    module _ (l : legal_key key ≡ true) where
      pub creating_41 : (wrong ≡ true) ⊎ ((wrong ≡ false) × (255 < protect)) → Refused 0o41 ≡ creating_of img key caller protect wrong
      unfolding creating_of creating_rows first_of on_success
      creating_41 (inl is) = rw (c, l, is)
      creating_41 (inr over) = rw (c, l, over.0, lt-ltb 255 protect over.1)

      module _ (w : wrong ≡ false) (p : protect ≤ 255) where
        pub creating_13 : listed img key.uic ≡ false → Refused 0o13 ≡ creating_of img key caller protect wrong
        unfolding creating_of creating_rows first_of on_success
        creating_13 h = rw (c, l, w, le-ltb 255 protect p, h)

        module _ (u : listed img key.uic ≡ true) where
          sought : found img key ≡ find_from img g key 0 (slots g)
          sought = found_at img key g _ (opened_good img g good).1 refl

          pub creating_2 : missing (find_from img g key 0 (slots g)) ≡ false → Refused 0o2 ≡ creating_of img key caller protect wrong
          unfolding creating_of creating_rows first_of on_success
          creating_2 there = rw (c, l, w, le-ltb 255 protect p, u, sought, there)

          module _ (nothing : missing (find_from img g key 0 (slots g)) ≡ true) where
            pub creating_6 : (key.uic ≡ caller → ⊥) → Refused 0o6 ≡ creating_of img key caller protect wrong
            unfolding creating_of creating_rows first_of on_success
            creating_6 h = rw (c, l, w, le-ltb 255 protect p, u, sought, nothing, ne_eqb key.uic caller h)

            module _ (o : key.uic ≡ caller) {e : Option ℕ} (empty : e ≡ empty_from img g 0 (slots g)) where
              lowest : lowest_empty img ≡ e
              lowest = lowest_at img g e (opened_good img g good).1 empty

              pub creating_12 : e ≡ none → Refused 0o12 ≡ creating_of img key caller protect wrong
              unfolding creating_of creating_rows first_of on_success
              creating_12 is = rw (c, l, w, le-ltb 255 protect p, u, sought, nothing, eq-eqb key.uic caller o, lowest ∙ is)

              pub creating_at : {i : ℕ} → e ≡ some i → At g i ≡ creating_of img key caller protect wrong
              unfolding creating_of creating_rows first_of on_success
              creating_at {i} is =
                  rw (c, l, w, le-ltb 255 protect p, u, sought, nothing, eq-eqb key.uic caller o, lowest ∙ is)
                  (ap (λ (x : Geometry). At x i) (sym (opened_good img g good).1))

  -- what there is where nothing speaks against the new file
  pub record Creatable : Type 0 where
    pub right : Consistent img
    pub legal : legal_key key ≡ true
    pub argument : wrong ≡ false
    pub small : protect ≤ 255
    pub known : listed img key.uic ≡ true
    pub absent : found img key ≡ none
    pub own : key.uic ≡ caller
    pub entry : LowestEmpty img (entry_for img)
    pub sized : Sized img (geometry_of img)

  pub creatable : first_of (creating_rows img key caller protect wrong) ≡ 0 → Creatable
  unfolding creating_rows
  creatable clear =
      let a = none_given (not (consistent img)) 0o40 _ (λ is. omega arith) clear in
      let b = none_given (not (legal_key key)) 0o15 _ (λ is. omega arith) a.1 in
      let c = none_given wrong 0o41 _ (λ is. omega arith) b.1 in
      let d = none_given (ltb 255 protect) 0o41 _ (λ is. omega arith) c.1 in
      let e = none_given (not (listed img key.uic)) 0o13 _ (λ is. omega arith) d.1 in
      let f = none_given (not (missing (found img key))) 0o2 _ (λ is. omega arith) e.1 in
      let g = none_given (not (eqb key.uic caller)) 0o6 _ (λ is. omega arith) f.1 in
      let h = none_given (missing (lowest_empty img)) 0o12 _ (λ is. omega arith) g.1 in
      let right = (consistent_iff img).0 (not-false _ a.0) in
      record {
        right = right;
        legal = not-false _ b.0;
        argument = c.0;
        small = ltb-false 255 protect d.0;
        known = not-false _ e.0;
        absent = absent (found img key) f.0;
        own = eqb-true key.uic caller (not-false _ g.0);
        entry = (empty_lowest img (entry_for img)).0 (present (lowest_empty img) h.0);
        sized = header_sized img right.header;
      }

  -- what the stage's two answers say
  pub record Allowed (g : Geometry) (e : ℕ) : Type 0 where
    pub clear : first_of (creating_rows img key caller protect wrong) ≡ 0
    pub measures : geometry_of img ≡ g
    pub number : entry_for img ≡ e

  pub record Forbidden (code : ℕ) : Type 0 where
    pub first : first_of (creating_rows img key caller protect wrong) ≡ code
    pub never : code ≡ 0 → ⊥

  module _ (answer : Creating) (is : answer ≡ creating_of img key caller protect wrong) where
    told_clear : first_of (creating_rows img key caller protect wrong) ≡ 0 → answer ≡ At (geometry_of img) (entry_for img)
    unfolding creating_of
    told_clear clear = is ∙ success_is _ _ clear

    told_refused : (first_of (creating_rows img key caller protect wrong) ≡ 0 → ⊥) → answer ≡ Refused (first_of (creating_rows img key caller protect wrong))
    unfolding creating_of
    told_refused never = is ∙ refusal_is _ _ never

    pub allowed : (g : Geometry) (e : ℕ) → answer ≡ At g e → Allowed g e
    allowed g e told = by (ℕ_discrete (first_of (creating_rows img key caller protect wrong)) 0)
      where
        by : Dec (first_of (creating_rows img key caller protect wrong) ≡ 0) → Allowed g e
        by (yes clear) = let same = told_clear clear in record { clear = clear; measures = cc; number = cc }
        by (no never) = let same = told_refused never in let z : ◌≡◌ {A = ℕ} 0 1 = cc in absurd (omega arith)

    pub forbidden : (code : ℕ) → answer ≡ Refused code → Forbidden code
    forbidden code told = by (ℕ_discrete (first_of (creating_rows img key caller protect wrong)) 0)
      where
        by : Dec (first_of (creating_rows img key caller protect wrong) ≡ 0) → Forbidden code
        by (yes clear) = let same = told_clear clear in let z : ◌≡◌ {A = ℕ} 0 1 = cc in absurd (omega arith)
        by (no never) =
            let same = told_refused never in
            let first : first_of (creating_rows img key caller protect wrong) ≡ code = cc in
            record { first = first; never = λ zero. never (first ∙ zero) }
