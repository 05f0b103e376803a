-- The lowest empty entry: the step laws of the loop that seeks it, and that it is the lowest.
use Prim.Native.Nat.{ℕ, suc, zero, ◌+◌, ◌-◌, ◌≤◌, ◌<◌}
use mathlib.Core.Path.{◌≡◌, refl, sym, ap, subst, ◌∙◌}
use mathlib.Core.Logic.{◌↔◌, inl, inr}
use mathlib.Core.Bool.{Bool, true, false}
use mathlib.Core.List.{List}
use mathlib.Core.Option.{Option, none, some}
use native.Mathlib.Omega.{arith}
use native.Mathlib.Decide.{ℕ_discrete}
use Rattle.words.specs.Word.{word_at}
use Rattle.radix.proofs.Names.{name_not_zero}
use Rattle.pack.specs.declared.Geometry.{Geometry}
use Rattle.pack.specs.Geometry.{geometry_of, slots, entry_at}
use Rattle.pack.specs.Entry.{entry_word, entry_of, Empty, RightEntry}
use Rattle.answers.proofs.RefusalsTests.{true_not_false}
use Rattle.pack.proofs.HeaderTestWords.{zeros_at, zeros_all}
use Rattle.owners.proofs.OwnerPlaces.{neither_below}
use Rattle.creation.specs.CreatingLowest.{is_empty, empty_from, lowest_empty}
use Rattle.creation.specs.Creating.{LowestEmpty}

module _ (img : List ℕ) (g : Geometry) where
  -- "An empty entry is all zero."
  pub empty_iff : (e : ℕ) → is_empty img g e ≡ true ↔ Empty img g e
  unfolding entry_word
  empty_iff e = (
    λ t. record { zero = λ i small. zeros_at img (entry_at g e) 16 (entry_at g e + i) t (omega arith) (omega arith) },
    λ empty. zeros_all img (entry_at g e) 16 (λ w low high.
        let place : entry_at g e + (w - entry_at g e) ≡ w = omega arith in
        sym (ap (word_at img) place) ∙ empty.zero (w - entry_at g e) (omega arith)),
  )

  -- the first word decides, where the entry is right
  pub first_empty : (e : ℕ) → RightEntry img g e → entry_word img g e 0 ≡ 0 → is_empty img g e ≡ true
  unfolding entry_of
  first_empty e (inl empty) is = (empty_iff e).1 empty
  first_empty e (inr used) is = absurd (name_not_zero _ _ used.name is)

  pub first_used : (e : ℕ) → (entry_word img g e 0 ≡ 0 → ⊥) → is_empty img g e ≡ false
  first_used e never = by (is_empty img g e) refl
    where
      by : (t : Bool) → is_empty img g e ≡ t → is_empty img g e ≡ false
      by true is = absurd (never (((empty_iff e).0 is).zero 0 (omega arith)))
      by false is = is

  -- step by step: among the entries that are left
  module _ (e t word : ℕ) (less : e < t) (is : word ≡ entry_word img g e 0) where
    left : t - e ≡ suc (t - (e + 1))
    left = omega arith

    pub empty_here : RightEntry img g e → word ≡ 0 → empty_from img g e (t - e) ≡ some e
    unfolding empty_from
    empty_here right zero_word = ap (empty_from img g e) left ∙ rw (first_empty e right (sym is ∙ zero_word))

    pub empty_next : (word ≡ 0 → ⊥) → empty_from img g e (t - e) ≡ empty_from img g (e + 1) (t - (e + 1))
    unfolding empty_from
    empty_next never = ap (empty_from img g e) left ∙ rw (first_used e (λ zero_word. never (is ∙ zero_word)))

  -- two entries on
  pub pair_next : (e t : ℕ) → empty_from img g (e + 1 + 1) (t - (e + 1 + 1)) ≡ empty_from img g (e + 2) (t - (e + 2))
  pair_next e t = let two : e + 1 + 1 ≡ e + 2 = omega arith in (λ j. empty_from img g (two j) (t - two j))

  pub empty_both : (e t word word' : ℕ) → e + 1 < t → word ≡ entry_word img g e 0 → (word ≡ 0 → ⊥) → word' ≡ entry_word img g (e + 1) 0 → (word' ≡ 0 → ⊥)
      → empty_from img g e (t - e) ≡ empty_from img g (e + 2) (t - (e + 2))
  empty_both e t word word' less is never is' never' =
      empty_next e t word (omega (arith, less)) is never ∙ empty_next (e + 1) t word' less is' never' ∙ pair_next e t

  pub empty_end : (e t : ℕ) → t ≤ e → empty_from img g e (t - e) ≡ none
  unfolding empty_from
  empty_end e t over = let none_left : t - e ≡ 0 = omega arith in ap (empty_from img g e) none_left

  -- what was found is empty, and none before it is
  record FirstEmpty (e k i : ℕ) : Type 0 where
    low : e ≤ i
    high : i < e + k
    empty : Empty img g i
    first : (f : ℕ) → e ≤ f → f < i → Empty img g f → ⊥

  found_empty : (e k i : ℕ) → empty_from img g e k ≡ some i → FirstEmpty e k i
  unfolding empty_from
  found_empty e zero i is = let z : ◌≡◌ {A = ℕ} 0 1 = cc in absurd (omega arith)
  found_empty e (suc k) i is = by (is_empty img g e) refl (found_empty (e + 1) k i)
    where
      by : (t : Bool) → is_empty img g e ≡ t → (empty_from img g (e + 1) k ≡ some i → FirstEmpty (e + 1) k i) → FirstEmpty e (suc k) i
      by true t later =
          let at : ◌≡◌ {A = Option ℕ} (some e) (some i) = rw t at is in
          let same : e ≡ i = cc in
          record { low = omega arith; high = omega arith; empty = subst (Empty img g) same ((empty_iff e).0 t); first = λ f low high. absurd (omega arith) }
      by false t later =
          let l = later (rw t at is) in
          record {
            low = omega (arith, l.low);
            high = omega (arith, l.high);
            empty = l.empty;
            first = λ f low high empty. elim (ℕ_discrete e f) [
              | yes same ↦ true_not_false (sym ((empty_iff e).1 (subst (Empty img g) (sym same) empty)) ∙ t)
              | no other ↦ l.first f (omega (arith, other)) high empty
            ];
          }

  found_none : (e k : ℕ) → empty_from img g e k ≡ none → (f : ℕ) → e ≤ f → f < e + k → Empty img g f → ⊥
  unfolding empty_from
  found_none e zero is f low high empty = absurd (omega arith)
  found_none e (suc k) is f low high empty = by (is_empty img g e) refl (ℕ_discrete e f) (found_none (e + 1) k)
    where
      by : (t : Bool) → is_empty img g e ≡ t → Dec (e ≡ f)
          → (empty_from img g (e + 1) k ≡ none → (i : ℕ) → e + 1 ≤ i → i < e + 1 + k → Empty img g i → ⊥) → ⊥
      by true t d later = let at : ◌≡◌ {A = Option ℕ} (some e) none = rw t at is in let z : ◌≡◌ {A = ℕ} 0 1 = cc in omega arith
      by false t (yes same) later = true_not_false (sym ((empty_iff e).1 (subst (Empty img g) (sym same) empty)) ∙ t)
      by false t (no other) later = later (rw t at is) f (omega (arith, other)) (omega arith) empty

module _ (img : List ℕ) where
  lowest_to : (e : ℕ) → lowest_empty img ≡ some e → LowestEmpty img e
  unfolding lowest_empty
  lowest_to e is =
      let found = found_empty img (geometry_of img) 0 (slots (geometry_of img)) e is in
      record { inside = omega (arith, found.high); empty = found.empty; lowest = λ f less. found.first f (omega arith) less }

  nowhere_to : lowest_empty img ≡ none → (f : ℕ) → f < slots (geometry_of img) → Empty img (geometry_of img) f → ⊥
  unfolding lowest_empty
  nowhere_to is f inside = found_none img (geometry_of img) 0 (slots (geometry_of img)) is f (omega arith) (omega arith)

  pub empty_lowest : (e : ℕ) → lowest_empty img ≡ some e ↔ LowestEmpty img e
  empty_lowest e = (lowest_to e, λ lowest. by lowest (lowest_empty img) refl)
    where
      by : LowestEmpty img e → (o : Option ℕ) → lowest_empty img ≡ o → lowest_empty img ≡ some e
      by lowest none is = absurd (nowhere_to is e lowest.inside lowest.empty)
      by lowest (some f) is =
          let other = lowest_to f is in
          is ∙ ap some (neither_below f e (λ more. lowest.lowest f more other.empty) (λ less. other.lowest e less lowest.empty))

  pub empty_none : lowest_empty img ≡ none ↔ ((e : ℕ) → e < slots (geometry_of img) → Empty img (geometry_of img) e → ⊥)
  empty_none = (nowhere_to, λ never. by never (lowest_empty img) refl)
    where
      by : ((e : ℕ) → e < slots (geometry_of img) → Empty img (geometry_of img) e → ⊥) → (o : Option ℕ) → lowest_empty img ≡ o → lowest_empty img ≡ none
      by never none is = is
      by never (some e) is = let lowest = lowest_to e is in absurd (never e lowest.inside lowest.empty)

-- the same at the measures that the code read
pub lowest_at : (img : List ℕ) (g : Geometry) (o : Option ℕ) → geometry_of img ≡ g → o ≡ empty_from img g 0 (slots g) → lowest_empty img ≡ o
unfolding lowest_empty
lowest_at img g o measures is = sym (subst (λ (h : Geometry). o ≡ empty_from img h 0 (slots h)) (sym measures) is)
