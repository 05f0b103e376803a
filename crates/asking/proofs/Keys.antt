-- The laws of keys: found exactly if an entry has the key, and at most one has it.
use Prim.Native.Nat.{ℕ, suc, zero, ◌+◌, ◌*◌, ◌-◌, ◌%◌, ◌≤◌, ◌<◌}
use mathlib.Core.Path.{◌≡◌, refl, sym, ap, subst, ◌∙◌}
use mathlib.Core.Logic.{inl, inr, ◌↔◌}
use mathlib.Core.Bool.{Bool, true, false}
use mathlib.Core.List.{List}
use mathlib.Core.Option.{Option, none, some}
use native.Mathlib.Omega.{arith}
use native.Mathlib.Nat.{mul_comm, mul_assoc}
use native.Mathlib.Decide.{ℕ_discrete, dec_lt}
use Rattle.radix.specs.Names.{LegalName, LegalExtension}
use Rattle.radix.specs.NamesTest.{legal_name}
use Rattle.radix.proofs.Names.{name_iff, extension_iff, name_not_zero}
use Rattle.pack.specs.declared.Geometry.{Geometry}
use Rattle.pack.specs.declared.Key.{Key}
use Rattle.pack.specs.Geometry.{geometry_of, slots}
use Rattle.pack.specs.Entry.{entry_of, Empty, Used, RightEntry}
use Rattle.pack.specs.Consistent.{Consistent}
use Rattle.pack.specs.KeyTest.{same_key}
use Rattle.pack.specs.Key.{key_in, SameKey}
use Rattle.pack.proofs.KeySame.{same_key_iff}
use Rattle.answers.proofs.RefusalsTests.{and_left, and_right, and_both, true_not_false}
use Rattle.asking.specs.KeysTest.{legal_key, find_from, found}

-- a legal key is of a legal name and a legal extension
pub legal_iff : (key : Key) → legal_key key ≡ true ↔ (LegalName key.name1 key.name2 × LegalExtension key.extension)
unfolding legal_key
legal_iff key = (
  λ t. ((name_iff _ _).0 (and_left (legal_name key.name1 key.name2) _ t), (extension_iff _).0 (and_right (legal_name key.name1 key.name2) _ t)),
  λ l. and_both ((name_iff _ _).1 l.0) ((extension_iff _).1 l.1),
)

-- finding, step by step: among the entries that are left
module _ (img : List ℕ) (g : Geometry) (key : Key) (e t : ℕ) (less : e < t) where
  left : t - e ≡ suc (t - (e + 1))
  left = omega arith

  pub find_here : (k : Key) → k ≡ key_in (entry_of img g e) → same_key k key ≡ true → find_from img g key e (t - e) ≡ some e
  unfolding find_from
  find_here k is m = ap (find_from img g key e) left ∙ rw (rw is at m)

  pub find_next : (k : Key) → k ≡ key_in (entry_of img g e) → same_key k key ≡ false → find_from img g key e (t - e) ≡ find_from img g key (e + 1) (t - (e + 1))
  unfolding find_from
  find_next k is m = ap (find_from img g key e) left ∙ rw (rw is at m)

-- two at a turn: a pack has an even number of entries
slots_even : (g : Geometry) → slots g % 2 ≡ 0
slots_even g = omega (arith, mul_comm g.contents (4 * g.segments.0), mul_assoc 4 g.segments.0 g.contents)

pub pair_below : (g : Geometry) {e total : ℕ} → total ≡ slots g → e % 2 ≡ 0 → e < total → e + 1 < slots g
pair_below g is even below = omega (arith, is, even, below, slots_even g)

pub find_both : (img : List ℕ) (g : Geometry) (key : Key) (e t : ℕ) → e + 1 < t → (k k' : Key) → k ≡ key_in (entry_of img g e) → same_key k key ≡ false
    → k' ≡ key_in (entry_of img g (e + 1)) → same_key k' key ≡ false → find_from img g key e (t - e) ≡ find_from img g key (e + 2) (t - (e + 2))
find_both img g key e t less k k' here not-here behind not_behind =
    let two : e + 1 + 1 ≡ e + 2 = omega arith in
    find_next img g key e t (omega (arith, less)) k here not-here
    ∙ find_next img g key (e + 1) t less k' behind not_behind
    ∙ (λ j. find_from img g key (two j) (t - two j))

pub find_end : (img : List ℕ) (g : Geometry) (key : Key) (e t : ℕ) → t ≤ e → find_from img g key e (t - e) ≡ none
unfolding find_from
find_end img g key e t over = let none_left : t - e ≡ 0 = omega arith in ap (find_from img g key e) none_left

-- what was found has the key
pub record KeyFound (img : List ℕ) (g : Geometry) (key : Key) (e k i : ℕ) : Type 0 where
  pub low : e ≤ i
  pub high : i < e + k
  pub keyed : SameKey (key_in (entry_of img g i)) key

pub found_keyed : (img : List ℕ) (g : Geometry) (key : Key) (e k i : ℕ) → find_from img g key e k ≡ some i → KeyFound img g key e k i
unfolding find_from
found_keyed img g key e zero i is = let z : ◌≡◌ {A = ℕ} 0 1 = cc in absurd (omega arith)
found_keyed img g key e (suc k) i is = by (same_key (key_in (entry_of img g e)) key) refl (found_keyed img g key (e + 1) k i)
  where
    by : (b : Bool) → same_key (key_in (entry_of img g e)) key ≡ b → (find_from img g key (e + 1) k ≡ some i → KeyFound img g key (e + 1) k i) → KeyFound img g key e (suc k) i
    by true m later =
        let at : ◌≡◌ {A = Option ℕ} (some e) (some i) = rw m at is in
        let same : e ≡ i = cc in
        record { low = omega arith; high = omega arith; keyed = subst (λ (j : ℕ). SameKey (key_in (entry_of img g j)) key) same ((same_key_iff (key_in (entry_of img g e)) key).0 m) }
    by false m later =
        let f = later (rw m at is) in
        record { low = omega (arith, f.low); high = omega (arith, f.high); keyed = f.keyed }

-- where nothing was found no entry has the key
pub none_keyed : (img : List ℕ) (g : Geometry) (key : Key) (e k : ℕ) → find_from img g key e k ≡ none → (i : ℕ) → e ≤ i → i < e + k → SameKey
    (key_in (entry_of img g i)) key → ⊥
unfolding find_from
none_keyed img g key e zero is i low high m = absurd (omega arith)
none_keyed img g key e (suc k) is i low high m = by (same_key (key_in (entry_of img g e)) key) refl (none_keyed img g key (e + 1) k) (ℕ_discrete e i)
  where
    by : (b : Bool) → same_key (key_in (entry_of img g e)) key ≡ b
        → (find_from img g key (e + 1) k ≡ none → (j : ℕ) → e + 1 ≤ j → j < e + 1 + k → SameKey (key_in (entry_of img g j)) key → ⊥)
        → Dec (e ≡ i) → ⊥
    by true t later d = let at : ◌≡◌ {A = Option ℕ} (some e) none = rw t at is in let z : ◌≡◌ {A = ℕ} 0 1 = cc in omega arith
    by false t later (yes same) = true_not_false (sym ((same_key_iff (key_in (entry_of img g e)) key).1 (subst (λ (j : ℕ). SameKey (key_in (entry_of img g j)) key) (sym same) m)) ∙ t)
    by false t later (no other) = later (rw t at is) i (omega (arith, other)) (omega arith) m

-- an entry of a legal key is in use
pub not_empty : (img : List ℕ) (g : Geometry) (key : Key) (e : ℕ) → legal_key key ≡ true → SameKey (key_in (entry_of img g e)) key → Empty img g e → ⊥
unfolding entry_of
not_empty img g key e legal k empty = name_not_zero _ _ ((legal_iff key).0 legal).0 (sym k.name1 ∙ empty.zero 0 (omega arith))

pub keyed_used : (img : List ℕ) (g : Geometry) (key : Key) (e : ℕ) → legal_key key ≡ true → SameKey (key_in (entry_of img g e)) key → RightEntry img g e → Used img g e (entry_of img g e)
keyed_used img g key e legal keyed (inl empty) = absurd (not_empty img g key e legal keyed empty)
keyed_used img g key e legal keyed (inr used) = used

-- of a legal key at most one entry of a consistent image has it
module _ {img : List ℕ} (right : Consistent img) (key : Key) (legal : legal_key key ≡ true) where
  at_most : (e f : ℕ) → e < f → f < slots (geometry_of img) → SameKey (key_in (entry_of img (geometry_of img) e)) key → SameKey (key_in (entry_of img (geometry_of img) f)) key → ⊥
  at_most e f less inside k l =
      right.differ e f less inside (not_empty img (geometry_of img) key e legal k)
      (record { name1 = k.name1 ∙ sym l.name1; name2 = k.name2 ∙ sym l.name2; extension = k.extension ∙ sym l.extension; uic = k.uic ∙ sym l.uic })

  pub one_entry : (e f : ℕ) → e < slots (geometry_of img) → f < slots (geometry_of img)
      → SameKey (key_in (entry_of img (geometry_of img) e)) key → SameKey (key_in (entry_of img (geometry_of img) f)) key → e ≡ f
  one_entry e f inside within k l = by (dec_lt e f) (dec_lt f e)
    where
      by : Dec (e < f) → Dec (f < e) → e ≡ f
      by (yes less) d = absurd (at_most e f less within k l)
      by (no low) (yes more) = absurd (at_most f e more inside l k)
      by (no low) (no high) = omega arith

  -- found exactly if an entry has the key, and then that entry
  pub found_iff : (e : ℕ) → found img key ≡ some e ↔ ((e < slots (geometry_of img)) × SameKey (key_in (entry_of img (geometry_of img) e)) key)
  unfolding found
  found_iff e = (
    λ is. let f = found_keyed img (geometry_of img) key 0 (slots (geometry_of img)) e is in (omega (arith, f.high), f.keyed),
    λ h. there h (find_from img (geometry_of img) key 0 (slots (geometry_of img))) refl,
  )
    where
      there : (e < slots (geometry_of img)) × SameKey (key_in (entry_of img (geometry_of img) e)) key → (o : Option ℕ) → find_from img (geometry_of img) key 0 (slots (geometry_of img)) ≡ o
          → find_from img (geometry_of img) key 0 (slots (geometry_of img)) ≡ some e
      there h none is = absurd (none_keyed img (geometry_of img) key 0 (slots (geometry_of img)) is e (omega arith) (omega (arith, h.0)) h.1)
      there h (some f) is =
          let k = found_keyed img (geometry_of img) key 0 (slots (geometry_of img)) f is in
          is ∙ ap some (one_entry f e (omega (arith, k.high)) h.0 k.keyed h.1)

  pub absent_iff : found img key ≡ none ↔ ((e : ℕ) → e < slots (geometry_of img) → SameKey (key_in (entry_of img (geometry_of img) e)) key → ⊥)
  unfolding found
  absent_iff = (
    λ is e inside. none_keyed img (geometry_of img) key 0 (slots (geometry_of img)) is e (omega arith) (omega arith),
    λ never. nowhere never (find_from img (geometry_of img) key 0 (slots (geometry_of img))) refl,
  )
    where
      nowhere : ((e : ℕ) → e < slots (geometry_of img) → SameKey (key_in (entry_of img (geometry_of img) e)) key → ⊥) → (o : Option ℕ)
          → find_from img (geometry_of img) key 0 (slots (geometry_of img)) ≡ o
          → find_from img (geometry_of img) key 0 (slots (geometry_of img)) ≡ none
      nowhere never none is = is
      nowhere never (some e) is = let k = found_keyed img (geometry_of img) key 0 (slots (geometry_of img)) e is in absurd (never e (omega (arith, k.high)) k.keyed)
