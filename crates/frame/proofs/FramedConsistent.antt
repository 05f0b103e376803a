-- An image in which one entry or two have changed is consistent: what has to be shown of those entries.
use Prim.Native.Nat.{ℕ, ◌+◌, ◌≤◌, ◌<◌}
use mathlib.Core.Path.{◌≡◌, sym, ap, subst, ◌∙◌}
use mathlib.Core.List.{List}
use mathlib.Core.Logic.{◌⊎◌, inl, inr}
use native.Mathlib.Omega.{arith}
use native.Mathlib.Decide.{ℕ_discrete}
use Rattle.pack.specs.declared.Geometry.{Geometry}
use Rattle.pack.specs.declared.Key.{Key}
use Rattle.pack.specs.Geometry.{geometry_of, slots}
use Rattle.pack.specs.Header.{RightHeader}
use Rattle.pack.specs.File.{count}
use Rattle.pack.specs.Entry.{entry_of, blocks_at, Empty, RightEntry}
use Rattle.pack.specs.Key.{key_in, SameKey}
use Rattle.pack.specs.Consistent.{held, Consistent}
use Rattle.pack.specs.MapSays.{MapSays, marking}
use Rattle.pack.proofs.FileCount.{count_nil}
use Rattle.pack.proofs.EntryRead.{empty_blocks}
use Rattle.frame.specs.Framed.{Only}
use Rattle.frame.specs.Framing.{Either, Framed, Distinct}
use Rattle.frame.specs.Framing.Distinct.{emptied, known, new}
use Rattle.pack.proofs.KeySame.{same_back, same_through}
use Rattle.frame.proofs.FramedCompose.{neither, either_decided}
use Rattle.frame.proofs.FramedStays.{header_framed, entry_framed, empty_framed, right_framed, consistent_framed}
use Rattle.frame.proofs.ConsistentAlike.{empty_uic, used_uic, alike_used, unlike}
use Rattle.frame.proofs.FramedHeld.{once_one, once_two, map_one, map_two}

-- where no other entry in use is like a named one, the rule of two entries holds whichever of them stands first
differ_named : (Named : ℕ → Type 0) (img : List ℕ) (g : Geometry) → RightHeader img → ((e : ℕ) → e < slots g → Named e → RightEntry img g e)
    → ((x : ℕ) → x < slots g → Named x → (e : ℕ) → e < slots g → (e ≡ x → ⊥) → (Empty img g e → ⊥) → SameKey (key_in (entry_of img g e))
    (key_in (entry_of img g x)) → ⊥)
    → (e f : ℕ) → e < f → f < slots g → Named e ⊎ Named f → (Empty img g e → ⊥) → SameKey (key_in (entry_of img g e)) (key_in (entry_of img g f)) → ⊥
differ_named Named img g header right other-than e f less within (inl is) used alike =
    other-than e (omega arith) is f within (λ same. omega (arith, same))
    (alike_used img g e f header (right e (omega arith) is) used alike) (same_back alike)
differ_named Named img g header right other-than e f less within (inr is) used alike =
    other-than f within is e (omega arith) (λ same. omega (arith, same)) used alike

-- one entry
module _
    {Written : ℕ → Type 0}
    {img img' : List ℕ}
    {g : Geometry}
    {x : ℕ}
    (stated : g ≡ geometry_of img)
    (consistent : Consistent img)
    (framed : Framed (Only x) Written img img' g)
    (within : x < slots g)
    (right : RightEntry img' g x)
    (distinct : Distinct img img' g x) where
  before : (e : ℕ) → e < slots g → (e ≡ x → ⊥) → {key : Key} → SameKey (key_in (entry_of img' g e)) key → SameKey (key_in (entry_of img g e)) key
  before e inside other {key} alike = subst (λ z. SameKey (key_in z) key) (entry_framed stated consistent framed e inside other) alike

  used_before : (e : ℕ) → e < slots g → (e ≡ x → ⊥) → (Empty img' g e → ⊥) → Empty img g e → ⊥
  used_before e inside other used empty = used ((empty_framed stated consistent framed e inside other).0 empty)

  unlike_x : Distinct img img' g x → (e : ℕ) → e < slots g → (e ≡ x → ⊥) → (Empty img' g e → ⊥) → SameKey (key_in (entry_of img' g e)) (key_in (entry_of img' g x)) → ⊥
  unlike_x (emptied empty) e inside other used alike =
      used_uic img' g e (header_framed stated consistent framed) (right_framed stated consistent framed e inside other) used (alike.uic ∙ empty_uic img' g x empty)
  unlike_x (known same) e inside other used alike =
      unlike img g stated consistent e x inside within other (used_before e inside other used) (before e inside other (same_through alike same))
  unlike_x (new apart) e inside other used alike = apart e inside other (used_before e inside other used) (before e inside other alike)

  right_x : (e : ℕ) → e < slots g → Only x e → RightEntry img' g e
  right_x e inside is = subst (RightEntry img' g) (sym is) right

  unlike_named : (z : ℕ) → z < slots g → Only x z → (e : ℕ) → e < slots g → (e ≡ z → ⊥) → (Empty img' g e → ⊥)
      → SameKey (key_in (entry_of img' g e)) (key_in (entry_of img' g z)) → ⊥
  unlike_named z inside is e inside₂ other used alike =
      unlike_x distinct e inside₂ (λ same. other (same ∙ sym is)) used (subst (λ i. SameKey (key_in (entry_of img' g e)) (key_in (entry_of img' g i))) is alike)

  -- each block of the entry is counted once, and was its own or nobody's
  pub consistent_one : ((b : ℕ) → count b (blocks_at img' g x) ≤ 1) → ((b : ℕ) → 0 < count b (blocks_at img' g x) → (0 < count b (blocks_at img g x)) ⊎ (held img b ≡ 0))
      → {bit : ℕ → ℕ} → MapSays img' g bit → ((b : ℕ) → bit b + count b (blocks_at img g x) ≡ marking img g b + count b (blocks_at img' g x)) → Consistent img'
  consistent_one single own says moved =
      consistent_framed stated consistent framed (λ e. ℕ_discrete e x) right_x
      (differ_named (Only x) img' g (header_framed stated consistent framed) right_x unlike_named)
      (once_one stated consistent framed within single own) (map_one stated consistent framed within says moved)

-- two entries, of which one keeps its name, extension and UIC and the other is emptied
module _
    {Written : ℕ → Type 0}
    {img img' : List ℕ}
    {g : Geometry}
    {x y : ℕ}
    (stated : g ≡ geometry_of img)
    (consistent : Consistent img)
    (framed : Framed (Either x y) Written img img' g)
    (within : x < slots g)
    (within₂ : y < slots g)
    (other-two : x ≡ y → ⊥)
    (right : RightEntry img' g x)
    (same : SameKey (key_in (entry_of img' g x)) (key_in (entry_of img g x)))
    (empty : Empty img' g y) where
  right_two : (e : ℕ) → e < slots g → Either x y e → RightEntry img' g e
  right_two e inside (inl is) = subst (RightEntry img' g) (sym is) right
  right_two e inside (inr is) = subst (RightEntry img' g) (sym is) (inl empty)

  each_right : (e : ℕ) → e < slots g → Dec (Either x y e) → RightEntry img' g e
  each_right e inside (yes is) = right_two e inside is
  each_right e inside (no not) = right_framed stated consistent framed e inside not

  unlike_first : (e : ℕ) → e < slots g → (e ≡ x → ⊥) → (Empty img' g e → ⊥) → SameKey (key_in (entry_of img' g e)) (key_in (entry_of img' g x)) → Dec (e ≡ y) → ⊥
  unlike_first e inside other used alike (yes is) = used (subst (Empty img' g) (sym is) empty)
  unlike_first e inside other used alike (no not) =
      unlike img g stated consistent e x inside within other (λ none. used ((empty_framed stated consistent framed e inside (neither other not)).0 none))
      (subst (λ z. SameKey (key_in z) (key_in (entry_of img g x))) (entry_framed stated consistent framed e inside (neither other not)) (same_through alike same))

  unlike_two : (z : ℕ) → z < slots g → Either x y z → (e : ℕ) → e < slots g → (e ≡ z → ⊥) → (Empty img' g e → ⊥)
      → SameKey (key_in (entry_of img' g e)) (key_in (entry_of img' g z)) → ⊥
  unlike_two z inside (inl is) e inside₂ other used alike =
      unlike_first e inside₂ (λ same_number. other (same_number ∙ sym is)) used (subst (λ i. SameKey (key_in (entry_of img' g e)) (key_in (entry_of img' g i))) is alike) (ℕ_discrete e y)
  unlike_two z inside (inr is) e inside₂ other used alike =
      used_uic img' g e (header_framed stated consistent framed) (each_right e inside₂ (either_decided x y e)) used
      (alike.uic ∙ empty_uic img' g z (subst (Empty img' g) (sym is) empty))

  -- the first holds no block more often than the two did
  pub consistent_two : ((b : ℕ) → count b (blocks_at img' g x) ≤ count b (blocks_at img g x) + count b (blocks_at img g y))
      → {bit : ℕ → ℕ} → MapSays img' g bit
      → ((b : ℕ) → bit b + (count b (blocks_at img g x) + count b (blocks_at img g y)) ≡ marking img g b + (count b (blocks_at img' g x) + count b (blocks_at img' g y)))
      → Consistent img'
  consistent_two no_more says moved =
      consistent_framed stated consistent framed (either_decided x y) right_two
      (differ_named (Either x y) img' g (header_framed stated consistent framed) right_two unlike_two)
      (once_two stated consistent framed within within₂ other-two
      (λ b. omega (arith, no_more b, ap (count b) (empty_blocks img' g y empty), count_nil b)))
      (map_two stated consistent framed within within₂ other-two says moved)
