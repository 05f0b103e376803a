-- What a DELET leaves: a consistent image, all other files, no entry of the deleted one, and its blocks free.
use Prim.Native.Nat.{ℕ, ◌*◌, ◌≤◌, ◌<◌}
use mathlib.Core.Path.{◌≡◌, refl, sym, ap, subst, ◌∙◌}
use mathlib.Core.Logic.{◌⊎◌, inl, inr}
use mathlib.Core.List.{List, []}
use mathlib.Core.Option.{none}
use native.Mathlib.Omega.{arith}
use native.Mathlib.Decide.{ℕ_discrete}
use lib.ListN.{get_or}
use Rattle.pack.specs.declared.Entry.{Entry}
use Rattle.pack.specs.declared.Geometry.{Geometry}
use Rattle.pack.specs.declared.Key.{Key}
use Rattle.pack.specs.declared.Owner.TheVariants.{Free}
use Rattle.pack.specs.Geometry.{geometry_of, block_bytes, slots}
use Rattle.pack.specs.File.{count}
use Rattle.pack.specs.Entry.{blocks_at, Empty, entry_of}
use Rattle.pack.specs.Map.{HasMap, map_bit}
use Rattle.pack.specs.Consistent.{held, Consistent}
use Rattle.pack.specs.Owner.{place_from, owner_of}
use Rattle.pack.specs.Untouched.{Untouched}
use Rattle.pack.specs.Key.{key_in, SameKey}
use Rattle.pack.proofs.KeySame.{key_single}
use Rattle.asking.specs.Asked.{entry_no}
use Rattle.frame.specs.Framed.{ChangesOnly, InEntry, Only, OnMap, MapWord}
use Rattle.frame.specs.Framing.{Framed}
use Rattle.frame.proofs.UntouchedFramed.{untouched_refl, untouched_framed}
use Rattle.frame.proofs.OwnerFramed.{owner_framed}
use Rattle.frame.proofs.ChangesWritten.{changes_nothing}
use Rattle.owners.proofs.OwnerPlaces.{place_none}
use Rattle.owners.proofs.OneOwner.{owner_free}
use Rattle.directory.specs.DeletRows.{delet_rows}
use Rattle.directory.specs.Delet.{deleted, delet}
use Rattle.asking.proofs.AskedCleared.{Cleared}
use Rattle.asking.proofs.Outcome.{code_is, success_image, refusal_keeps, image_by}
use Rattle.asking.specs.Outcome.{Unchanged}
use Rattle.asking.specs.KeysTest.{found}
use Rattle.asking.proofs.Keys.{absent_iff, one_entry, not_empty}
use Rattle.directory.proofs.Deleted.{deleted_changes, deleted_bodies, deleted_framed, deleted_stated, deleted_empty, deleted_none, deleted_entry, deleted_held, deleted_bytes}
use Rattle.directory.proofs.Deleted.{deleted_bit, other_bit, deleted_consistent}
use Rattle.directory.proofs.DeletStage.{delet_cleared}

-- the image with the file gone
module _ {img : List ℕ} {key : Key} {g : Geometry} {e : ℕ} (c : Cleared img key g e) where
  gone_empty : Empty (deleted img g e) g e
  gone_empty = deleted_empty c.measures c.right e c.inside

  gone_framed : Framed (Only e) (OnMap g) img (deleted img g e) g
  gone_framed = deleted_framed c.measures c.right e c.inside

  gone_measures : g ≡ geometry_of (deleted img g e)
  gone_measures = deleted_stated c.measures c.right e c.inside

  gone_consistent : Consistent (deleted img g e)
  gone_consistent = deleted_consistent c.measures c.right e c.inside

  gone_untouched : (key' : Key) → (key' ≡ key → ⊥) → Untouched key' img (deleted img g e)
  gone_untouched key' other =
      untouched_framed c.measures c.right gone_framed key'
      (λ f within is used keyed. other (key_single c.keyed (subst (λ (i : ℕ). SameKey (key_in (entry_of img g i)) key') is keyed)))

  gone_owner : (b : ℕ) → count b (blocks_at img g e) ≡ 0 → owner_of (deleted img g e) b ≡ owner_of img b
  gone_owner b other =
      owner_framed c.measures c.right gone_framed (λ i. ℕ_discrete i e) b
      (λ i within is. subst (λ (j : ℕ). place_from b 0 (blocks_at (deleted img g e) g j) ≡ place_from b 0 (blocks_at img g j)) (sym is)
      ((place_none b 0 _).1 (deleted_none c.measures c.right e c.inside b) ∙ sym ((place_none b 0 _).1 other)))

  gone_free : (b : ℕ) → 0 < count b (blocks_at img g e) → owner_of (deleted img g e) b ≡ Free
  gone_free b some =
      let body = deleted_bodies c.measures c.right e c.inside b some in
      let bodies = ap (λ (h : Geometry). h.bodies.0) gone_measures in
      let unheld : held (deleted img g e) b ≡ 0 = omega (arith, some, c.right.once b, deleted_held c.measures c.right e c.inside b) in
      (owner_free gone_consistent b).1 (omega (arith, body.0, bodies), unheld)

  -- no entry has the key any more
  gone_absent : found (deleted img g e) key ≡ none
  gone_absent =
      (absent_iff gone_consistent key c.legal).1
      (subst (λ (h : Geometry). (i : ℕ) → i < slots h → SameKey (key_in (entry_of (deleted img g e) h i)) key → ⊥)
      gone_measures nowhere)
    where
      nowhere : (i : ℕ) → i < slots g → SameKey (key_in (entry_of (deleted img g e) g i)) key → ⊥
      nowhere i within keyed = by (ℕ_discrete i e)
        where
          by : Dec (i ≡ e) → ⊥
          by (yes is) =
              not_empty (deleted img g e) g key e c.legal (subst (λ (j : ℕ). SameKey (key_in (entry_of (deleted img g e) g j)) key) is keyed) gone_empty
          by (no other) =
              let same = deleted_entry c.measures c.right e c.inside i within other in
              let before : SameKey (key_in (entry_of img g i)) key = subst (λ (x : Entry). SameKey (key_in x) key) same keyed in
              other
              (subst (λ (h : Geometry). i < slots h → SameKey (key_in (entry_of img h i)) key → e < slots h → SameKey (key_in (entry_of img h e)) key → i ≡ e) (sym c.measures)
              (λ one here two there. one_entry c.right key c.legal i e one two here there) within before c.inside c.keyed)

module _ (img : List ℕ) (key : Key) (caller : ℕ) where
  pub delet_refused : ((delet img key caller).code ≡ 0 → ⊥) → Unchanged (delet img key caller) [] img []
  unfolding delet
  delet_refused never = refusal_keeps (delet_rows img key caller) img [] _ never

  -- "clears the entry, bodies untouched", and the bits of its blocks are made 0: no other word changes, and no byte of a body
  pub delet_changes : ChangesOnly
      (λ w. InEntry (geometry_of img) (entry_no img key) w
      ⊎ ((z : ℕ) × ((0 < count z (blocks_at img (geometry_of img) (entry_no img key))) × MapWord (geometry_of img) z w)))
      img (delet img key caller).image
  unfolding delet
  delet_changes =
      image_by (delet_rows img key caller) img [] _ (ChangesOnly _ img) changes_nothing
      (λ passed. deleted_changes img (geometry_of img) (entry_no img key) (λ w at. inl at) (λ z w some on. inr (z, (some, on))))

  pub delet_bodies : (k : ℕ) → (geometry_of img).bodies.0 * block_bytes (geometry_of img) ≤ k → get_or (delet img key caller).image k 0 ≡ get_or img k 0
  unfolding delet
  delet_bodies k body =
      image_by (delet_rows img key caller) img [] _ (λ img'. get_or img' k 0 ≡ get_or img k 0) refl
      (λ passed. let c = delet_cleared img key caller passed in deleted_bytes c.measures c.right (entry_no img key) c.inside k body)

  -- document 02 §7: the bit of each block that the file held is 0 afterwards, and that of every other block as it was
  pub delet_bits : (delet img key caller).code ≡ 0 → HasMap (geometry_of img) → (b : ℕ)
      → (0 < count b (blocks_at img (geometry_of img) (entry_no img key)) → map_bit (delet img key caller).image (geometry_of img) b ≡ 0)
      × (count b (blocks_at img (geometry_of img) (entry_no img key)) ≡ 0 → map_bit (delet img key caller).image (geometry_of img) b ≡ map_bit img (geometry_of img) b)
  unfolding delet
  delet_bits success there b =
      let passed = sym (code_is (delet_rows img key caller) img [] _) ∙ success in
      let c = delet_cleared img key caller passed in
      rw (success_image (delet_rows img key caller) img [] _ passed) (
        λ some. deleted_bit c.measures c.right (entry_no img key) c.inside there b some,
        λ none. other_bit c.measures c.right (entry_no img key) c.inside b none,
      )

  module _ (right : Consistent img) where
    pub delet_consistent : Consistent (delet img key caller).image
    unfolding delet
    delet_consistent = image_by (delet_rows img key caller) img [] _ Consistent right (λ passed. gone_consistent (delet_cleared img key caller passed))

    -- every file that the request does not name
    pub delet_untouched : (key' : Key) → (key' ≡ key → ⊥) → Untouched key' img (delet img key caller).image
    unfolding delet
    delet_untouched key' other =
        image_by (delet_rows img key caller) img [] _ (Untouched key' img) (untouched_refl key' img)
        (λ passed. gone_untouched (delet_cleared img key caller passed) key' other)

    -- a block that is not the file's keeps its owner
    pub delet_owner : (b : ℕ) → count b (blocks_at img (geometry_of img) (entry_no img key)) ≡ 0 → owner_of (delet img key caller).image b ≡ owner_of img b
    unfolding delet
    delet_owner b other =
        image_by (delet_rows img key caller) img [] _ (λ img'. owner_of img' b ≡ owner_of img b) refl
        (λ passed. gone_owner (delet_cleared img key caller passed) b other)

    -- "clears the entry, bodies untouched": it is empty and no entry has the key, and the blocks of the file are free afterwards
    pub delet_clears : (delet img key caller).code ≡ 0
        → Empty (delet img key caller).image (geometry_of img) (entry_no img key) × (found (delet img key caller).image key ≡ none)
    unfolding delet
    delet_clears success =
        let passed = sym (code_is (delet_rows img key caller) img [] _) ∙ success in
        let c = delet_cleared img key caller passed in
        rw (success_image (delet_rows img key caller) img [] _ passed) (gone_empty c, gone_absent c)

    pub delet_frees : (delet img key caller).code ≡ 0 → (b : ℕ) → 0 < count b (blocks_at img (geometry_of img) (entry_no img key))
        → owner_of (delet img key caller).image b ≡ Free
    unfolding delet
    delet_frees success b some =
        let passed = sym (code_is (delet_rows img key caller) img [] _) ∙ success in
        ap (λ (img' : List ℕ). owner_of img' b) (success_image (delet_rows img key caller) img [] _ passed)
        ∙ gone_free (delet_cleared img key caller passed) b some
