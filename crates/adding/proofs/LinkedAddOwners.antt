-- Whose each block is after linked add: the added block is the file's, behind those it had, and any other block is whose it was.
use Prim.Native.Nat.{ℕ, ◌+◌}
use mathlib.Core.Path.{◌≡◌, refl, sym, ap, subst, ◌∙◌}
use mathlib.Core.Bool.{cond}
use mathlib.Core.List.{List, [], ◌∷◌, ◌++◌}
use mathlib.Core.Option.{some}
use native.Mathlib.Omega.{arith}
use native.Mathlib.Decide.{ℕ_discrete}
use lib.Dec.{eqb}
use lib.ListN.{length, get_or, length-append}
use lib.Seq.{get_or-append-add}
use borrow.Author.Tests.{ne_eqb}
use Rattle.pack.specs.declared.Key.{Key}
use Rattle.pack.specs.declared.Owner.TheVariants.{Held}
use Rattle.pack.specs.Geometry.{geometry_of}
use Rattle.pack.specs.Entry.{entry_of, blocks_at}
use Rattle.pack.specs.Owner.{place_from, owner_of}
use Rattle.asking.specs.Asked.{entry_no, file_of}
use Rattle.owners.proofs.EntryBlocks.{blocks_length}
use Rattle.owners.proofs.OneOwner.{owner_held, held_of}
use Rattle.frame.proofs.FramedStays.{geometry_framed}
use Rattle.frame.proofs.OwnerFramed.{owner_framed}
use Rattle.frame.proofs.GrowthConsistent.{grown_framed}
use Rattle.adding.specs.LinkedAdd.{added_block, linked_add}
use Rattle.adding.proofs.LinkedAddEffect.{linked_add_refused, linked_add_admitted, linked_add_free, linked_add_enlarged, linked_add_blocks, linked_add_consistent}

-- a block behind a list is not another block's place
place_before : (b z p : ℕ) (xs : List ℕ) → (b ≡ z → ⊥) → place_from b p (xs ++ (z ∷ [])) ≡ place_from b p xs
place_before b z p [] other = rw (ne_eqb b z other)
place_before b z p (x ∷ xs) other = ap (cond (eqb b x) (some p)) (place_before b z (p + 1) xs other)

module _ (img : List ℕ) (key : Key) (caller : ℕ) (payload : List ℕ) where
  pub linked_add_owner : (b : ℕ) → (b ≡ added_block img → ⊥) → owner_of (linked_add img key caller payload).image b ≡ owner_of img b
  linked_add_owner b other = by (ℕ_discrete (linked_add img key caller payload).code 0)
    where
      by : Dec ((linked_add img key caller payload).code ≡ 0) → owner_of (linked_add img key caller payload).image b ≡ owner_of img b
      by (yes success) =
          let a = linked_add_admitted img key caller payload success in
          owner_framed refl a.file.right
          (grown_framed refl a.file.right a.file.inside a.linked (linked_add_free img key caller payload success) (linked_add_enlarged img key caller payload success).grown)
          (λ e. ℕ_discrete e (entry_no img key)) b
          (λ e within is.
          subst
          (λ (i : ℕ). place_from b 0 (blocks_at (linked_add img key caller payload).image (geometry_of img) i) ≡ place_from b 0 (blocks_at img (geometry_of img) i))
          (sym is)
          (ap (place_from b 0) (linked_add_blocks img key caller payload success)
          ∙ place_before b (added_block img) 0 (blocks_at img (geometry_of img) (entry_no img key)) other))
      by (no refused) = ap (λ (img' : List ℕ). owner_of img' b) (linked_add_refused img key caller payload refused).same_image

  -- on success, at the place that the old length counts
  pub linked_add_owner_added : (linked_add img key caller payload).code ≡ 0
      → owner_of (linked_add img key caller payload).image (added_block img) ≡ Held (entry_no img key) (record { 0 = (file_of img key).length })
  unfolding file_of
  linked_add_owner_added success =
      let a = linked_add_admitted img key caller payload success in
      let size : length (blocks_at img (geometry_of img) (entry_no img key)) ≡ (entry_of img (geometry_of img) (entry_no img key)).length =
      blocks_length img (geometry_of img) (entry_no img key) in
      let place : (entry_of img (geometry_of img) (entry_no img key)).length ≡ length (blocks_at img (geometry_of img) (entry_no img key)) + 0 = omega (arith, size) in
      (owner_held (linked_add_consistent img key caller payload a.file.right) (added_block img) (entry_no img key) (entry_of img (geometry_of img) (entry_no img key)).length).1
      (held_of (linked_add img key caller payload).image (geometry_of img) (entry_no img key) (entry_of img (geometry_of img) (entry_no img key)).length (added_block img)
      (sym (geometry_framed refl a.file.right
      (grown_framed refl a.file.right a.file.inside a.linked (linked_add_free img key caller payload success) (linked_add_enlarged img key caller payload success).grown)))
      a.file.inside
      (omega
      (arith, size, ap length (linked_add_blocks img key caller payload success), length-append (blocks_at img (geometry_of img) (entry_no img key)) (added_block img ∷ [])))
      (ap (λ (s : List ℕ). get_or s (entry_of img (geometry_of img) (entry_no img key)).length 0) (linked_add_blocks img key caller payload success)
      ∙ ap (λ (n : ℕ). get_or (blocks_at img (geometry_of img) (entry_no img key) ++ (added_block img ∷ [])) n 0) place
      ∙ get_or-append-add (blocks_at img (geometry_of img) (entry_no img key)) (added_block img ∷ []) 0 0))
