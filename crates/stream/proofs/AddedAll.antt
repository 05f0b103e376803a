-- Several blocks added to a file: none is refused where so many are free, the file's payloads then end with those added, and all else stays as it was.
use Prim.Native.Nat.{ℕ, ◌+◌, ◌<◌}
use mathlib.Core.Path.{◌≡◌, refl, sym, ap, subst, ◌∙◌}
use mathlib.Core.Bool.{false}
use mathlib.Core.List.{List, [], ◌∷◌, ◌++◌, append_assoc, append-nil, flatten}
use native.Mathlib.Omega.{arith}
use lib.ListN.{length}
use Rattle.answers.specs.Refusals.{first_of}
use Rattle.pack.specs.declared.Geometry.{Geometry}
use Rattle.pack.specs.declared.Key.{Key}
use Rattle.pack.specs.Geometry.{geometry_of, payload_bytes}
use Rattle.pack.specs.File.{count}
use Rattle.pack.specs.Entry.{entry_word, blocks_at}
use Rattle.pack.specs.Consistent.{Consistent}
use Rattle.pack.specs.Owner.{owner_of, free_count}
use Rattle.pack.specs.Untouched.{Untouched}
use Rattle.pack.proofs.FileCount.{count_same, count_more}
use Rattle.asking.specs.Asked.{entry_no}
use Rattle.frame.proofs.UntouchedFramed.{untouched_refl, untouched_compose}
use Rattle.bodies.specs.Payloads.{payloads_of}
use Rattle.adding.specs.LinkedAddRows.{linked_add_rows}
use Rattle.adding.specs.LinkedAdd.{added_block, linked_add}
use Rattle.adding.proofs.LinkedAddEffect.{linked_add_blocks, linked_add_payloads, linked_add_consistent, linked_add_untouched}
use Rattle.adding.proofs.LinkedAddOwners.{linked_add_owner}
use Rattle.adding.proofs.LinkedAddAgain.{again_accepted, again_measures, again_words, again_free, again_number, again_clear}
use Rattle.stream.specs.Gather.{Whole}
use Rattle.stream.specs.Gather.Whole.{none as no_payload, also as one-payload}
use Rattle.stream.specs.AddedAll.{added_all, taken_blocks, EachAdded}
use Rattle.stream.specs.AddedAll.EachAdded.{none, also}

module _ (key : Key) (caller : ℕ) where
  -- as many blocks are free as payloads are to be added
  pub added_accepted : (img : List ℕ) (payloads : List (List ℕ)) → first_of (linked_add_rows img key caller false (length payloads)) ≡ 0
      → Whole (payload_bytes (geometry_of img)) payloads → EachAdded key caller img payloads
  added_accepted img [] passed no_payload = none
  added_accepted img (payload ∷ more) passed (one-payload long whole) =
      let one_fewer : length (payload ∷ more) ≡ length more + 1 = omega arith in
      let success = again_accepted img key caller payload (length (payload ∷ more)) (omega arith) passed long in
      also success
      (added_accepted (linked_add img key caller payload).image more
      (again_clear img key caller payload success (length more) (ap (λ (n : ℕ). first_of (linked_add_rows img key caller false n)) (sym one_fewer) ∙ passed))
      (subst (λ (g : Geometry). Whole (payload_bytes g) more) (sym (again_measures img key caller payload success)) whole))

  -- refused or not
  pub added_append : (img : List ℕ) (s t : List (List ℕ)) → added_all img key caller (s ++ t) ≡ added_all (added_all img key caller s) key caller t
  unfolding added_all
  added_append img [] t = refl
  added_append img (payload ∷ s) t = added_append (linked_add img key caller payload).image s t

  pub added_consistent : (img : List ℕ) (payloads : List (List ℕ)) → Consistent img → Consistent (added_all img key caller payloads)
  unfolding added_all
  added_consistent img [] right = right
  added_consistent img (payload ∷ more) right = added_consistent (linked_add img key caller payload).image more (linked_add_consistent img key caller payload right)

  -- a file that the request does not name
  pub added_untouched : (img : List ℕ) (payloads : List (List ℕ)) → Consistent img → (other : Key) → (other ≡ key → ⊥) → Untouched other img (added_all img key caller payloads)
  unfolding added_all
  added_untouched img [] right other apart = untouched_refl other img
  added_untouched img (payload ∷ more) right other apart =
      untouched_compose (linked_add_untouched img key caller payload other apart)
      (added_untouched (linked_add img key caller payload).image more (linked_add_consistent img key caller payload right) other apart) right

  -- a block that was not taken is whose it was
  pub added_owner : (img : List ℕ) (payloads : List (List ℕ)) (b : ℕ) → count b (taken_blocks img key caller payloads) ≡ 0
      → owner_of (added_all img key caller payloads) b ≡ owner_of img b
  unfolding added_all taken_blocks
  added_owner img [] b never = refl
  added_owner img (payload ∷ more) b never =
      let rest = taken_blocks (linked_add img key caller payload).image key caller more in
      added_owner (linked_add img key caller payload).image more b (omega (arith, never, count_more b (added_block img) rest))
      ∙ linked_add_owner img key caller payload b (λ is. omega (arith, never, count_same b (added_block img) rest is))

  -- none is refused
  pub added_measures : (img : List ℕ) (payloads : List (List ℕ)) → EachAdded key caller img payloads → geometry_of (added_all img key caller payloads) ≡ geometry_of img
  unfolding added_all
  added_measures img [] none = refl
  added_measures img (payload ∷ more) (also success rest) =
      added_measures (linked_add img key caller payload).image more rest ∙ again_measures img key caller payload success

  pub added_number : (img : List ℕ) (payloads : List (List ℕ)) → EachAdded key caller img payloads → entry_no (added_all img key caller payloads) key ≡ entry_no img key
  unfolding added_all
  added_number img [] none = refl
  added_number img (payload ∷ more) (also success rest) =
      added_number (linked_add img key caller payload).image more rest ∙ again_number img key caller payload success

  pub added_free : (img : List ℕ) (payloads : List (List ℕ)) → EachAdded key caller img payloads
      → free_count (added_all img key caller payloads) + length payloads ≡ free_count img
  unfolding added_all
  added_free img [] none = omega arith
  added_free img (payload ∷ more) (also success rest) =
      omega (arith, added_free (linked_add img key caller payload).image more rest, again_free img key caller payload success)

  -- by the measures and the number of the file's entry, which stay
  module _ (g : Geometry) (e : ℕ) where
    -- all words of the entry but "6 first block; 7 length in blocks; 8 last block"
    pub added_words : (img : List ℕ) (payloads : List (List ℕ)) → EachAdded key caller img payloads → geometry_of img ≡ g → entry_no img key ≡ e
        → (i : ℕ) → i < 16 → (i ≡ 6 → ⊥) → (i ≡ 7 → ⊥) → (i ≡ 8 → ⊥) → entry_word (added_all img key caller payloads) g e i ≡ entry_word img g e i
    unfolding added_all
    added_words img [] none measures number i small six seven eight = refl
    added_words img (payload ∷ more) (also success rest) measures number i small six seven eight =
        added_words (linked_add img key caller payload).image more rest (again_measures img key caller payload success ∙ measures)
        (again_number img key caller payload success ∙ number) i small six seven eight
        ∙ rw (← measures, ← number) (again_words img key caller payload success i small six seven eight)

    pub added_blocks : (img : List ℕ) (payloads : List (List ℕ)) → EachAdded key caller img payloads → geometry_of img ≡ g → entry_no img key ≡ e
        → blocks_at (added_all img key caller payloads) g e ≡ blocks_at img g e ++ taken_blocks img key caller payloads
    unfolding added_all taken_blocks
    added_blocks img [] none measures number = sym (append-nil (blocks_at img g e))
    added_blocks img (payload ∷ more) (also success rest) measures number =
        let image = (linked_add img key caller payload).image in
        let one : blocks_at image g e ≡ blocks_at img g e ++ (added_block img ∷ []) = rw (← measures, ← number) (linked_add_blocks img key caller payload success) in
        added_blocks image more rest (again_measures img key caller payload success ∙ measures) (again_number img key caller payload success ∙ number)
        ∙ ap (λ (s : List ℕ). s ++ taken_blocks image key caller more) one
        ∙ append_assoc (blocks_at img g e) (added_block img ∷ []) (taken_blocks image key caller more)

    -- the payloads of the file afterwards: those before, and the payloads joined
    pub added_payloads : (img : List ℕ) (payloads : List (List ℕ)) → EachAdded key caller img payloads → geometry_of img ≡ g → entry_no img key ≡ e
        → payloads_of (added_all img key caller payloads) g (blocks_at (added_all img key caller payloads) g e)
        ≡ payloads_of img g (blocks_at img g e) ++ flatten payloads
    unfolding added_all flatten
    added_payloads img [] none measures number = sym (append-nil (payloads_of img g (blocks_at img g e)))
    added_payloads img (payload ∷ more) (also success rest) measures number =
        let image = (linked_add img key caller payload).image in
        let one : payloads_of image g (blocks_at image g e) ≡ payloads_of img g (blocks_at img g e) ++ payload =
        rw (← measures, ← number) (linked_add_payloads img key caller payload success) in
        added_payloads image more rest (again_measures img key caller payload success ∙ measures) (again_number img key caller payload success ∙ number)
        ∙ ap (λ (s : List ℕ). s ++ flatten more) one
        ∙ append_assoc (payloads_of img g (blocks_at img g e)) payload (flatten more)
