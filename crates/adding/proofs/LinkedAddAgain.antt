-- A block added where several are needed: one block fewer is free, the file is found as before with all but its chain, and so nothing speaks against the next.
use Prim.Native.Nat.{ℕ, ◌+◌, ◌<◌}
use mathlib.Core.Path.{◌≡◌, refl, sym, ap, subst, ◌∙◌}
use mathlib.Core.Bool.{false, not, ◌||◌}
use mathlib.Core.List.{List}
use mathlib.Core.Option.{some}
use native.Mathlib.Omega.{arith}
use lib.Dec.{eqb}
use lib.ListN.{length}
use borrow.Author.Tests.{eq-eqb}
use Rattle.answers.specs.Refusals.{first_of}
use Rattle.pack.specs.declared.Geometry.{Geometry}
use Rattle.pack.specs.declared.Entry.{Entry}
use Rattle.pack.specs.declared.Key.{Key}
use Rattle.pack.specs.Geometry.{geometry_of, payload_bytes, slots}
use Rattle.pack.specs.Entry.{entry_word, entry_of}
use Rattle.pack.specs.Key.{key_in, SameKey}
use Rattle.pack.specs.Consistent.{total, Consistent}
use Rattle.pack.specs.Owner.{free_count}
use Rattle.pack.proofs.ConsistentTotal.{total_swap}
use Rattle.consistency.proofs.ConsistentTestIff.{consistent_iff}
use Rattle.owners.proofs.OwnerSum.{sum_of_blocks}
use Rattle.asking.specs.declared.Right.TheVariants.{Write}
use Rattle.asking.specs.KeysTest.{found}
use Rattle.asking.specs.RightsTest.{may}
use Rattle.asking.specs.Asked.{entry_no, file_of}
use Rattle.asking.proofs.Keys.{found_iff}
use Rattle.asking.proofs.AccessRows.{Accessed}
use Rattle.asking.proofs.AskedStage.{number_found, asked_file, asked_is_file, asked_entry}
use Rattle.frame.specs.Framed.{Only}
use Rattle.frame.specs.Framing.{Framed}
use Rattle.frame.proofs.FramedStays.{geometry_framed, entry_framed}
use Rattle.frame.proofs.GrowthConsistent.{grown_framed}
use Rattle.bodies.specs.BufferSizes.{wrong_payload}
use Rattle.adding.specs.LinkedAddRows.{open_for_adding, linked_add_rows}
use Rattle.adding.specs.LinkedAdd.{added_block, linked_add}
use Rattle.adding.proofs.LinkedAddStage.{Admitted, linked_add_clear, clear_add}
use Rattle.adding.proofs.LinkedAddEnlarged.{Touched}
use Rattle.adding.proofs.LinkedAddEffect.{linked_add_code, linked_add_admitted, linked_add_free, linked_add_enlarged, linked_add_consistent}

-- what access looks at
same_access : (x y : Entry) (caller : ℕ) → y.uic ≡ x.uic → y.protect ≡ x.protect → y.kind ≡ x.kind → y.writer ≡ x.writer
    → Accessed x caller Write 1 (not (open_for_adding x)) → Accessed y caller Write 1 (not (open_for_adding y))
same_access x y caller uic protect kind writer a =
    record {
      right_given = ap (λ (u : ℕ). may Write caller u y.protect) uic ∙ ap (may Write caller x.uic) protect ∙ a.right_given;
      kind = λ is. a.kind (sym kind ∙ is);
      opened = ap (λ (w : ℕ). not (eqb w 2 || eqb w 3)) writer ∙ a.opened;
    }

module _ (img : List ℕ) (key : Key) (caller : ℕ) (payload : List ℕ) where
  -- a payload of the right size, where so many blocks are free
  pub again_accepted : (needed : ℕ) → 0 < needed → first_of (linked_add_rows img key caller false needed) ≡ 0 → length payload ≡ payload_bytes (geometry_of img)
      → (linked_add img key caller payload).code ≡ 0
  again_accepted needed positive passed whole =
      let fits : wrong_payload img payload ≡ false = ap not (eq-eqb (length payload) (payload_bytes (geometry_of img)) whole) in
      let r = linked_add_clear img key caller false needed passed in
      linked_add_code img key caller payload ∙ rw fits (clear_add img key caller false 1 r.0 (omega (arith, r.1)))

  module _ (success : (linked_add img key caller payload).code ≡ 0) where
    abbrev image : List ℕ
    image = (linked_add img key caller payload).image

    known : Admitted img key (wrong_payload img payload)
    known = linked_add_admitted img key caller payload success

    framed : Framed (Only (entry_no img key)) (Touched img (geometry_of img) (entry_no img key) (added_block img)) img image (geometry_of img)
    framed =
        grown_framed refl known.file.right known.file.inside known.linked (linked_add_free img key caller payload success)
        (linked_add_enlarged img key caller payload success).grown

    consistent_again : Consistent image
    consistent_again = linked_add_consistent img key caller payload known.file.right

    pub again_measures : geometry_of image ≡ geometry_of img
    again_measures = geometry_framed refl known.file.right framed

    -- all words of the entry but "6 first block; 7 length in blocks; 8 last block"
    pub again_words : (i : ℕ) → i < 16 → (i ≡ 6 → ⊥) → (i ≡ 7 → ⊥) → (i ≡ 8 → ⊥)
        → entry_word image (geometry_of img) (entry_no img key) i ≡ entry_word img (geometry_of img) (entry_no img key) i
    again_words = (linked_add_enlarged img key caller payload success).grown.resized.words

    same_word : (i : ℕ) → i < 16 → (i < 6) → entry_word image (geometry_of img) (entry_no img key) i ≡ entry_word img (geometry_of img) (entry_no img key) i
    same_word i small front = again_words i small (λ is. omega arith) (λ is. omega arith) (λ is. omega arith)

    -- the blocks of all files, by the measures of the image before
    summed : (i : List ℕ) → Consistent i → geometry_of i ≡ geometry_of img
        → (geometry_of img).bodies.0 + total (λ x. (entry_of i (geometry_of img) x).length) 0 (slots (geometry_of img)) + free_count i ≡ (geometry_of img).blocks
    summed i right measures =
        subst (λ (h : Geometry). h.bodies.0 + total (λ x. (entry_of i h x).length) 0 (slots h) + free_count i ≡ h.blocks) measures (sum_of_blocks right)

    pub again_free : free_count image + 1 ≡ free_count img
    again_free =
        omega (
          arith,
          summed img known.file.right refl,
          summed image consistent_again again_measures,
          total_swap (λ x. (entry_of img (geometry_of img) x).length) (λ x. (entry_of image (geometry_of img) x).length) (entry_no img key) 0 (slots (geometry_of img))
              (λ x low high other. ap (λ (y : Entry). y.length) (entry_framed refl known.file.right framed x (omega arith) other))
              (omega arith) (omega (arith, known.file.inside)),
          (linked_add_enlarged img key caller payload success).grown.size,
        )

    -- the entry has the key still
    keyed_again : SameKey (key_in (entry_of image (geometry_of img) (entry_no img key))) key
    unfolding entry_of file_of
    keyed_again =
        let k = known.file.keyed in
        record {
          name1 = same_word 0 (omega arith) (omega arith) ∙ k.name1;
          name2 = same_word 1 (omega arith) (omega arith) ∙ k.name2;
          extension = same_word 2 (omega arith) (omega arith) ∙ k.extension;
          uic = same_word 3 (omega arith) (omega arith) ∙ k.uic;
        }

    there_again : found image key ≡ some (entry_no img key)
    there_again =
        (found_iff consistent_again key known.file.legal (entry_no img key)).1 (
          subst (λ (h : Geometry). entry_no img key < slots h) (sym again_measures) known.file.inside,
          subst (λ (h : Geometry). SameKey (key_in (entry_of image h (entry_no img key))) key) (sym again_measures) keyed_again,
        )

    pub again_number : entry_no image key ≡ entry_no img key
    again_number = number_found image key there_again

    accessed_again : Accessed (file_of img key) caller Write 1 (not (open_for_adding (file_of img key)))
        → Accessed (entry_of image (geometry_of image) (entry_no img key)) caller Write 1 (not (open_for_adding (entry_of image (geometry_of image) (entry_no img key))))
    unfolding entry_of file_of
    accessed_again a =
        subst (λ (h : Geometry). Accessed (entry_of image h (entry_no img key)) caller Write 1 (not (open_for_adding (entry_of image h (entry_no img key))))) (sym again_measures)
        (same_access (entry_of img (geometry_of img) (entry_no img key)) (entry_of image (geometry_of img) (entry_no img key)) caller
        (same_word 3 (omega arith) (omega arith)) (same_word 4 (omega arith) (omega arith)) (same_word 5 (omega arith) (omega arith))
        (again_words 9 (omega arith) (λ is. omega (arith, is)) (λ is. omega (arith, is)) (λ is. omega (arith, is))) a)

    -- one block fewer is needed then
    pub again_clear : (needed : ℕ) → first_of (linked_add_rows img key caller false (needed + 1)) ≡ 0 → first_of (linked_add_rows image key caller false needed) ≡ 0
    again_clear needed passed =
        let r = linked_add_clear img key caller false (needed + 1) passed in
        let asked = sym (asked_file image key false ((consistent_iff image).1 consistent_again) known.file.legal refl (entry_no img key) there_again) in
        clear_add image key caller false needed
        (record {
          file = asked_is_file image key false (geometry_of image) (entry_no img key) (entry_of image (geometry_of image) (entry_no img key)) asked;
          entry = asked_entry image key false (geometry_of image) (entry_no img key) (entry_of image (geometry_of image) (entry_no img key)) asked;
          access = accessed_again r.0.access;
        })
        (omega (arith, r.1, again_free))
