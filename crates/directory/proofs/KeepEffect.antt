-- What a KEEP leaves: a consistent image, all other files, every block its owner; and KEEP once more changes nothing.
use Prim.Native.Nat.{ℕ, ◌+◌, ◌*◌, ◌/◌, ◌%◌, ◌≤◌}
use mathlib.Core.Path.{◌≡◌, refl, sym, ap, subst, ◌∙◌}
use mathlib.Core.Bool.{false}
use mathlib.Core.List.{List, []}
use mathlib.Core.Option.{some}
use native.Mathlib.Omega.{arith}
use lib.ListN.{set}
use lib.Seq.{set-set, set_comm}
use borrow.Author.Tests.{eq-eqb, eqb-true, not-false}
use Rattle.answers.specs.Refusals.{first_of}
use Rattle.answers.proofs.Refusals.{none_given}
use Rattle.words.specs.Word.{set_word}
use Rattle.pack.specs.declared.Geometry.{Geometry}
use Rattle.pack.specs.declared.Entry.{Entry}
use Rattle.pack.specs.declared.Key.{Key}
use Rattle.pack.specs.Geometry.{geometry_of, entry_at}
use Rattle.pack.specs.Entry.{entry_word, entry_of}
use Rattle.pack.specs.Key.{key_in, SameKey}
use Rattle.pack.specs.Consistent.{held, Consistent}
use Rattle.pack.specs.Owner.{owner_of}
use Rattle.pack.specs.Untouched.{Untouched}
use Rattle.pack.proofs.GeometryRoom.{entry_room}
use Rattle.consistency.proofs.ConsistentTestIff.{consistent_iff}
use Rattle.asking.specs.KeysTest.{found}
use Rattle.asking.specs.AskedStage.{file_rows}
use Rattle.asking.specs.Asked.{entry_no, file_of}
use Rattle.pack.specs.EntryWords.{set_entry_word}
use Rattle.asking.proofs.AskedStage.{stage_clear, number_found, file_found_law}
use Rattle.frame.specs.Framing.Distinct.{known}
use Rattle.frame.proofs.FramedStays.{geometry_framed}
use Rattle.frame.proofs.UntouchedFramed.{untouched_refl, untouched_one}
use Rattle.frame.proofs.FramedWritten.{kept_entry_word}
use Rattle.pack.proofs.EntryWordsWritten.{entry_set_same, entry_set_other}
use Rattle.directory.specs.KeepRows.{keep_rows}
use Rattle.directory.specs.Keep.{kept_code, keep}
use Rattle.asking.proofs.Outcome.{code_is, success_image, refusal_keeps, image_by}
use Rattle.asking.specs.Outcome.{Unchanged}
use Rattle.asking.proofs.AskedCleared.{Cleared, FileCleared}
use Rattle.directory.proofs.RenamRelabelled.{labelled, Relabelled, relabelled_framed, relabelled_entry, relabelled_owner, relabelled_held, relabelled_consistent, relabelled_found}
use Rattle.directory.proofs.KeepStage.{owner_only, keep_cleared, kept_small, kept_again}

-- a word set once more to the same
set_word_again : (bytes : List ℕ) (i word : ℕ) → set_word (set_word bytes i word) i word ≡ set_word bytes i word
unfolding set_word
set_word_again bytes i word =
    ap (λ (s : List ℕ). set s (2 * i + 1) (word / 256))
    (set_comm (set bytes (2 * i) (word % 256)) (2 * i + 1) (2 * i) (word / 256) (word % 256) (λ is. omega (arith, is))
    ∙ ap (λ (s : List ℕ). set s (2 * i + 1) (word / 256)) (set-set bytes (2 * i) (word % 256) (word % 256)))
    ∙ set-set (set bytes (2 * i) (word % 256)) (2 * i + 1) (word / 256) (word / 256)

-- the image with another protect code in the entry
module _ {img : List ℕ} {key : Key} {g : Geometry} {e : ℕ} (c : Cleared img key g e) (word : ℕ) where
  relabelled : Relabelled img (set_entry_word img g e 4 word) g e (entry_word img g e 0) (entry_word img g e 1) (entry_word img g e 2) word
  relabelled =
      record {
        kept = kept_entry_word img e 4 word refl c.inside (omega arith);
        first = entry_set_other img g e 4 word 0 (λ is. omega (arith, is));
        second = entry_set_other img g e 4 word 1 (λ is. omega (arith, is));
        third = entry_set_other img g e 4 word 2 (λ is. omega (arith, is));
        uic = entry_set_other img g e 4 word 3 (λ is. omega (arith, is));
        code = entry_set_same img g e 4 word (entry_room c.sized e 4 c.inside (omega arith));
        rest = λ i low high. entry_set_other img g e 4 word i (λ is. omega (arith, is));
      }

  relabelled_file : SameKey (key_in (entry_of (set_entry_word img g e 4 word) g e)) (key_in (entry_of img g e))
  unfolding entry_of
  relabelled_file = record { name1 = relabelled.first; name2 = relabelled.second; extension = relabelled.third; uic = relabelled.uic }

  marked_consistent : word ≤ 255 → Consistent (set_entry_word img g e 4 word)
  unfolding entry_of
  marked_consistent small = relabelled_consistent c relabelled c.used.name c.used.extension small (known relabelled_file)

module _ (img : List ℕ) (key : Key) (caller : ℕ) where
  code_small : first_of (keep_rows img key caller) ≡ 0 → kept_code (file_of img key).protect ≤ 255
  unfolding file_of
  code_small passed = kept_small _ (keep_cleared img key caller passed).used.protect

  pub keep_refused : ((keep img key caller).code ≡ 0 → ⊥) → Unchanged (keep img key caller) [] img []
  unfolding keep
  keep_refused never = refusal_keeps (keep_rows img key caller) img [] _ never

  module _ (right : Consistent img) where
    pub keep_consistent : Consistent (keep img key caller).image
    unfolding keep
    keep_consistent =
        image_by (keep_rows img key caller) img [] _ Consistent right (λ passed. marked_consistent (keep_cleared img key caller passed) _ (code_small passed))

    -- every file that the request does not name
    pub keep_untouched : (key' : Key) → (key' ≡ key → ⊥) → Untouched key' img (keep img key caller).image
    unfolding keep
    keep_untouched key' other =
        image_by (keep_rows img key caller) img [] _ (Untouched key' img) (untouched_refl key' img)
        (λ passed. let c = keep_cleared img key caller passed in untouched_one c.measures c.right (relabelled c _).kept c.keyed key' other)

    -- every block keeps its owner
    pub keep_owner : (b : ℕ) → owner_of (keep img key caller).image b ≡ owner_of img b
    unfolding keep
    keep_owner b =
        image_by (keep_rows img key caller) img [] _ (λ img'. owner_of img' b ≡ owner_of img b) refl
        (λ passed. let c = keep_cleared img key caller passed in relabelled_owner c (relabelled c _) b)

    -- and is held as often as it was
    pub keep_held : (b : ℕ) → held (keep img key caller).image b ≡ held img b
    unfolding keep
    keep_held b =
        image_by (keep_rows img key caller) img [] _ (λ img'. held img' b ≡ held img b) refl
        (λ passed. let c = keep_cleared img key caller passed in relabelled_held c (relabelled c _) b)

  -- KEEP once more
  module _ (passed : first_of (keep_rows img key caller) ≡ 0) where
    c : FileCleared img key
    c = keep_cleared img key caller passed

    abbrev marked : List ℕ
    marked = set_entry_word img (geometry_of img) (entry_no img key) 4 (kept_code (file_of img key).protect)

    marked_right : Consistent marked
    marked_right = marked_consistent c _ (code_small passed)

    owner : caller ≡ (file_of img key).uic
    unfolding keep_rows
    owner =
        let rest = (stage_clear img key false (owner_only caller) passed).behind in
        eqb-true caller (file_of img key).uic (not-false _ (none_given _ 0o6 [] (λ is. omega (arith, is)) rest).0)

    there : found marked key ≡ some (entry_no img key)
    unfolding entry_of
    there =
        relabelled_found c (relabelled c _) marked_right key c.legal
        (record { name1 = c.keyed.name1; name2 = c.keyed.name2; extension = c.keyed.extension; uic = c.keyed.uic })

    measures : geometry_of marked ≡ geometry_of img
    measures = geometry_framed c.measures c.right (relabelled_framed c (relabelled c _))

    file : file_of marked key ≡ labelled (file_of img key) (file_of img key).name1 (file_of img key).name2 (file_of img key).extension (kept_code (file_of img key).protect)
    unfolding file_of entry_of
    file = file_found_law marked key (geometry_of img) (entry_no img key) measures there ∙ relabelled_entry c (relabelled c _)

    again_clear : first_of (keep_rows marked key caller) ≡ 0
    unfolding keep_rows file_rows first_of
    again_clear =
        rw ((consistent_iff marked).1 marked_right, c.legal, there, eq-eqb caller (file_of marked key).uic (owner ∙ sym (ap (λ (x : Entry). x.uic) file)))

    again_image : set_entry_word marked (geometry_of marked) (entry_no marked key) 4 (kept_code (file_of marked key).protect) ≡ marked
    again_image =
        ap (λ (h : Geometry). set_entry_word marked h (entry_no marked key) 4 (kept_code (file_of marked key).protect)) measures
        ∙ ap (λ (i : ℕ). set_entry_word marked (geometry_of img) i 4 (kept_code (file_of marked key).protect)) (number_found marked key there)
        ∙ ap (set_entry_word marked (geometry_of img) (entry_no img key) 4) (ap (λ (x : Entry). kept_code x.protect) file ∙ kept_again (file_of img key).protect)
        ∙ set_word_again img (entry_at (geometry_of img) (entry_no img key) + 4) (kept_code (file_of img key).protect)

    marked_again : ((keep marked key caller).code ≡ 0) × ((keep marked key caller).image ≡ marked)
    unfolding keep
    marked_again =
        (code_is (keep_rows marked key caller) marked [] _ ∙ again_clear, success_image (keep_rows marked key caller) marked [] _ again_clear ∙ again_image)

    marked_is : (keep img key caller).image ≡ marked
    unfolding keep
    marked_is = success_image (keep_rows img key caller) img [] _ passed

  success_passed : (keep img key caller).code ≡ 0 → first_of (keep_rows img key caller) ≡ 0
  unfolding keep
  success_passed success = sym (code_is (keep_rows img key caller) img [] _) ∙ success

  -- already kept: success, no change
  pub keep_again : (keep img key caller).code ≡ 0
      → ((keep (keep img key caller).image key caller).code ≡ 0) × ((keep (keep img key caller).image key caller).image ≡ (keep img key caller).image)
  keep_again success =
      let passed = success_passed success in
      subst (λ (img' : List ℕ). ((keep img' key caller).code ≡ 0) × ((keep img' key caller).image ≡ img')) (sym (marked_is passed)) (marked_again passed)

  -- bit 7 of its protect code is set, and nothing else of the entry changes
  pub keep_entry : (keep img key caller).code ≡ 0
      → file_of (keep img key caller).image key
      ≡ labelled (file_of img key) (file_of img key).name1 (file_of img key).name2 (file_of img key).extension (kept_code (file_of img key).protect)
  keep_entry success =
      let passed = success_passed success in
      ap (λ (img' : List ℕ). file_of img' key) (marked_is passed) ∙ file passed
