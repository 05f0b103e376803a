-- What a RENAM leaves: the file under its new name, a consistent image, all other files, and every block its owner.
use Prim.Native.Nat.{ℕ, ◌-◌, ◌≤◌, ◌<◌}
use mathlib.Core.Path.{◌≡◌, refl, sym, ap, subst, ◌∙◌}
use mathlib.Core.List.{List, [], ◌∷◌}
use mathlib.Core.Option.{Option, none, some}
use native.Mathlib.Omega.{arith}
use native.Mathlib.Decide.{ℕ_discrete}
use lib.ListN.{get_or}
use Rattle.pack.specs.declared.Geometry.{Geometry}
use Rattle.pack.specs.declared.Entry.{Entry}
use Rattle.pack.specs.declared.Key.{Key}
use Rattle.pack.specs.Geometry.{geometry_of, slots}
use Rattle.pack.specs.GeometrySized.{Sized}
use Rattle.pack.specs.Entry.{entry_word, entry_of}
use Rattle.pack.specs.Consistent.{held, Consistent}
use Rattle.pack.specs.Owner.{owner_of}
use Rattle.pack.specs.Key.{key_in, SameKey}
use Rattle.pack.specs.Untouched.{Untouched}
use Rattle.pack.proofs.GeometryRoom.{entry_room, sized_same}
use Rattle.asking.specs.KeysTest.{found}
use Rattle.asking.specs.Asked.{entry_no, file_of}
use Rattle.pack.specs.EntryWords.{set_entry_words}
use Rattle.asking.proofs.Keys.{legal_iff, one_entry, absent_iff}
use Rattle.pack.proofs.KeySame.{key_single}
use Rattle.frame.specs.Framed.{Only, Never, Kept}
use Rattle.frame.specs.Framing.{Distinct}
use Rattle.frame.specs.Framing.Distinct.{new as unlike-others}
use Rattle.frame.proofs.FramedStays.{stated_framed}
use Rattle.frame.proofs.FramedCompose.{entry_kept}
use Rattle.frame.proofs.UntouchedFramed.{untouched_refl, untouched_one}
use Rattle.frame.proofs.FramedWritten.{words_kept, kept_entry_word}
use Rattle.frame.proofs.ChangesWritten.{changes_then}
use Rattle.pack.proofs.EntryWordsWritten.{entry_set_same, entry_set_other, words_read, words_behind}
use Rattle.directory.specs.RenamRows.{renam_rows}
use Rattle.directory.specs.Renam.{renamed, renam}
use Rattle.asking.proofs.Outcome.{code_is, success_image, refusal_keeps, image_by}
use Rattle.asking.specs.Outcome.{Unchanged}
use Rattle.asking.proofs.AskedCleared.{Cleared}
use Rattle.directory.proofs.RenamRelabelled.{labelled, Relabelled, relabelled_framed, relabelled_entry, relabelled_owner, relabelled_held, relabelled_consistent, relabelled_found}
use Rattle.directory.proofs.RenamStage.{Passed, renam_passed, renam_cleared}

-- the image with name and extension set, and then the protect code
module _ {img : List ℕ} {old : Key} {g : Geometry} {e : ℕ} (c : Cleared img old g e) (new : Key) (protect : ℕ) where
  abbrev words : List ℕ
  words = new.name1 ∷ (new.name2 ∷ (new.extension ∷ []))

  abbrev named : List ℕ
  named = set_entry_words img g e 0 words

  named_kept : Kept (Only e) Never img named g
  named_kept = words_kept words img g e 0 refl c.inside (omega arith)

  named_sized : Sized named g
  named_sized = sized_same c.sized named_kept.long

  -- a word of name and extension, and a word behind them that is not the protect code
  set : (i : ℕ) → i < 3 → entry_word (renamed img g e new protect) g e i ≡ get_or words (i - 0) 0
  set i low =
      entry_set_other named g e 4 protect i (λ is. omega (arith, is))
      ∙ words_read words img g e 0 i c.sized c.inside (omega arith) (omega arith) (omega arith)

  stays : (i : ℕ) → 3 ≤ i → (i ≡ 4 → ⊥) → entry_word (renamed img g e new protect) g e i ≡ entry_word img g e i
  stays i behind other = entry_set_other named g e 4 protect i other ∙ words_behind words img g e 0 i (omega arith)

  relabelled : Relabelled img (renamed img g e new protect) g e new.name1 new.name2 new.extension protect
  relabelled =
      record {
        kept = changes_then named_kept (kept_entry_word named e 4 protect refl c.inside (omega arith));
        first = set 0 (omega arith);
        second = set 1 (omega arith);
        third = set 2 (omega arith);
        uic = stays 3 (omega arith) (λ is. omega (arith, is));
        code = entry_set_same named g e 4 protect (entry_room named_sized e 4 c.inside (omega arith));
        rest = λ i low high. stays i (omega arith) (λ is. omega (arith, is));
      }

  -- "the UIC stays": the new key is one of the same UIC
  module _ (p : Passed img old new protect) (same : new.uic ≡ old.uic) where
    -- no other file has the new name
    unlike : Distinct img (renamed img g e new protect) g e
    unlike =
        unlike-others
        (λ f inside other used alike.
        let entry = relabelled_entry c relabelled in
        (absent_iff p.right new p.legal₂).0 p.nowhere f (subst (λ (h : Geometry). f < slots h) c.measures inside)
        (subst (λ (h : Geometry). SameKey (key_in (entry_of img h f)) new) c.measures
        (record {
          name1 = alike.name1 ∙ ap (λ (x : Entry). x.name1) entry;
          name2 = alike.name2 ∙ ap (λ (x : Entry). x.name2) entry;
          extension = alike.extension ∙ ap (λ (x : Entry). x.extension) entry;
          uic = alike.uic ∙ (ap (λ (x : Entry). x.uic) entry ∙ (c.keyed.uic ∙ sym same));
        })))

    renamed_consistent : Consistent (renamed img g e new protect)
    renamed_consistent =
        let legal = (legal_iff new).0 p.legal₂ in
        relabelled_consistent c relabelled legal.0 legal.1 p.small unlike

    new_found : found (renamed img g e new protect) new ≡ some e
    new_found =
        relabelled_found c relabelled renamed_consistent new p.legal₂
        (record { name1 = refl; name2 = refl; extension = refl; uic = c.keyed.uic ∙ sym same })

    -- an entry of the old name would be another one, which there was not before, or the renamed one, whose name is another
    old_absent : found (renamed img g e new protect) old ≡ none
    old_absent =
        let framed = relabelled_framed c relabelled in
        let stated : g ≡ geometry_of (renamed img g e new protect) = stated_framed c.measures c.right framed in
        (absent_iff renamed_consistent old p.legal).1
        (λ f inside keyed.
        nobody f (subst (λ (h : Geometry). f < slots h) (sym stated) inside) (subst (λ (h : Geometry). SameKey (key_in (entry_of (renamed img g e new protect) h f)) old) (sym stated) keyed)
        (ℕ_discrete f e))
      where
        two_names : old ≡ new → ⊥
        two_names is =
            let both : ◌≡◌ {A = Option ℕ} (some p.at) none = sym p.there ∙ (ap (found img) is ∙ p.nowhere) in
            let z : ◌≡◌ {A = ℕ} 0 1 = cc in
            omega arith

        nobody : (f : ℕ) → f < slots g → SameKey (key_in (entry_of (renamed img g e new protect) g f)) old → Dec (f ≡ e) → ⊥
        nobody f inside keyed (yes is) =
            let here : SameKey (key_in (labelled (entry_of img g e) new.name1 new.name2 new.extension protect)) old =
            subst (λ (x : Entry). SameKey (key_in x) old) (relabelled_entry c relabelled) (subst (λ (i : ℕ). SameKey (key_in (entry_of (renamed img g e new protect) g i)) old) is keyed) in
            two_names (key_single (record { name1 = refl; name2 = refl; extension = refl; uic = c.keyed.uic ∙ sym same }) here)
        nobody f inside keyed (no other) =
            let before : SameKey (key_in (entry_of img g f)) old = subst (λ (x : Entry). SameKey (key_in x) old) (entry_kept relabelled.kept f inside other) keyed in
            other (one_entry p.right old p.legal f e (at f inside) (at e c.inside) (keyed_at f before) (keyed_at e c.keyed))
          where
            at : (i : ℕ) → i < slots g → i < slots (geometry_of img)
            at i within = subst (λ (h : Geometry). i < slots h) c.measures within

            keyed_at : (i : ℕ) → SameKey (key_in (entry_of img g i)) old → SameKey (key_in (entry_of img (geometry_of img) i)) old
            keyed_at i k = subst (λ (h : Geometry). SameKey (key_in (entry_of img h i)) old) c.measures k

module _ (img : List ℕ) (old new : Key) (protect caller : ℕ) where
  pub renam_refused : ((renam img old new protect caller).code ≡ 0 → ⊥) → Unchanged (renam img old new protect caller) [] img []
  unfolding renam
  renam_refused never = refusal_keeps (renam_rows img old new protect caller) img [] _ never

  -- "changes name, extension and protect code", and nothing else of the entry
  pub renam_entry : (renam img old new protect caller).code ≡ 0
      → entry_of (renam img old new protect caller).image (geometry_of img) (entry_no img old)
      ≡ labelled (file_of img old) new.name1 new.name2 new.extension protect
  unfolding renam file_of
  renam_entry success =
      let passed = sym (code_is (renam_rows img old new protect caller) img [] _) ∙ success in
      let c = renam_cleared img old new protect caller passed in
      ap (λ (img' : List ℕ). entry_of img' (geometry_of img) (entry_no img old)) (success_image (renam_rows img old new protect caller) img [] _ passed)
      ∙ relabelled_entry c (relabelled c new protect)

  module _ (right : Consistent img) where
    -- every file that the request does not name; a file of the new name there is not before
    pub renam_untouched : (key' : Key) → (key' ≡ old → ⊥) → Untouched key' img (renam img old new protect caller).image
    unfolding renam
    renam_untouched key' other =
        image_by (renam_rows img old new protect caller) img [] _ (Untouched key' img) (untouched_refl key' img)
        (λ passed. let c = renam_cleared img old new protect caller passed in untouched_one c.measures c.right (relabelled c new protect).kept c.keyed key' other)

    -- every block keeps its owner
    pub renam_owner : (b : ℕ) → owner_of (renam img old new protect caller).image b ≡ owner_of img b
    unfolding renam
    renam_owner b =
        image_by (renam_rows img old new protect caller) img [] _ (λ img'. owner_of img' b ≡ owner_of img b) refl
        (λ passed. let c = renam_cleared img old new protect caller passed in relabelled_owner c (relabelled c new protect) b)

    -- and is held as often as it was
    pub renam_held : (b : ℕ) → held (renam img old new protect caller).image b ≡ held img b
    unfolding renam
    renam_held b =
        image_by (renam_rows img old new protect caller) img [] _ (λ img'. held img' b ≡ held img b) refl
        (λ passed. let c = renam_cleared img old new protect caller passed in relabelled_held c (relabelled c new protect) b)

    module _ (same : new.uic ≡ old.uic) where
      pub renam_consistent : Consistent (renam img old new protect caller).image
      unfolding renam
      renam_consistent =
          image_by (renam_rows img old new protect caller) img [] _ Consistent right
          (λ passed. renamed_consistent (renam_cleared img old new protect caller passed) new protect (renam_passed img old new protect caller passed) same)

      -- the file is found under the new name, and none under the old one
      pub renam_found : (renam img old new protect caller).code ≡ 0
          → (found (renam img old new protect caller).image new ≡ some (entry_no img old)) × (found (renam img old new protect caller).image old ≡ none)
      unfolding renam
      renam_found success =
          let passed = sym (code_is (renam_rows img old new protect caller) img [] _) ∙ success in
          let c = renam_cleared img old new protect caller passed in
          let p = renam_passed img old new protect caller passed in
          let image = success_image (renam_rows img old new protect caller) img [] _ passed in (
            ap (λ (img' : List ℕ). found img' new) image ∙ new_found c new protect p same,
            ap (λ (img' : List ℕ). found img' old) image ∙ old_absent c new protect p same,
          )
