-- Document 02 §13, files nobody named: what any sequence of requests leaves of a file that none of them names.
use Prim.Native.Nat.{ℕ, zero, suc, ◌+◌, ◌*◌, ◌/◌, ◌<◌}
use mathlib.Core.Path.{◌≡◌, refl, sym, ap, subst, ◌∙◌}
use mathlib.Core.Logic.{◌↔◌}
use mathlib.Core.Bool.{Bool, true, false}
use mathlib.Core.List.{List, [], ◌∷◌, ◌++◌}
use mathlib.Core.Option.{Option, none, some}
use native.Mathlib.Omega.{arith}
use native.Mathlib.Decide.{ℕ_discrete}
use lib.ListN.{length, get_or}
use Rattle.answers.proofs.RefusalsTests.{true_not_false}
use Rattle.pack.specs.declared.Geometry.{Geometry}
use Rattle.pack.specs.declared.Key.{Key}
use Rattle.pack.specs.Geometry.{geometry_of, block_bytes}
use Rattle.pack.specs.Entry.{entry_word, blocks_at}
use Rattle.pack.specs.Consistent.{Consistent}
use Rattle.pack.specs.Untouched.{Untouched}
use Rattle.pack.proofs.FileCount.{count_at}
use Rattle.frame.proofs.UntouchedFramed.{untouched_refl, untouched_compose, untouched_words, untouched_bytes, untouched_blocks}
use Rattle.consistency.specs.ConsistentTest.{consistent}
use Rattle.consistency.proofs.ConsistentTestIff.{consistent_iff}
use Rattle.requests.specs.Request.{Request, outcome, Names, NotFormat}
use Rattle.requests.specs.FileAt.{FileAt, NoFile}
use Rattle.requests.proofs.RequestConsistent.{stays_consistent}
use Rattle.requests.proofs.RequestRefused.{refusal_leaves}
use Rattle.requests.proofs.RequestUntouched.{who_is_not_named}
use Rattle.requests.proofs.RequestFiles.{untouched_there, there_before}
use Rattle.listed.specs.Record.{request_in}
use Rattle.listed.specs.Listed.{listed_outcome}
use Rattle.many.specs.Layout.{record_at}
use Rattle.many.specs.Many.{many, image_behind}
use Rattle.promises.specs.Many.{word_of, NamedBy}
use Rattle.promises.specs.Sequence.{Step, REQUEST, MANY, step_outcome, image_after_all, RequestIn, asked, listed, later, Unnamed}
use Rattle.promises.proofs.ReportFault.{inconsistent_refused}
use Rattle.promises.proofs.Many.{names_iff, images_begin, images_go_on, many_image, many_kept}

-- what each request of a call of many keeps, the call keeps, refused or not: the images behind its first records, one after another
module _ (P : List ℕ → Type 0) (records : List ℕ) where
  record_by : (o : Option Request) {image : List ℕ} → ((r : Request) → o ≡ some r → P image → P (outcome r image).image) → P image → P (listed_outcome o image).image
  record_by none step before = before
  record_by (some r) step before = step r refl before

  records_by : (img : List ℕ) → P img → (count : ℕ)
      → ((r : Request) (i : ℕ) → i < count → NamedBy (word_of records i) (some r) → (image : List ℕ) → P image → P (outcome r image).image)
      → P (image_behind img records count)
  records_by img before zero step = subst P (sym (images_begin img records)) before
  records_by img before (suc i) step =
      subst P (sym (images_go_on img records i))
      (record_by (request_in (record_at records i)) (λ r is. step r i (omega arith) ((names_iff records i (some r)).1 is) _)
      (records_by img before i (λ r j below. step r j (omega (arith, below)))))

  many_by : (img answers : List ℕ) → P img
      → ((r : Request) (i : ℕ) → i < length records / 32 → NamedBy (word_of records i) (some r) → (image : List ℕ) → P image → P (outcome r image).image)
      → P (many img records answers).image
  many_by img answers before step = by (ℕ_discrete (many img records answers).code 0)
    where
      by : Dec ((many img records answers).code ≡ 0) → P (many img records answers).image
      by (yes success) = subst P (sym (many_image img records answers success)) (records_by img before (length records / 32) step)
      by (no never) = subst P (sym (many_kept img records answers never).same_image) before

-- what each request of a sequence keeps, the sequence keeps
pub sequence_by : (P : List ℕ → Type 0) (steps : List Step) {img : List ℕ} → P img
    → ((r : Request) → RequestIn r steps → (image : List ℕ) → P image → P (outcome r image).image) → P (image_after_all img steps)
sequence_by P [] before step = before
sequence_by P (REQUEST r ∷ rest) {img} before step = sequence_by P rest (step r asked img before) (λ q among. step q (later among))
sequence_by P (MANY records answers ∷ rest) {img} before step =
    sequence_by P rest (many_by P records img answers before (λ r i below named. step r (listed i below named))) (λ q among. step q (later among))

-- a sequence goes on from the image that its beginning leaves
pub sequence_append : (img : List ℕ) (front back : List Step) → image_after_all img (front ++ back) ≡ image_after_all (image_after_all img front) back
sequence_append img [] back = refl
sequence_append img (step ∷ front) back = sequence_append (step_outcome step img).image front back

-- every image on the way is consistent
pub sequence_consistent : (steps : List Step) {img : List ℕ} → Consistent img → Consistent (image_after_all img steps)
sequence_consistent steps right = sequence_by Consistent steps right (λ r among image before. stays_consistent r before)

-- what a refused step adds to a sequence is nothing
pub step_refused : (step : Step) (img : List ℕ) → ((step_outcome step img).code ≡ 0 → ⊥) → (step_outcome step img).image ≡ img
step_refused (REQUEST r) img refused = (refusal_leaves r img refused).same_image
step_refused (MANY records answers) img refused = (many_kept img records answers refused).same_image

pub refused_nothing : (img : List ℕ) (front : List Step) (step : Step) (back : List Step) → ((step_outcome step (image_after_all img front)).code ≡ 0 → ⊥)
    → image_after_all img (front ++ (step ∷ back)) ≡ image_after_all img (front ++ back)
refused_nothing img front step back refused =
    sequence_append img front (step ∷ back)
    ∙ ap (λ (image : List ℕ). image_after_all image back) (step_refused step (image_after_all img front) refused)
    ∙ sym (sequence_append img front back)

-- Format names every file
unnamed_format : (r : Request) (who : Key) → (Names r who → ⊥) → NotFormat r
unnamed_format r who apart form blocks contents uics is = subst (λ (q : Request). Names q who → ⊥) is apart tt

-- every request but Format leaves an inconsistent image as it was
pub sequence_inconsistent : (steps : List Step) → ((r : Request) → RequestIn r steps → NotFormat r) → (img : List ℕ) → (Consistent img → ⊥) → image_after_all img steps ≡ img
sequence_inconsistent steps other img wrong =
    sequence_by (λ (image : List ℕ). image ≡ img) steps refl
    (λ r among image same.
    let refused = inconsistent_refused r image (other r among) (λ right. wrong (subst Consistent same right)) in
    (refusal_leaves r image (λ success. omega (arith, success, refused))).same_image ∙ same)

-- by whether the image is consistent
by_consistent : {A : Type 0} (img : List ℕ) → (Consistent img → A) → ((Consistent img → ⊥) → A) → A
by_consistent {A} img right wrong = by (consistent img) refl
  where
    by : (test : Bool) → consistent img ≡ test → A
    by true is = right ((consistent_iff img).0 is)
    by false is = wrong (λ r. true_not_false (sym ((consistent_iff img).1 r) ∙ is))

module _ (steps : List Step) (who : Key) (unnamed : Unnamed who steps) where
  -- the images on the way, with what they leave of the file
  record Way (img image : List ℕ) : Type 0 where
    right : Consistent image
    untouched : Untouched who img image
    before : (e : ℕ) → FileAt image who e → FileAt img who e

  way : {img : List ℕ} → Consistent img → Way img (image_after_all img steps)
  way {img} right =
      sequence_by (Way img) steps (record { right = right; untouched = untouched_refl who img; before = λ e there. there })
      (λ r among image so_far.
      record {
        right = stays_consistent r so_far.right;
        untouched = untouched_compose so_far.untouched (who_is_not_named r so_far.right who (unnamed r among)) right;
        before = λ e there. so_far.before e (there_before r so_far.right who (unnamed r among) e there);
      })

  unmoved : (img : List ℕ) → (Consistent img → ⊥) → image_after_all img steps ≡ img
  unmoved = sequence_inconsistent steps (λ r among. unnamed_format r who (unnamed r among))

  -- of any image, consistent or not
  pub nobody_named : (img : List ℕ) → Untouched who img (image_after_all img steps)
  nobody_named img =
      by_consistent img (λ right. (way right).untouched) (λ wrong. subst (Untouched who img) (sym (unmoved img wrong)) (untouched_refl who img))

  -- it is there after exactly if it was there before, and at the same entry
  pub unnamed_there : (img : List ℕ) (e : ℕ) → FileAt img who e ↔ FileAt (image_after_all img steps) who e
  unnamed_there img e =
      by_consistent img (λ right. (untouched_there right (way right).untouched, (way right).before e))
      (λ wrong. let same = unmoved img wrong in
      (subst (λ (image : List ℕ). FileAt image who e) (sym same), subst (λ (image : List ℕ). FileAt image who e) same))

  -- no request makes a file that it does not name
  pub unnamed_absent : (img : List ℕ) → NoFile img who → NoFile (image_after_all img steps) who
  unnamed_absent img nobody e there = nobody e ((unnamed_there img e).1 there)

  module _ {img : List ℕ} (right : Consistent img) (e : ℕ) (there : FileAt img who e) where
    abbrev after : List ℕ
    after = image_after_all img steps

    untouched : Untouched who img (image_after_all img steps)
    untouched = (way right).untouched

    pub unnamed_measures : geometry_of (image_after_all img steps) ≡ geometry_of img
    unnamed_measures = untouched.measures

    -- at the measures before
    words_at : (i : ℕ) → i < 16 → entry_word (image_after_all img steps) (geometry_of img) e i ≡ entry_word img (geometry_of img) e i
    words_at = untouched_words who img after (geometry_of img) refl right.header untouched e there.inside there.used there.keyed

    blocks_at_is : blocks_at (image_after_all img steps) (geometry_of img) e ≡ blocks_at img (geometry_of img) e
    blocks_at_is = untouched_blocks who img after (geometry_of img) refl right.header untouched e there.inside there.used there.keyed

    bytes_at : (place : ℕ) → place < length (blocks_at img (geometry_of img) e) → (i : ℕ) → i < block_bytes (geometry_of img)
        → get_or (image_after_all img steps) (get_or (blocks_at img (geometry_of img) e) place 0 * block_bytes (geometry_of img) + i) 0
        ≡ get_or img (get_or (blocks_at img (geometry_of img) e) place 0 * block_bytes (geometry_of img) + i) 0
    bytes_at place below =
        untouched_bytes who img after (geometry_of img) refl right.header untouched e there.inside there.used there.keyed
        (get_or (blocks_at img (geometry_of img) e) place 0) (count_at (blocks_at img (geometry_of img) e) place _ below refl)

    -- at those that each image states
    pub unnamed_words : (i : ℕ) → i < 16 → entry_word (image_after_all img steps) (geometry_of (image_after_all img steps)) e i ≡ entry_word img (geometry_of img) e i
    unnamed_words i small = ap (λ (g : Geometry). entry_word (image_after_all img steps) g e i) unnamed_measures ∙ words_at i small

    pub unnamed_blocks : blocks_at (image_after_all img steps) (geometry_of (image_after_all img steps)) e ≡ blocks_at img (geometry_of img) e
    unnamed_blocks = ap (λ (g : Geometry). blocks_at (image_after_all img steps) g e) unnamed_measures ∙ blocks_at_is

    pub unnamed_bytes : (place : ℕ) → place < length (blocks_at img (geometry_of img) e) → (i : ℕ) → i < block_bytes (geometry_of img)
        → get_or (image_after_all img steps)
        (get_or (blocks_at (image_after_all img steps) (geometry_of (image_after_all img steps)) e) place 0 * block_bytes (geometry_of (image_after_all img steps)) + i) 0
        ≡ get_or img (get_or (blocks_at img (geometry_of img) e) place 0 * block_bytes (geometry_of img) + i) 0
    unnamed_bytes place below i small =
        ap (λ (s : List ℕ). get_or (image_after_all img steps) (get_or s place 0 * block_bytes (geometry_of (image_after_all img steps)) + i) 0) unnamed_blocks
        ∙ ap (λ (g : Geometry). get_or (image_after_all img steps) (get_or (blocks_at img (geometry_of img) e) place 0 * block_bytes g + i) 0) unnamed_measures
        ∙ bytes_at place below i small
