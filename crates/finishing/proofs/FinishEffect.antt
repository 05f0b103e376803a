-- What a Finish leaves: the image of its DELETs, each of them done; no scratch file and their blocks free; all other files as they were; nothing for a second one.
use Prim.Native.Nat.{ℕ, ◌+◌, ◌<◌}
use mathlib.Core.Path.{◌≡◌, refl, sym, ap, subst, ◌∙◌}
use mathlib.Core.Bool.{Bool, true, false, not}
use mathlib.Core.List.{List, [], ◌∷◌}
use mathlib.Core.Option.{none}
use native.Mathlib.Omega.{arith}
use native.Mathlib.Decide.{ℕ_discrete}
use lib.ListN.{length}
use borrow.Author.Tests.{not-false}
use Rattle.answers.specs.Refusals.{first_of, table_order, in_order}
use Rattle.answers.proofs.Refusals.{none_given, pass, clear}
use Rattle.answers.proofs.RefusalsTests.{true_not_false}
use Rattle.pack.specs.declared.Entry.{Entry}
use Rattle.pack.specs.declared.Geometry.{Geometry}
use Rattle.pack.specs.declared.Key.{Key}
use Rattle.pack.specs.declared.Owner.TheVariants.{Free}
use Rattle.pack.specs.Geometry.{geometry_of, slots}
use Rattle.pack.specs.Header.{Listed}
use Rattle.pack.specs.File.{count}
use Rattle.pack.specs.Key.{key_in, SameKey}
use Rattle.pack.specs.Entry.{entry_word, entry_of, blocks_at, Empty}
use Rattle.pack.specs.Consistent.{Consistent}
use Rattle.pack.specs.Owner.{owner_of}
use Rattle.pack.specs.Untouched.{Untouched}
use Rattle.pack.proofs.KeySame.{same_back}
use Rattle.consistency.specs.ConsistentTest.{consistent}
use Rattle.consistency.proofs.ConsistentTestIff.{consistent_iff}
use Rattle.asking.specs.KeysTest.{legal_key, found}
use Rattle.asking.specs.Outcome.{Outcome, Unchanged}
use Rattle.asking.proofs.Keys.{absent_iff, not_empty}
use Rattle.asking.proofs.Outcome.{code_is, settled_success, refusal_keeps}
use Rattle.frame.proofs.ConsistentAlike.{unlike}
use Rattle.frame.proofs.FramedStays.{geometry_framed}
use Rattle.frame.proofs.FramedCompose.{entry_kept, entries_kept}
use Rattle.frame.proofs.UntouchedFramed.{untouched_framed}
use Rattle.finishing.specs.ScratchTest.{is_scratch, scratch_keys}
use Rattle.finishing.specs.FinishRows.{finish_rows}
use Rattle.finishing.specs.Finish.{Scratch, ScratchFrom, deleted_all, EachDeleted, finish}
use Rattle.finishing.specs.Spared.{Spared}
use Rattle.finishing.proofs.ScratchTestPasses.{no_file, scratch_passes}
use Rattle.finishing.proofs.ScratchTestDelet.{empty_name, used_name, named_used, used_legal}
use Rattle.finishing.proofs.ScratchTestIff.{scratch_iff, keys_listed, keys_single}
use Rattle.finishing.proofs.Spared.{scratch_unspared}
use Rattle.finishing.proofs.FinishKeys.{keys_none}
use Rattle.finishing.proofs.FinishSwept.{Swept, swept}
use Rattle.finishing.proofs.FinishSweptOwners.{swept_framed, swept_free, swept_owner}

pub finish_ordered : (img : List ℕ) → in_order table_order 0 (finish_rows img) ≡ true
unfolding finish_rows
finish_ordered img = refl

-- the one row
pub right_clear : {img : List ℕ} → Consistent img → first_of (finish_rows img) ≡ 0
unfolding finish_rows
right_clear {img} right = pass 0o40 [] (ap not ((consistent_iff img).1 right)) ∙ clear

pub clear_right : {img : List ℕ} → first_of (finish_rows img) ≡ 0 → Consistent img
unfolding finish_rows
clear_right {img} passed = (consistent_iff img).0 (not-false _ (none_given (not (consistent img)) 0o40 [] (λ is. omega (arith, is)) passed).0)

pub finish_refused : (img : List ℕ) (caller : ℕ) → ((finish img caller).code ≡ 0 → ⊥) → Unchanged (finish img caller) (0 ∷ []) img []
unfolding finish
finish_refused img caller never = refusal_keeps (finish_rows img) img [] _ never

-- what it comes to where these are the files that it removes
abbrev pub finished : List ℕ → ℕ → List Key → Outcome
finished img caller keys = record { code = 0; numbers = length keys ∷ []; image = deleted_all img caller keys; buffer = [] }

module _ {img : List ℕ} (right : Consistent img) (caller : ℕ) where
  pub finish_is : finish img caller ≡ finished img caller (scratch_keys img caller)
  unfolding finish
  finish_is = settled_success (finish_rows img) img [] _ (right_clear right)

  is_swept : EachDeleted caller img (scratch_keys img caller) × Swept img (deleted_all img caller (scratch_keys img caller)) (geometry_of img) caller 0 (slots (geometry_of img))
  unfolding scratch_keys
  is_swept = swept caller (slots (geometry_of img)) img refl right 0 (omega arith)

  -- "Delete every file .., in stored order, and return how many. The image must be the one those DELETs leave": and none of them is refused
  pub finish_deletes : (keys : List Key) → ScratchFrom img caller 0 keys → EachDeleted caller img keys × (finish img caller ≡ finished img caller keys)
  finish_deletes keys listed =
      subst (λ (s : List Key). EachDeleted caller img s × (finish img caller ≡ finished img caller s)) (keys_single (keys_listed right caller) listed)
      (is_swept.0, finish_is)

  after_swept : Swept img (finish img caller).image (geometry_of img) caller 0 (slots (geometry_of img))
  after_swept =
      subst (λ (img' : List ℕ). Swept img img' (geometry_of img) caller 0 (slots (geometry_of img))) (sym (ap (λ (o : Outcome). o.image) finish_is)) is_swept.1

  pub finish_measures : geometry_of (finish img caller).image ≡ geometry_of img
  finish_measures = geometry_framed refl right (swept_framed refl right after_swept)

  -- exactly the files that the sentence names are gone: their entries are empty, and every other entry has its words
  pub finish_gone : (e : ℕ) → Scratch img caller e → Empty (finish img caller).image (geometry_of img) e
  finish_gone e s = after_swept.emptied e (omega arith) (omega (arith, s.inside)) ((scratch_iff right caller e s.inside).1 s)

  pub finish_words : (e : ℕ) → e < slots (geometry_of img) → (Scratch img caller e → ⊥)
      → (i : ℕ) → i < 16 → entry_word (finish img caller).image (geometry_of img) e i ≡ entry_word img (geometry_of img) e i
  finish_words e inside never =
      entries_kept after_swept.kept e inside (λ behind. never ((scratch_iff right caller e inside).0 behind.is))

  -- no entry has their names any more
  pub finish_absent : (e : ℕ) → Scratch img caller e → found (finish img caller).image (key_in (entry_of img (geometry_of img) e)) ≡ none
  finish_absent e s =
      (absent_iff after_swept.right (key_in (entry_of img (geometry_of img) e)) legal).1
      (subst (λ (h : Geometry). (i : ℕ) → i < slots h → SameKey (key_in (entry_of (finish img caller).image h i)) (key_in (entry_of img (geometry_of img) e)) → ⊥)
      (sym finish_measures) (λ i within keyed. by i within keyed (is_scratch caller (entry_of img (geometry_of img) i)) refl))
    where
      legal : legal_key (key_in (entry_of img (geometry_of img) e)) ≡ true
      legal =
          let entry = right.entries e s.inside in
          used_legal refl right e s.inside (named_used img (geometry_of img) e entry (used_name img (geometry_of img) e entry s.file))

      by : (i : ℕ) → i < slots (geometry_of img) → SameKey (key_in (entry_of (finish img caller).image (geometry_of img) i)) (key_in (entry_of img (geometry_of img) e))
          → (test : Bool) → is_scratch caller (entry_of img (geometry_of img) i) ≡ test → ⊥
      by i within keyed true is =
          not_empty (finish img caller).image (geometry_of img) (key_in (entry_of img (geometry_of img) e)) i legal keyed
          (after_swept.emptied i (omega arith) (omega (arith, within)) is)
      by i within keyed false not =
          let same = entry_kept after_swept.kept i within (λ behind. true_not_false (sym behind.is ∙ not)) in
          unlike img (geometry_of img) refl right e i s.inside within
          (λ equal. true_not_false (sym ((scratch_iff right caller e s.inside).1 s) ∙ (ap (λ (j : ℕ). is_scratch caller (entry_of img (geometry_of img) j)) equal ∙ not)))
          s.file (same_back (subst (λ (x : Entry). SameKey (key_in x) (key_in (entry_of img (geometry_of img) e))) same keyed))

  -- their blocks are free, and no other block changes hands
  pub finish_frees : (e : ℕ) → Scratch img caller e → (b : ℕ) → 0 < count b (blocks_at img (geometry_of img) e) → owner_of (finish img caller).image b ≡ Free
  finish_frees e s b some = swept_free refl right after_swept b e s.inside ((scratch_iff right caller e s.inside).1 s) some

  pub finish_owner : (b : ℕ) → ((e : ℕ) → Scratch img caller e → count b (blocks_at img (geometry_of img) e) ≡ 0)
      → owner_of (finish img caller).image b ≡ owner_of img b
  finish_owner b apart = swept_owner refl right after_swept b (λ i within is. apart i ((scratch_iff right caller i within).0 is))

  -- every file of a name that no scratch file has
  pub finish_untouched : (key : Key) → ((e : ℕ) → Scratch img caller e → SameKey (key_in (entry_of img (geometry_of img) e)) key → ⊥)
      → Untouched key img (finish img caller).image
  finish_untouched key apart =
      untouched_framed refl right (swept_framed refl right after_swept) key
      (λ e within behind used keyed. apart e ((scratch_iff right caller e within).0 behind.is) keyed)

  -- every other file: it has the same entry words and the same body bytes
  pub finish_leaves : (e : ℕ) → e < slots (geometry_of img) → (Scratch img caller e → ⊥) → Untouched (key_in (entry_of img (geometry_of img) e)) img (finish img caller).image
  finish_leaves e inside never =
      finish_untouched (key_in (entry_of img (geometry_of img) e))
      (λ f s keyed. by f s keyed (ℕ_discrete f e))
    where
      by : (f : ℕ) → Scratch img caller f → SameKey (key_in (entry_of img (geometry_of img) f)) (key_in (entry_of img (geometry_of img) e)) → Dec (f ≡ e) → ⊥
      by f s keyed (yes same) = never (subst (Scratch img caller) same s)
      by f s keyed (no apart) = unlike img (geometry_of img) refl right f e s.inside inside apart s.file keyed

  -- another's, kept, open, or with bit 6 set
  pub finish_spares : (e : ℕ) → e < slots (geometry_of img) → Spared caller (entry_of img (geometry_of img) e)
      → Untouched (key_in (entry_of img (geometry_of img) e)) img (finish img caller).image
  finish_spares e inside spared = finish_leaves e inside (λ s. scratch_unspared right caller e inside s spared)

  -- where no entry passes the test there is nothing to do
  pub finish_nothing : ((e : ℕ) → e < slots (geometry_of img) → is_scratch caller (entry_of img (geometry_of img) e) ≡ false)
      → finish img caller ≡ record { code = 0; numbers = 0 ∷ []; image = img; buffer = [] }
  unfolding scratch_keys deleted_all
  finish_nothing never =
      finish_is ∙ ap (finished img caller) (keys_none img (geometry_of img) caller 0 (slots (geometry_of img)) (λ i low high. never i (omega (arith, high))))

pub finish_consistent : (img : List ℕ) (caller : ℕ) → Consistent img → Consistent (finish img caller).image
finish_consistent img caller right = (after_swept right caller).right

pub finish_right : (img : List ℕ) (caller : ℕ) → (finish img caller).code ≡ 0 → Consistent img
unfolding finish
finish_right img caller success = clear_right (sym (code_is (finish_rows img) img [] _) ∙ success)

-- "and a second Finish returns 0", and changes nothing
module _ (img : List ℕ) (caller : ℕ) (success : (finish img caller).code ≡ 0) where
  first : Consistent img
  first = finish_right img caller success

  none_left : (g : Geometry) → g ≡ geometry_of img → (e : ℕ) → e < slots g → is_scratch caller (entry_of (finish img caller).image g e) ≡ false
  none_left g stated e inside = by (is_scratch caller (entry_of img g e)) refl
    where
      here : Swept img (finish img caller).image g caller 0 (slots g)
      here = subst (λ (h : Geometry). Swept img (finish img caller).image h caller 0 (slots h)) (sym stated) (after_swept first caller)

      by : (test : Bool) → is_scratch caller (entry_of img g e) ≡ test → is_scratch caller (entry_of (finish img caller).image g e) ≡ false
      by true is = sym (no_file caller _ (empty_name _ g e (here.emptied e (omega arith) (omega (arith, inside)) is)))
      by false not = ap (is_scratch caller) (entry_kept here.kept e inside (λ behind. true_not_false (sym behind.is ∙ not))) ∙ not

  pub finish_again : finish (finish img caller).image caller ≡ record { code = 0; numbers = 0 ∷ []; image = (finish img caller).image; buffer = [] }
  finish_again =
      finish_nothing (finish_consistent img caller first) caller
      (none_left (geometry_of (finish img caller).image) (finish_measures first caller))

-- a caller of no list, and UIC 0, which is in none: nothing is deleted, on any image
module _ (img : List ℕ) (caller : ℕ) where
  unlisted_none : Consistent img → (Listed img caller → ⊥) → (e : ℕ) → e < slots (geometry_of img) → is_scratch caller (entry_of img (geometry_of img) e) ≡ false
  unlisted_none right never e inside = by (is_scratch caller (entry_of img (geometry_of img) e)) refl
    where
      by : (test : Bool) → is_scratch caller (entry_of img (geometry_of img) e) ≡ test → is_scratch caller (entry_of img (geometry_of img) e) ≡ false
      by true is =
          let passes = scratch_passes caller _ is in
          let used = named_used img (geometry_of img) e (right.entries e inside) passes.named in
          absurd (never (subst (Listed img) passes.own used.uic))
      by false not = not

  pub finish_nobody : (Listed img caller → ⊥) → ((finish img caller).numbers ≡ 0 ∷ []) × ((finish img caller).image ≡ img)
  finish_nobody never = by (ℕ_discrete (finish img caller).code 0)
    where
      by : Dec ((finish img caller).code ≡ 0) → ((finish img caller).numbers ≡ 0 ∷ []) × ((finish img caller).image ≡ img)
      by (yes success) =
          let right = finish_right img caller success in
          let is = finish_nothing right caller (unlisted_none right never) in
          (ap (λ (o : Outcome). o.numbers) is, ap (λ (o : Outcome). o.image) is)
      by (no refused) = let u = finish_refused img caller refused in (u.same_numbers, u.same_image)

pub finish_zero : (img : List ℕ) → ((finish img 0).numbers ≡ 0 ∷ []) × ((finish img 0).image ≡ img)
finish_zero img = by (ℕ_discrete (finish img 0).code 0)
  where
    by : Dec ((finish img 0).code ≡ 0) → ((finish img 0).numbers ≡ 0 ∷ []) × ((finish img 0).image ≡ img)
    by (yes success) =
        finish_nobody img 0 (λ listed. (finish_right img 0 success).header.uics.some (4 + listed.at) (omega arith) (omega (arith, listed.within)) listed.is)
    by (no refused) = let u = finish_refused img 0 refused in (u.same_numbers, u.same_image)
