-- The writer and the readers of a file's entry set: nothing else of the entry changes, no other file, and no owner; no block is taken or given up; the image stays consistent.
use Prim.Native.Nat.{ℕ, ◌+◌, ◌≤◌, ◌<◌}
use mathlib.Core.Path.{◌≡◌, refl, sym, ap, subst, ◌∙◌}
use mathlib.Core.List.{List, []}
use mathlib.Core.Logic.{◌⊎◌}
use native.Mathlib.Omega.{arith}
use native.Mathlib.Decide.{ℕ_discrete}
use lib.Dec.{ltb}
use Rattle.answers.specs.Refusals.{Row, first_of}
use Rattle.pack.specs.declared.Geometry.{Geometry}
use Rattle.pack.specs.declared.Key.{Key}
use Rattle.pack.specs.Geometry.{geometry_of, slots, entry_at}
use Rattle.pack.specs.File.{one, count}
use Rattle.pack.specs.Entry.{entry_word, entry_of, blocks_at}
use Rattle.pack.specs.EntryWords.{set_entry_word}
use Rattle.pack.specs.Key.{key_in, SameKey}
use Rattle.pack.specs.Consistent.{held, Consistent}
use Rattle.pack.specs.Owner.{place_from, owner_of}
use Rattle.pack.specs.Untouched.{Untouched}
use Rattle.pack.proofs.GeometryRoom.{entry_room}
use Rattle.pack.proofs.KeySame.{same_through}
use Rattle.pack.proofs.EntryWordsWritten.{entry_set_same, entry_set_other}
use Rattle.asking.specs.Asked.{entry_no, file_of}
use Rattle.asking.specs.Outcome.{Outcome, settled}
use Rattle.asking.proofs.Keys.{found_iff}
use Rattle.asking.proofs.AskedStage.{file_found_law}
use Rattle.asking.proofs.AskedCleared.{Cleared, FileCleared}
use Rattle.asking.proofs.Outcome.{code_is, success_image, image_by}
use Rattle.frame.specs.Framed.{ChangesOnly, InWords, Only, Never}
use Rattle.frame.specs.Framed.Within.{entry}
use Rattle.frame.specs.Framing.{Framed}
use Rattle.frame.specs.Framing.Distinct.{known}
use Rattle.frame.specs.Described.{Described, Description}
use Rattle.frame.proofs.ChangesWritten.{word_kept, changes_wider, changes_word}
use Rattle.frame.proofs.FramedHeld.{framed_never, held_one}
use Rattle.frame.proofs.FramedStays.{stated_framed, listed_framed}
use Rattle.frame.proofs.Described.{next_unwritten, described_blocks, consistent_described}
use Rattle.frame.proofs.UntouchedFramed.{untouched_refl, untouched_one}
use Rattle.frame.proofs.OwnerFramed.{owner_framed}
use Rattle.opening.specs.Open.{with_opens}

-- "a contiguous file's writer is 0 or 1, a linked one's 0, 2 or 3"; "readers, plus 1 if there is a writer, are at most 62"
pub record Rules (kind writer readers : ℕ) : Type 0 where
  pub contiguous : kind ≡ 1 → (writer ≡ 0) ⊎ (writer ≡ 1)
  pub linked : kind ≡ 2 → (writer ≡ 0) ⊎ ((writer ≡ 2) ⊎ (writer ≡ 3))
  pub opens : readers + one (ltb 0 writer) ≤ 62

pub record OpensSet (img img' : List ℕ) (g : Geometry) (e writer readers : ℕ) : Type 0 where
  pub only : ChangesOnly (InWords g e 9 10) img img'
  pub writes : entry_word img' g e 9 ≡ writer
  pub reads : entry_word img' g e 10 ≡ readers

-- one word is enough for either
module _ {img : List ℕ} {key : Key} {g : Geometry} {e : ℕ} (c : Cleared img key g e) (word : ℕ) where
  pub writer_set : OpensSet img (set_entry_word img g e 9 word) g e word (entry_of img g e).readers
  unfolding entry_of
  writer_set =
      record {
        only = changes_word img _ word (omega arith, omega arith);
        writes = entry_set_same img g e 9 word (entry_room c.sized e 9 c.inside (omega arith));
        reads = entry_set_other img g e 9 word 10 (λ is. omega (arith, is));
      }

  pub readers_set : OpensSet img (set_entry_word img g e 10 word) g e (entry_of img g e).writer word
  unfolding entry_of
  readers_set =
      record {
        only = changes_word img _ word (omega arith, omega arith);
        writes = entry_set_other img g e 10 word 9 (λ is. omega (arith, is));
        reads = entry_set_same img g e 10 word (entry_room c.sized e 10 c.inside (omega arith));
      }

module _ {img img' : List ℕ} {key : Key} {g : Geometry} {e writer readers : ℕ} (c : Cleared img key g e) (set : OpensSet img img' g e writer readers) where
  pub opens_framed : Framed (Only e) Never img img' g
  opens_framed = framed_never (changes_wider (λ w at. entry e refl c.inside (omega (arith, at.0), omega (arith, at.1))) set.only)

  before : (i : ℕ) → i < 9 → entry_word img' g e i ≡ entry_word img g e i
  unfolding entry_word
  before i low = word_kept set.only (entry_at g e + i) (λ at. omega (arith, at.0, low))

  behind : (i : ℕ) → 10 < i → entry_word img' g e i ≡ entry_word img g e i
  unfolding entry_word
  behind i high = word_kept set.only (entry_at g e + i) (λ at. omega (arith, at.1, high))

  pub opens_entry : entry_of img' g e ≡ with_opens (entry_of img g e) writer readers
  unfolding entry_of
  opens_entry =
      λ i. record {
        name1 = before 0 (omega arith) i;
        name2 = before 1 (omega arith) i;
        extension = before 2 (omega arith) i;
        uic = before 3 (omega arith) i;
        protect = before 4 (omega arith) i;
        kind = before 5 (omega arith) i;
        first = record { 0 = before 6 (omega arith) i };
        length = before 7 (omega arith) i;
        last = record { 0 = before 8 (omega arith) i };
        writer = set.writes i;
        readers = set.reads i;
      }

  pub opens_key : SameKey (key_in (entry_of img' g e)) (key_in (entry_of img g e))
  unfolding entry_of
  opens_key =
      record {
        name1 = before 0 (omega arith);
        name2 = before 1 (omega arith);
        extension = before 2 (omega arith);
        uic = before 3 (omega arith);
      }

  pub opens_described : Described img img' g e
  opens_described =
      record {
        file = λ i low high. before i (omega arith);
        rest = λ i low high. behind i low;
        next = λ b some. next_unwritten c.measures c.right opens_framed e c.inside b some (entry_of img g e).kind;
      }

  opens_owner : (b : ℕ) → owner_of img' b ≡ owner_of img b
  opens_owner b =
      owner_framed c.measures c.right opens_framed (λ i. ℕ_discrete i e) b
      (λ i within is. ap (place_from b 0) (subst (λ (j : ℕ). blocks_at img' g j ≡ blocks_at img g j) (sym is) (described_blocks opens_described)))

  opens_held : (b : ℕ) → held img' b ≡ held img b
  opens_held b = omega (arith, held_one c.measures c.right opens_framed c.inside b, ap (count b) (described_blocks opens_described))

  opens_consistent : Rules (entry_of img g e).kind writer readers → Consistent img'
  opens_consistent rules =
      let says : Description img' (with_opens (entry_of img g e) writer readers) =
      record {
        name = c.used.name;
        extension = c.used.extension;
        uic = (listed_framed c.measures c.right opens_framed (entry_of img g e).uic).0 c.used.uic;
        protect = c.used.protect;
        contiguous = rules.contiguous;
        linked = rules.linked;
        opens = rules.opens;
      } in
      consistent_described c.measures c.right opens_framed c.inside c.used opens_described
      (subst (Description img') (sym opens_entry) says) (known opens_key) (λ b never. absurd never)

  -- the file of the key is that entry
  opens_file : Consistent img' → file_of img' key ≡ with_opens (entry_of img g e) writer readers
  opens_file right =
      let stated : g ≡ geometry_of img' = stated_framed c.measures c.right opens_framed in
      let at =
      subst (λ (h : Geometry). (e < slots h) × SameKey (key_in (entry_of img' h e)) key) stated (c.inside, same_through opens_key c.keyed) in
      file_found_law img' key g e (sym stated) ((found_iff right key c.legal e).1 at) ∙ opens_entry

-- a request that sets them where no row refuses, so that the rules of opens hold
pub record RightOpens (img img' : List ℕ) (key : Key) (writer readers : ℕ) : Type 0 where
  pub file : FileCleared img key
  pub set : OpensSet img img' (geometry_of img) (entry_no img key) writer readers
  pub rules : Rules (file_of img key).kind writer readers

set_consistent : {img img' : List ℕ} {key : Key} {writer readers : ℕ} → RightOpens img img' key writer readers → Consistent img'
unfolding file_of
set_consistent r = opens_consistent r.file r.set r.rules

set_file : {img img' : List ℕ} {key : Key} {writer readers : ℕ} → RightOpens img img' key writer readers
    → file_of img' key ≡ with_opens (file_of img key) writer readers
unfolding file_of
set_file r = opens_file r.file r.set (set_consistent r)

module _ (rows : List Row) {img img' : List ℕ} {key : Key} {writer readers : ℕ} (sets : first_of rows ≡ 0 → RightOpens img img' key writer readers) where
  abbrev outcome : Outcome
  outcome = settled rows img [] (record { code = 0; numbers = []; image = img'; buffer = [] })

  pub request_file : outcome.code ≡ 0 → file_of outcome.image key ≡ with_opens (file_of img key) writer readers
  request_file success =
      let none : first_of rows ≡ 0 = sym (code_is rows img [] _) ∙ success in
      ap (λ (left : List ℕ). file_of left key) (success_image rows img [] _ none) ∙ set_file (sets none)

  pub request_consistent : Consistent img → Consistent outcome.image
  request_consistent right = image_by rows img [] _ Consistent right (λ none. set_consistent (sets none))

  pub request_untouched : (key' : Key) → (key' ≡ key → ⊥) → Untouched key' img outcome.image
  request_untouched key' other =
      image_by rows img [] _ (Untouched key' img) (untouched_refl key' img)
      (λ none. let f = (sets none).file in untouched_one f.measures f.right (opens_framed f (sets none).set).kept f.keyed key' other)

  pub request_owner : (b : ℕ) → owner_of outcome.image b ≡ owner_of img b
  request_owner b =
      image_by rows img [] _ (λ (left : List ℕ). owner_of left b ≡ owner_of img b) refl (λ none. opens_owner (sets none).file (sets none).set b)

  pub request_held : (b : ℕ) → held outcome.image b ≡ held img b
  request_held b =
      image_by rows img [] _ (λ (left : List ℕ). held left b ≡ held img b) refl (λ none. opens_held (sets none).file (sets none).set b)
