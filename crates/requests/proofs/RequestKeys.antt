-- A request that succeeds leaves every entry in use that has a key which it does not name with the name, extension and UIC that the entry had before.
use Prim.Native.Nat.{ℕ, ◌+◌, ◌≤◌, ◌<◌}
use mathlib.Core.Path.{◌≡◌, refl, sym, ap, subst, ◌∙◌}
use mathlib.Core.Logic.{inl, inr}
use mathlib.Core.Bool.{Bool, false}
use mathlib.Core.List.{List, [], ◌∷◌}
use native.Mathlib.Omega.{arith}
use native.Mathlib.Decide.{ℕ_discrete, dec_lt}
use lib.Dec.{ltb}
use lib.ListN.{length}
use Rattle.pack.specs.declared.Entry.{Entry}
use Rattle.pack.specs.declared.Geometry.{Geometry}
use Rattle.pack.specs.declared.Key.{Key}
use Rattle.pack.specs.Geometry.{geometry_of, slots, entry_at}
use Rattle.pack.specs.Key.{key_in, SameKey}
use Rattle.pack.specs.Entry.{entry_word, entry_of, Empty}
use Rattle.pack.specs.Consistent.{Consistent}
use Rattle.pack.proofs.KeySame.{key_single}
use Rattle.frame.specs.Framed.{Never}
use Rattle.frame.proofs.FramedCompose.{entries_kept, neither}
use Rattle.frame.proofs.ChangesWritten.{word_kept}
use Rattle.asking.specs.Asked.{entry_no}
use Rattle.asking.specs.KeysTest.{found}
use Rattle.asking.proofs.Keys.{found_keyed}
use Rattle.asking.proofs.Outcome.{code_is, success_image}
use Rattle.creation.specs.Creating.{LowestEmpty, new_file}
use Rattle.creation.specs.declared.creating.Shape.{Shape}
use Rattle.creation.proofs.AllocEffect.{alloc_kept, alloc_made}
use Rattle.creation.proofs.OpenoEffect.{openo_entry}
use Rattle.opening.specs.declared.Opening.{Opening}
use Rattle.opening.specs.declared.Opening.TheVariants.{Input, Update, Extension}
use Rattle.directory.specs.DeletRows.{delet_rows}
use Rattle.directory.specs.Delet.{delet}
use Rattle.directory.specs.Renam.{new_key, renam}
use Rattle.directory.proofs.DeletStage.{delet_cleared}
use Rattle.directory.proofs.Deleted.{deleted_kept}
use Rattle.directory.proofs.DeletEffect.{delet_clears}
use Rattle.directory.proofs.RenamEffect.{renam_found}
use Rattle.finishing.proofs.FinishEffect.{finish_gone, finish_words}
use Rattle.transfer.proofs.BlockWritten.{written_kept, block_out_asked, block_out_fits, block_out_image}
use Rattle.appending.specs.Appnd.{appnd}
use Rattle.appending.proofs.AppndEffect.{appnd_joined}
use Rattle.adding.specs.LinkedAdd.{linked_add}
use Rattle.adding.proofs.LinkedAddEffect.{linked_add_enlarged}
use Rattle.adding.proofs.LinkedAddAgain.{again_measures}
use Rattle.stream.specs.AddedAll.{added_all, EachAdded, none, also}
use Rattle.stream.specs.BytesWriting.{bytes_written}
use Rattle.stream.proofs.BytesWritingEffect.{write_image, write_added}
use Rattle.lines.specs.LineReading.{mode_of}
use Rattle.lines.specs.LineWrite.{put_all, taken_of}
use Rattle.lines.specs.LineWriting.{nuls_for, line_write, line_end}
use Rattle.lines.proofs.LineReadingStage.{line_read_image}
use Rattle.binary.specs.BinaryLine.{binary_line}
use Rattle.binary.specs.BinaryWriting.{binary_write}
use Rattle.binary.proofs.BinaryReadingStage.{binary_read_image}
use Rattle.requests.specs.Request.{Request, outcome, Names, FORMAT, ALLOC, OPENO, OPEN, CLOSE, DELET, RENAM, APPND, LOOK, KEEP, BLOCK-INPUT, BLOCK-OUTPUT, LINKED-READ, LINKED-ADD}
use Rattle.requests.specs.Request.{LINE-READ, LINE-WRITE, LINE-END, BINARY-READ, BINARY-WRITE, FINISH, OWNER}
use Rattle.requests.specs.Changes.{IsWord, MayChange}
use Rattle.requests.specs.FileAt.{FileAt}
use Rattle.requests.proofs.RequestAsking.{look_image, owner_image, block_in_image, linked_read_image}
use Rattle.requests.proofs.ChangesEntries.{openo_changes, renam_changes}
use Rattle.requests.proofs.Changes.{nothing_else}

-- the words of name, extension and UIC of entry e are what they were
abbrev pub SameKeyWords : List ℕ → List ℕ → Geometry → ℕ → Type 0
SameKeyWords img img' g e = (i : ℕ) → i < 4 → entry_word img' g e i ≡ entry_word img g e i

-- the image is as it was
kept_words : {img img' : List ℕ} (g : Geometry) (e : ℕ) → img' ≡ img → SameKeyWords img img' g e
kept_words {img} {img'} g e same i small = ap (λ (image : List ℕ). entry_word image g e i) same

-- a new file has the key that was asked for
new_named : (img' : List ℕ) (g : Geometry) (who key : Key) {e f protect : ℕ} {shape : Shape} → e ≡ f → entry_of img' g f ≡ new_file key protect shape
    → SameKey (key_in (entry_of img' g e)) who → who ≡ key
new_named img' g who key {e} {f} {protect} {shape} is made keyed =
    let here : SameKey (key_in (new_file key protect shape)) who =
    subst (λ (x : Entry). SameKey (key_in x) who) made (subst (λ (j : ℕ). SameKey (key_in (entry_of img' g j)) who) is keyed) in
    key_single (record { name1 = refl; name2 = refl; extension = refl; uic = refl }) here

lowest_single : {img : List ℕ} {e f : ℕ} → LowestEmpty img e → LowestEmpty img f → e ≡ f
lowest_single {img} {e} {f} one two = by (dec_lt e f) (dec_lt f e)
  where
    by : Dec (e < f) → Dec (f < e) → e ≡ f
    by (yes less) d = absurd (two.lowest e less one.empty)
    by (no low) (yes more) = absurd (one.lowest f more two.empty)
    by (no low) (no high) = omega (arith, low, high)

-- an entry in use behind the request, at the measures before it
module _ (img : List ℕ) (e : ℕ) (inside : e < slots (geometry_of img)) where
  -- the requests that write one word of an entry, behind the key
  word_apart : (f i j : ℕ) → i < 4 → 4 ≤ j → j < 16 → IsWord img f j (entry_at (geometry_of img) e + i) → ⊥
  word_apart f i j small low high is = omega (arith, small, low, high, is)

  open_words : (mode : Opening) (key : Key) (caller : ℕ) → SameKeyWords img (outcome (OPEN mode key caller) img).image (geometry_of img) e
  unfolding entry_word
  open_words Input key caller i small =
      nothing_else (OPEN Input key caller) img (entry_at (geometry_of img) e + i) (word_apart _ i 10 small (omega arith) (omega arith))
  open_words Update key caller i small =
      nothing_else (OPEN Update key caller) img (entry_at (geometry_of img) e + i) (word_apart _ i 9 small (omega arith) (omega arith))
  open_words Extension key caller i small =
      nothing_else (OPEN Extension key caller) img (entry_at (geometry_of img) e + i) (word_apart _ i 9 small (omega arith) (omega arith))

  close_words : (key : Key) (mode : ℕ) → SameKeyWords img (outcome (CLOSE key mode) img).image (geometry_of img) e
  unfolding entry_word
  close_words key mode i small = nothing_else (CLOSE key mode) img (entry_at (geometry_of img) e + i) never
    where
      never : MayChange (CLOSE key mode) img (entry_at (geometry_of img) e + i) → ⊥
      never (inl (four, is)) = word_apart _ i 10 small (omega arith) (omega arith) is
      never (inr (other, is)) = word_apart _ i 9 small (omega arith) (omega arith) is

  keep_words : (key : Key) (caller : ℕ) → SameKeyWords img (outcome (KEEP key caller) img).image (geometry_of img) e
  unfolding entry_word
  keep_words key caller i small =
      nothing_else (KEEP key caller) img (entry_at (geometry_of img) e + i) (word_apart _ i 4 small (omega arith) (omega arith))

  -- a new file: the entry is another than the one that was filled
  alloc_words : (who key : Key) (caller protect segments : ℕ) → (who ≡ key → ⊥) → (outcome (ALLOC key caller protect segments) img).code ≡ 0
      → SameKey (key_in (entry_of (outcome (ALLOC key caller protect segments) img).image (geometry_of img) e)) who
      → SameKeyWords img (outcome (ALLOC key caller protect segments) img).image (geometry_of img) e
  alloc_words who key caller protect segments apart success keyed i small =
      entries_kept (alloc_kept img key caller protect segments) e inside
      (λ is. apart (new_named _ (geometry_of img) who key is (alloc_made img key caller protect segments success).file keyed)) i (omega (arith, small))

  openo_words : (who key : Key) (caller protect : ℕ) → (who ≡ key → ⊥) → (outcome (OPENO key caller protect) img).code ≡ 0
      → SameKey (key_in (entry_of (outcome (OPENO key caller protect) img).image (geometry_of img) e)) who
      → SameKeyWords img (outcome (OPENO key caller protect) img).image (geometry_of img) e
  unfolding entry_word
  openo_words who key caller protect apart success keyed i small =
      word_kept (openo_changes img key caller protect) (entry_at (geometry_of img) e + i) never
    where
      never : MayChange (OPENO key caller protect) img (entry_at (geometry_of img) e + i) → ⊥
      never (f, (lowest, at)) =
          let entry = openo_entry img key caller protect success in
          let here : e ≡ f = omega (arith, small, at.0, at.1) in
          apart (new_named _ (geometry_of img) who key (here ∙ lowest_single lowest entry.0) entry.1 keyed)

  -- a deleted file has no entry in use
  other_words : (key : Key) (caller : ℕ) → (delet img key caller).code ≡ 0 → (e ≡ entry_no img key → ⊥) → SameKeyWords img (delet img key caller).image (geometry_of img) e
  unfolding delet
  other_words key caller success other i small =
      let passed = sym (code_is (delet_rows img key caller) img [] _) ∙ success in
      let c = delet_cleared img key caller passed in
      rw (success_image (delet_rows img key caller) img [] _ passed)
      (entries_kept (deleted_kept c.measures c.right (entry_no img key) c.inside) e inside other i (omega (arith, small)))

  delet_words : (key : Key) (caller : ℕ) → Consistent img → (delet img key caller).code ≡ 0 → (Empty (delet img key caller).image (geometry_of img) e → ⊥)
      → SameKeyWords img (delet img key caller).image (geometry_of img) e
  delet_words key caller right success used =
      other_words key caller success
      (λ is. used (subst (Empty (delet img key caller).image (geometry_of img)) (sym is) (delet_clears img key caller right success).0))

  -- a renamed file has the new name
  renam_words : (who old : Key) (name1 name2 extension protect caller : ℕ) → (who ≡ new_key old name1 name2 extension → ⊥) → Consistent img
      → (outcome (RENAM old name1 name2 extension protect caller) img).code ≡ 0
      → FileAt (outcome (RENAM old name1 name2 extension protect caller) img).image who e
      → SameKeyWords img (outcome (RENAM old name1 name2 extension protect caller) img).image (geometry_of img) e
  unfolding entry_word found
  renam_words who old name1 name2 extension protect caller apart right success there i small =
      word_kept (renam_changes img old name1 name2 extension protect caller) (entry_at (geometry_of img) e + i) never
    where
      after : List ℕ
      after = (renam img old (new_key old name1 name2 extension) protect caller).image

      named : e ≡ entry_no img old → ⊥
      named is =
          let new = found_keyed after (geometry_of after) (new_key old name1 name2 extension) 0 (slots (geometry_of after)) (entry_no img old)
          (renam_found img old (new_key old name1 name2 extension) protect caller right refl success).0 in
          apart (key_single new.keyed (subst (λ (j : ℕ). SameKey (key_in (entry_of after (geometry_of after) j)) who) is there.keyed))

      never : MayChange (RENAM old name1 name2 extension protect caller) img (entry_at (geometry_of img) e + i) → ⊥
      never (inl at) = named (omega (arith, small, at.0, at.1))
      never (inr is) = word_apart _ i 4 small (omega arith) (omega arith) is

  -- of two joined files the first keeps its name, and the second has no entry in use
  appnd_words : (first second : Key) (caller : ℕ) → (appnd img first second caller).code ≡ 0
      → (Empty (appnd img first second caller).image (geometry_of img) e → ⊥) → SameKeyWords img (appnd img first second caller).image (geometry_of img) e
  appnd_words first second caller success used i small = by (ℕ_discrete e (entry_no img first)) (ℕ_discrete e (entry_no img second))
    where
      by : Dec (e ≡ entry_no img first) → Dec (e ≡ entry_no img second) → entry_word (appnd img first second caller).image (geometry_of img) e i ≡ entry_word img (geometry_of img) e i
      by (yes is) d =
          subst (λ (j : ℕ). entry_word (appnd img first second caller).image (geometry_of img) j i ≡ entry_word img (geometry_of img) j i) (sym is)
          ((appnd_joined img first second caller success).resized.words i (omega (arith, small)) (λ n. omega (arith, small, n)) (λ n. omega (arith, small, n))
          (λ n. omega (arith, small, n)))
      by (no one) (yes is) =
          absurd (used (subst (Empty (appnd img first second caller).image (geometry_of img)) (sym is) (appnd_joined img first second caller success).emptied))
      by (no one) (no two) = entries_kept (appnd_joined img first second caller success).kept e inside (neither one two) i (omega (arith, small))

  -- a block written is a body
  block_words : (key : Key) (caller place : ℕ) (buffer : List ℕ) → (outcome (BLOCK-OUTPUT key caller place buffer) img).code ≡ 0
      → SameKeyWords img (outcome (BLOCK-OUTPUT key caller place buffer) img).image (geometry_of img) e
  block_words key caller place buffer success i small =
      rw (block_out_image img key caller place buffer success)
      (entries_kept (written_kept (block_out_asked img key caller place buffer success) buffer (block_out_fits img key caller place buffer success) {Named = Never})
      e inside (λ never. never) i (omega (arith, small)))

  -- a file that a block is joined to keeps its name
  add_words : (key : Key) (caller : ℕ) (payload : List ℕ) → (linked_add img key caller payload).code ≡ 0
      → SameKeyWords img (linked_add img key caller payload).image (geometry_of img) e
  add_words key caller payload success i small = by (ℕ_discrete e (entry_no img key))
    where
      by : Dec (e ≡ entry_no img key) → entry_word (linked_add img key caller payload).image (geometry_of img) e i ≡ entry_word img (geometry_of img) e i
      by (yes is) =
          subst (λ (j : ℕ). entry_word (linked_add img key caller payload).image (geometry_of img) j i ≡ entry_word img (geometry_of img) j i) (sym is)
          ((linked_add_enlarged img key caller payload success).grown.resized.words i (omega (arith, small)) (λ n. omega (arith, small, n)) (λ n. omega (arith, small, n))
          (λ n. omega (arith, small, n)))
      by (no other) = entries_kept (linked_add_enlarged img key caller payload success).grown.kept e inside other i (omega (arith, small))

-- and one that several are joined to, by the measures, which stay
added_words : (key : Key) (caller : ℕ) (g : Geometry) (e : ℕ) → e < slots g → (img : List ℕ) (payloads : List (List ℕ)) → EachAdded key caller img payloads
    → geometry_of img ≡ g → SameKeyWords img (added_all img key caller payloads) g e
unfolding added_all
added_words key caller g e inside img [] none measures i small = refl
added_words key caller g e inside img (payload ∷ more) (also success rest) measures i small =
    added_words key caller g e inside (linked_add img key caller payload).image more rest (again_measures img key caller payload success ∙ measures) i small
    ∙ first (subst (λ (h : Geometry). e < slots h) (sym measures) inside)
  where
    first : e < slots (geometry_of img) → entry_word (linked_add img key caller payload).image g e i ≡ entry_word img g e i
    first within =
        subst (λ (h : Geometry). entry_word (linked_add img key caller payload).image h e i ≡ entry_word img h e i) measures
        (add_words img e within key caller payload success i small)

written_words : (img : List ℕ) (e : ℕ) → e < slots (geometry_of img) → (key : Key) (caller : ℕ) (wrong : Bool) (gather : List ℕ) (filled : ℕ) (put numbers : List ℕ)
    → (bytes_written img key caller wrong gather filled put numbers).code ≡ 0
    → SameKeyWords img (bytes_written img key caller wrong gather filled put numbers).image (geometry_of img) e
written_words img e inside key caller wrong gather filled put numbers success i small =
    rw (write_image img key caller wrong gather filled put numbers success)
    (added_words key caller (geometry_of img) e inside img _ (write_added img key caller wrong gather filled put numbers success) refl i small)

module _ (img : List ℕ) (e : ℕ) (inside : e < slots (geometry_of img)) where
  line_write_words : (key : Key) (caller mode : ℕ) (text gather : List ℕ) (filled : ℕ) → (line_write img key caller mode text gather filled).code ≡ 0
      → SameKeyWords img (line_write img key caller mode text gather filled).image (geometry_of img) e
  unfolding line_write
  line_write_words key caller mode text gather filled =
      written_words img e inside key caller (ltb 1 mode) gather filled (put_all (taken_of (mode_of mode) text)) _

  line_end_words : (key : Key) (caller : ℕ) (gather : List ℕ) (filled : ℕ) → (line_end img key caller gather filled).code ≡ 0
      → SameKeyWords img (line_end img key caller gather filled).image (geometry_of img) e
  unfolding line_end
  line_end_words key caller gather filled = written_words img e inside key caller false gather filled (nuls_for img filled) []

  binary_write_words : (key : Key) (caller : ℕ) (content gather : List ℕ) (filled : ℕ) → (binary_write img key caller content gather filled).code ≡ 0
      → SameKeyWords img (binary_write img key caller content gather filled).image (geometry_of img) e
  unfolding binary_write
  binary_write_words key caller content gather filled = written_words img e inside key caller (ltb 512 (length content)) gather filled (binary_line content) _

-- each request: `there` is the file behind it, and `used` and `keyed` say the same at the measures before it
pub key_words : (r : Request) {img : List ℕ} → Consistent img → (who : Key) → (Names r who → ⊥) → (outcome r img).code ≡ 0 → (e : ℕ) → e < slots (geometry_of img)
    → FileAt (outcome r img).image who e → (Empty (outcome r img).image (geometry_of img) e → ⊥) → SameKey (key_in (entry_of (outcome r img).image (geometry_of img) e)) who
    → SameKeyWords img (outcome r img).image (geometry_of img) e
key_words (FORMAT form blocks contents uics) right who apart success e inside there used keyed = absurd (apart tt)
key_words (ALLOC key caller protect segments) {img} right who apart success e inside there used keyed =
    alloc_words img e inside who key caller protect segments apart success keyed
key_words (OPENO key caller protect) {img} right who apart success e inside there used keyed = openo_words img e inside who key caller protect apart success keyed
key_words (OPEN mode key caller) {img} right who apart success e inside there used keyed = open_words img e inside mode key caller
key_words (CLOSE key mode) {img} right who apart success e inside there used keyed = close_words img e inside key mode
key_words (DELET key caller) {img} right who apart success e inside there used keyed = delet_words img e inside key caller right success used
key_words (RENAM old name1 name2 extension protect caller) {img} right who apart success e inside there used keyed =
    renam_words img e inside who old name1 name2 extension protect caller (λ is. apart (inr is)) right success there
key_words (APPND first second caller) {img} right who apart success e inside there used keyed = appnd_words img e inside first second caller success used
key_words (LOOK key) {img} right who apart success e inside there used keyed = kept_words (geometry_of img) e (look_image img key)
key_words (KEEP key caller) {img} right who apart success e inside there used keyed = keep_words img e inside key caller
key_words (BLOCK-INPUT key caller place buffer) {img} right who apart success e inside there used keyed = kept_words (geometry_of img) e (block_in_image img key caller place buffer)
key_words (BLOCK-OUTPUT key caller place buffer) {img} right who apart success e inside there used keyed = block_words img e inside key caller place buffer success
key_words (LINKED-READ key caller place buffer) {img} right who apart success e inside there used keyed = kept_words (geometry_of img) e (linked_read_image img key caller place buffer)
key_words (LINKED-ADD key caller payload) {img} right who apart success e inside there used keyed = add_words img e inside key caller payload success
key_words (LINE-READ key caller mode position buffer) {img} right who apart success e inside there used keyed =
    kept_words (geometry_of img) e (line_read_image img key caller mode position buffer)
key_words (LINE-WRITE key caller mode text gather filled) {img} right who apart success e inside there used keyed =
    line_write_words img e inside key caller mode text gather filled success
key_words (LINE-END key caller gather filled) {img} right who apart success e inside there used keyed = line_end_words img e inside key caller gather filled success
key_words (BINARY-READ key caller mode position to_come sum buffer) {img} right who apart success e inside there used keyed =
    kept_words (geometry_of img) e (binary_read_image img key caller mode position to_come sum buffer)
key_words (BINARY-WRITE key caller content gather filled) {img} right who apart success e inside there used keyed =
    binary_write_words img e inside key caller content gather filled success
key_words (FINISH caller) {img} right who apart success e inside there used keyed =
    λ i small. finish_words right caller e inside (λ s. used (finish_gone right caller e s)) i (omega (arith, small))
key_words (OWNER block) {img} right who apart success e inside there used keyed = kept_words (geometry_of img) e (owner_image img block)
