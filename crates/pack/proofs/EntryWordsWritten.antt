-- The words of an entry written one after another: how the code's writes go together, and what is read afterwards.
use Prim.Native.Nat.{ℕ, zero, suc, ◌+◌, ◌*◌, ◌-◌, ◌≤◌, ◌<◌}
use mathlib.Core.Path.{◌≡◌, refl, sym, ap, ◌∙◌}
use mathlib.Core.List.{List, [], ◌∷◌}
use native.Mathlib.Omega.{arith}
use native.Mathlib.Decide.{ℕ_discrete}
use native.Mathlib.Numerals.{add-one}
use lib.ListN.{length, get_or, drop, replicate, get_or-replicate, drop_of_length-le}
use lib.Seq.{drop-cons}
use Rattle.words.specs.Word.{set_word}
use Rattle.words.proofs.Word.{length_set_word, word_set_same, word_set_other}
use Rattle.pack.specs.declared.Geometry.{Geometry}
use Rattle.pack.specs.declared.Entry.{Entry}
use Rattle.pack.specs.Geometry.{block_words, slots, entry_at}
use Rattle.pack.specs.GeometrySized.{Sized}
use Rattle.pack.specs.Entry.{entry_word, entry_of, Empty}
use Rattle.pack.specs.EntryFields.{WordFields, Words, end, ◌then◌, SixteenWords}
use Rattle.pack.specs.EntryWords.{set_entry_word, set_entry_words, clear_entry, words_of}
use Rattle.pack.proofs.GeometryRoom.{entry_room, sized_same}
use Rattle.pack.proofs.EntryRead.{entry_is}

-- one word
module _ (img : List ℕ) (g : Geometry) (x i word : ℕ) where
  pub entry_set_same : 2 * (entry_at g x + i) + 1 < length img → entry_word (set_word img (entry_at g x + i) word) g x i ≡ word
  unfolding entry_word
  entry_set_same inside = word_set_same img (entry_at g x + i) word inside

  pub entry_set_other : (j : ℕ) → (j ≡ i → ⊥) → entry_word (set_word img (entry_at g x + i) word) g x j ≡ entry_word img g x j
  unfolding entry_word
  entry_set_other j other = word_set_other img (entry_at g x + i) (entry_at g x + j) word (λ is. other (omega (arith, is)))

-- at its place, by the words of a block as they were read
pub set_at : (img img' : List ℕ) (g : Geometry) (e i word : ℕ) {words : ℕ} → words ≡ block_words g → img' ≡ set_word img (words + 16 * e + i) word
    → img' ≡ set_entry_word img g e i word
set_at img img' g e i word size is = rw size at is

-- words one after another: what is left to write
pub words_step : (img : List ℕ) (g : Geometry) (e i : ℕ) (words : List ℕ) → i < length words → (img' : List ℕ) → img' ≡ set_entry_word img g e i (get_or words i 0)
    → set_entry_words img g e i (drop i words) ≡ set_entry_words img' g e (i + 1) (drop (i + 1) words)
unfolding set_entry_words
words_step img g e i words inside img' is =
    rw (drop-cons words i 0 inside, is)
    (ap (λ (k : ℕ). set_entry_words (set_entry_word img g e i (get_or words i 0)) g e (i + 1) (drop k words)) (sym (add-one i)))

pub words_end : (img : List ℕ) (g : Geometry) (e i : ℕ) (words : List ℕ) → length words ≤ i → set_entry_words img g e i (drop i words) ≡ img
unfolding set_entry_words
words_end img g e i words all = rw (drop_of_length-le words all)

pub word_small : {words : List ℕ} → Words words → (i : ℕ) → get_or words i 0 < 65536
word_small end i = omega arith
word_small (small then more) zero = small
word_small (small then more) (suc i) = word_small more i

-- the words of an empty entry, and of one in use
zero_words : (count : ℕ) → Words (replicate count 0)
zero_words zero = end
zero_words (suc count) = let small : 0 < 65536 = omega arith in small then zero_words count

pub sixteen_zeros : SixteenWords (replicate 16 0)
sixteen_zeros = record { long = refl; small = zero_words 16 }

pub sixteen_of : {x : Entry} → WordFields x → SixteenWords (words_of x)
sixteen_of f =
    record {
      long = refl;
      small =
          f.name1 then f.name2 then f.extension then f.uic then f.protect then f.kind
          then f.first then f.length then f.last then f.writer then f.readers then zero_words 5;
    }

-- words before those written are as they were
words_before : (words img : List ℕ) (g : Geometry) (e i j : ℕ) → j < i → entry_word (set_entry_words img g e i words) g e j ≡ entry_word img g e j
unfolding set_entry_words
words_before [] img g e i j before = refl
words_before (word ∷ more) img g e i j before =
    words_before more (set_entry_word img g e i word) g e (i + 1) j (omega arith)
    ∙ entry_set_other img g e i word j (λ is. omega (arith, is))

-- and so are the words behind them
pub words_behind : (words img : List ℕ) (g : Geometry) (e i j : ℕ) → i + length words ≤ j → entry_word (set_entry_words img g e i words) g e j ≡ entry_word img g e j
unfolding set_entry_words
words_behind [] img g e i j behind = refl
words_behind (word ∷ more) img g e i j behind =
    words_behind more (set_entry_word img g e i word) g e (i + 1) j (omega arith)
    ∙ entry_set_other img g e i word j (λ is. omega (arith, is))

pub words_read : (words img : List ℕ) (g : Geometry) (e i j : ℕ) → Sized img g → e < slots g → i + length words ≤ 16 → i ≤ j → j < i + length words
    → entry_word (set_entry_words img g e i words) g e j ≡ get_or words (j - i) 0
unfolding set_entry_words
words_read [] img g e i j sized within fits low high = absurd (omega arith)
words_read (word ∷ more) img g e i j sized within fits low high = by (ℕ_discrete i j)
    (words_read more (set_entry_word img g e i word) g e (i + 1) j (sized_same sized (length_set_word img (entry_at g e + i) word)) within (omega arith))
  where
    by : Dec (i ≡ j)
        → (i + 1 ≤ j → j < i + 1 + length more → entry_word (set_entry_words (set_entry_word img g e i word) g e (i + 1) more) g e j ≡ get_or more (j - (i + 1)) 0)
        → entry_word (set_entry_words (set_entry_word img g e i word) g e (i + 1) more) g e j ≡ get_or (word ∷ more) (j - i) 0
    by (yes is) later =
        let none_between : j - i ≡ 0 = omega arith in
        words_before more (set_entry_word img g e i word) g e (i + 1) j (omega arith)
        ∙ ap (entry_word (set_entry_word img g e i word) g e) (sym is)
        ∙ entry_set_same img g e i word (entry_room sized e i within (omega arith))
        ∙ ap (λ (k : ℕ). get_or (word ∷ more) k 0) (sym none_between)
    by (no other) later =
        let next : j - i ≡ suc (j - (i + 1)) = omega (arith, other) in
        later (omega (arith, other)) (omega arith) ∙ ap (λ (k : ℕ). get_or (word ∷ more) k 0) (sym next)

-- the entry reads as it was given
module _ (img : List ℕ) (g : Geometry) (e : ℕ) (x : Entry) (sized : Sized img g) (within : e < slots g) where
  pub written_word : (i : ℕ) → i < 16 → entry_word (set_entry_words img g e 0 (words_of x)) g e i ≡ get_or (words_of x) i 0
  written_word i small =
      let from : i - 0 ≡ i = omega arith in
      words_read (words_of x) img g e 0 i sized within (omega arith) (omega arith) (omega arith) ∙ ap (λ (k : ℕ). get_or (words_of x) k 0) from

  pub written_entry : entry_of (set_entry_words img g e 0 (words_of x)) g e ≡ x
  written_entry =
      sym (entry_is (set_entry_words img g e 0 (words_of x)) g e x
      (sym (written_word 0 (omega arith))) (sym (written_word 1 (omega arith))) (sym (written_word 2 (omega arith)))
      (sym (written_word 3 (omega arith))) (sym (written_word 4 (omega arith))) (sym (written_word 5 (omega arith)))
      (sym (written_word 6 (omega arith))) (sym (written_word 7 (omega arith))) (sym (written_word 8 (omega arith)))
      (sym (written_word 9 (omega arith))) (sym (written_word 10 (omega arith))))

-- a cleared entry is empty
pub clear_empty : (g : Geometry) (y : ℕ) (img : List ℕ) → Sized img g → y < slots g → Empty (clear_entry img g y) g y
clear_empty g y img sized within =
    record {
      zero = λ i small.
          words_read (replicate 16 0) img g y 0 i sized within (omega arith) (omega arith) (omega arith) ∙ get_or-replicate 16 (i - 0) 0 0 (omega arith);
    }
