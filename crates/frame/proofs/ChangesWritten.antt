-- What is written, and that no byte of any other word changes with it: a word, words of an entry in a row, a part of the image.
use Prim.Native.Nat.{ℕ, ◌+◌, ◌*◌, ◌-◌, ◌/◌, ◌≤◌, ◌<◌}
use mathlib.Core.Path.{◌≡◌, refl, ap, subst, ◌∙◌}
use mathlib.Core.Bool.{Bool, true, false, cond}
use mathlib.Core.List.{List, [], ◌∷◌, ◌++◌}
use mathlib.Core.Logic.{◌⊎◌, inl, inr}
use native.Mathlib.Omega.{arith}
use native.Mathlib.Decide.{dec_lt, dec_le}
use lib.ListN.{length, get_or, take, drop, replicate, length-append, length-drop, get_or-append}
use lib.Seq.{get_or-take, get_or-drop, get_or-append-add, length-take-le}
use Rattle.words.specs.Word.{word_at, set_word}
use Rattle.words.proofs.Word.{length_set_word, byte_set_other}
use Rattle.pack.specs.declared.Geometry.{Geometry}
use Rattle.pack.specs.Geometry.{entry_at}
use Rattle.pack.specs.EntryWords.{set_entry_word, set_entry_words, clear_entry}
use Rattle.frame.specs.Framed.{ChangesOnly}
use Rattle.frame.proofs.EntrySame.{word_same}

-- outside of a run of bytes, given by its first byte and its length
abbrev pub Outside : ℕ → ℕ → ℕ → Type 0
Outside from size k = (k < from) ⊎ (from + size ≤ k)

-- a run of bytes put in place of as many
module _ (bytes put : List ℕ) (from : ℕ) (fits : from + length put ≤ length bytes) where
  pub replaced_length : length (take from bytes ++ (put ++ drop (from + length put) bytes)) ≡ length bytes
  replaced_length =
      omega (
        arith,
        length-append (take from bytes) (put ++ drop (from + length put) bytes),
        length-append put (drop (from + length put) bytes),
        length-take-le from bytes (omega arith),
        length-drop (from + length put) bytes,
      )

  pub replaced_other : (k : ℕ) → Outside from (length put) k → get_or (take from bytes ++ (put ++ drop (from + length put) bytes)) k 0 ≡ get_or bytes k 0
  replaced_other k (inl low) =
      get_or-append (take from bytes) (put ++ drop (from + length put) bytes) 0 k (omega (arith, low, length-take-le from bytes (omega arith)))
      ∙ get_or-take from bytes k 0 low
  replaced_other k (inr high) =
      let place : k ≡ length (take from bytes) + (length put + (k - (from + length put))) = omega (arith, length-take-le from bytes (omega arith)) in
      let back : from + length put + (k - (from + length put)) ≡ k = omega arith in
      ap (λ (i : ℕ). get_or (take from bytes ++ (put ++ drop (from + length put) bytes)) i 0) place
      ∙ get_or-append-add (take from bytes) (put ++ drop (from + length put) bytes) (length put + (k - (from + length put))) 0
      ∙ get_or-append-add put (drop (from + length put) bytes) (k - (from + length put)) 0
      ∙ get_or-drop (from + length put) bytes (k - (from + length put)) 0
      ∙ ap (λ (i : ℕ). get_or bytes i 0) back

  pub replaced_inside : (k : ℕ) → k < length put → get_or (take from bytes ++ (put ++ drop (from + length put) bytes)) (from + k) 0 ≡ get_or put k 0
  replaced_inside k inside =
      let place : from + k ≡ length (take from bytes) + k = omega (arith, length-take-le from bytes (omega arith)) in
      ap (λ (i : ℕ). get_or (take from bytes ++ (put ++ drop (from + length put) bytes)) i 0) place
      ∙ get_or-append-add (take from bytes) (put ++ drop (from + length put) bytes) k 0
      ∙ get_or-append put (drop (from + length put) bytes) 0 k inside

-- what may change less may change more
pub changes_wider : {Few May : ℕ → Type 0} {img img' : List ℕ} → ((w : ℕ) → Few w → May w) → ChangesOnly Few img img' → ChangesOnly May img img'
changes_wider wider only = record { long = only.long; bytes = λ k never. only.bytes k (λ few. never (wider (k / 2) few)) }

module _ {May : ℕ → Type 0} where
  -- a word that may not change
  pub word_kept : {img img' : List ℕ} → ChangesOnly May img img' → (w : ℕ) → (May w → ⊥) → word_at img' w ≡ word_at img w
  word_kept {img} {img'} only w never =
      let low : 2 * w / 2 ≡ w = omega arith in
      let high : (2 * w + 1) / 2 ≡ w = omega arith in
      word_same img img' w (only.bytes (2 * w) (λ may. never (subst May low may))) (only.bytes (2 * w + 1) (λ may. never (subst May high may)))

  pub changes_nothing : {img : List ℕ} → ChangesOnly May img img
  changes_nothing = record { long = refl; bytes = λ k never. refl }

  pub changes_then : {img mid img' : List ℕ} → ChangesOnly May img mid → ChangesOnly May mid img' → ChangesOnly May img img'
  changes_then first second = record { long = second.long ∙ first.long; bytes = λ k never. second.bytes k never ∙ first.bytes k never }

  pub changes_either : {img one two : List ℕ} (test : Bool) → (test ≡ true → ChangesOnly May img one) → (test ≡ false → ChangesOnly May img two)
      → ChangesOnly May img (cond test one two)
  changes_either true one two = one refl
  changes_either false one two = two refl

  pub changes_word : (img : List ℕ) (i word : ℕ) → May i → ChangesOnly May img (set_word img i word)
  changes_word img i word may =
      record {
        long = length_set_word img i word;
        bytes = λ k never.
            byte_set_other img i word k
            (λ low. let half : i ≡ k / 2 = omega (arith, low) in never (subst May half may))
            (λ high. let half : i ≡ k / 2 = omega (arith, high) in never (subst May half may));
      }

  -- words of an entry in a row, the first of them word i
  pub changes_words : (words img : List ℕ) (g : Geometry) (e i : ℕ) → ((j : ℕ) → i ≤ j → j < i + length words → May (entry_at g e + j))
      → ChangesOnly May img (set_entry_words img g e i words)
  unfolding set_entry_words
  changes_words [] img g e i may = changes_nothing
  changes_words (word ∷ more) img g e i may =
      changes_then (changes_word img (entry_at g e + i) word (may i (omega arith) (omega arith)))
      (changes_words more (set_entry_word img g e i word) g e (i + 1) (λ j low high. may j (omega arith) (omega arith)))

  pub changes_cleared : (img : List ℕ) (g : Geometry) (e : ℕ) → ((j : ℕ) → j < 16 → May (entry_at g e + j)) → ChangesOnly May img (clear_entry img g e)
  changes_cleared img g e may = changes_words (replicate 16 0) img g e 0 (λ j low high. may j (omega arith))

  -- a run of bytes
  pub changes_run : {img img' : List ℕ} (at size : ℕ) → length img' ≡ length img → ((k : ℕ) → Outside at size k → get_or img' k 0 ≡ get_or img k 0)
      → ((w : ℕ) → at ≤ 2 * w + 1 → 2 * w < at + size → May w) → ChangesOnly May img img'
  changes_run {img} {img'} at size long same may =
      record { long = long; bytes = λ k never. by k never (dec_lt k at) (dec_le (at + size) k) }
    where
      by : (k : ℕ) → (May (k / 2) → ⊥) → Dec (k < at) → Dec (at + size ≤ k) → get_or img' k 0 ≡ get_or img k 0
      by k never (yes before) d = same k (inl before)
      by k never (no not) (yes behind) = same k (inr behind)
      by k never (no not) (no neither) = absurd (never (may (k / 2) (omega (arith, not)) (omega (arith, neither))))

  -- a part of the image
  pub changes_part : (img part : List ℕ) (at : ℕ) → at + length part ≤ length img → ((w : ℕ) → at ≤ 2 * w + 1 → 2 * w < at + length part → May w)
      → ChangesOnly May img (take at img ++ (part ++ drop (at + length part) img))
  changes_part img part at fits = changes_run at (length part) (replaced_length img part at fits) (replaced_other img part at fits)
