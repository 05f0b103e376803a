-- The three words of an entry that say where its chain is: written one after another, what they keep, and what is read afterwards.
use Prim.Native.Nat.{ℕ, ◌+◌, ◌≤◌, ◌<◌}
use mathlib.Core.Path.{◌≡◌, refl, ◌∙◌}
use mathlib.Core.Bool.{cond}
use mathlib.Core.List.{List}
use native.Mathlib.Omega.{arith}
use lib.Dec.{eqb}
use lib.ListN.{length}
use borrow.Author.Tests.{eqb-false}
use Rattle.words.specs.Word.{set_word}
use Rattle.words.proofs.Word.{length_set_word}
use Rattle.pack.specs.declared.Geometry.{Geometry}
use Rattle.pack.specs.declared.Entry.{Entry}
use Rattle.pack.specs.Geometry.{slots, block_at, entry_at}
use Rattle.pack.specs.GeometrySized.{Sized}
use Rattle.pack.specs.Entry.{entry_of}
use Rattle.pack.proofs.GeometryRoom.{entry_room}
use Rattle.pack.specs.EntryWords.{set_entry_word}
use Rattle.frame.specs.Framed.{ChangesOnly, Only, Kept}
use Rattle.frame.specs.Framed.Within.{entry}
use Rattle.frame.specs.Growth.{Resized}
use Rattle.frame.proofs.ChangesWritten.{changes_then, changes_either, changes_word}
use Rattle.pack.proofs.EntryWordsWritten.{entry_set_same, entry_set_other}
use Rattle.bodies.specs.EntryChain.{resized}

module _ {May : ℕ → Type 0} where
  -- its first block, its length and its last block, and, of a file that has blocks, the link of the last
  pub changes_resized : (img : List ℕ) (g : Geometry) (e first size last : ℕ) → ((j : ℕ) → 6 ≤ j → j ≤ 8 → May (entry_at g e + j))
      → ChangesOnly May img (resized img g e first size last)
  changes_resized img g e first size last may =
      changes_then (changes_word img _ _ (may 6 (omega arith) (omega arith)))
      (changes_then (changes_word _ _ _ (may 7 (omega arith) (omega arith))) (changes_word _ _ _ (may 8 (omega arith) (omega arith))))

  pub changes_chain : (img : List ℕ) (g : Geometry) (e : ℕ) (x : Entry) (begun size end next first longer last : ℕ)
      → ((j : ℕ) → 6 ≤ j → j ≤ 8 → May (entry_at g e + j)) → (0 < x.length → May (block_at g x.last.0))
      → ChangesOnly May img
      (cond (eqb x.length 0) (resized img g e begun size end) (resized (set_word img (block_at g x.last.0) next) g e first longer last))
  changes_chain img g e x begun size end next first longer last words link =
      changes_either (eqb x.length 0) (λ none. changes_resized img g e _ _ _ words)
      (λ some. changes_then (changes_word img _ _ (link (omega (arith, eqb-false x.length 0 some)))) (changes_resized _ g e _ _ _ words))

-- three words of an entry: what is kept, and what is read afterwards
module _ (img : List ℕ) (g : Geometry) (x first size last : ℕ) (sized : Sized img g) (within : x < slots g) where
  pub resized_kept : {Written : ℕ → Type 0} → Kept (Only x) Written img (resized img g x first size last) g
  resized_kept = changes_resized img g x first size last (λ j low high. entry x refl within (omega arith, omega arith))

  pub resized_words : Resized img (resized img g x first size last) g x
  resized_words =
      record {
        words = λ i small six seven eight.
            entry_set_other (set_entry_word (set_entry_word img g x 6 first) g x 7 size) g x 8 last i eight
            ∙ (entry_set_other (set_entry_word img g x 6 first) g x 7 size i seven ∙ entry_set_other img g x 6 first i six);
      }

  once : length (set_entry_word img g x 6 first) ≡ length img
  once = length_set_word img (entry_at g x + 6) first

  twice : length (set_entry_word (set_entry_word img g x 6 first) g x 7 size) ≡ length img
  twice = length_set_word (set_entry_word img g x 6 first) (entry_at g x + 7) size ∙ once

  pub resized_first : (entry_of (resized img g x first size last) g x).first.0 ≡ first
  unfolding entry_of
  resized_first =
      entry_set_other (set_entry_word (set_entry_word img g x 6 first) g x 7 size) g x 8 last 6 (λ is. omega (arith, is))
      ∙ (entry_set_other (set_entry_word img g x 6 first) g x 7 size 6 (λ is. omega (arith, is))
      ∙ entry_set_same img g x 6 first (entry_room sized x 6 within (omega arith)))

  pub resized_size : (entry_of (resized img g x first size last) g x).length ≡ size
  unfolding entry_of
  resized_size =
      entry_set_other (set_entry_word (set_entry_word img g x 6 first) g x 7 size) g x 8 last 7 (λ is. omega (arith, is))
      ∙ entry_set_same (set_entry_word img g x 6 first) g x 7 size (omega (arith, once, entry_room sized x 7 within (omega arith)))

  pub resized_last : (entry_of (resized img g x first size last) g x).last.0 ≡ last
  unfolding entry_of
  resized_last = entry_set_same (set_entry_word (set_entry_word img g x 6 first) g x 7 size) g x 8 last (omega (arith, twice, entry_room sized x 8 within (omega arith)))
