-- What the steps that write come to: the block with link 0 and its payload, and the file with a block more.
use Prim.Native.Nat.{ℕ, ◌+◌}
use mathlib.Core.Path.{◌≡◌, ap, ◌∙◌}
use mathlib.Core.List.{List}
use lib.ListN.{length}
use borrow.Author.Tests.{eq-eqb, ne_eqb}
use Rattle.words.specs.Word.{set_word}
use Rattle.pack.specs.declared.Geometry.{Geometry}
use Rattle.pack.specs.declared.Entry.{Entry}
use Rattle.pack.specs.Geometry.{block_at}
use Rattle.pack.specs.Entry.{entry_of}
use Rattle.bodies.specs.BlockBytes.{payload_start, with_part}
use Rattle.bodies.specs.EntryChain.{resized}
use Rattle.adding.specs.LinkedAdd.{block_with, added}

pub block_with_by : (img : List ℕ) (g : Geometry) (b : ℕ) (payload one two : List ℕ) → one ≡ set_word img (block_at g b) 0
    → two ≡ with_part one (payload_start g b) payload → two ≡ block_with img g b payload
unfolding block_with
block_with_by img g b payload one two a c = c ∙ ap (λ (s : List ℕ). with_part s (payload_start g b) payload) a

module _ (img : List ℕ) (g : Geometry) (e : ℕ) (x : Entry) (b : ℕ) (payload : List ℕ) where
  pub added_begun : x.length ≡ 0 → resized (block_with img g b payload) g e b (x.length + 1) b ≡ added img g e x b payload
  unfolding added
  added_begun none = rw (eq-eqb x.length 0 none)

  pub added_continued : (x.length ≡ 0 → ⊥)
      → resized (set_word (block_with img g b payload) (block_at g x.last.0) b) g e x.first.0 (x.length + 1) b ≡ added img g e x b payload
  unfolding added
  added_continued some = rw (ne_eqb x.length 0 some)

  module _ (is : x ≡ entry_of img g e) where
    pub begun_by : x.length ≡ 0 → (one two : List ℕ) → one ≡ block_with img g b payload → two ≡ resized one g e b (x.length + 1) b
        → two ≡ added img g e (entry_of img g e) b payload
    begun_by none one two a c =
        c ∙ ap (λ (s : List ℕ). resized s g e b (x.length + 1) b) a ∙ added_begun none ∙ ap (λ (y : Entry). added img g e y b payload) is

    pub continued_by : (x.length ≡ 0 → ⊥) → (one two three : List ℕ) → one ≡ block_with img g b payload → two ≡ set_word one (block_at g x.last.0) b
        → three ≡ resized two g e x.first.0 (x.length + 1) b → three ≡ added img g e (entry_of img g e) b payload
    continued_by some one two three a c d =
        d ∙ ap (λ (s : List ℕ). resized s g e x.first.0 (x.length + 1) b) (c ∙ ap (λ (s : List ℕ). set_word s (block_at g x.last.0) b) a)
        ∙ added_continued some ∙ ap (λ (y : Entry). added img g e y b payload) is
