-- A step from block to block, and the length of a chain.
use Prim.Native.Nat.{ℕ, ◌+◌, ◌*◌, suc, zero}
use mathlib.Core.Path.{◌≡◌, refl, ap}
use mathlib.Core.List.{List}
use borrow.Author.Tests.{eq-eqb, ne_eqb}
use lib.ListN.{length}
use Rattle.words.specs.Word.{word_at}
use Rattle.pack.specs.declared.Geometry.{Geometry}
use Rattle.pack.specs.File.{link_of, next_of, chain}
use Rattle.pack.specs.Geometry.{block_words}

-- the block behind another one, by the kind of the file
pub next_contiguous : (img : List ℕ) (g : Geometry) (kind b : ℕ) → kind ≡ 1 → next_of img g kind b ≡ b + 1
unfolding next_of
next_contiguous img g kind b is = simp (eq-eqb kind 1 is)

pub next_linked : (img : List ℕ) (g : Geometry) (kind b link : ℕ) {words : ℕ} → (kind ≡ 1 → ⊥) → words ≡ block_words g → link ≡ word_at img (b * words)
    → link ≡ next_of img g kind b
unfolding next_of link_of
next_linked img g kind b link other size is = rw (ne_eqb kind 1 other) (rw size at is)

pub chain_length : (next : ℕ → ℕ) (k b : ℕ) → length (chain next k b) ≡ k
unfolding chain
chain_length next zero b = refl
chain_length next (suc k) b = ap suc (chain_length next k (next b))
