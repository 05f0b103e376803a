-- The writing of a joined chain: what each of its three cases comes to.
use Prim.Native.Nat.{ℕ, ◌+◌}
use mathlib.Core.Path.{◌≡◌, ap, ◌∙◌}
use mathlib.Core.List.{List}
use borrow.Author.Tests.{eq-eqb, ne_eqb}
use Rattle.words.specs.Word.{set_word}
use Rattle.pack.specs.declared.Geometry.{Geometry}
use Rattle.pack.specs.declared.Entry.{Entry}
use Rattle.pack.specs.Geometry.{block_at}
use Rattle.bodies.specs.EntryChain.{resized}
use Rattle.appending.specs.Appnd.{chain_joined}

module _ (img : List ℕ) (g : Geometry) (e : ℕ) (x y : Entry) where
  pub joined_nothing : y.length ≡ 0 → img ≡ chain_joined img g e x y
  unfolding chain_joined
  joined_nothing none = rw (eq-eqb y.length 0 none)

  module _ (some : y.length ≡ 0 → ⊥) where
    pub joined_whole : x.length ≡ 0 → resized img g e y.first.0 y.length y.last.0 ≡ chain_joined img g e x y
    unfolding chain_joined
    joined_whole none = rw (ne_eqb y.length 0 some, eq-eqb x.length 0 none)

    pub joined_linked : (x.length ≡ 0 → ⊥)
        → resized (set_word img (block_at g x.last.0) y.first.0) g e x.first.0 (x.length + y.length) y.last.0 ≡ chain_joined img g e x y
    unfolding chain_joined
    joined_linked both = rw (ne_eqb y.length 0 some, ne_eqb x.length 0 both)

    pub joined_by : (x.length ≡ 0 → ⊥) → (one two : List ℕ) → one ≡ set_word img (block_at g x.last.0) y.first.0
        → two ≡ resized one g e x.first.0 (x.length + y.length) y.last.0 → two ≡ chain_joined img g e x y
    joined_by both one two a b = b ∙ (ap (λ (s : List ℕ). resized s g e x.first.0 (x.length + y.length) y.last.0) a ∙ joined_linked both)
