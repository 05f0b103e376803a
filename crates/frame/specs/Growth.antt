-- Means: a linked file that a block is joined to, and two linked files that become one: what of their words and links is known afterwards,
-- whatever the order in which they were written.
use Rattle.std.specs.Prelude.{ℕ, ◌+◌, ◌<◌, ◌≡◌, List, [], ◌∷◌, ◌⊎◌}
use Rattle.pack.specs.declared.Geometry.{Geometry}
use Rattle.pack.specs.File.{link_of, chain, after, last_of, count}
use Rattle.pack.specs.Entry.{entry_word, entry_of, blocks_at, Empty}
use Rattle.pack.specs.MapSays.{MapSays, marking}
use Rattle.frame.specs.Framed.{Only, Kept}
use Rattle.frame.specs.Framing.{Either}

-- a chain of so many blocks from the first on: these blocks, 0 behind them, and the last of them (0 where there is none)
pub record EndedChain (next : ℕ → ℕ) (first size final : ℕ) (walked : List ℕ) : Type 0 where
  pub blocks : chain next size first ≡ walked
  pub end : after next size first ≡ 0
  pub last : last_of next 0 size first ≡ final

-- all words of an entry are the same but its first block, its length and its last block
pub record Resized (img img' : List ℕ) (g : Geometry) (e : ℕ) : Type 0 where
  pub words : (i : ℕ) → i < 16 → (i ≡ 6 → ⊥) → (i ≡ 7 → ⊥) → (i ≡ 8 → ⊥) → entry_word img' g e i ≡ entry_word img g e i

-- block b is joined at the end of the file of entry x
pub record Grown (Written : ℕ → Type 0) (img img' : List ℕ) (g : Geometry) (x b : ℕ) : Type 0 where
  pub kept : Kept (Only x) Written img img' g
  -- written are the block, blocks of the file and blocks of the system alone
  pub own : (z : ℕ) → Written z → (z ≡ b) ⊎ ((0 < count z (blocks_at img g x)) ⊎ (z < g.bodies.0))
  pub resized : Resized img img' g x
  pub size : (entry_of img' g x).length ≡ (entry_of img g x).length + 1
  pub first : 0 < (entry_of img g x).length → (entry_of img' g x).first.0 ≡ (entry_of img g x).first.0
  pub begun : (entry_of img g x).length ≡ 0 → (entry_of img' g x).first.0 ≡ b
  pub final : (entry_of img' g x).last.0 ≡ b
  pub links : (z : ℕ) → 0 < count z (blocks_at img g x) → (z ≡ (entry_of img g x).last.0 → ⊥) → link_of img' g z ≡ link_of img g z
  pub joint : 0 < (entry_of img g x).length → link_of img' g (entry_of img g x).last.0 ≡ b
  pub end : link_of img' g b ≡ 0
  -- and the map has its bit
  pub map : MapSays img' g (λ z. marking img g z + count z (b ∷ []))

-- the chain of entry y is joined to that of entry x, and entry y is emptied; either may have no block
pub record Joined (Written : ℕ → Type 0) (img img' : List ℕ) (g : Geometry) (x y : ℕ) : Type 0 where
  pub kept : Kept (Either x y) Written img img' g
  -- written are blocks of the two files alone
  pub own : (z : ℕ) → Written z → (0 < count z (blocks_at img g x)) ⊎ (0 < count z (blocks_at img g y))
  pub emptied : Empty img' g y
  pub resized : Resized img img' g x
  pub size : (entry_of img' g x).length ≡ (entry_of img g x).length + (entry_of img g y).length
  pub first : 0 < (entry_of img g x).length → (entry_of img' g x).first.0 ≡ (entry_of img g x).first.0
  pub begun : (entry_of img g x).length ≡ 0 → (entry_of img' g x).first.0 ≡ (entry_of img g y).first.0
  pub final : 0 < (entry_of img g y).length → (entry_of img' g x).last.0 ≡ (entry_of img g y).last.0
  pub ended : (entry_of img g y).length ≡ 0 → (entry_of img' g x).last.0 ≡ (entry_of img g x).last.0
  pub links : (z : ℕ) → 0 < count z (blocks_at img g x) → (z ≡ (entry_of img g x).last.0 → ⊥) → link_of img' g z ≡ link_of img g z
  pub second : (z : ℕ) → 0 < count z (blocks_at img g y) → link_of img' g z ≡ link_of img g z
  pub joint : 0 < (entry_of img g x).length → 0 < (entry_of img g y).length → link_of img' g (entry_of img g x).last.0 ≡ (entry_of img g y).first.0
  pub alone : 0 < (entry_of img g x).length → (entry_of img g y).length ≡ 0 → link_of img' g (entry_of img g x).last.0 ≡ link_of img g (entry_of img g x).last.0
