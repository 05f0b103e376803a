-- What a request may change of an image, and what it keeps.
use Rattle.std.specs.Prelude.{ℕ, ◌+◌, ◌/◌, ◌≤◌, ◌<◌, ◌≡◌, List, length, get_or}
use Rattle.pack.specs.declared.Geometry.{Geometry}
use Rattle.pack.specs.Geometry.{block_words, block_at, slots, entry_at}
use Rattle.pack.specs.Map.{HasMap, map_at}

-- Nothing changes but the words that may: the length is the same, and so is each byte of any other word; byte k is of word k / 2.
pub record ChangesOnly (May : ℕ → Type 0) (img img' : List ℕ) : Type 0 where
  pub long : length img' ≡ length img
  pub bytes : (k : ℕ) → (May (k / 2) → ⊥) → get_or img' k 0 ≡ get_or img k 0

-- w is one of the words `first` to `last` of entry e; one of its sixteen; a word of block b
abbrev pub InWords : Geometry → ℕ → ℕ → ℕ → ℕ → Type 0
InWords g e first last w = (entry_at g e + first ≤ w) × (w ≤ entry_at g e + last)

abbrev pub InEntry : Geometry → ℕ → ℕ → Type 0
InEntry g e w = InWords g e 0 15 w

abbrev pub InBlock : Geometry → ℕ → ℕ → Type 0
InBlock g b w = (block_at g b ≤ w) × (w < block_at g b + block_words g)

-- one number; none
abbrev pub Only : ℕ → ℕ → Type 0
Only x e = e ≡ x

abbrev pub Never : ℕ → Type 0
Never e = ⊥

-- the map's block, where there is one; the word that has the bit of block b
abbrev pub OnMap : Geometry → ℕ → Type 0
OnMap g z = HasMap g × (z ≡ g.contents + 1)

abbrev pub MapWord : Geometry → ℕ → ℕ → Type 0
MapWord g b w = HasMap g × (w ≡ map_at g + b / 16)

-- the words of the named entries and of the written blocks; a written block is a body, or one of the system behind the contents, where a form has one
pub data Within (Named Written : ℕ → Type 0) (g : Geometry) (w : ℕ) : Type 0 where
  entry : (e : ℕ) → Named e → e < slots g → InEntry g e w → Within Named Written g w
  block : (b : ℕ) → Written b → g.contents < b → InBlock g b w → Within Named Written g w

-- all but the named entries and the written blocks is the same
abbrev pub Kept : (Named Written : ℕ → Type 0) → List ℕ → List ℕ → Geometry → Type 0
Kept Named Written img img' g = ChangesOnly (Within Named Written g) img img'
