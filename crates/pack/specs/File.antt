-- The blocks of a file: its extent, or its chain.
use Rattle.std.specs.Prelude.{ℕ, suc, zero, ◌+◌, List, [], ◌∷◌, Bool, true, false, cond, eqb}
use Rattle.words.specs.Word.{word_at}
use Rattle.pack.specs.declared.Geometry.{Geometry}
use Rattle.pack.specs.declared.Entry.{Entry}
use Rattle.pack.specs.Geometry.{block_at}

-- "In a linked file word 0 of a block is the next block, 0 at the end"
unfoldable pub link_of : List ℕ → Geometry → ℕ → ℕ
link_of img g b = word_at img (block_at g b)

-- "5 kind (1 contiguous, 2 linked)": the block behind b in a file of a kind
unfoldable pub next_of : List ℕ → Geometry → ℕ → ℕ → ℕ
next_of img g kind b = cond (eqb kind 1) (b + 1) (link_of img g b)

-- `k` blocks from b on, each the next of the one before
unfoldable pub chain : (ℕ → ℕ) → ℕ → ℕ → List ℕ
chain next zero b = []
chain next (suc k) b = b ∷ chain next k (next b)

-- what stands where the chain ends: the number behind its last block, or b where it has no block
unfoldable pub after : (ℕ → ℕ) → ℕ → ℕ → ℕ
after next zero b = b
after next (suc k) b = after next k (next b)

-- its last block, or `other` where it has no block
unfoldable pub last_of : (ℕ → ℕ) → ℕ → ℕ → ℕ → ℕ
last_of next other zero b = other
last_of next other (suc k) b = last_of next b k (next b)

-- the blocks of the file of an entry: as many as its length, from its first block on
unfoldable pub blocks_of : List ℕ → Geometry → Entry → List ℕ
blocks_of img g x = chain (next_of img g x.kind) x.length x.first.0

-- 1 where a test is true
abbrev pub one : Bool → ℕ
one true = 1
one false = 0

-- how often a number stands in a list
unfoldable pub count : ℕ → List ℕ → ℕ
count b [] = 0
count b (x ∷ xs) = one (eqb b x) + count b xs
