-- Gathering: bytes are laid one after another in a buffer of one payload, and each time it is full a block is due. What the bytes are does not matter here.
use Rattle.std.specs.Prelude.{ℕ, ◌+◌, cond, List, [], ◌∷◌, ◌++◌, ◌≡◌, eqb, length, set}

-- "Writing gathers a block's payload in a lent 510-byte buffer, whose filled count of 0 to 509 is passed in and given back, and adds full blocks":
-- what the buffer holds, the filled count, and the payloads that became full, in order
pub record Gathered : Type 0 where
  pub buffer : List ℕ
  pub filled : ℕ
  pub full : List (List ℕ)

-- one byte more, where a payload has `size` bytes
unfoldable pub gather_one : ℕ → Gathered → ℕ → Gathered
gather_one size g x =
    cond (eqb (g.filled + 1) size)
    (record { buffer = set g.buffer g.filled x; filled = 0; full = g.full ++ (set g.buffer g.filled x ∷ []) })
    (record { buffer = set g.buffer g.filled x; filled = g.filled + 1; full = g.full })

-- bytes, one after another
unfoldable pub gather_all : ℕ → Gathered → List ℕ → Gathered
gather_all size g [] = g
gather_all size g (x ∷ bytes) = gather_all size (gather_one size g x) bytes

-- from a buffer that is filled so far, with no block due yet
abbrev pub gathered : ℕ → List ℕ → ℕ → List ℕ → Gathered
gathered size buffer filled bytes = gather_all size (record { buffer = buffer; filled = filled; full = [] }) bytes

-- each of the payloads has `size` bytes
pub data Whole (size : ℕ) : List (List ℕ) → Type 0 where
  none : Whole size []
  also : {payload : List ℕ} {more : List (List ℕ)} → length payload ≡ size → Whole size more → Whole size (payload ∷ more)

-- the last of the payloads, or `other` where there is none
unfoldable pub last_or : List ℕ → List (List ℕ) → List ℕ
last_or other [] = other
last_or other (payload ∷ more) = last_or payload more
