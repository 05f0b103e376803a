-- Several blocks added to a file.
use Rattle.std.specs.Prelude.{ℕ, ◌≡◌, List, [], ◌∷◌}
use Rattle.pack.specs.declared.Key.{Key}
use Rattle.adding.specs.LinkedAdd.{added_block, linked_add}

-- "adds full blocks": the image that linked adds of these payloads leave, in order
unfoldable pub added_all : List ℕ → Key → ℕ → List (List ℕ) → List ℕ
added_all img key caller [] = img
added_all img key caller (payload ∷ more) = added_all (linked_add img key caller payload).image key caller more

-- the blocks that they take, in order
unfoldable pub taken_blocks : List ℕ → Key → ℕ → List (List ℕ) → List ℕ
taken_blocks img key caller [] = []
taken_blocks img key caller (payload ∷ more) = added_block img ∷ taken_blocks (linked_add img key caller payload).image key caller more

-- none of these linked adds is refused
pub data EachAdded (key : Key) (caller : ℕ) : List ℕ → List (List ℕ) → Type 0 where
  none : {img : List ℕ} → EachAdded key caller img []
  also : {img payload : List ℕ} {more : List (List ℕ)} → (linked_add img key caller payload).code ≡ 0
      → EachAdded key caller (linked_add img key caller payload).image more → EachAdded key caller img (payload ∷ more)
