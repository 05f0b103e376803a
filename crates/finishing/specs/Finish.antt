-- Finish, document 02 §12: "Operators end the day with FInish, which removes their scratch files."
use Rattle.std.specs.Prelude.{ℕ, ◌+◌, ◌/◌, ◌%◌, ◌≤◌, ◌<◌, ◌≡◌, List, [], ◌∷◌, length}
use Rattle.pack.specs.declared.Key.{Key}
use Rattle.pack.specs.Geometry.{geometry_of, slots}
use Rattle.pack.specs.Key.{key_in}
use Rattle.pack.specs.Entry.{entry_of, Empty}
use Rattle.asking.specs.Outcome.{Outcome, settled}
use Rattle.asking.specs.Opens.{opens}
use Rattle.directory.specs.Delet.{delet}
use Rattle.finishing.specs.FinishRows.{finish_rows}
use Rattle.finishing.specs.ScratchTest.{scratch_keys}

-- "every file of the caller's UIC that has bit 7 clear, is not open, and that DELET would allow": entry e has one
pub record Scratch (img : List ℕ) (caller e : ℕ) : Type 0 where
  pub inside : e < slots (geometry_of img)
  pub file : Empty img (geometry_of img) e → ⊥
  pub own : (entry_of img (geometry_of img) e).uic ≡ caller
  pub unkept : ((entry_of img (geometry_of img) e).protect / 128) % 2 ≡ 0
  pub closed : opens (entry_of img (geometry_of img) e) ≡ 0
  pub allowed : (delet img (key_in (entry_of img (geometry_of img) e)) caller).code ≡ 0

-- "in stored order": from entry e on, these are the keys of those files, and there are no others
pub data ScratchFrom (img : List ℕ) (caller : ℕ) : ℕ → List Key → Type 0 where
  end : {e : ℕ} → slots (geometry_of img) ≤ e → ScratchFrom img caller e []
  here : {e : ℕ} {more : List Key} → Scratch img caller e → ScratchFrom img caller (e + 1) more
      → ScratchFrom img caller e (key_in (entry_of img (geometry_of img) e) ∷ more)
  other : {e : ℕ} {keys : List Key} → e < slots (geometry_of img) → (Scratch img caller e → ⊥) → ScratchFrom img caller (e + 1) keys
      → ScratchFrom img caller e keys

-- "The image must be the one those DELETs leave"
unfoldable pub deleted_all : List ℕ → ℕ → List Key → List ℕ
deleted_all img caller [] = img
deleted_all img caller (key ∷ more) = deleted_all (delet img key caller).image caller more

-- none of those DELETs is refused
pub data EachDeleted (caller : ℕ) : List ℕ → List Key → Type 0 where
  none : {img : List ℕ} → EachDeleted caller img []
  also : {img : List ℕ} {key : Key} {more : List Key} → (delet img key caller).code ≡ 0 → EachDeleted caller (delet img key caller).image more
      → EachDeleted caller img (key ∷ more)

-- "Delete every file .., in stored order, and return how many." Of a consistent image the keys are those of `ScratchFrom` from entry 0 on, and no others
-- (`keys_listed`, `keys_single`), and each DELET is done: `finish_deletes`.
unfoldable pub finish : List ℕ → ℕ → Outcome
finish img caller =
    settled (finish_rows img) img []
    (record { code = 0; numbers = length (scratch_keys img caller) ∷ []; image = deleted_all img caller (scratch_keys img caller); buffer = [] })
