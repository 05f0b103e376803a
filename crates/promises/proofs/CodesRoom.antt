-- A request for room with nothing else against it is refused exactly if no such room is free.
use Prim.Native.Nat.{ℕ, ◌≤◌, ◌<◌}
use mathlib.Core.Path.{◌≡◌}
use mathlib.Core.Logic.{◌↔◌, ◌⊎◌, ⊎_elim}
use mathlib.Core.List.{List}
use native.Mathlib.Omega.{arith}
use Rattle.pack.specs.declared.Key.{Key}
use Rattle.pack.specs.Owner.{FreeBlock, free_count}
use Rattle.creation.specs.Rounding.{length_for}
use Rattle.creation.specs.Alloc.{alloc}
use Rattle.room.specs.Room.{FreeRun}
use Rattle.adding.specs.LinkedAdd.{linked_add}
use Rattle.lines.specs.LineWriting.{line_write, line_end}
use Rattle.binary.specs.BinaryWriting.{binary_write}
use Rattle.requests.specs.Request.{ALLOC, LINKED-ADD, LINE-WRITE, LINE-END, BINARY-WRITE}
use Rattle.promises.specs.GivenWhen.{GivesCode}
use Rattle.promises.specs.Codes.{CreatingCases, AddingCases, OtherPayload, OtherGather, NoLineMode, full_blocks, LongerLine, full_binary}
use Rattle.promises.proofs.GivenWhen.{last_given}
use Rattle.promises.proofs.Codes.{code_given, cases_ordered}

module _ (img : List ℕ) (key : Key) (caller protect segments : ℕ) (clear : GivesCode (CreatingCases img key caller protect (segments ≡ 0)) 0) where
  room : ((alloc img key caller protect segments).code ≡ 0o42 ↔ ((s : ℕ) → FreeRun img (length_for img segments) s → ⊥))
      × ((((s : ℕ) → FreeRun img (length_for img segments) s → ⊥) → ⊥) → (alloc img key caller protect segments).code ≡ 0)
  room = last_given _ 0o42 (CreatingCases img key caller protect (segments ≡ 0))
      (cases_ordered (ALLOC key caller protect segments) img) (code_given (ALLOC key caller protect segments) img) clear

  pub room_refused : (alloc img key caller protect segments).code ≡ 0o42 ↔ ((s : ℕ) → FreeRun img (length_for img segments) s → ⊥)
  room_refused = room.0

  pub room_given : (s : ℕ) → FreeRun img (length_for img segments) s → (alloc img key caller protect segments).code ≡ 0
  room_given s free = room.1 (λ none. none s free)

module _ (img : List ℕ) (key : Key) (caller : ℕ) (payload : List ℕ) (clear : GivesCode (AddingCases img key caller (OtherPayload img payload)) 0) where
  block : ((linked_add img key caller payload).code ≡ 0o42 ↔ ((b : ℕ) → FreeBlock img b → ⊥))
      × ((((b : ℕ) → FreeBlock img b → ⊥) → ⊥) → (linked_add img key caller payload).code ≡ 0)
  block =
      last_given _ 0o42 (AddingCases img key caller (OtherPayload img payload))
      (cases_ordered (LINKED-ADD key caller payload) img) (code_given (LINKED-ADD key caller payload) img) clear

  pub block_refused : (linked_add img key caller payload).code ≡ 0o42 ↔ ((b : ℕ) → FreeBlock img b → ⊥)
  block_refused = block.0

  pub block_given : (b : ℕ) → FreeBlock img b → (linked_add img key caller payload).code ≡ 0
  block_given b free = block.1 (λ none. none b free)

-- lines written: as many blocks are needed as become full
module _ (img : List ℕ) (key : Key) (caller mode : ℕ) (text gather : List ℕ) (filled : ℕ)
    (clear : GivesCode (AddingCases img key caller (OtherGather img gather filled ⊎ NoLineMode mode)) 0) where
  lines : ((line_write img key caller mode text gather filled).code ≡ 0o42 ↔ free_count img < full_blocks img filled mode text)
      × ((free_count img < full_blocks img filled mode text → ⊥) → (line_write img key caller mode text gather filled).code ≡ 0)
  lines =
      last_given _ 0o42 (AddingCases img key caller (OtherGather img gather filled ⊎ NoLineMode mode))
      (cases_ordered (LINE-WRITE key caller mode text gather filled) img) (code_given (LINE-WRITE key caller mode text gather filled) img) clear

  pub lines_refused : (line_write img key caller mode text gather filled).code ≡ 0o42 ↔ free_count img < full_blocks img filled mode text
  lines_refused = lines.0

  pub lines_given : full_blocks img filled mode text ≤ free_count img → (line_write img key caller mode text gather filled).code ≡ 0
  lines_given enough = lines.1 (λ few. omega (arith, few, enough))

-- a formatted binary line likewise
module _ (img : List ℕ) (key : Key) (caller : ℕ) (content gather : List ℕ) (filled : ℕ)
    (clear : GivesCode (AddingCases img key caller (OtherGather img gather filled ⊎ LongerLine content)) 0) where
  binary : ((binary_write img key caller content gather filled).code ≡ 0o42 ↔ free_count img < full_binary img filled content)
      × ((free_count img < full_binary img filled content → ⊥) → (binary_write img key caller content gather filled).code ≡ 0)
  binary =
      last_given _ 0o42 (AddingCases img key caller (OtherGather img gather filled ⊎ LongerLine content))
      (cases_ordered (BINARY-WRITE key caller content gather filled) img) (code_given (BINARY-WRITE key caller content gather filled) img) clear

  pub binary_refused : (binary_write img key caller content gather filled).code ≡ 0o42 ↔ free_count img < full_binary img filled content
  binary_refused = binary.0

  pub binary_given : full_binary img filled content ≤ free_count img → (binary_write img key caller content gather filled).code ≡ 0
  binary_given enough = binary.1 (λ few. omega (arith, few, enough))

-- the ending call: one block is needed, or at 0 none
module _ (img : List ℕ) (key : Key) (caller : ℕ) (gather : List ℕ) (filled : ℕ) (clear : GivesCode (AddingCases img key caller (OtherGather img gather filled)) 0) where
  end : ((line_end img key caller gather filled).code ≡ 0o42 ↔ ((0 < filled) × ((b : ℕ) → FreeBlock img b → ⊥)))
      × (((0 < filled) × ((b : ℕ) → FreeBlock img b → ⊥) → ⊥) → (line_end img key caller gather filled).code ≡ 0)
  end =
      last_given _ 0o42 (AddingCases img key caller (OtherGather img gather filled))
      (cases_ordered (LINE-END key caller gather filled) img) (code_given (LINE-END key caller gather filled) img) clear

  pub ending_refused : (line_end img key caller gather filled).code ≡ 0o42 ↔ ((0 < filled) × ((b : ℕ) → FreeBlock img b → ⊥))
  ending_refused = end.0

  pub ending_given : (filled ≡ 0) ⊎ ((b : ℕ) × FreeBlock img b) → (line_end img key caller gather filled).code ≡ 0
  ending_given enough = end.1 (λ none. ⊎_elim (λ zero. omega (arith, none.0, zero)) (λ free. none.1 free.0 free.1) enough)
