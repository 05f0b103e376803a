-- Means: what the stage of linked add answers, and what the adding of a block to a file counts on.
use Rattle.std.specs.Prelude.{ℕ, ◌+◌, ◌≤◌, ◌<◌, ◌≡◌, Bool, List, length, Result, Ok, Err}
use Rattle.answers.specs.declared.Refusal.{Refusal}
use Rattle.answers.specs.Refusals.{code_of}
use Rattle.pack.specs.declared.BlockNo.{BlockNo}
use Rattle.pack.specs.declared.Geometry.{Geometry}
use Rattle.pack.specs.declared.Key.{Key}
use Rattle.pack.specs.GeometrySized.{Sized}
use Rattle.pack.specs.Geometry.{geometry_of, payload_bytes, slots}
use Rattle.pack.specs.Entry.{entry_of}
use Rattle.pack.specs.Consistent.{Consistent}
use Rattle.pack.specs.Owner.{free_count}
use Rattle.asking.specs.AskedStage.{Asked, File, Refused, stage_of}
use Rattle.room.specs.RoomMap.{Says}
use Rattle.adding.specs.declared.linked_add.Adding.{Adding as Chosen}
use Rattle.adding.specs.LinkedAddRows.{linked_add_rows}
use Rattle.adding.specs.LinkedAdd.{added_block}

-- the pack's measures, the entry of the file, and the block that is added to it; or a refusal's code
pub data Adding : Type 0 where
  Block : Geometry → ℕ → BlockNo → Adding
  Denied : ℕ → Adding

-- the file's measures and entry with the block that is added to it, or the code of the first row that refuses
abbrev pub block_in : ℕ → Asked → Adding
block_in b (File g e x) = Block g e (record { 0 = b })
block_in b (Refused code) = Denied code

unfoldable pub adding_of : List ℕ → Key → ℕ → Bool → Adding
adding_of img key caller wrong = block_in (added_block img) (stage_of (linked_add_rows img key caller wrong 1) img key)

-- the stage's answer as the code gives it
abbrev pub adding_in : Result Chosen Refusal → Adding
adding_in (Ok adding) = Block adding.file.geometry adding.file.number adding.block
adding_in (Err refusal) = Denied (code_of refusal)

-- block and payload are of the pack's measures, the length can grow, and the last block of a file that has blocks is a body
pub record Addable (img : List ℕ) (g : Geometry) (e b : ℕ) (payload : List ℕ) : Type 0 where
  pub sized : Sized img g
  pub entry : e < slots g
  pub body : g.bodies.0 ≤ b
  pub below : b < g.blocks
  pub whole : length payload ≡ payload_bytes g
  pub fits : (entry_of img g e).length + 1 < 65536
  pub last : 0 < (entry_of img g e).length → (g.bodies.0 ≤ (entry_of img g e).last.0) × ((entry_of img g e).last.0 < g.blocks)

-- the file is a linked one of a consistent image, a block is free, and the map says how often each block is held
pub record Ready (img map : List ℕ) (g : Geometry) (e : ℕ) (payload : List ℕ) : Type 0 where
  pub right : Consistent img
  pub measures : geometry_of img ≡ g
  pub entry : e < slots g
  pub linked : (entry_of img g e).kind ≡ 2
  pub whole : length payload ≡ payload_bytes g
  pub free : 0 < free_count img
  pub long : g.blocks ≤ length map
  pub says : Says map img
