-- Means: bytes laid one after another in a gather buffer on their way into a file: what a byte counts on and leaves, and what the bytes still to lay come to.
use Rattle.std.specs.Prelude.{ℕ, ◌+◌, ◌≤◌, ◌<◌, ◌≡◌, false, List, ◌++◌, length, set}
use Rattle.answers.specs.Refusals.{first_of}
use Rattle.pack.specs.declared.Geometry.{Geometry}
use Rattle.pack.specs.declared.BlockNo.{BlockNo}
use Rattle.pack.specs.declared.Key.{Key}
use Rattle.pack.specs.Geometry.{geometry_of, payload_bytes}
use Rattle.pack.specs.Entry.{entry_of}
use Rattle.asking.specs.Asked.{entry_no}
use Rattle.room.specs.RoomMap.{Says, NoneFrom}
use Rattle.adding.specs.LinkedAddRows.{linked_add_rows}
use Rattle.adding.specs.LinkedAdd.{added_block, enlarged_by}
use Rattle.adding.specs.LinkedAddStage.{Ready}
use Rattle.stream.specs.declared.Filling.{Filling}
use Rattle.stream.specs.Gather.{gathered}
use Rattle.stream.specs.AddedAll.{added_all}

-- there is room for the byte, and where it fills the buffer a block can be added
pub record Layable (img map : List ℕ) (g : Geometry) (e : ℕ) (gather : List ℕ) (at : Filling) (byte : ℕ) : Type 0 where
  pub room : at.filled < length gather
  pub ready : at.filled + 1 ≡ length gather → Ready img map g e (set gather at.filled byte) × NoneFrom map g at.from.0

-- the byte laid, `gather` being the buffer with it: one more is filled, or a block was added
pub data LaidByte (img map : List ℕ) (g : Geometry) (e : ℕ) (at : Filling) (gather : List ℕ) : List ℕ → List ℕ → Filling → Type 0 where
  within : (at.filled + 1 ≡ length gather → ⊥) → LaidByte img map g e at gather img map (record { filled = at.filled + 1; from = at.from })
  full : {img' map' : List ℕ} {b : BlockNo} → at.filled + 1 ≡ length gather → b.0 ≡ added_block img
      → img' ≡ enlarged_by img g e (entry_of img g e) (added_block img) gather → length map' ≡ length map → Says map' img' → NoneFrom map' g b.0
      → LaidByte img map g e at gather img' map' (record { filled = 0; from = b })

-- so many blocks are free as the bytes still to lay will fill
pub record Writing (key : Key) (caller : ℕ) (img map : List ℕ) (g : Geometry) (e : ℕ) (gather : List ℕ) (at : Filling) (rest : List ℕ) : Type 0 where
  pub clear : first_of (linked_add_rows img key caller false (length (gathered (payload_bytes g) gather at.filled rest).full)) ≡ 0
  pub measures : geometry_of img ≡ g
  pub number : entry_no img key ≡ e
  pub room : at.filled < payload_bytes g
  pub whole : length gather ≡ payload_bytes g
  pub long : g.blocks ≤ length map
  pub says : Says map img
  pub above : NoneFrom map g at.from.0

-- what they come to
pub record Written : Type 0 where
  pub image : List ℕ
  pub buffer : List ℕ
  pub filled : ℕ

unfoldable pub written : Key → ℕ → ℕ → List ℕ → List ℕ → ℕ → List ℕ → Written
written key caller size img gather filled rest =
    record {
      image = added_all img key caller (gathered size gather filled rest).full;
      buffer = (gathered size gather filled rest).buffer;
      filled = (gathered size gather filled rest).filled;
    }

-- somebody writes these bytes, and perhaps more behind them
pub record Writable (img map : List ℕ) (g : Geometry) (e : ℕ) (gather : List ℕ) (at : Filling) (bytes : List ℕ) : Type 0 where
  pub key : Key
  pub caller : ℕ
  pub behind : List ℕ
  pub writing : Writing key caller img map g e gather at (bytes ++ behind)

-- whoever writes and whatever is behind: the bytes came down to those that are left
pub record Laying (g : Geometry) (e : ℕ) (img map gather : List ℕ) (at : Filling) (bytes : List ℕ) (img' map' gather' : List ℕ) (at' : Filling) (left : List ℕ) : Type 0 where
  pub still : (key : Key) (caller : ℕ) (behind : List ℕ) → Writing key caller img map g e gather at (bytes ++ behind)
      → Writing key caller img' map' g e gather' at' (left ++ behind)
  pub same : (key : Key) (caller : ℕ) (behind : List ℕ) → Writing key caller img map g e gather at (bytes ++ behind)
      → written key caller (payload_bytes g) img gather at.filled (bytes ++ behind)
      ≡ written key caller (payload_bytes g) img' gather' at'.filled (left ++ behind)

-- the same where no block becomes full, of any image and map: bytes laid behind those in the buffer
pub record LaidWithin (gather : List ℕ) (filled : ℕ) (bytes gather' : List ℕ) (filled' : ℕ) (left : List ℕ) : Type 0 where
  pub laying : (g : Geometry) (e : ℕ) (img map : List ℕ) (from : BlockNo)
      → Laying g e img map gather (record { filled = filled; from = from }) bytes img map gather' (record { filled = filled'; from = from }) left
