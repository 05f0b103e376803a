-- Linked add.
use Rattle.std.specs.Prelude.{ℕ, ◌+◌, ◌<◌, ◌≡◌, ◌⊎◌, cond, List, [], ◌∷◌, eqb}
use Rattle.std.proofs.Math.Option.{Option}
use Rattle.answers.specs.Missing.{or_else}
use Rattle.words.specs.Word.{set_word}
use Rattle.pack.specs.declared.Geometry.{Geometry}
use Rattle.pack.specs.declared.Entry.{Entry}
use Rattle.pack.specs.declared.Key.{Key}
use Rattle.pack.specs.Geometry.{geometry_of, block_at}
use Rattle.asking.specs.Outcome.{Outcome, settled}
use Rattle.asking.specs.Asked.{entry_no, file_of}
use Rattle.frame.specs.Framed.{InWords, InBlock, MapWord}
use Rattle.room.specs.RoomTest.{highest_run}
use Rattle.room.specs.Cleared.{taken}
use Rattle.bodies.specs.BlockBytes.{payload_start, with_part}
use Rattle.bodies.specs.BufferSizes.{wrong_payload}
use Rattle.bodies.specs.EntryChain.{resized}
use Rattle.adding.specs.LinkedAddRows.{linked_add_rows}

-- "the highest free block": a free run of one block
abbrev pub highest_free : List ℕ → Option ℕ
highest_free img = highest_run img 1

-- the new block: "with link 0", and "its payload is the 510 bytes that start at byte 2 of a block"
unfoldable pub block_with : List ℕ → Geometry → ℕ → List ℕ → List ℕ
block_with img g b payload = with_part (set_word img (block_at g b) 0) (payload_start g b) payload

-- "joined at the end": the link of the last block leads to it, or, of a file that had none, the entry's first block; then length and last block.
-- A reading easily got wrong is "Joining an empty file by writing a link into block 0."
unfoldable pub added : List ℕ → Geometry → ℕ → Entry → ℕ → List ℕ → List ℕ
added img g e x b payload =
    cond (eqb x.length 0)
    (resized (block_with img g b payload) g e b (x.length + 1) b)
    (resized (set_word (block_with img g b payload) (block_at g x.last.0) b) g e x.first.0 (x.length + 1) b)

-- the block that is added
abbrev pub added_block : List ℕ → ℕ
added_block img = or_else 0 (highest_free img)

-- what may change: words 6 to 8 of the entry, the new block, the link of the last block of a file that has one, and the word of the map that has the
-- new block's bit (`linked_add_changes`)
abbrev pub AddWords : Geometry → ℕ → Entry → ℕ → ℕ → Type 0
AddWords g e x b w = InWords g e 6 8 w ⊎ (InBlock g b w ⊎ (((0 < x.length) × (w ≡ block_at g x.last.0)) ⊎ MapWord g b w))

-- one block more for the file of an entry: 02 §2, "taking a block for any use shall promise that it is cleared before use", and then it is joined
unfoldable pub enlarged_by : List ℕ → Geometry → ℕ → Entry → ℕ → List ℕ → List ℕ
enlarged_by img g e x b payload = added (taken img g b 1) g e x b payload

-- "ALLOC and linked add also return the first or added block"; one block is needed
unfoldable pub linked_add : List ℕ → Key → ℕ → List ℕ → Outcome
linked_add img key caller payload =
    settled (linked_add_rows img key caller (wrong_payload img payload) 1) img payload
    (record {
      code = 0;
      numbers = added_block img ∷ [];
      image = enlarged_by img (geometry_of img) (entry_no img key) (file_of img key) (added_block img) payload;
      buffer = payload;
    })
