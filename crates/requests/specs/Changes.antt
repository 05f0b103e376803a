-- Which words of the image each request may change, as document 01 has it under 'What each request does', and 02 in §1, §2, §7, §10 and §12. That no other word changes is proofs/Changes.antt.
use Rattle.std.specs.Prelude.{ℕ, ◌+◌, ◌*◌, ◌/◌, ◌≤◌, ◌<◌, ◌≡◌, ◌⊎◌, List}
use Rattle.pack.specs.declared.Entry.{Entry}
use Rattle.pack.specs.declared.Key.{Key}
use Rattle.pack.specs.Form.{segments_of, bodies_of}
use Rattle.pack.specs.Geometry.{geometry_of, segment_words, block_words, block_at, entry_at}
use Rattle.pack.specs.File.{count}
use Rattle.pack.specs.Entry.{blocks_at}
use Rattle.pack.specs.Map.{HasMap, map_at}
use Rattle.asking.specs.Asked.{entry_no, file_of}
use Rattle.room.specs.Room.{HighestRun, InRun}
use Rattle.creation.specs.Creating.{LowestEmpty}
use Rattle.creation.specs.Rounding.{length_for}
use Rattle.opening.specs.declared.Opening.TheVariants.{Input, Update, Extension}
use Rattle.adding.specs.LinkedAdd.{added_block}
use Rattle.stream.specs.AddedAll.{taken_blocks}
use Rattle.finishing.specs.Finish.{Scratch}
use Rattle.lines.specs.LineReading.{mode_of}
use Rattle.lines.specs.LineWrite.{put_all, taken_of}
use Rattle.stream.specs.BytesWriting.{gathered_in}
use Rattle.lines.specs.LineWriting.{nuls_for}
use Rattle.binary.specs.BinaryLine.{binary_line}
use Rattle.requests.specs.Request.{Request, FORMAT, ALLOC, OPENO, OPEN, CLOSE, DELET, RENAM, APPND, LOOK, KEEP, BLOCK-INPUT, BLOCK-OUTPUT, LINKED-READ, LINKED-ADD}
use Rattle.requests.specs.Request.{LINE-READ, LINE-WRITE, LINE-END, BINARY-READ, BINARY-WRITE, FINISH, OWNER}

-- w is word i of entry e; one of its words from `first` to `last`; one of its sixteen
abbrev pub IsWord : List ℕ → ℕ → ℕ → ℕ → Type 0
IsWord img e i w = w ≡ entry_at (geometry_of img) e + i

abbrev pub InWords : List ℕ → ℕ → ℕ → ℕ → ℕ → Type 0
InWords img e first last w = (entry_at (geometry_of img) e + first ≤ w) × (w ≤ entry_at (geometry_of img) e + last)

abbrev pub InEntry : List ℕ → ℕ → ℕ → Type 0
InEntry img e w = InWords img e 0 15 w

-- w is a word of the lowest empty entry
abbrev pub InLowestEmpty : List ℕ → ℕ → Type 0
InLowestEmpty img w = (e : ℕ) × (LowestEmpty img e × InEntry img e w)

-- w is a word of block b
abbrev pub InBlock : List ℕ → ℕ → ℕ → Type 0
InBlock img b w = (block_at (geometry_of img) b ≤ w) × (w < block_at (geometry_of img) b + block_words (geometry_of img))

-- w is the word of the map that has the bit of block b: 02 §7, "block b is bit b mod 16 of word b / 16"; a pack without a map has none
abbrev pub IsMapWord : List ℕ → ℕ → ℕ → Type 0
IsMapWord img b w = HasMap (geometry_of img) × (w ≡ map_at (geometry_of img) + b / 16)

-- w is a word of a block that is taken, or the map's word of it
abbrev pub OfTaken : List ℕ → ℕ → ℕ → Type 0
OfTaken img b w = InBlock img b w ⊎ IsMapWord img b w

-- w is one of a block of the free run with the highest start
abbrev pub InHighestRun : List ℕ → ℕ → ℕ → Type 0
InHighestRun img length w = (s : ℕ) × (HighestRun img length s × ((b : ℕ) × (InRun s length b × OfTaken img b w)))

-- w is the map's word of a block that the file of entry e holds
abbrev pub OfGivenUp : List ℕ → ℕ → ℕ → Type 0
OfGivenUp img e w = (b : ℕ) × ((0 < count b (blocks_at img (geometry_of img) e)) × IsMapWord img b w)

-- w is the link of the last block of a file, which has one: "In a linked file word 0 of a block is the next block"
abbrev pub IsLastLink : List ℕ → Entry → ℕ → Type 0
IsLastLink img x w = (0 < x.length) × (w ≡ block_at (geometry_of img) x.last.0)

-- what adding these payloads to a file may change: words 6 to 8 of its entry, the blocks that are taken with their bits, and the link of its last block
abbrev pub MayAdd : List ℕ → Key → ℕ → List (List ℕ) → ℕ → Type 0
MayAdd img key caller payloads w =
    InWords img (entry_no img key) 6 8 w
    ⊎ (((b : ℕ) × ((0 < count b (taken_blocks img key caller payloads)) × OfTaken img b w)) ⊎ IsLastLink img (file_of img key) w)

-- The words of an entry: "0, 1 name; 2 extension; .. 4 protect code ..; 6 first block; 7 length in blocks; 8 last block; 9 writer ..; 10 readers".
abbrev pub MayChange : Request → List ℕ → ℕ → Type 0
-- "Format: writes blocks 0 to c, bodies untouched"; 02 §7: "Blocks 0 to c + 1 are system; bodies lie above."
MayChange (FORMAT form blocks contents uics) img w = w < bodies_of form contents * segment_words (segments_of form)
-- "ALLOC: .. The free run with the highest start is taken, the lowest empty entry filled."; 02 §2: "ALLOC shall leave every block it takes all zero"; §7: "every
-- request keeps it so", that the map agrees
MayChange (ALLOC key caller protect segments) img w = InLowestEmpty img w ⊎ InHighestRun img (length_for img segments) w
-- "OPENO: .. Lowest empty entry."
MayChange (OPENO key caller protect) img w = InLowestEmpty img w
-- "OPENI .. adds a reader. OPENU .. writer 1. OPENE .. writer 3."
MayChange (OPEN Input key caller) img w = IsWord img (entry_no img key) 10 w
MayChange (OPEN Update key caller) img w = IsWord img (entry_no img key) 9 w
MayChange (OPEN Extension key caller) img w = IsWord img (entry_no img key) 9 w
-- "CLOSE with mode 1, 2, 3, or 4 (OPENI): takes that open away"
MayChange (CLOSE key mode) img w = ((mode ≡ 4) × IsWord img (entry_no img key) 10 w) ⊎ ((mode ≡ 4 → ⊥) × IsWord img (entry_no img key) 9 w)
-- "DELET .. clears the entry, bodies untouched."; 02 §7: the bits of its blocks
MayChange (DELET key caller) img w = InEntry img (entry_no img key) w ⊎ OfGivenUp img (entry_no img key) w
-- "RENAM .. changes name, extension and protect code; the UIC stays."
MayChange (RENAM old name1 name2 extension protect caller) img w = InWords img (entry_no img old) 0 2 w ⊎ IsWord img (entry_no img old) 4 w
-- "APPND ..: chain joined, second entry cleared. Either may be empty."
MayChange (APPND first second caller) img w =
    InWords img (entry_no img first) 6 8 w ⊎ (InEntry img (entry_no img second) w ⊎ IsLastLink img (file_of img first) w)
-- "LOOK: kind, first block, length, protect code, writer, readers"
MayChange (LOOK key) img w = ⊥
-- "KEEP: .. sets bit 7.", which is of the protect code
MayChange (KEEP key caller) img w = IsWord img (entry_no img key) 4 w
-- "BLOCK: .. output .. changes the 512 bytes of the image, starting at that block."
MayChange (BLOCK-INPUT key caller place buffer) img w = ⊥
MayChange (BLOCK-OUTPUT key caller place buffer) img w = InBlock img ((file_of img key).first.0 + place) w
-- "Linked read: buffer of 510 .. Linked add: .. the highest free block is joined at the end with link 0."; 02 §7: its bit
MayChange (LINKED-READ key caller place buffer) img w = ⊥
MayChange (LINKED-ADD key caller payload) img w =
    InWords img (entry_no img key) 6 8 w ⊎ (InBlock img (added_block img) w ⊎ (IsLastLink img (file_of img key) w ⊎ IsMapWord img (added_block img) w))
-- "Reading starts at a byte position .. and returns the next position."
MayChange (LINE-READ key caller mode position buffer) img w = ⊥
-- "Writing gathers a block's payload .., and adds full blocks; an ending call fills the last with NUL, or adds none at 0."
MayChange (LINE-WRITE key caller mode text gather filled) img w =
    MayAdd img key caller (gathered_in img gather filled (put_all (taken_of (mode_of mode) text))).full w
MayChange (LINE-END key caller gather filled) img w = MayAdd img key caller (gathered_in img gather filled (nuls_for img filled)).full w
-- 02 §10: a formatted binary line is read, and nothing written; or it is gathered as a line of text is, and full blocks are added
MayChange (BINARY-READ key caller mode position to_come sum buffer) img w = ⊥
MayChange (BINARY-WRITE key caller content gather filled) img w = MayAdd img key caller (gathered_in img gather filled (binary_line content)).full w
-- "Delete every file of the caller's UIC that has bit 7 clear, is not open, and that DELET would allow", which "clears the entry, bodies untouched";
-- 02 §7: the bits of their blocks
MayChange (FINISH caller) img w = (e : ℕ) × (Scratch img caller e × (InEntry img e w ⊎ OfGivenUp img e w))
-- whose a block is: asked, and nothing written
MayChange (OWNER block) img w = ⊥
