-- When each code is given, in the paper's propositions: "What cannot be done is refused with the code that the build document orders first".
-- The cases of a request stand as in the paper's table, row under row.
use Rattle.std.specs.Prelude.{ℕ, ◌+◌, ◌*◌, ◌/◌, ◌≤◌, ◌<◌, ◌≡◌, ◌⊎◌, List, [], ◌∷◌, ◌++◌, length}
use Rattle.radix.specs.Names.{LegalName, LegalExtension}
use Rattle.pack.specs.declared.Key.{Key}
use Rattle.pack.specs.declared.Entry.{Entry}
use Rattle.pack.specs.Geometry.{geometry_of, slots, block_bytes, payload_bytes}
use Rattle.pack.specs.Header.{Listed}
use Rattle.pack.specs.Entry.{entry_of, Empty}
use Rattle.pack.specs.Consistent.{Consistent}
use Rattle.pack.specs.Owner.{FreeBlock, free_count}
use Rattle.pack.specs.Key.{key_in, SameKey}
use Rattle.asking.specs.declared.Right.{Right}
use Rattle.asking.specs.declared.Right.TheVariants.{Delete, Read, Write}
use Rattle.asking.specs.Asked.{file_of}
use Rattle.asking.specs.Rights.{May}
use Rattle.asking.specs.Opens.{opens}
use Rattle.creation.specs.Formattable.{Formattable}
use Rattle.creation.specs.Rounding.{length_for}
use Rattle.room.specs.Room.{FreeRun}
use Rattle.opening.specs.declared.Opening.TheVariants.{Input, Update, Extension}
use Rattle.directory.specs.Renam.{new_key}
use Rattle.lines.specs.LineReading.{mode_of}
use Rattle.lines.specs.LineWrite.{put_all, taken_of}
use Rattle.requests.specs.Request.{Request, FORMAT, ALLOC, OPENO, OPEN, CLOSE, DELET, RENAM, APPND, LOOK, KEEP, BLOCK-INPUT, BLOCK-OUTPUT, LINKED-READ, LINKED-ADD}
use Rattle.requests.specs.Request.{LINE-READ, LINE-WRITE, LINE-END, BINARY-READ, BINARY-WRITE, FINISH, OWNER}
use Rattle.promises.specs.GivenWhen.{Case, ◌when◌}

-- "A legal name is ..; an extension .."
pub record LegalKey (key : Key) : Type 0 where
  pub name : LegalName key.name1 key.name2
  pub extension : LegalExtension key.extension

-- the file of a key is there: its one entry
pub record Exists (img : List ℕ) (key : Key) : Type 0 where
  pub entry : ℕ
  pub inside : entry < slots (geometry_of img)
  pub keyed : SameKey (key_in (entry_of img (geometry_of img) entry)) key

-- "6: right lacking"
abbrev pub Lacking : Right → ℕ → Entry → Type 0
Lacking right caller x = May caller x.uic x.protect right → ⊥

-- the rows that all requests on a file share; `Wrong` is what can be wrong with an argument
abbrev pub FileCases : List ℕ → Key → Type 0 → List Case
FileCases img key Wrong =
    0o40 when (Consistent img → ⊥) ∷ 0o15 when (LegalKey key → ⊥) ∷ 0o41 when Wrong ∷ 0o2 when (Exists img key → ⊥) ∷ []

-- no entry is empty
abbrev pub Full : List ℕ → Type 0
Full img = (e : ℕ) → e < slots (geometry_of img) → Empty img (geometry_of img) e → ⊥

-- what creating means: "41: .. protect above 255", "13: creating: UIC not in the list", "2: creating ..: exists", "6: .. creating under another's UIC",
-- "12: creating: no empty entry"; `Wrong` is what else can be wrong with an argument
abbrev pub CreatingCases : List ℕ → Key → ℕ → ℕ → Type 0 → List Case
CreatingCases img key caller protect Wrong =
    0o40 when (Consistent img → ⊥)
    ∷ 0o15 when (LegalKey key → ⊥)
    ∷ 0o41 when Wrong
    ∷ 0o41 when (255 < protect)
    ∷ 0o13 when (Listed img key.uic → ⊥)
    ∷ 0o2 when Exists img key
    ∷ 0o6 when (key.uic ≡ caller → ⊥)
    ∷ 0o12 when Full img
    ∷ []

-- the right that a request needs, the kind that it is not for, and the open that it needs: "6: right lacking",
-- "43: .. BLOCK of a linked file; .. linked read or add of a contiguous one", "45: not open as the request needs"
abbrev pub AccessCases : Right → ℕ → Type 0 → Entry → ℕ → List Case
AccessCases right other Open x caller = 0o6 when Lacking right caller x ∷ 0o43 when (x.kind ≡ other) ∷ 0o45 when (Open → ⊥) ∷ []

-- "2: .. OPENI, OPENE, OPENU also: writer is 2", "6: right lacking"
abbrev pub OpenCases : Right → Entry → ℕ → List Case
OpenCases right x caller = 0o2 when (x.writer ≡ 2) ∷ 0o6 when Lacking right caller x ∷ []

-- "41: .. mode not 1 to 4"
abbrev pub NoMode : ℕ → Type 0
NoMode mode = (mode ≡ 0) ⊎ (4 < mode)

-- "mode 1, 2, 3, or 4 (OPENI)": a writer of that mode, or with mode 4 a reader
pub data OpenAs (x : Entry) : ℕ → Type 0 where
  writing : {mode : ℕ} → (mode ≡ 4 → ⊥) → x.writer ≡ mode → OpenAs x mode
  reading : {mode : ℕ} → mode ≡ 4 → 0 < x.readers → OpenAs x mode

-- RENAM: "2: .. new name in RENAM: exists", "RENAM needs write", "14: DELET, RENAM, APPND: a file is open"
abbrev pub RenamCases : List ℕ → Key → Key → ℕ → ℕ → List Case
RenamCases img old new protect caller =
    0o40 when (Consistent img → ⊥)
    ∷ 0o15 when (LegalKey old → ⊥)
    ∷ 0o15 when (LegalKey new → ⊥)
    ∷ 0o41 when (255 < protect)
    ∷ 0o2 when (Exists img old → ⊥)
    ∷ 0o2 when Exists img new
    ∷ 0o6 when Lacking Write caller (file_of img old)
    ∷ 0o14 when (0 < opens (file_of img old))
    ∷ []

-- "buffer not of the size asked": 512 bytes of a block, 510 of a payload
abbrev pub OtherBlock : List ℕ → List ℕ → Type 0
OtherBlock img buffer = length buffer ≡ block_bytes (geometry_of img) → ⊥

abbrev pub OtherPayload : List ℕ → List ℕ → Type 0
OtherPayload img buffer = length buffer ≡ payload_bytes (geometry_of img) → ⊥

-- "Linked add: .. write right, writer 2 or 3": what speaks against adding to a file, but for the room
abbrev pub AddingCases : List ℕ → Key → ℕ → Type 0 → List Case
AddingCases img key caller Wrong =
    FileCases img key Wrong ++ AccessCases Write 1 (((file_of img key).writer ≡ 2) ⊎ ((file_of img key).writer ≡ 3)) (file_of img key) caller

-- document 02 §1 and §10: "those of linked read ..; 44 for a position beyond the payloads", which are 510 bytes each, joined
abbrev pub ReadingCases : List ℕ → Key → ℕ → Type 0 → ℕ → List Case
ReadingCases img key caller Wrong position =
    FileCases img key Wrong
    ++ AccessCases Read 1 (0 < (file_of img key).readers) (file_of img key) caller
    ++ 0o44 when ((file_of img key).length * payload_bytes (geometry_of img) < position) ∷ []

-- §1: "the formatted ASCII normal and special modes", 0 and 1; §10: "Normal and special modes as in 000"
abbrev pub NoLineMode : ℕ → Type 0
NoLineMode mode = 1 < mode

-- "a lent 510-byte buffer, whose filled count of 0 to 509 is passed in"; "41 also for .. a filled count over 509"
abbrev pub OtherGather : List ℕ → List ℕ → ℕ → Type 0
OtherGather img gather filled = OtherPayload img gather ⊎ (payload_bytes (geometry_of img) ≤ filled)

-- how many blocks become full: what is written goes behind what is filled already
abbrev pub full_blocks : List ℕ → ℕ → ℕ → List ℕ → ℕ
full_blocks img filled mode text = (filled + length (put_all (taken_of (mode_of mode) text))) / payload_bytes (geometry_of img)

-- §10: "a length to come over 511, a sum over 255, or one not 0 with nothing to come"
abbrev pub OtherGiven : ℕ → ℕ → Type 0
OtherGiven to_come sum = (511 < to_come) ⊎ ((255 < sum) ⊎ ((to_come ≡ 0) × (sum ≡ 0 → ⊥)))

-- "At most 512 data bytes."
abbrev pub LongerLine : List ℕ → Type 0
LongerLine content = 512 < length content

-- how many blocks become full with a formatted binary line: "bytes 1 and 0, a count word .., the data, then one byte" are five more than the data
abbrev pub full_binary : List ℕ → ℕ → List ℕ → ℕ
full_binary img filled content = (filled + (length content + 5)) / payload_bytes (geometry_of img)

-- the cases of each request
abbrev pub cases_of : Request → List ℕ → List Case
-- "41 unless the image is 512n bytes and n, c, UICs are as above"
cases_of (FORMAT form blocks contents uics) img = 0o41 when (Formattable (length img) form blocks contents uics → ⊥) ∷ []
-- "41: argument: N is 0", "42: .. no free run long enough"
cases_of (ALLOC key caller protect segments) img =
    CreatingCases img key caller protect (segments ≡ 0) ++ 0o42 when ((s : ℕ) → FreeRun img (length_for img segments) s → ⊥) ∷ []
-- "a new linked file of length 0", which needs no room
cases_of (OPENO key caller protect) img = CreatingCases img key caller protect ⊥
-- "OPENI needs read", "3: 62 opens already", the writer counted
cases_of (OPEN Input key caller) img =
    FileCases img key ⊥ ++ OpenCases Read (file_of img key) caller ++ 0o3 when (62 ≤ opens (file_of img key)) ∷ []
-- "43: OPENU .. of a linked file", "4: OPENE, OPENU: there is a writer"
cases_of (OPEN Update key caller) img =
    FileCases img key ⊥
    ++ OpenCases Write (file_of img key) caller
    ++ 0o43 when ((file_of img key).kind ≡ 2) ∷ 0o4 when (0 < (file_of img key).writer) ∷ 0o3 when (62 ≤ opens (file_of img key)) ∷ []
-- "5: OPENE of a contiguous file"
cases_of (OPEN Extension key caller) img =
    FileCases img key ⊥
    ++ OpenCases Write (file_of img key) caller
    ++ 0o5 when ((file_of img key).kind ≡ 1) ∷ 0o4 when (0 < (file_of img key).writer) ∷ 0o3 when (62 ≤ opens (file_of img key)) ∷ []
-- "45: .. CLOSE of a mode not open"
cases_of (CLOSE key mode) img = FileCases img key (NoMode mode) ++ 0o45 when (OpenAs (file_of img key) mode → ⊥) ∷ []
-- "DELET needs delete", "14: .. a file is open"
cases_of (DELET key caller) img = FileCases img key ⊥ ++ 0o6 when Lacking Delete caller (file_of img key) ∷ 0o14 when (0 < opens (file_of img key)) ∷ []
-- "the UIC stays"
cases_of (RENAM old name1 name2 extension protect caller) img = RenamCases img old (new_key old name1 name2 extension) protect caller
-- "41: .. APPND of a file to itself", "APPND needs write on the first, delete on the second, both linked", "14: .. a file is open"
cases_of (APPND first second caller) img =
    0o40 when (Consistent img → ⊥)
    ∷ 0o15 when (LegalKey first → ⊥)
    ∷ 0o15 when (LegalKey second → ⊥)
    ∷ 0o41 when (first ≡ second)
    ∷ 0o2 when (Exists img first → ⊥)
    ∷ 0o2 when (Exists img second → ⊥)
    ∷ 0o6 when Lacking Write caller (file_of img first)
    ∷ 0o6 when Lacking Delete caller (file_of img second)
    ∷ 0o43 when ((file_of img first).kind ≡ 1)
    ∷ 0o43 when ((file_of img second).kind ≡ 1)
    ∷ 0o14 when (0 < opens (file_of img first))
    ∷ 0o14 when (0 < opens (file_of img second))
    ∷ []
-- "no right needed", and no row behind those of the file
cases_of (LOOK key) img = FileCases img key ⊥
-- "owner only"
cases_of (KEEP key caller) img = FileCases img key ⊥ ++ 0o6 when (caller ≡ (file_of img key).uic → ⊥) ∷ []
-- "Input needs read, and besides a reader or writer 1; output needs write and writer 1"; "44: no such block in the file"
cases_of (BLOCK-INPUT key caller place buffer) img =
    FileCases img key (OtherBlock img buffer)
    ++ AccessCases Read 2 ((0 < (file_of img key).readers) ⊎ ((file_of img key).writer ≡ 1)) (file_of img key) caller
    ++ 0o44 when ((file_of img key).length ≤ place) ∷ []
cases_of (BLOCK-OUTPUT key caller place buffer) img =
    FileCases img key (OtherBlock img buffer)
    ++ AccessCases Write 2 ((file_of img key).writer ≡ 1) (file_of img key) caller ++ 0o44 when ((file_of img key).length ≤ place) ∷ []
-- "Linked read: buffer of 510, read right, a reader."
cases_of (LINKED-READ key caller place buffer) img =
    FileCases img key (OtherPayload img buffer)
    ++ AccessCases Read 1 (0 < (file_of img key).readers) (file_of img key) caller ++ 0o44 when ((file_of img key).length ≤ place) ∷ []
-- "Linked add: payload of 510, write right, writer 2 or 3"; "42: no free block"
cases_of (LINKED-ADD key caller payload) img =
    AddingCases img key caller (OtherPayload img payload) ++ 0o42 when ((b : ℕ) → FreeBlock img b → ⊥) ∷ []
-- 02 §1: "Refusals: those of linked read and add; 41 also for a maximum count of 0 ..; 44 for a position beyond the payloads."
cases_of (LINE-READ key caller mode position buffer) img = ReadingCases img key caller ((length buffer ≡ 0) ⊎ NoLineMode mode) position
-- "A write whose full blocks have no room is refused whole."
cases_of (LINE-WRITE key caller mode text gather filled) img =
    AddingCases img key caller (OtherGather img gather filled ⊎ NoLineMode mode) ++ 0o42 when (free_count img < full_blocks img filled mode text) ∷ []
-- "an ending call fills the last with NUL, or adds none at 0"
cases_of (LINE-END key caller gather filled) img =
    AddingCases img key caller (OtherGather img gather filled) ++ 0o42 when ((0 < filled) × ((b : ℕ) → FreeBlock img b → ⊥)) ∷ []
-- 02 §10: "Refusals: as §1; 41 also for a longer line, a length to come over 511, a sum over 255, or one not 0 with nothing to come."
cases_of (BINARY-READ key caller mode position to_come sum buffer) img =
    ReadingCases img key caller (((length buffer ≡ 0) ⊎ NoLineMode mode) ⊎ OtherGiven to_come sum) position
cases_of (BINARY-WRITE key caller content gather filled) img =
    AddingCases img key caller (OtherGather img gather filled ⊎ LongerLine content) ++ 0o42 when (free_count img < full_binary img filled content) ∷ []
-- 02 §12: "Refusals: 40 only."
cases_of (FINISH caller) img = 0o40 when (Consistent img → ⊥) ∷ []
-- whose a block is: 40, and 44 where the pack has no such block (docs/DECISIONS.md 22)
cases_of (OWNER block) img = 0o40 when (Consistent img → ⊥) ∷ 0o44 when ((geometry_of img).blocks ≤ block) ∷ []
