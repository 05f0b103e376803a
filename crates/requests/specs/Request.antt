-- The requests on an image as one type: what each comes to, whom it names, and what it was lent.
use Rattle.std.specs.Prelude.{ℕ, ◌≡◌, ◌⊎◌, List, []}
use Rattle.pack.specs.declared.Key.{Key}
use Rattle.asking.specs.Outcome.{Outcome}
use Rattle.owners.specs.OwnerQuestion.{owner}
use Rattle.creation.specs.Format.{format}
use Rattle.creation.specs.Alloc.{alloc}
use Rattle.creation.specs.Openo.{openo}
use Rattle.opening.specs.declared.Opening.{Opening}
use Rattle.opening.specs.Open.{opened}
use Rattle.opening.specs.Close.{close}
use Rattle.directory.specs.Look.{look}
use Rattle.directory.specs.Delet.{delet}
use Rattle.directory.specs.Keep.{keep}
use Rattle.directory.specs.Renam.{new_key, renam}
use Rattle.finishing.specs.Finish.{finish}
use Rattle.transfer.specs.Block.{block_in, block_out}
use Rattle.transfer.specs.LinkedRead.{linked_read}
use Rattle.appending.specs.Appnd.{appnd}
use Rattle.adding.specs.LinkedAdd.{linked_add}
use Rattle.lines.specs.LineReading.{line_read}
use Rattle.lines.specs.LineWriting.{line_write, line_end}
use Rattle.binary.specs.BinaryReading.{binary_read}
use Rattle.binary.specs.BinaryWriting.{binary_write}

-- "Requests taken up": those on an image, with their arguments, in the order of the paper's 'What each request does'; those of document 02, on lines of text (§1),
-- on formatted binary lines (§10), whose ending call is that of lines of text, and Finish (§12); and whose a block is.
-- OPEN is OPENI, OPENU or OPENE. A UIC 0 has given place to the caller's. RENAM: "the UIC stays", so its new name comes without one.
pub data Request : Type 0 where
  FORMAT : (form blocks contents : ℕ) (uics : List ℕ) → Request
  ALLOC : (key : Key) (caller protect segments : ℕ) → Request
  OPENO : (key : Key) (caller protect : ℕ) → Request
  OPEN : (mode : Opening) (key : Key) (caller : ℕ) → Request
  CLOSE : (key : Key) (mode : ℕ) → Request
  DELET : (key : Key) (caller : ℕ) → Request
  RENAM : (old : Key) (name1 name2 extension protect caller : ℕ) → Request
  APPND : (first second : Key) (caller : ℕ) → Request
  LOOK : (key : Key) → Request
  KEEP : (key : Key) (caller : ℕ) → Request
  BLOCK-INPUT : (key : Key) (caller place : ℕ) (buffer : List ℕ) → Request
  BLOCK-OUTPUT : (key : Key) (caller place : ℕ) (buffer : List ℕ) → Request
  LINKED-READ : (key : Key) (caller place : ℕ) (buffer : List ℕ) → Request
  LINKED-ADD : (key : Key) (caller : ℕ) (payload : List ℕ) → Request
  LINE-READ : (key : Key) (caller mode position : ℕ) (buffer : List ℕ) → Request
  LINE-WRITE : (key : Key) (caller mode : ℕ) (text gather : List ℕ) (filled : ℕ) → Request
  LINE-END : (key : Key) (caller : ℕ) (gather : List ℕ) (filled : ℕ) → Request
  BINARY-READ : (key : Key) (caller mode position to_come sum : ℕ) (buffer : List ℕ) → Request
  BINARY-WRITE : (key : Key) (caller : ℕ) (content gather : List ℕ) (filled : ℕ) → Request
  FINISH : (caller : ℕ) → Request
  OWNER : (block : ℕ) → Request

-- what a request comes to on an image: the definition that the contract of its function cites
abbrev pub outcome : Request → List ℕ → Outcome
outcome (FORMAT form blocks contents uics) img = format img form blocks contents uics
outcome (ALLOC key caller protect segments) img = alloc img key caller protect segments
outcome (OPENO key caller protect) img = openo img key caller protect
outcome (OPEN mode key caller) img = opened mode img key caller
outcome (CLOSE key mode) img = close img key mode
outcome (DELET key caller) img = delet img key caller
outcome (RENAM old name1 name2 extension protect caller) img = renam img old (new_key old name1 name2 extension) protect caller
outcome (APPND first second caller) img = appnd img first second caller
outcome (LOOK key) img = look img key
outcome (KEEP key caller) img = keep img key caller
outcome (BLOCK-INPUT key caller place buffer) img = block_in img key caller place buffer
outcome (BLOCK-OUTPUT key caller place buffer) img = block_out img key caller place buffer
outcome (LINKED-READ key caller place buffer) img = linked_read img key caller place buffer
outcome (LINKED-ADD key caller payload) img = linked_add img key caller payload
outcome (LINE-READ key caller mode position buffer) img = line_read img key caller mode position buffer
outcome (LINE-WRITE key caller mode text gather filled) img = line_write img key caller mode text gather filled
outcome (LINE-END key caller gather filled) img = line_end img key caller gather filled
outcome (BINARY-READ key caller mode position to_come sum buffer) img = binary_read img key caller mode position to_come sum buffer
outcome (BINARY-WRITE key caller content gather filled) img = binary_write img key caller content gather filled
outcome (FINISH caller) img = finish img caller
outcome (OWNER block) img = owner img block

-- whom a request names by name, extension and UIC: Format every file, since it empties the pack; Finish every file of the caller's UIC, whatever is then spared;
-- who asks whose a block is names nobody
abbrev pub Names : Request → Key → Type 0
Names (FORMAT form blocks contents uics) who = Unit {0}
Names (ALLOC key caller protect segments) who = who ≡ key
Names (OPENO key caller protect) who = who ≡ key
Names (OPEN mode key caller) who = who ≡ key
Names (CLOSE key mode) who = who ≡ key
Names (DELET key caller) who = who ≡ key
Names (RENAM old name1 name2 extension protect caller) who = (who ≡ old) ⊎ (who ≡ new_key old name1 name2 extension)
Names (APPND first second caller) who = (who ≡ first) ⊎ (who ≡ second)
Names (LOOK key) who = who ≡ key
Names (KEEP key caller) who = who ≡ key
Names (BLOCK-INPUT key caller place buffer) who = who ≡ key
Names (BLOCK-OUTPUT key caller place buffer) who = who ≡ key
Names (LINKED-READ key caller place buffer) who = who ≡ key
Names (LINKED-ADD key caller payload) who = who ≡ key
Names (LINE-READ key caller mode position buffer) who = who ≡ key
Names (LINE-WRITE key caller mode text gather filled) who = who ≡ key
Names (LINE-END key caller gather filled) who = who ≡ key
Names (BINARY-READ key caller mode position to_come sum buffer) who = who ≡ key
Names (BINARY-WRITE key caller content gather filled) who = who ≡ key
Names (FINISH caller) who = who.uic ≡ caller
Names (OWNER block) who = ⊥

-- "a lent buffer": what is lent beside the image; of a write the gather buffer, for its text or data are lent for reading only
abbrev pub buffer_lent : Request → List ℕ
buffer_lent (FORMAT form blocks contents uics) = uics
buffer_lent (ALLOC key caller protect segments) = []
buffer_lent (OPENO key caller protect) = []
buffer_lent (OPEN mode key caller) = []
buffer_lent (CLOSE key mode) = []
buffer_lent (DELET key caller) = []
buffer_lent (RENAM old name1 name2 extension protect caller) = []
buffer_lent (APPND first second caller) = []
buffer_lent (LOOK key) = []
buffer_lent (KEEP key caller) = []
buffer_lent (BLOCK-INPUT key caller place buffer) = buffer
buffer_lent (BLOCK-OUTPUT key caller place buffer) = buffer
buffer_lent (LINKED-READ key caller place buffer) = buffer
buffer_lent (LINKED-ADD key caller payload) = payload
buffer_lent (LINE-READ key caller mode position buffer) = buffer
buffer_lent (LINE-WRITE key caller mode text gather filled) = gather
buffer_lent (LINE-END key caller gather filled) = gather
buffer_lent (BINARY-READ key caller mode position to_come sum buffer) = buffer
buffer_lent (BINARY-WRITE key caller content gather filled) = gather
buffer_lent (FINISH caller) = []
buffer_lent (OWNER block) = []

-- any request but Format, which alone makes another pack of an image
abbrev pub NotFormat : Request → Type 0
NotFormat r = (form blocks contents : ℕ) (uics : List ℕ) → r ≡ FORMAT form blocks contents uics → ⊥
