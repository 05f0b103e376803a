-- What lines read and written come to on success: of text the line from the position on, and that the file's payloads and the gathered bytes go on with what was put.
use Prim.Native.Nat.{ℕ, ◌+◌, ◌%◌}
use mathlib.Core.Path.{◌≡◌, ap, ◌∙◌}
use mathlib.Core.Bool.{Bool}
use mathlib.Core.List.{List, ◌++◌, append_assoc, flatten}
use lib.Dec.{ltb}
use lib.ListN.{length, take}
use Rattle.pack.specs.declared.Key.{Key}
use Rattle.pack.specs.Geometry.{geometry_of, payload_bytes}
use Rattle.pack.specs.Entry.{blocks_at}
use Rattle.asking.specs.Asked.{entry_no}
use Rattle.bodies.specs.Payloads.{payloads_of}
use Rattle.lines.specs.LineRead.{line_found}
use Rattle.stream.specs.BytesReading.{bytes_behind}
use Rattle.lines.specs.LineReading.{mode_of, found_outcome, line_read}
use Rattle.lines.specs.LineWrite.{put_all, taken_of}
use Rattle.stream.specs.BytesWriting.{gathered_in, bytes_written}
use Rattle.stream.proofs.BytesWritingEffect.{write_payloads, write_gathered, write_left}
use Rattle.lines.specs.LineWriting.{line_write}
use Rattle.lines.proofs.LineReadingStage.{line_read_given, line_read_clear}
use Rattle.binary.specs.BinaryLine.{binary_line}
use Rattle.binary.specs.BinaryWriting.{binary_write}

-- "Reading starts at a byte position in the file's payloads, joined, and returns the next position."
pub line_read_done : (img : List ℕ) (key : Key) (caller mode position : ℕ) (buffer : List ℕ) → (line_read img key caller mode position buffer).code ≡ 0
    → line_read img key caller mode position buffer
    ≡ found_outcome img position buffer (line_found (mode_of mode) (length buffer) (bytes_behind img key position))
line_read_done img key caller mode position buffer success =
    let c = line_read_clear img key caller mode position buffer success in line_read_given c.0 c.1

-- "Writing gathers a block's payload in a lent 510-byte buffer .., and adds full blocks": no byte is lost and none added
bytes_stream : (img : List ℕ) (key : Key) (caller : ℕ) (wrong : Bool) (gather : List ℕ) (filled : ℕ) (bytes numbers : List ℕ)
    → (bytes_written img key caller wrong gather filled bytes numbers).code ≡ 0
    → payloads_of (bytes_written img key caller wrong gather filled bytes numbers).image (geometry_of img)
    (blocks_at (bytes_written img key caller wrong gather filled bytes numbers).image (geometry_of img) (entry_no img key))
    ++ take ((filled + length bytes) % payload_bytes (geometry_of img)) (bytes_written img key caller wrong gather filled bytes numbers).buffer
    ≡ payloads_of img (geometry_of img) (blocks_at img (geometry_of img) (entry_no img key)) ++ (take filled gather ++ bytes)
bytes_stream img key caller wrong gather filled bytes numbers success =
    let before = payloads_of img (geometry_of img) (blocks_at img (geometry_of img) (entry_no img key)) in
    let made = gathered_in img gather filled bytes in
    let left = take made.filled (bytes_written img key caller wrong gather filled bytes numbers).buffer in
    rw (← write_left img key caller wrong gather filled bytes numbers success)
    (ap (λ (s : List ℕ). s ++ left) (write_payloads img key caller wrong gather filled bytes numbers success)
    ∙ append_assoc before (flatten made.full) left
    ∙ ap (λ (s : List ℕ). before ++ s) (write_gathered img key caller wrong gather filled bytes numbers success))

pub line_write_stream : (img : List ℕ) (key : Key) (caller mode : ℕ) (text gather : List ℕ) (filled : ℕ)
    → (line_write img key caller mode text gather filled).code ≡ 0
    → payloads_of (line_write img key caller mode text gather filled).image (geometry_of img)
    (blocks_at (line_write img key caller mode text gather filled).image (geometry_of img) (entry_no img key))
    ++ take ((filled + length (put_all (taken_of (mode_of mode) text))) % payload_bytes (geometry_of img)) (line_write img key caller mode text gather filled).buffer
    ≡ payloads_of img (geometry_of img) (blocks_at img (geometry_of img) (entry_no img key)) ++ (take filled gather ++ put_all (taken_of (mode_of mode) text))
unfolding line_write
line_write_stream img key caller mode text gather filled = bytes_stream img key caller (ltb 1 mode) gather filled (put_all (taken_of (mode_of mode) text)) _

-- so is a formatted binary line: "bytes 1 and 0, a count word .., the data, then one byte that makes the sum of all of them 0 modulo 256"
pub binary_write_stream : (img : List ℕ) (key : Key) (caller : ℕ) (content gather : List ℕ) (filled : ℕ)
    → (binary_write img key caller content gather filled).code ≡ 0
    → payloads_of (binary_write img key caller content gather filled).image (geometry_of img)
    (blocks_at (binary_write img key caller content gather filled).image (geometry_of img) (entry_no img key))
    ++ take ((filled + length (binary_line content)) % payload_bytes (geometry_of img)) (binary_write img key caller content gather filled).buffer
    ≡ payloads_of img (geometry_of img) (blocks_at img (geometry_of img) (entry_no img key)) ++ (take filled gather ++ binary_line content)
unfolding binary_write
binary_write_stream img key caller content gather filled = bytes_stream img key caller (ltb 512 (length content)) gather filled (binary_line content) _
