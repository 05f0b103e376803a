-- Formatted binary lines are written one after another, ended, closed and opened for input, and read back the same: every request on the way has code 0.
use Prim.Native.Nat.{ℕ, ◌+◌, ◌-◌, ◌*◌, ◌≤◌, ◌<◌}
use mathlib.Core.Path.{◌≡◌, refl}
use mathlib.Core.Bool.{cond}
use mathlib.Core.List.{List, [], ◌++◌}
use native.Mathlib.Omega.{arith}
use lib.Dec.{eqb}
use lib.ListN.{length, take, drop, length-append}
use lib.Seq.{drop-append-le, drop-length}
use Rattle.pack.specs.declared.Key.{Key}
use Rattle.pack.specs.Geometry.{geometry_of, payload_bytes}
use Rattle.pack.specs.Owner.{free_count}
use Rattle.asking.specs.Asked.{file_of}
use Rattle.opening.specs.declared.Opening.TheVariants.{Input}
use Rattle.opening.specs.Open.{opened}
use Rattle.opening.specs.Close.{close}
use Rattle.stream.specs.BytesWriting.{gathered_in}
use Rattle.lines.specs.LineWriting.{nuls_for, line_end}
use Rattle.binary.specs.BinaryRoundTrip.{Stored, only_nuls, binary_lines}
use Rattle.binary.proofs.BinaryRoundTrip.{lines_stored, stored_behind}
use Rattle.promises.specs.GivenWhen.{GivesCode}
use Rattle.promises.specs.Codes.{AddingCases, OtherPayload}
use Rattle.promises.specs.BytesAgain.{payloads_in, reopened}
use Rattle.promises.specs.BinaryAgain.{BinaryWrittenBy, BinaryReadAgain}
use Rattle.promises.proofs.BytesAgainLaid.{Clear, BytesAdded}
use Rattle.promises.proofs.BytesAgainRoom.{whole_clear}
use Rattle.promises.proofs.BytesAgain.{begun_length, ended_close, ended_open, ended_readable}
use Rattle.promises.proofs.BinaryAgainCalls.{written_whole, binary_ended}
use Rattle.promises.proofs.BinaryAgainRead.{read_stored}

-- Every request has code 0, where nothing but room could speak against a linked add of the gather buffer, and the free blocks hold the lines: each call of
-- writing on the way (`binary_accepted`; it can be finished from wherever it is, `binary_finish`), and then the ending call, CLOSE and OPENI
module _ (img : List ℕ) (key : Key) (caller : ℕ) (gather : List ℕ)
    (open-cases : GivesCode (AddingCases img key caller (OtherPayload img gather)) 0)
    {filled : ℕ} (within : filled < payload_bytes (geometry_of img)) {contents : List (List ℕ)}
    (room : filled + length (binary_lines contents) ≤ free_count img * payload_bytes (geometry_of img))
    {img' gather' : List ℕ} {filled' : ℕ} (written : BinaryWrittenBy key caller img gather filled contents img' gather' filled' []) where
  abbrev after : List ℕ
  after = (line_end img' key caller gather' filled').image

  start : Clear key caller (geometry_of img) img gather filled (binary_lines contents ++ nuls_for img (gathered_in img gather filled (binary_lines contents)).filled)
  start = whole_clear img key caller gather open-cases filled within (binary_lines contents) room

  added : BytesAdded key caller (geometry_of img) img gather filled (binary_lines contents) img' gather' filled'
  added = (written_whole written refl).0

  ended : (line_end img' key caller gather' filled').code ≡ 0
  ended = binary_ended img key caller gather open-cases filled within contents room written

  -- what the file held before, and what was in the buffer
  abbrev before : List ℕ
  before = payloads_in img key ++ take filled gather

  -- from a position from which on these are earlier lines, with NULs before them and behind them, those are read and then the new ones
  pub binary_behind : (position : ℕ) → position ≤ length before → {earlier : List (List ℕ)} → Stored (drop position before) earlier
      → BinaryReadAgain (reopened after key (file_of img key).writer caller) key caller position (earlier ++ contents)
  binary_behind position inside stored =
      let r = ended_readable start added ended in
      let new = binary_lines contents ++ nuls_for img filled' in
      let fill = cond (eqb filled' 0) 0 (payload_bytes (geometry_of img) - filled') in
      read_stored r.held r.reader (stored_behind stored (lines_stored (written_whole written refl).1 fill)) position
      (omega (arith, inside, length-append before new)) (drop-append-le position before new inside)

  -- from where the new lines begin, whatever stands before them
  pub binary_again : BinaryReadAgain (reopened after key (file_of img key).writer caller) key caller
      ((file_of img key).length * payload_bytes (geometry_of img) + filled) contents
  binary_again =
      let nothing : Stored (drop (length before) before) [] = rw (drop-length before) (only_nuls 0) in
      rw (← begun_length start added ended) (binary_behind (length before) (omega arith) nothing)

  pub binary_round_trip : ((line_end img' key caller gather' filled').code ≡ 0)
      × ((close after key (file_of img key).writer).code ≡ 0)
      × ((opened Input (close after key (file_of img key).writer).image key caller).code ≡ 0)
      × BinaryReadAgain (reopened after key (file_of img key).writer caller) key caller ((file_of img key).length * payload_bytes (geometry_of img) + filled) contents
  binary_round_trip = (ended, ended_close start added ended, ended_open start added ended, binary_again)
