-- Lines are written by calls one after another, ended, closed and opened for input, and read back the same: every request on the way has code 0.
use Prim.Native.Nat.{ℕ, ◌+◌, ◌-◌, ◌*◌, ◌≤◌, ◌<◌}
use mathlib.Core.Path.{◌≡◌, refl}
use mathlib.Core.Bool.{cond}
use mathlib.Core.List.{List, [], ◌++◌, flatten}
use native.Mathlib.Omega.{arith}
use lib.Dec.{eqb}
use lib.ListN.{length, take, replicate, length-append}
use lib.Seq.{drop-append_seam}
use Rattle.pack.specs.declared.Key.{Key}
use Rattle.pack.specs.Geometry.{geometry_of, payload_bytes}
use Rattle.pack.specs.Owner.{free_count}
use Rattle.asking.specs.Asked.{file_of}
use Rattle.opening.specs.declared.Opening.TheVariants.{Input}
use Rattle.opening.specs.Open.{opened}
use Rattle.opening.specs.Close.{close}
use Rattle.lines.specs.LineWrite.{put_all}
use Rattle.lines.specs.LineWriting.{nuls_for, line_end}
use Rattle.lines.specs.LineRoundTrip.{TextLines}
use Rattle.lines.specs.declared.LineMode.TheVariants.{Normal}
use Rattle.lines.proofs.LineRoundTrip.{lines_read_back}
use Rattle.promises.specs.GivenWhen.{GivesCode}
use Rattle.promises.specs.Codes.{AddingCases, OtherPayload}
use Rattle.promises.specs.BytesAgain.{payloads_in, reopened}
use Rattle.promises.specs.LinesAgain.{WrittenBy, ReadAgain}
use Rattle.promises.proofs.BytesAgainLaid.{Clear, BytesAdded, laid_measures}
use Rattle.promises.proofs.BytesAgainCalls.{end_clear}
use Rattle.promises.proofs.BytesAgain.{Readable, begun_length, ended_close, ended_open, ended_readable}
use Rattle.promises.proofs.LinesAgainCalls.{written_whole, written_start}
use Rattle.promises.proofs.LinesAgainAccepted.{lines_ended}
use Rattle.promises.proofs.LinesAgainRead.{read_lines}

-- lines that stand behind others in a file that can be read
readable_lines : {img : List ℕ} {key : Key} {caller : ℕ} {lines : List (List ℕ)} (front : List ℕ) (fill : ℕ)
    → Readable img key caller (front ++ (put_all (flatten lines) ++ replicate fill 0)) → TextLines lines → ReadAgain img key caller (length front) lines
readable_lines {lines = lines} front fill r all =
    read_lines r.held r.reader all (length front) (omega (arith, length-append front (put_all (flatten lines) ++ replicate fill 0)))
    (rw (drop-append_seam front (put_all (flatten lines) ++ replicate fill 0)) (lines_read_back Normal fill all))

-- the whole text is written, from a buffer that is filled so far, and the ending call has code 0
module _ {key : Key} {caller : ℕ} {img gather text img' gather' : List ℕ} {filled filled' : ℕ}
    (written : WrittenBy key caller img gather filled text img' gather' filled' []) (ended : (line_end img' key caller gather' filled').code ≡ 0) where
  reached : BytesAdded key caller (geometry_of img) img gather filled (put_all text) img' gather' filled'
  reached = written_whole written refl

  started : (begun : List ℕ) × Clear key caller (geometry_of img) img gather filled begun
  started =
      let ending : Clear key caller (geometry_of img) img' gather' filled' (nuls_for img filled') =
      rw (← laid_measures reached refl) (end_clear img' key caller gather' filled' ended) in
      written_start written refl ending

  pub lines_close : (close (line_end img' key caller gather' filled').image key (file_of img key).writer).code ≡ 0
  lines_close = ended_close started.1 reached ended

  pub lines_open : (opened Input (close (line_end img' key caller gather' filled').image key (file_of img key).writer).image key caller).code ≡ 0
  lines_open = ended_open started.1 reached ended

-- "Lines of 7-bit characters without NUL or RUBOUT, each with its one terminator at its end, must read back the same when the count allows them.":
-- from whatever filled count, and from where they begin
pub lines_again : {key : Key} {caller : ℕ} {img gather img' gather' : List ℕ} {filled filled' : ℕ} {lines : List (List ℕ)} → TextLines lines
    → WrittenBy key caller img gather filled (flatten lines) img' gather' filled' [] → (line_end img' key caller gather' filled').code ≡ 0
    → ReadAgain (reopened (line_end img' key caller gather' filled').image key (file_of img key).writer caller) key caller
    ((file_of img key).length * payload_bytes (geometry_of img) + filled) lines
lines_again {key} {img = img} {gather = gather} {filled = filled} {filled' = filled'} all written ended =
    let start = (started written ended).1 in
    rw (← begun_length start (reached written ended) ended)
    (readable_lines (payloads_in img key ++ take filled gather) (cond (eqb filled' 0) 0 (payload_bytes (geometry_of img) - filled')) (ended_readable start (reached written ended) ended) all)

-- Every request of the round trip has code 0, where nothing but room could speak against a linked add of the gather buffer, and the free blocks hold the text as
-- it is put: each call of writing on the way (`lines_accepted`; it can be finished from wherever it is, `lines_finish`), and then
module _ (img : List ℕ) (key : Key) (caller : ℕ) (gather : List ℕ)
    (open-cases : GivesCode (AddingCases img key caller (OtherPayload img gather)) 0)
    {filled : ℕ} (within : filled < payload_bytes (geometry_of img)) {lines : List (List ℕ)} (all : TextLines lines)
    (room : filled + length (put_all (flatten lines)) ≤ free_count img * payload_bytes (geometry_of img))
    {img' gather' : List ℕ} {filled' : ℕ} (written : WrittenBy key caller img gather filled (flatten lines) img' gather' filled' []) where
  pub lines_round_trip : ((line_end img' key caller gather' filled').code ≡ 0)
      × ((close (line_end img' key caller gather' filled').image key (file_of img key).writer).code ≡ 0)
      × ((opened Input (close (line_end img' key caller gather' filled').image key (file_of img key).writer).image key caller).code ≡ 0)
      × ReadAgain (reopened (line_end img' key caller gather' filled').image key (file_of img key).writer caller) key caller
      ((file_of img key).length * payload_bytes (geometry_of img) + filled) lines
  lines_round_trip =
      let ended = lines_ended img key caller gather open-cases filled within (flatten lines) room written in
      (ended, lines_close written ended, lines_open written ended, lines_again all written ended)
