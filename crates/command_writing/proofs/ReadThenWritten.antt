-- Reading and writing together: what CSI1 accepts and CSI2 is asked for is written, in no more characters, and read again it is the same.
use Prim.Native.Nat.{ℕ, ◌≤◌}
use mathlib.Core.Path.{◌≡◌, sym, ap, subst, ◌∙◌}
use mathlib.Core.Logic.{inl, inr}
use mathlib.Core.List.{List, ◌++◌}
use native.Mathlib.Omega.{arith}
use lib.ListN.{length, take, drop}
use lib.Seq.{take-append_seam}
use Rattle.answers.specs.declared.Answer.{Answer}
use Rattle.command_grammar.specs.Reading.{Reading, Reads, input_of, side_of}
use Rattle.command_grammar.proofs.GrammarOne.{reads_one}
use Rattle.command.specs.Condensed.{condensed, line_limit, TooLong}
use Rattle.command.specs.Csi1.{condensing_answer, Csi1Answered}
use Rattle.command.specs.Csi1 as One
use Rattle.command.specs.Condensing as C
use Rattle.command.proofs.Csi1Only.{csi1_answered_one}
use Rattle.command.proofs.Csi1Then.{csi1_accepted}
use Rattle.command_writing.specs.WrittenLine.{written}
use Rattle.command_writing.specs.Records.{records_of, Given}
use Rattle.command_writing.specs.CsiWrite.{CsiWriteAnswered}
use Rattle.command_writing.specs.AskedRecords.{RecordsAsked}
use Rattle.command_writing.specs.WrittenBack.{AskedAs, WrittenBack}
use Rattle.command_writing.proofs.WrittenLine.{written_reads, written_shortest}
use Rattle.command_writing.proofs.WrittenCondensed.{read_condensed}
use Rattle.command_writing.proofs.Records.{given_single}
use Rattle.command_writing.proofs.CsiWriteOnly.{csi_write_wrote}
use Rattle.command_writing.proofs.CsiWriteCauses.{csi_write_written_iff}
use Rattle.command_writing.proofs.AskedRecords.{records_asked, records_asked_one}

asked_as : (line : List ℕ) (reading : Reading) → length line ≤ line_limit → Reads line reading
    → AskedAs line (length reading.output) (length (input_of reading.input)) (records_of reading.output) (records_of (input_of reading.input))
unfolding side_of
asked_as line reading fits read =
    record {
      output_ends = records_asked line reading fits read 0;
      input_ends = records_asked line reading fits read 1;
      output_only = records_asked_one line reading fits read 0;
      input_only = records_asked_one line reading fits read 1;
    }

-- CSI1 takes a line that has a reading and is not too long as it stands
csi1_again : (line : List ℕ) (reading : Reading) → length line ≤ line_limit → Reads line reading → (buffer : List ℕ) → line_limit ≤ length buffer
    → (answer : Answer) (after : List ℕ) → Csi1Answered line buffer answer after → (answer.code ≡ 0) × (take answer.number after ≡ line)
csi1_again line reading fits read buffer room answer after is =
    let same : condensed line ≡ line = read_condensed line reading read in
    let read' : Reads (condensed line) reading = subst (λ (l : List ℕ). Reads l reading) (sym same) read in
    let one = csi1_answered_one line buffer answer (condensing_answer (C.Accepted (length (condensed line)))) after
    (condensed line ++ drop (length (condensed line)) buffer) is
    (One.Csi1Answered.answered (One.Csi1.accepted (not_long same) (omega (arith, ap (λ (l : List ℕ). length l) same)) read')) in (
      ap (λ (a : Answer). a.code) one.0,
      rw (one.0, one.1) (take-append_seam (condensed line) (drop (length (condensed line)) buffer) ∙ same),
    )
  where
    not_long : condensed line ≡ line → TooLong line → ⊥
    not_long same (inl over) = omega (arith, over)
    not_long same (inr over) = omega (arith, over, ap (λ (l : List ℕ). length l) same)

module _ (line : List ℕ) (reading : Reading) (fits : length line ≤ line_limit) (read : Reads line reading)
    {lent lent' : ℕ → List ℕ} {outputs inputs : ℕ} {output input : List ℕ}
    (asked : RecordsAsked line 0 lent 0 outputs output) (asked' : RecordsAsked line 1 lent' 0 inputs input) where
  asked_given : Given outputs inputs (output ++ input) reading
  asked_given =
      let due = asked_as line reading fits read in
      let o = due.output_only lent outputs output asked in
      let i = due.input_only lent' inputs input asked' in
      record {
        line = line;
        reads = read;
        gives = record { output = sym o.0; input = sym i.0; bytes = rw (o.1, i.1) };
      }

  again_asked : (other : List ℕ) → length other ≤ line_limit → Reads other reading → AskedAs other outputs inputs output input
  again_asked other fits' read' =
      let due = asked_as line reading fits read in
      let o = due.output_only lent outputs output asked in
      let i = due.input_only lent' inputs input asked' in
      rw (o.0, o.1, i.0, i.1) (asked_as other reading fits' read')

  line_written : (room : List ℕ) → line_limit ≤ length room → (answer : Answer) (after : List ℕ)
      → CsiWriteAnswered outputs inputs (output ++ input) room answer after → WrittenBack line outputs inputs output input answer after
  line_written room enough answer after is =
      let shorter = written_shortest line reading read in
      let code : answer.code ≡ 0 =
      (csi_write_written_iff outputs inputs (output ++ input) room answer after is).1 (reading, asked_given, omega (arith, fits, shorter), omega (arith, fits, shorter, enough)) in
      let wrote = csi_write_wrote outputs inputs (output ++ input) room answer after is code in
      let is-written : take answer.number after ≡ written reading = wrote.same ∙ ap written (given_single wrote.given asked_given) in
      let long : length (take answer.number after) ≡ length (written reading) = ap (λ (l : List ℕ). length l) is-written in
      let again : Reads (take answer.number after) reading = subst (λ (l : List ℕ). Reads l reading) (sym is-written) (written_reads line reading read) in
      let few : length (take answer.number after) ≤ line_limit = omega (arith, fits, shorter, long) in
      record {
        code = code;
        short = omega (arith, shorter, long, wrote.long);
        same = λ other says. subst (λ (r : Reading). Reads (take answer.number after) r) (reads_one line reading other read says) again;
        accepted = csi1_again (take answer.number after) reading few again;
        asked = again_asked (take answer.number after) few again;
      }

-- a line that CSI1 accepts is asked so: with 384 bytes for each answer the asking of both sides ends
pub accepted_asked : (line buffer : List ℕ) (answer : Answer) (after : List ℕ) → Csi1Answered line buffer answer after → answer.code ≡ 0
    → (outputs inputs : ℕ) × (output input : List ℕ) × AskedAs (take answer.number after) outputs inputs output input
accepted_asked line buffer answer after is code =
    let a = csi1_accepted line buffer answer after is code in
    (_, _, _, _, asked_as (take answer.number after) a.reading a.fits a.has)

-- "Reading what was written gives the same specifications": for every line that CSI1 accepts, asked place by place on both sides, and written into
-- a buffer of 128 bytes
pub read_then_written : (line buffer : List ℕ) (answer : Answer) (after : List ℕ) → Csi1Answered line buffer answer after → answer.code ≡ 0
    → {lent lent' : ℕ → List ℕ} {outputs inputs : ℕ} {output input : List ℕ}
    → RecordsAsked (take answer.number after) 0 lent 0 outputs output → RecordsAsked (take answer.number after) 1 lent' 0 inputs input
    → (room : List ℕ) → line_limit ≤ length room → (written : Answer) (left : List ℕ)
    → CsiWriteAnswered outputs inputs (output ++ input) room written left
    → WrittenBack (take answer.number after) outputs inputs output input written left
read_then_written line buffer answer after is code asked asked' =
    let a = csi1_accepted line buffer answer after is code in
    line_written (take answer.number after) a.reading a.fits a.has asked asked'
