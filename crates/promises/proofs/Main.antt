-- The order, sentence by sentence, in the customer's words, and under each the theorems that carry it. docs/PROMISES.md goes on from here.
use Prim.Native.Nat.{ℕ, suc, ◌+◌, ◌*◌, ◌/◌, ◌≤◌, ◌<◌}
use mathlib.Core.Path.{◌≡◌, refl, ap}
use mathlib.Core.Logic.{◌↔◌, ◌⊎◌}
use mathlib.Core.Bool.{true}
use mathlib.Core.List.{List, [], ◌∷◌, ◌++◌, map, flatten}
use mathlib.Core.Option.{Option, none, some}
use native.Mathlib.Omega.{arith}
use lib.ListN.{length, get_or, set, take, drop, replicate}
use Rattle.answers.specs.declared.Answer.{Answer}
use Rattle.answers.specs.Refusals.{table_order, place_in}
use Rattle.words.specs.Word.{word_at}
use Rattle.words.specs.Text.{bytes}
use Rattle.radix.specs.Characters.{code_of, character_of}
use Rattle.radix.specs.Radpk.{radpk}
use Rattle.radix.specs.Radup.{radup}
use Rattle.radix.proofs.RadpkCases
use Rattle.numerals.specs.Digits.{all_digits, value_of, digits}
use Rattle.numerals.specs.Decimal.{d2bin, bin2d}
use Rattle.numerals.specs.Octal.{o2bin, bin2o}
use Rattle.pack.specs.declared.Key.{Key}
use Rattle.pack.specs.declared.Owner.TheVariants.{Free}
use Rattle.pack.specs.Form.{bodies_of}
use Rattle.pack.specs.Geometry.{geometry_of, slots, block_bytes, payload_bytes}
use Rattle.pack.specs.Header.{Measured}
use Rattle.pack.specs.File.{count}
use Rattle.pack.specs.Entry.{entry_word, entry_of, blocks_at}
use Rattle.pack.specs.Map.{HasMap}
use Rattle.pack.specs.Consistent.{held, Consistent}
use Rattle.pack.specs.Owner.{owner_of, HeldAt, FreeBlock, stored_lengths, free_count}
use Rattle.pack.specs.Key.{key_in, SameKey}
use Rattle.pack.specs.Untouched.{Untouched}
use Rattle.consistency.specs.ConsistentTest.{consistent}
use Rattle.consistency.proofs.ConsistentTestIff.{consistent_iff}
use Rattle.asking.specs.declared.Right.{Right}
use Rattle.asking.specs.declared.Right.TheVariants.{Read}
use Rattle.asking.specs.Outcome.{Unchanged}
use Rattle.asking.specs.KeysTest.{legal_key, found}
use Rattle.asking.specs.Asked.{file_of}
use Rattle.asking.specs.RightsTest.{may}
use Rattle.asking.specs.Rights.{May}
use Rattle.asking.proofs.Keys.{found_iff, absent_iff, one_entry}
use Rattle.asking.proofs.Rights.{may_iff}
use Rattle.owners.specs.OneOwner.{OneOwner}
use Rattle.owners.specs.OwnerQuestion.{owner}
use Rattle.owners.proofs.OneOwner.{one_owner}
use Rattle.owners.proofs.OwnerSum.{sum_of_blocks}
use Rattle.owners.proofs.OwnerQuestionEffect.{says_system, says_free, says_held}
use Rattle.creation.specs.Formattable.{Formattable}
use Rattle.creation.specs.Format.{measures_of, formatted}
use Rattle.creation.specs.Rounding.{length_for}
use Rattle.creation.specs.Alloc.{alloc}
use Rattle.room.specs.Room.{FreeRun}
use Rattle.creation.proofs.FormatRows.{format_iff}
use Rattle.creation.proofs.FormatBytes.{word_form}
use Rattle.creation.proofs.FormatEffect.{format_consistent, format_geometry, format_free}
use Rattle.transfer.specs.Block.{block_in}
use Rattle.finishing.specs.Finish.{ScratchFrom, deleted_all, EachDeleted, finish}
use Rattle.finishing.specs.ScratchTest.{scratch_keys}
use Rattle.finishing.proofs.ScratchTestIff
use Rattle.finishing.proofs.FinishEffect
use Rattle.transfer.specs.LinkedRead.{linked_read}
use Rattle.adding.specs.LinkedAdd.{linked_add}
use Rattle.lines.specs.LineWriting.{line_write, line_end}
use Rattle.stream.specs.BytesReading.{bytes_behind}
use Rattle.lines.specs.declared.LineMode.{LineMode}
use Rattle.lines.specs.LineReading.{mode_of}
use Rattle.binary.specs.BinaryLine.{binary_line}
use Rattle.binary.specs.BinaryRead.{BinaryFound}
use Rattle.binary.specs.BinaryCases.{Kind, BinaryCase, StatusOf}
use Rattle.binary.specs.BinaryRoundTrip.{Stored, binary_lines}
use Rattle.binary.specs.BinaryReading.{binary_outcome, binary_read}
use Rattle.binary.specs.BinaryWriting.{binary_write}
use Rattle.binary.proofs.BinaryCases
use Rattle.binary.proofs.BinaryReadingStage
use Rattle.command_grammar.specs.Parsed.{Parsed}
use Rattle.command_grammar.specs.Grammar.{Command}
use Rattle.command_grammar.specs.Bounded.{Bounded}
use Rattle.command_grammar.specs.Reading.{Reading, Reads, OverBound, side_of}
use Rattle.command_grammar.specs.LinePlace.{Viable, LinePlace}
use Rattle.command.specs.declared.csi2.SpecificationAnswer.{SpecificationAnswer}
use Rattle.command.specs.Condensed.{condensed, line_limit, TooLong}
use Rattle.command.specs.Csi1.{Csi1Answered}
use Rattle.command.specs.Csi2.{refusal, Csi2Answered}
use Rattle.command.specs.Known.{Known, known_of, AskedFrom}
use Rattle.command.proofs.Csi1Only
use Rattle.command.proofs.Csi2Only
use Rattle.command.proofs.KnownReading
use Rattle.command_writing.specs.CsiWrite.{CsiWriteAnswered}
use Rattle.command_writing.specs.AskedRecords.{RecordsAsked}
use Rattle.command_writing.specs.WrittenBack.{AskedAs, WrittenBack}
use Rattle.command_writing.proofs.CsiWriteOnly
use Rattle.command_writing.proofs.CsiWriteCauses
use Rattle.command_writing.proofs.CsiWriteAnswers
use Rattle.command_writing.proofs.ReadThenWritten
use Rattle.moving.specs.declared.Way.{Way}
use Rattle.moving.specs.Ways.{back, moved, renumbered}
use Rattle.moving.specs.Moved.{moved_entry, Bytes}
use Rattle.moving.specs.Moving.{Moving}
use Rattle.moving.proofs.MovingCodes
use Rattle.moving.proofs.MovesPlain
use Rattle.requests.specs.Request.{Request, outcome, Names, buffer_lent, NotFormat}
use Rattle.requests.specs.FileAt.{FileAt, NoFile}
use Rattle.requests.specs.Contract.{code_and_both, Result, numbers_in, Meets, contract_of}
use Rattle.requests.proofs.RequestConsistent
use Rattle.requests.proofs.RequestRefused
use Rattle.requests.proofs.RequestUntouched
use Rattle.requests.proofs.ContractSingle
use Rattle.listed.specs.Record.{request_in}
use Rattle.many.specs.Layout.{record_at}
use Rattle.many.specs.Many.{many, image_behind, record_outcome}
use Rattle.requests.specs.Changes.{MayChange}
use Rattle.requests.proofs.Changes
use Rattle.promises.specs.Measures.{DocumentHeader, SystemBlocks, bit_in_map, DocumentMeasures}
use Rattle.promises.specs.GivenWhen.{GivesCode, InTableOrder}
use Rattle.promises.specs.Codes.{CreatingCases, AddingCases, OtherPayload, OtherGather, NoLineMode, full_blocks, LongerLine, full_binary, cases_of}
use Rattle.promises.specs.CommandCodes.{Csi1Cases, Csi2Cases}
use Rattle.promises.specs.WritingCodes.{CsiWriteCases}
use Rattle.promises.specs.MovesCodes.{MoveCases}
use Rattle.promises.specs.Many.{ManyCases, word_of, NamedBy, NotNamed, Answers}
use Rattle.promises.specs.Sequence.{Step, step_outcome, image_after_all, RequestIn, Unnamed}
use Rattle.promises.specs.SequenceExamples.{NamedExamples}
use Rattle.promises.specs.AddedAgain.{opened_image}
use Rattle.promises.specs.AllocZeros.{allocated_image, readable_image, zero_block}
use Rattle.promises.specs.Refused.{NotRadix, NotWord, TooLarge, NotNumeral}
use Rattle.promises.specs.Conversions.{NumberDemands, CharactersDemands, InverseDemands}
use Rattle.promises.specs.Examples.{Examples, BoundExamples}
use Rattle.promises.proofs.Examples as Shown
use Rattle.opening.specs.declared.Opening.TheVariants.{Input}
use Rattle.opening.specs.Open.{opened}
use Rattle.opening.specs.Close.{close}
use Rattle.lines.specs.LineWrite.{put_all}
use Rattle.lines.specs.LineRoundTrip.{TextLines}
use Rattle.promises.specs.BytesAgain.{payloads_in, reopened}
use Rattle.promises.specs.LinesAgain.{WrittenBy, ReadAgain}
use Rattle.promises.specs.BinaryAgain.{BinaryWrittenBy, PartsRead, BinaryReadAgain}
use Rattle.promises.specs.BinaryExamples.{BinaryExamples}
use Rattle.promises.proofs.LinesAgain
use Rattle.promises.proofs.BinaryAnswers
use Rattle.promises.proofs.BinaryParts
use Rattle.promises.proofs.BinaryAgain
use Rattle.promises.proofs.BinaryChanged
use Rattle.promises.proofs.BinaryExamples as BinaryShown
use Rattle.promises.proofs.Measures
use Rattle.promises.proofs.Codes
use Rattle.promises.proofs.CodesRoom
use Rattle.promises.proofs.AddedAgain
use Rattle.promises.proofs.AllocZeros
use Rattle.promises.proofs.ConversionsDemands
use Rattle.promises.proofs.Commands
use Rattle.promises.proofs.CommandCodes
use Rattle.promises.proofs.WritingCodes
use Rattle.promises.proofs.MovesCodes
use Rattle.promises.proofs.Many
use Rattle.promises.proofs.Sequence
use Rattle.promises.proofs.SequenceExamples as NamedShown

-- 1.1 "Every request accepts any numbers and any image."
-- No exported function (`crates/service/src`) has a `requires`: its contract holds of every input, and the code it gives is 0 or one of the paper's table.
pub code_known : (r : Request) (img : List ℕ) → ((outcome r img).code ≡ 0) ⊎ (place_in table_order (outcome r img).code < length table_order)
code_known = Codes.code_known

-- The contracts of CSI1, CSI2 and the writing of a line are relations: each allows an answer to any line, in any buffer, for any side and place, and to any counts and records.
pub csi1_answers : (line buffer : List ℕ) → (answer : Answer) × (after : List ℕ) × Csi1Answered line buffer answer after
csi1_answers = Csi1Only.csi1_answers

pub csi2_answers : (line : List ℕ) (side k : ℕ) (buffer : List ℕ) → (answer : SpecificationAnswer) × (after : List ℕ) × Csi2Answered line side k buffer answer after
csi2_answers = Csi2Only.csi2_answers

pub csi_write_answers : (outputs inputs : ℕ) (records buffer : List ℕ) → (answer : Answer) × (after : List ℕ) × CsiWriteAnswered outputs inputs records buffer answer after
csi_write_answers = CsiWriteAnswers.csi_write_answers

-- So is that of a move between forms (02 §8), each way: it allows an answer to any source, into any target. `Bytes`, that the numbers are below 256, holds of
-- every slice: the contracts of both moves say so of the source and of the target behind the call.
pub moves_answers : (way : Way) (src target : List ℕ) → Bytes src → Bytes target → (code : ℕ) × (after : List ℕ) × Moving way src target code after × Bytes after
moves_answers way src target small held =
    let answered = MovesPlain.moving_answered way src target small in (answered.code, answered.after, answered.is, answered.bytes held)

-- 1.2 "What cannot be done is refused with the code that the build document orders first,"
-- Each request on an image gives each code exactly in its case (`specs/Codes.antt`), and the cases stand in the order of the paper's table.
pub code_iff : (r : Request) (img : List ℕ) (code : ℕ) → (outcome r img).code ≡ code ↔ GivesCode (cases_of r img) code
code_iff = Codes.code_iff

pub cases_ordered : (r : Request) (img : List ℕ) → InTableOrder (cases_of r img)
cases_ordered = Codes.cases_ordered

-- so do CSI1 and CSI2
pub csi1_code_iff : (line buffer : List ℕ) (answer : Answer) (after : List ℕ) → Csi1Answered line buffer answer after
    → (code : ℕ) → answer.code ≡ code ↔ GivesCode (Csi1Cases line buffer) code
csi1_code_iff = CommandCodes.csi1_code_iff

pub csi2_code_iff : (line : List ℕ) (side k : ℕ) (buffer : List ℕ) (answer : SpecificationAnswer) (after : List ℕ) → Csi2Answered line side k buffer answer after
    → (code : ℕ) → answer.code ≡ code ↔ GivesCode (Csi2Cases line side k buffer) code
csi2_code_iff = CommandCodes.csi2_code_iff

-- and the writing of a command line
pub csi_write_code_iff : (outputs inputs : ℕ) (records buffer : List ℕ) (answer : Answer) (after : List ℕ) → CsiWriteAnswered outputs inputs records buffer answer after
    → (code : ℕ) → answer.code ≡ code ↔ GivesCode (CsiWriteCases outputs inputs records buffer) code
csi_write_code_iff = WritingCodes.csi_write_code_iff

-- and a move between forms, in the paper's own numbers
pub moves_code_iff : (way : Way) (src target : List ℕ) (given : ℕ) (after : List ℕ) → Moving way src target given after
    → (code : ℕ) → given ≡ code ↔ GivesCode (MoveCases way src (length target)) code
moves_code_iff = MovesCodes.moves_code_iff

-- and many requests in one call (02 §9): "41 for the whole call .. if there are over 64 records or a part of one, or the answers have less room than the records"
pub many_code_iff : (img records answers : List ℕ) (code : ℕ) → (many img records answers).code ≡ code ↔ GivesCode (ManyCases records answers) code
many_code_iff = Many.many_code_iff

-- and the conversions; a field of these is for 1.1, one for 1.3
pub radpk_demands : NumberDemands 3 NotRadix radpk
radpk_demands = ConversionsDemands.radpk_demands

pub radup_demands : CharactersDemands 3 NotWord radup
radup_demands = ConversionsDemands.radup_demands

pub d2bin_demands : NumberDemands 5 (NotNumeral 10) d2bin
d2bin_demands = ConversionsDemands.d2bin_demands

pub bin2d_demands : CharactersDemands 5 TooLarge bin2d
bin2d_demands = ConversionsDemands.bin2d_demands

pub o2bin_demands : NumberDemands 6 (NotNumeral 8) o2bin
o2bin_demands = ConversionsDemands.o2bin_demands

pub bin2o_demands : CharactersDemands 6 TooLarge bin2o
bin2o_demands = ConversionsDemands.bin2o_demands

-- 1.3 "and the image and each lent buffer then hold what they held before."
pub refusal_leaves : (r : Request) (img : List ℕ) → ((outcome r img).code ≡ 0 → ⊥)
    → Unchanged (outcome r img) (replicate (numbers_in (contract_of r)) 0) img (buffer_lent r)
refusal_leaves = RequestRefused.refusal_leaves

pub csi1_kept : (line buffer : List ℕ) (answer : Answer) (after : List ℕ) → Csi1Answered line buffer answer after → (answer.code ≡ 0 → ⊥)
    → (after ≡ buffer) × ((answer.code ≡ 0o50 → ⊥) → answer.number ≡ 0)
csi1_kept = CommandCodes.csi1_kept

pub csi2_kept : (line : List ℕ) (side k : ℕ) (buffer : List ℕ) (answer : SpecificationAnswer) (after : List ℕ) → Csi2Answered line side k buffer answer after
    → (answer.code ≡ 0 → ⊥) → (after ≡ buffer) × (answer ≡ refusal answer.code answer.place) × ((answer.code ≡ 0o50 → ⊥) → answer.place ≡ 0)
csi2_kept = CommandCodes.csi2_kept

pub csi_write_kept : (outputs inputs : ℕ) (records buffer : List ℕ) (answer : Answer) (after : List ℕ) → CsiWriteAnswered outputs inputs records buffer answer after
    → (answer.code ≡ 0 → ⊥) → (after ≡ buffer) × (answer.number ≡ 0)
csi_write_kept = CsiWriteCauses.csi_write_kept

pub moves_kept : (way : Way) (src target : List ℕ) (code : ℕ) (after : List ℕ) → Moving way src target code after → (code ≡ 0 → ⊥) → after ≡ target
moves_kept way src target code after is refused = MovingCodes.refused_same is refused

pub many_kept : (img records answers : List ℕ) → ((many img records answers).code ≡ 0 → ⊥) → Unchanged (many img records answers) [] img answers
many_kept = Many.many_kept

-- 2.1 "From any consistent image, each request has exactly the effect and answer that the build document draws from the handbook."
-- Each contract is an equation with the request's `outcome`, whose definition says every word that changes. It allows one result:
pub one_result : (r : Request) (img : List ℕ) (a b : Result (contract_of r))
    → Meets (contract_of r) img (outcome r img) a → Meets (contract_of r) img (outcome r img) b → a ≡ b
one_result = ContractSingle.one_result

pub many_one : (img records answers : List ℕ) (a b : Result code_and_both)
    → Meets code_and_both img (many img records answers) a → Meets code_and_both img (many img records answers) b → a ≡ b
many_one = Many.many_one

-- no word of the image changes but those that the request may change (`MayChange`, row by row from the paper),
pub nothing_else : (r : Request) (img : List ℕ) (w : ℕ) → (MayChange r img w → ⊥) → word_at (outcome r img).image w ≡ word_at img w
nothing_else = Changes.nothing_else

pub same_length : (r : Request) (img : List ℕ) → length (outcome r img).image ≡ length img
same_length = Changes.same_length

-- what success changes there, request by request, is in Effects.antt; and it touches no file that it does not name
pub who_is_not_named : (r : Request) {img : List ℕ} → Consistent img → (who : Key) → (Names r who → ⊥) → Untouched who img (outcome r img).image
who_is_not_named = RequestUntouched.who_is_not_named

-- rights are those of Figure 2-7
pub figure : (right : Right) (caller uic protect : ℕ) → may right caller uic protect ≡ true ↔ May caller uic protect right
figure = may_iff

-- a legal key is found exactly where an entry has it, and at most one has it
module _ {img : List ℕ} (right : Consistent img) (key : Key) (legal : legal_key key ≡ true) where
  pub entry_found : (e : ℕ) → found img key ≡ some e ↔ ((e < slots (geometry_of img)) × SameKey (key_in (entry_of img (geometry_of img) e)) key)
  entry_found = found_iff right key legal

  pub entry_absent : found img key ≡ none ↔ ((e : ℕ) → e < slots (geometry_of img) → SameKey (key_in (entry_of img (geometry_of img) e)) key → ⊥)
  entry_absent = absent_iff right key legal

  pub entry_single : (e f : ℕ) → e < slots (geometry_of img) → f < slots (geometry_of img)
      → SameKey (key_in (entry_of img (geometry_of img) e)) key → SameKey (key_in (entry_of img (geometry_of img) f)) key → e ≡ f
  entry_single = one_entry right key legal

-- what was added is read, after CLOSE and OPENI
pub add_again : (img : List ℕ) (key : Key) (caller : ℕ) (payload : List ℕ) → (linked_add img key caller payload).code ≡ 0
    → (lent : List ℕ) → length lent ≡ payload_bytes (geometry_of img)
    → linked_read (opened_image img key caller payload) key caller (file_of img key).length lent
    ≡ record { code = 0; numbers = []; image = opened_image img key caller payload; buffer = payload }
add_again = AddedAgain.add_again

-- what Format is told, and what block 0 says, is right exactly in the papers' numbers, those of the form
pub document_header : (long form n c u : ℕ) → Measured long form n c u ↔ DocumentHeader long form n c u
document_header = Measures.document_header

-- 02 §1: lines that are written by any calls, behind whatever the gather buffer holds, ended, closed and opened for input are read back the same; every code
-- behind the calls of writing is 0, and so is each of those, from wherever the writing is (`lines_accepted`, `lines_go_on`, `lines_finish`, LinesAgainAccepted.antt)
module _ (img : List ℕ) (key : Key) (caller : ℕ) (gather : List ℕ) (clear : GivesCode (AddingCases img key caller (OtherPayload img gather)) 0)
    {filled : ℕ} (within : filled < payload_bytes (geometry_of img)) {lines : List (List ℕ)} (all : TextLines lines)
    (room : filled + length (put_all (flatten lines)) ≤ free_count img * payload_bytes (geometry_of img))
    {img' gather' : List ℕ} {filled' : ℕ} (written : WrittenBy key caller img gather filled (flatten lines) img' gather' filled' []) where
  pub lines_round_trip : ((line_end img' key caller gather' filled').code ≡ 0)
      × ((close (line_end img' key caller gather' filled').image key (file_of img key).writer).code ≡ 0)
      × ((opened Input (close (line_end img' key caller gather' filled').image key (file_of img key).writer).image key caller).code ≡ 0)
      × ReadAgain (reopened (line_end img' key caller gather' filled').image key (file_of img key).writer caller) key caller
      ((file_of img key).length * payload_bytes (geometry_of img) + filled) lines
  lines_round_trip = LinesAgain.lines_round_trip img key caller gather clear within all room written

-- 02 §10: formatted binary lines. Reading has five answers (`BinaryCase`, crates/binary/specs: the bytes end in the header, the header is wrong, the buffer is full, the
-- line is read, the data end), each with when it is given. They are whole and exclude one another,
pub binary_whole : (mode : LineMode) (most to_come sum : ℕ) (s : List ℕ) → (kind : Kind) × (found : BinaryFound) × BinaryCase mode most sum s to_come kind found
binary_whole = BinaryAnswers.binary_whole

pub binary_exclude : {mode : LineMode} {most to_come sum : ℕ} {s : List ℕ} {kind kind' : Kind} {found found' : BinaryFound}
    → BinaryCase mode most sum s to_come kind found → BinaryCase mode most sum s to_come kind' found' → (kind ≡ kind') × (found ≡ found')
binary_exclude = BinaryCases.cases_exclude

-- and where the code is 0 the answer is that of its case, in the bytes from the position on; no status but 0, 1, 2, 4 and 64, and in normal mode 3 and 65;
-- the next position is never beyond the payloads, and goes on with every read that is not at the end and not of bit 2
module _ (img : List ℕ) (key : Key) (caller mode position to_come sum : ℕ) (buffer : List ℕ)
    (success : (binary_read img key caller mode position to_come sum buffer).code ≡ 0) where
  pub binary_answered : {kind : Kind} {found : BinaryFound} → BinaryCase (mode_of mode) (length buffer) sum (bytes_behind img key position) to_come kind found
      → binary_read img key caller mode position to_come sum buffer ≡ binary_outcome img position buffer found
  binary_answered = BinaryAnswers.binary_answered img key caller mode position to_come sum buffer success

  pub binary_statuses : StatusOf (mode_of mode) (get_or (binary_read img key caller mode position to_come sum buffer).numbers 1 0)
  binary_statuses = BinaryAnswers.binary_statuses img key caller mode position to_come sum buffer success

  pub binary_next_most : get_or (binary_read img key caller mode position to_come sum buffer).numbers 2 0 ≤ (file_of img key).length * payload_bytes (geometry_of img)
  binary_next_most = BinaryReadingStage.binary_read_most img key caller mode position to_come sum buffer success

  pub binary_next_grows : position < (file_of img key).length * payload_bytes (geometry_of img)
      → (get_or (binary_read img key caller mode position to_come sum buffer).numbers 1 0 ≡ 4 → ⊥)
      → position < get_or (binary_read img key caller mode position to_come sum buffer).numbers 2 0
  binary_next_grows = BinaryReadingStage.binary_read_grows img key caller mode position to_come sum buffer success

-- "special keeps the rest and does not verify until its last part is read": parts of any sizes, the last in either mode, come to what one special read with a
-- buffer from 512 gives, its bytes, status and position; and with whatever buffers the parts come to an end
module _ (img : List ℕ) (key : Key) (caller : ℕ) where
  pub binary_parts_one : {buffers : ℕ → List ℕ} {position to_come sum : ℕ} {laid : List ℕ} {status next : ℕ}
      → PartsRead img key caller buffers position to_come sum laid status next → (buffer : List ℕ) → 512 ≤ length buffer
      → binary_read img key caller 1 position to_come sum buffer
      ≡ record { code = 0; numbers = length laid ∷ (status ∷ (next ∷ (0 ∷ (0 ∷ [])))); image = img; buffer = laid ++ drop (length laid) buffer }
  binary_parts_one = BinaryParts.binary_parts_one img key caller

  pub binary_parts_end : (buffers : ℕ → List ℕ) → ((i : ℕ) → 0 < length (buffers i)) → (position to_come sum : ℕ)
      → (binary_read img key caller 1 position to_come sum (buffers 0)).code ≡ 0
      → (laid : List ℕ) × (status : ℕ) × (next : ℕ) × PartsRead img key caller buffers position to_come sum laid status next
  binary_parts_end = BinaryParts.binary_parts_end img key caller

-- "What is written reads back": lines that are written, behind whatever the gather buffer holds, ended, closed and opened for input are read, at once and in any
-- parts; every code behind the calls of writing is 0, and so is each of those, from wherever the writing is (`binary_accepted`, `binary_finish`, BinaryAgainCalls.antt)
module _ (img : List ℕ) (key : Key) (caller : ℕ) (gather : List ℕ) (clear : GivesCode (AddingCases img key caller (OtherPayload img gather)) 0)
    {filled : ℕ} (within : filled < payload_bytes (geometry_of img)) {contents : List (List ℕ)}
    (room : filled + length (binary_lines contents) ≤ free_count img * payload_bytes (geometry_of img))
    {img' gather' : List ℕ} {filled' : ℕ} (written : BinaryWrittenBy key caller img gather filled contents img' gather' filled' []) where
  pub binary_round_trip : ((line_end img' key caller gather' filled').code ≡ 0)
      × ((close (line_end img' key caller gather' filled').image key (file_of img key).writer).code ≡ 0)
      × ((opened Input (close (line_end img' key caller gather' filled').image key (file_of img key).writer).image key caller).code ≡ 0)
      × BinaryReadAgain (reopened (line_end img' key caller gather' filled').image key (file_of img key).writer caller) key caller
      ((file_of img key).length * payload_bytes (geometry_of img) + filled) contents
  binary_round_trip = BinaryAgain.binary_round_trip img key caller gather clear within room written

  -- and from any position from which on the file and the buffer had lines before, behind these and the NULs of ended blocks
  pub binary_behind : (position : ℕ) → position ≤ length (payloads_in img key ++ take filled gather) → {earlier : List (List ℕ)}
      → Stored (drop position (payloads_in img key ++ take filled gather)) earlier
      → BinaryReadAgain (reopened (line_end img' key caller gather' filled').image key (file_of img key).writer caller) key caller position (earlier ++ contents)
  binary_behind = BinaryAgain.binary_behind img key caller gather clear within room written

-- "and where the buffer holds the line a change to any one data byte sets bit 1": a line stands as it is stored, but for data byte i, which is another byte
module _ (img : List ℕ) (key : Key) (caller position nuls : ℕ) (content rest : List ℕ) (few : length content ≤ 512)
    (i y : ℕ) (there : i < length content) (byte : get_or content i 0 < 256) (byte' : y < 256) (other : y ≡ get_or content i 0 → ⊥)
    (stands : bytes_behind img key position ≡ replicate nuls 0 ++ (set (binary_line content) (4 + i) y ++ rest)) where
  pub binary_changed : (mode : ℕ) (buffer : List ℕ) → (binary_read img key caller mode position 0 0 buffer).code ≡ 0 → length content ≤ length buffer
      → binary_read img key caller mode position 0 0 buffer
      ≡ record {
        code = 0;
        numbers = length content ∷ (2 ∷ ((position + (nuls + length (binary_line content))) ∷ (0 ∷ (0 ∷ []))));
        image = img;
        buffer = set content i y ++ drop (length content) buffer;
      }
  binary_changed = BinaryChanged.binary_changed img key caller position nuls content rest few i y there byte byte' other stands

-- one stored line and every status, computed
pub binary_examples : BinaryExamples
binary_examples = BinaryShown.binary_examples

-- 02 §2: a new file reads as zeros: with room, and nothing else against ALLOC, it is made, OPENI of who may read opens it, and BLOCK input of every place
-- below its length gives a block all zero; each code is 0
module _ (img : List ℕ) (key : Key) (caller protect segments : ℕ) (clear : GivesCode (CreatingCases img key caller protect (segments ≡ 0)) 0)
    (s : ℕ) (room : FreeRun img (length_for img segments) s) (reader : ℕ) (readable : May reader key.uic protect Read) where
  pub alloc_zeros : ((alloc img key caller protect segments).code ≡ 0)
      × ((opened Input (allocated_image img key caller protect segments) key reader).code ≡ 0)
      × ((place : ℕ) → place < length_for img segments → (lent : List ℕ) → length lent ≡ block_bytes (geometry_of img)
      → block_in (readable_image img key caller protect segments reader) key reader place lent
      ≡ record { code = 0; numbers = []; image = readable_image img key caller protect segments reader; buffer = zero_block img })
  alloc_zeros = AllocZeros.alloc_zeros img key caller protect segments clear s room reader readable

-- 02 §12: "Delete every file of the caller's UIC that has bit 7 clear, is not open, and that DELET would allow, in stored order, and return how many. The image must
-- be the one those DELETs leave": one list has their keys in stored order; of no other list is it so; each DELET is done, and this is all that Finish comes to
module _ {img : List ℕ} (right : Consistent img) (caller : ℕ) where
  pub finish_listed : ScratchFrom img caller 0 (scratch_keys img caller)
  finish_listed = ScratchTestIff.keys_listed right caller

  pub finish_deletes : (keys : List Key) → ScratchFrom img caller 0 keys
      → EachDeleted caller img keys
      × (finish img caller ≡ record { code = 0; numbers = length keys ∷ []; image = deleted_all img caller keys; buffer = [] })
  finish_deletes = FinishEffect.finish_deletes right caller

-- "and a second Finish returns 0", by the same caller, nothing between; and it changes nothing
pub finish_again : (img : List ℕ) (caller : ℕ) → (finish img caller).code ≡ 0
    → finish (finish img caller).image caller ≡ record { code = 0; numbers = 0 ∷ []; image = (finish img caller).image; buffer = [] }
finish_again = FinishEffect.finish_again

-- 02 §9: "Take a lent list of request records": which request the words of a record name; each is made of the image that those before it left, so that every theorem
-- over `Request` here holds of it; "A record that names no such request gets 41 and changes nothing, before code 40 is looked at", of any image
pub record_names : (records : List ℕ) (i : ℕ) (o : Option Request) → NamedBy (word_of records i) o ↔ request_in (record_at records i) ≡ o
record_names = Many.names_iff

module _ (img records : List ℕ) where
  pub record_known : (i : ℕ) (r : Request) → NamedBy (word_of records i) (some r) → record_outcome img records i ≡ outcome r (image_behind img records i)
  record_known = Many.record_known img records

  pub record_unknown : (i : ℕ) → NamedBy (word_of records i) none
      → record_outcome img records i ≡ record { code = 0o41; numbers = []; image = image_behind img records i; buffer = [] }
  record_unknown = Many.record_unknown img records

  -- so "Demands 1 and 2 hold of each record": every theorem over `Request` here, as those of its codes and of a refusal
  pub record_code_iff : (i : ℕ) (r : Request) → NamedBy (word_of records i) (some r) → (code : ℕ)
      → (record_outcome img records i).code ≡ code ↔ GivesCode (cases_of r (image_behind img records i)) code
  record_code_iff i r named code = rw (record_known i r named) (code_iff r (image_behind img records i) code)

  pub record_kept : (i : ℕ) (r : Request) → NamedBy (word_of records i) (some r) → ((record_outcome img records i).code ≡ 0 → ⊥)
      → (record_outcome img records i).image ≡ image_behind img records i
  record_kept i r named = rw (record_known i r named) (λ refused. (refusal_leaves r (image_behind img records i) refused).same_image)

  pub images_begin : image_behind img records 0 ≡ img
  images_begin = Many.images_begin img records

  pub images_go_on : (i : ℕ) → image_behind img records (suc i) ≡ (record_outcome img records i).image
  images_go_on = Many.images_go_on img records

-- "Image and answers must equal those of the same requests made singly in that order": the image is the one that the last leaves, answer i what record i comes to,
-- and the bytes behind the answers stay
module _ (img records answers : List ℕ) (success : (many img records answers).code ≡ 0) where
  pub many_image : (many img records answers).image ≡ image_behind img records (length records / 32)
  many_image = Many.many_image img records answers success

  pub many_answers : (i : ℕ) → i < length records / 32 → Answers (many img records answers).buffer i (record_outcome img records i)
  many_answers = Many.many_answers img records answers success

  pub many_length : length (many img records answers).buffer ≡ length answers
  many_length = Many.many_length img records answers success

  pub many_behind : (k : ℕ) → length records ≤ k → get_or (many img records answers).buffer k 0 ≡ get_or answers k 0
  many_behind = Many.many_behind img records answers success

pub many_nothing : (img answers : List ℕ) → many img [] answers ≡ record { code = 0; numbers = []; image = img; buffer = answers }
many_nothing = Many.many_nothing

-- a file that no record names has its words and bytes
pub many_untouched : (img records answers : List ℕ) → Consistent img → (who : Key) → NotNamed records who (length records / 32)
    → Untouched who img (many img records answers).image
many_untouched = Many.many_untouched

-- Format makes a consistent pack of any image, of the form, n and c that it is told (02 §7: "Format is told the form."), whose bodies are all free
module _ (image : List ℕ) (form blocks contents : ℕ) (uics : List ℕ) (right : Formattable (length image) form blocks contents uics) where
  pub format_makes : Consistent (formatted image form blocks contents uics)
  format_makes = format_consistent image form blocks contents uics ((format_iff (length image) form blocks contents uics).1 right)

  pub format_stated : geometry_of (formatted image form blocks contents uics) ≡ measures_of form blocks contents
  format_stated = format_geometry image form blocks contents uics ((format_iff (length image) form blocks contents uics).1 right)

  pub format_form : word_at (formatted image form blocks contents uics) 0 ≡ form
  format_form = word_form image form blocks contents uics right

  pub format_frees : (b : ℕ) → bodies_of form contents ≤ b → b < blocks
      → FreeBlock (formatted image form blocks contents uics) b × (owner_of (formatted image form blocks contents uics) b ≡ Free)
  format_frees = format_free image form blocks contents uics ((format_iff (length image) form blocks contents uics).1 right)

-- 02 §8: a move allows one answer and one target, whatever this held before;
pub moves_one : (way : Way) (src target : List ℕ) (code code' : ℕ) (after after' : List ℕ) → Moving way src target code after → Moving way src target code' after'
    → Bytes after → Bytes after' → (code ≡ code') × (after ≡ after')
moves_one way src target code code' after after' first second small small' =
    (MovingCodes.moving_code first second, MovingCodes.moving_single first second small small')

-- "Each way followed by the other gives every byte of the starting image again.": the second call is not refused, and its target is the first one's source
pub moves_again : (way : Way) (src target mid target' after : List ℕ) (code : ℕ) → Moving way src target 0 mid → Moving (back way) mid target' code after
    → length target' ≡ length src → Bytes src → Bytes after → (code ≡ 0) × (after ≡ src)
moves_again way src target mid target' after code there again size small small' =
    (MovingCodes.back_accepted there again size, MovingCodes.back_same there again size small small')

-- each file is there with the same entry, opens too, but for its numbers of blocks (`moved_entry`), and holds the same blocks at their new numbers; there are no
-- entries more; "Free bodies and contiguous ones are copied untouched", and so is every byte of a body behind its link
module _ {way : Way} {src target after : List ℕ} (done : Moving way src target 0 after) where
  pub moves_slots : slots (geometry_of after) ≡ slots (geometry_of src)
  moves_slots = MovesPlain.moves_slots done

  pub moves_entry : (e : ℕ) → e < slots (geometry_of src) → entry_of after (geometry_of after) e ≡ moved_entry way (entry_of src (geometry_of src) e)
  moves_entry = MovesPlain.moves_entry done

  pub moves_blocks : (e : ℕ) → e < slots (geometry_of src) → blocks_at after (geometry_of after) e ≡ map (renumbered way) (blocks_at src (geometry_of src) e)
  moves_blocks = MovesPlain.moves_blocks done

  pub moves_free : (b : ℕ) → (geometry_of src).bodies.0 ≤ b → b < (geometry_of src).blocks → held src b ≡ 0 → (i : ℕ) → i < block_bytes (geometry_of src)
      → get_or after (moved way b * block_bytes (geometry_of src) + i) 0 ≡ get_or src (b * block_bytes (geometry_of src) + i) 0
  moves_free = MovesPlain.moves_free done

  pub moves_contiguous : (e : ℕ) → e < slots (geometry_of src) → (entry_of src (geometry_of src) e).kind ≡ 1 → (b : ℕ) → 0 < count b (blocks_at src (geometry_of src) e)
      → (i : ℕ) → i < block_bytes (geometry_of src) → get_or after (moved way b * block_bytes (geometry_of src) + i) 0 ≡ get_or src (b * block_bytes (geometry_of src) + i) 0
  moves_contiguous = MovesPlain.moves_contiguous done

  pub moves_payload : (b : ℕ) → (geometry_of src).bodies.0 ≤ b → b < (geometry_of src).blocks → (i : ℕ) → 2 ≤ i → i < block_bytes (geometry_of src)
      → get_or after (moved way b * block_bytes (geometry_of src) + i) 0 ≡ get_or src (b * block_bytes (geometry_of src) + i) 0
  moves_payload = MovesPlain.moves_payload done

-- 2.2 "The image stays consistent: each block is system, free, or held by one file."
pub stays_consistent : (r : Request) {img : List ℕ} → Consistent img → Consistent (outcome r img).image
stays_consistent = RequestConsistent.stays_consistent

-- 02 §8: the target of a move is consistent, and each body of it is whose its twin is
module _ {way : Way} {src target after : List ℕ} (done : Moving way src target 0 after) where
  pub moves_consistent : Consistent after
  moves_consistent = MovingCodes.moving_consistent done refl

  pub moves_owner : (b : ℕ) → (geometry_of src).bodies.0 ≤ b → owner_of after (moved way b) ≡ owner_of src b
  moves_owner = MovesPlain.moves_owner done

pub many_consistent : (img records answers : List ℕ) → Consistent img → Consistent (many img records answers).image
many_consistent = Many.many_consistent

-- any image is judged, exactly as document 01 says, and 02 in §7 and §11
pub judged : (img : List ℕ) → consistent img ≡ true ↔ Consistent img
judged = consistent_iff

-- in the papers' numbers, a row for each form: in form 1 blocks of 512 bytes, n from 16 to 1024, c from 1 to 8, at most 64 UICs, 16c entries, payloads of
-- 510 bytes; in form 2 (02 §7) n to 4096, c to 32 and c + 2 below n, else as form 1; in form 3 (02 §11)
-- blocks of 128 bytes, c to 32 and c + 1 below n, at most 60 UICs, 4c entries, payloads of 126 bytes. All else is said once,
-- over the segments in a block
pub document_measures : {img : List ℕ} → Consistent img → DocumentMeasures img
document_measures = Measures.document_measures

-- 02 §7: "In form 2, word 0 is 2, and block c + 1 is a map: block b is bit b mod 16 of word b / 16, 1 if system or held, 0 otherwise and for b from n up."
module _ {img : List ℕ} (right : Consistent img) (form : word_at img 0 ≡ 2) (b : ℕ) where
  pub map_agrees : b < 4096 → (bit_in_map img b ≡ 1) ↔ ((b < word_at img 2 + 2) ⊎ (0 < held img b))
  map_agrees = Measures.map_words right form b

  pub map_beyond : word_at img 1 ≤ b → b < 4096 → bit_in_map img b ≡ 0
  map_beyond = Measures.map_beyond right form b

  -- "ALLOC and linked add choose the same blocks as a walk would": what they choose is said of the files (`run_highest`, `linked_add_highest`, Effects.antt), and what
  -- the files leave free the map has as free
  pub map_free : b < word_at img 1 → FreeBlock img b ↔ (bit_in_map img b ≡ 0)
  map_free = Measures.map_free right form b

-- no other form has a map: of any image, consistent or not, where `HasMap` is asked elsewhere
pub map_form : (img : List ℕ) → HasMap (geometry_of img) ↔ (word_at img 0 ≡ 2)
map_form = Measures.map_form

pub block_owned : {img : List ℕ} → Consistent img → (b : ℕ) → b < (geometry_of img).blocks → OneOwner img b (owner_of img b)
block_owned right b below = one_owner right b

-- the audit note: the service shows, for every block of a pack, whose it is
module _ {img : List ℕ} (right : Consistent img) (b : ℕ) (below : b < (geometry_of img).blocks) where
  pub shown_system : (owner img b).numbers ≡ 0 ∷ (0 ∷ (0 ∷ [])) ↔ b < (geometry_of img).bodies.0
  shown_system = says_system right b below

  pub shown_free : (owner img b).numbers ≡ 1 ∷ (0 ∷ (0 ∷ [])) ↔ FreeBlock img b
  shown_free = says_free right b below

  pub shown_held : (e p : ℕ) → (owner img b).numbers ≡ 2 ∷ (e ∷ (p ∷ [])) ↔ HeldAt img e p b
  shown_held = says_held right b below

-- "So c + 1, the stored lengths and the free blocks counted one by one add to n."; in form 2 c + 2
pub blocks_summed : {img : List ℕ} → Consistent img
    → (system : ℕ) × (SystemBlocks (word_at img 2) (word_at img 0) system × (system + stored_lengths img + free_count img ≡ word_at img 1))
unfolding stored_lengths
blocks_summed {img} right =
    let m = document_measures right in
    ((geometry_of img).bodies.0, (m.bodies, omega (arith, sum_of_blocks right, m.blocks)))

-- 02 §13: "from a consistent image, after any sequence of requests, a file that no request names by its name, extension and UIC, and whose owner calls no Finish, still
-- has the same entry words and the same body bytes": the pack has the same measures, and so blocks of one size; the sixteen words of its entry are the same; its blocks,
-- and so their number; and byte i of the block at every place of its body.
-- The requests are in specs/Sequence.antt: a step of a sequence is any request, or a call of many; "Records of §9 count as requests".
module _ {img : List ℕ} (right : Consistent img) (steps : List Step) (who : Key) (unnamed : Unnamed who steps) (e : ℕ) (there : FileAt img who e) where
  pub unnamed_measures : geometry_of (image_after_all img steps) ≡ geometry_of img
  unnamed_measures = Sequence.unnamed_measures steps who unnamed right e there

  pub unnamed_words : (i : ℕ) → i < 16 → entry_word (image_after_all img steps) (geometry_of (image_after_all img steps)) e i ≡ entry_word img (geometry_of img) e i
  unnamed_words = Sequence.unnamed_words steps who unnamed right e there

  pub unnamed_blocks : blocks_at (image_after_all img steps) (geometry_of (image_after_all img steps)) e ≡ blocks_at img (geometry_of img) e
  unnamed_blocks = Sequence.unnamed_blocks steps who unnamed right e there

  pub unnamed_count : length (blocks_at (image_after_all img steps) (geometry_of (image_after_all img steps)) e) ≡ length (blocks_at img (geometry_of img) e)
  unnamed_count = ap length unnamed_blocks

  pub unnamed_bytes : (place : ℕ) → place < length (blocks_at img (geometry_of img) e) → (i : ℕ) → i < block_bytes (geometry_of img)
      → get_or (image_after_all img steps)
      (get_or (blocks_at (image_after_all img steps) (geometry_of (image_after_all img steps)) e) place 0 * block_bytes (geometry_of (image_after_all img steps)) + i) 0
      ≡ get_or img (get_or (blocks_at img (geometry_of img) e) place 0 * block_bytes (geometry_of img) + i) 0
  unnamed_bytes = Sequence.unnamed_bytes steps who unnamed right e there

-- It is there afterwards exactly if it was there before, and at the same entry; so a file that is not there, and that nobody names, is not there afterwards either.
-- Of any image: consistency, the paper's hypothesis, is not needed once Format is out, for every other request leaves an inconsistent image as it was
-- (`sequence_inconsistent`).
module _ (steps : List Step) (who : Key) (unnamed : Unnamed who steps) (img : List ℕ) where
  pub unnamed_there : (e : ℕ) → FileAt img who e ↔ FileAt (image_after_all img steps) who e
  unnamed_there = Sequence.unnamed_there steps who unnamed img

  pub unnamed_absent : NoFile img who → NoFile (image_after_all img steps) who
  unnamed_absent = Sequence.unnamed_absent steps who unnamed img

  pub nobody_named : Untouched who img (image_after_all img steps)
  nobody_named = Sequence.nobody_named steps who unnamed img

pub sequence_inconsistent : (steps : List Step) → ((r : Request) → RequestIn r steps → NotFormat r) → (img : List ℕ) → (Consistent img → ⊥) → image_after_all img steps ≡ img
sequence_inconsistent = Sequence.sequence_inconsistent

-- every image on the way is consistent, Format or not: a beginning of a sequence is a sequence, and the rest goes on from what it leaves; and so between the records of a call
pub sequence_consistent : (steps : List Step) {img : List ℕ} → Consistent img → Consistent (image_after_all img steps)
sequence_consistent = Sequence.sequence_consistent

pub sequence_append : (img : List ℕ) (front back : List Step) → image_after_all img (front ++ back) ≡ image_after_all (image_after_all img front) back
sequence_append = Sequence.sequence_append

pub images_consistent : (img records : List ℕ) → Consistent img → (count : ℕ) → Consistent (image_behind img records count)
images_consistent = Many.images_consistent

-- what a refused request, or a refused call of many, adds to a sequence is nothing
pub refused_nothing : (img : List ℕ) (front : List Step) (step : Step) (back : List Step) → ((step_outcome step (image_after_all img front)).code ≡ 0 → ⊥)
    → image_after_all img (front ++ (step ∷ back)) ≡ image_after_all img (front ++ back)
refused_nothing = Sequence.refused_nothing

-- and a file that is named may be harmed: its owner's Finish, DELET, RENAM of it, APPND naming it second, Format; or made: OPENO, and RENAM onto its name
pub named_examples : NamedExamples
named_examples = NamedShown.named_examples

-- 2.3 "A request for room with nothing else against it is refused exactly if no such room is free."
module _ (img : List ℕ) (key : Key) (caller protect segments : ℕ) (clear : GivesCode (CreatingCases img key caller protect (segments ≡ 0)) 0) where
  pub room_refused : (alloc img key caller protect segments).code ≡ 0o42 ↔ ((s : ℕ) → FreeRun img (length_for img segments) s → ⊥)
  room_refused = CodesRoom.room_refused img key caller protect segments clear

  pub room_given : (s : ℕ) → FreeRun img (length_for img segments) s → (alloc img key caller protect segments).code ≡ 0
  room_given = CodesRoom.room_given img key caller protect segments clear

module _ (img : List ℕ) (key : Key) (caller : ℕ) (payload : List ℕ) (clear : GivesCode (AddingCases img key caller (OtherPayload img payload)) 0) where
  pub block_refused : (linked_add img key caller payload).code ≡ 0o42 ↔ ((b : ℕ) → FreeBlock img b → ⊥)
  block_refused = CodesRoom.block_refused img key caller payload clear

  pub block_given : (b : ℕ) → FreeBlock img b → (linked_add img key caller payload).code ≡ 0
  block_given = CodesRoom.block_given img key caller payload clear

-- document 02 §1: a write needs as many blocks as become full, an ending call one, or none at 0
module _ (img : List ℕ) (key : Key) (caller mode : ℕ) (text gather : List ℕ) (filled : ℕ)
    (clear : GivesCode (AddingCases img key caller (OtherGather img gather filled ⊎ NoLineMode mode)) 0) where
  pub lines_refused : (line_write img key caller mode text gather filled).code ≡ 0o42 ↔ free_count img < full_blocks img filled mode text
  lines_refused = CodesRoom.lines_refused img key caller mode text gather filled clear

  pub lines_given : full_blocks img filled mode text ≤ free_count img → (line_write img key caller mode text gather filled).code ≡ 0
  lines_given = CodesRoom.lines_given img key caller mode text gather filled clear

-- and so of a formatted binary line (§10)
module _ (img : List ℕ) (key : Key) (caller : ℕ) (content gather : List ℕ) (filled : ℕ)
    (clear : GivesCode (AddingCases img key caller (OtherGather img gather filled ⊎ LongerLine content)) 0) where
  pub binary_refused : (binary_write img key caller content gather filled).code ≡ 0o42 ↔ free_count img < full_binary img filled content
  binary_refused = CodesRoom.binary_refused img key caller content gather filled clear

  pub binary_given : full_binary img filled content ≤ free_count img → (binary_write img key caller content gather filled).code ≡ 0
  binary_given = CodesRoom.binary_given img key caller content gather filled clear

module _ (img : List ℕ) (key : Key) (caller : ℕ) (gather : List ℕ) (filled : ℕ) (clear : GivesCode (AddingCases img key caller (OtherGather img gather filled)) 0) where
  pub ending_refused : (line_end img key caller gather filled).code ≡ 0o42 ↔ ((0 < filled) × ((b : ℕ) → FreeBlock img b → ⊥))
  ending_refused = CodesRoom.ending_refused img key caller gather filled clear

  pub ending_given : (filled ≡ 0) ⊎ ((b : ℕ) × FreeBlock img b) → (line_end img key caller gather filled).code ≡ 0
  ending_given = CodesRoom.ending_given img key caller gather filled clear

-- 2.4 "Radix-50 and number conversions are right, packing as well as unpacking."
pub radpk_right : (s : List ℕ) → length s ≡ 3 → (a b c : ℕ) → code_of (get_or s 0 0) ≡ some a → code_of (get_or s 1 0) ≡ some b → code_of (get_or s 2 0) ≡ some c
    → record { code = 0; number = 1600 * a + 40 * b + c } ≡ radpk s
radpk_right = ConversionsDemands.radpk_right

-- "A word of three blanks is 0."
pub blanks_zero : radpk (bytes "   ") ≡ record { code = 0; number = 0 }
blanks_zero = RadpkCases.blanks_zero

pub radup_right : (a b c x y z : ℕ) → character_of a ≡ some x → character_of b ≡ some y → character_of c ≡ some z → (buffer : List ℕ) → length buffer ≡ 3
    → radup (1600 * a + 40 * b + c) buffer ≡ record { code = 0; buffer = x ∷ (y ∷ (z ∷ [])) }
radup_right = ConversionsDemands.radup_right

pub d2bin_right : (s : List ℕ) → length s ≡ 5 → all_digits 10 s ≡ true → value_of 10 s ≤ 65535 → d2bin s ≡ record { code = 0; number = value_of 10 s }
d2bin_right = ConversionsDemands.d2bin_right

pub o2bin_right : (s : List ℕ) → length s ≡ 6 → all_digits 8 s ≡ true → value_of 8 s ≤ 65535 → o2bin s ≡ record { code = 0; number = value_of 8 s }
o2bin_right = ConversionsDemands.o2bin_right

pub bin2d_right : (n : ℕ) → n ≤ 65535 → (buffer : List ℕ) → length buffer ≡ 5 → bin2d n buffer ≡ record { code = 0; buffer = digits 10 5 n }
bin2d_right = ConversionsDemands.bin2d_right

pub bin2o_right : (n : ℕ) → n ≤ 65535 → (buffer : List ℕ) → length buffer ≡ 6 → bin2o n buffer ≡ record { code = 0; buffer = digits 8 6 n }
bin2o_right = ConversionsDemands.bin2o_right

pub radix_inverse : InverseDemands 3 radpk radup
radix_inverse = ConversionsDemands.radix_inverse

pub decimal_inverse : InverseDemands 5 d2bin bin2d
decimal_inverse = ConversionsDemands.decimal_inverse

pub octal_inverse : InverseDemands 6 o2bin bin2o
octal_inverse = ConversionsDemands.octal_inverse

-- 3.1 "For any command line within the length limits, with room lent for the result, the line is accepted exactly when the grammar writes it
-- with blanks and fill characters removed", and, of document 02, "Demand 3 accepts exactly the lines of the grammar whose numbers keep these bounds"
pub line_accepted : (line buffer : List ℕ) (answer : Answer) (after : List ℕ) → (TooLong line → ⊥) → length (condensed line) ≤ length buffer
    → Csi1Answered line buffer answer after → answer.code ≡ 0 ↔ ((reading : Reading) × Reads (condensed line) reading)
line_accepted = Commands.line_accepted

-- it has a reading exactly when the grammar writes it and its numbers keep the bounds
pub line_written : (line : List ℕ) → ((reading : Reading) × Reads line reading) ↔ ((said : Parsed) × Command line said × Bounded said)
line_written = Commands.line_written

-- "54, a number over its bound": by CSI1, and by CSI2 in the whole line, whatever side and place are asked for
pub line_large : (line buffer : List ℕ) (answer : Answer) (after : List ℕ) → (TooLong line → ⊥) → length (condensed line) ≤ length buffer
    → Csi1Answered line buffer answer after → answer.code ≡ 0o54 ↔ OverBound (condensed line)
line_large = Commands.line_large

pub csi2_large : (line : List ℕ) (side k : ℕ) (buffer : List ℕ) (answer : SpecificationAnswer) (after : List ℕ) → length line ≤ line_limit
    → Csi2Answered line side k buffer answer after → answer.code ≡ 0o54 ↔ OverBound line
csi2_large = CommandCodes.csi2_large_iff

-- that is a line which the grammar writes and which has no reading
pub large_unread : (line : List ℕ) → OverBound line ↔ (((said : Parsed) × Command line said) × ((reading : Reading) → Reads line reading → ⊥))
large_unread = Commands.large_unread

-- a line is accepted, or refused with 54 or with 50: one of the three always
pub line_judged : (line buffer : List ℕ) (answer : Answer) (after : List ℕ) → (TooLong line → ⊥) → length (condensed line) ≤ length buffer
    → Csi1Answered line buffer answer after → (answer.code ≡ 0) ⊎ ((answer.code ≡ 0o54) ⊎ (answer.code ≡ 0o50))
line_judged = Commands.line_judged

-- 3.2 "No line has two readings."
pub line_reading : (line : List ℕ) (a b : Reading) → Reads line a → Reads line b → a ≡ b
line_reading = Commands.line_reading

-- and for given inputs CSI1 and CSI2 have one answer and leave one buffer
pub csi1_single : (line buffer : List ℕ) (a b : Answer) (after after' : List ℕ) → Csi1Answered line buffer a after → Csi1Answered line buffer b after'
    → (a ≡ b) × (after ≡ after')
csi1_single = Commands.csi1_single

pub csi2_single : (line : List ℕ) (side k : ℕ) (buffer : List ℕ) (a b : SpecificationAnswer) (after after' : List ℕ)
    → Csi2Answered line side k buffer a after → Csi2Answered line side k buffer b after' → (a ≡ b) × (after ≡ after')
csi2_single = Commands.csi2_single

-- 3.3 "Asking for each side's specifications by place yields that reading, all of it and no more."
-- From what CSI1 wrote: with 384 bytes for each answer the asking ends, and what is then known, with whatever buffers it ends, is this.
pub line_asked : (line buffer : List ℕ) (answer : Answer) (after : List ℕ) → Csi1Answered line buffer answer after → answer.code ≡ 0
    → (reading : Reading) × Reads (condensed line) reading
    × ((side : ℕ) (lent : ℕ → List ℕ) → ((k : ℕ) → 384 ≤ length (lent k)) → AskedFrom (take answer.number after) side lent 0 (known_of (side_of side reading)))
    × ((side : ℕ) (lent : ℕ → List ℕ) (known : List Known) → AskedFrom (take answer.number after) side lent 0 known → known ≡ known_of (side_of side reading))
line_asked = Commands.line_asked

-- what is so known tells readings apart
pub known_reading : (line other : List ℕ) (r q : Reading) → Reads line r → Reads other q
    → ((side : ℕ) → known_of (side_of side r) ≡ known_of (side_of side q)) → r ≡ q
known_reading = KnownReading.known_reading

-- 3.4 "A refused line is answered with the place, in what remains, of the first character with which no command could go on, or with its end if
-- it only stops too soon": with 50, for "the place is still that of document 01 and is given with 50 only"; `csi1_kept` and `csi2_kept` have the others.
pub line_refused : (line buffer : List ℕ) (answer : Answer) (after : List ℕ) → (TooLong line → ⊥) → length (condensed line) ≤ length buffer
    → Csi1Answered line buffer answer after → answer.code ≡ 0o50 ↔ LinePlace (condensed line) answer.number
line_refused = Commands.line_refused

pub place_viable : (line : List ℕ) (p : ℕ) → LinePlace line p → (count : ℕ) → count ≤ length line → Viable (take count line) ↔ count ≤ p
place_viable = Commands.place_viable

pub place_end : (line : List ℕ) (p : ℕ) → LinePlace line p → p ≡ length line ↔ Viable line
place_end = Commands.place_end

-- CSI2 gives the place too
pub csi2_place : (line : List ℕ) (side k : ℕ) (buffer : List ℕ) (answer : SpecificationAnswer) (after : List ℕ) → Csi2Answered line side k buffer answer after
    → answer.code ≡ 0o50 → LinePlace line answer.place
csi2_place = CommandCodes.csi2_place

-- Document 02 §4: "Demand 3 then holds for reading and writing together." Every line that CSI1 accepts can be asked place by place on both sides,
pub accepted_asked : (line buffer : List ℕ) (answer : Answer) (after : List ℕ) → Csi1Answered line buffer answer after → answer.code ≡ 0
    → (outputs inputs : ℕ) × (output input : List ℕ) × AskedAs (take answer.number after) outputs inputs output input
accepted_asked = ReadThenWritten.accepted_asked

-- and what is then kept, written into 128 bytes, is a line of no more characters that CSI1 accepts and that yields the same when it is asked again
pub read_then_written : (line buffer : List ℕ) (answer : Answer) (after : List ℕ) → Csi1Answered line buffer answer after → answer.code ≡ 0
    → {lent lent' : ℕ → List ℕ} {outputs inputs : ℕ} {output input : List ℕ}
    → RecordsAsked (take answer.number after) 0 lent 0 outputs output → RecordsAsked (take answer.number after) 1 lent' 0 inputs input
    → (room : List ℕ) → line_limit ≤ length room → (written : Answer) (left : List ℕ)
    → CsiWriteAnswered outputs inputs (output ++ input) room written left
    → WrittenBack (take answer.number after) outputs inputs output input written left
read_then_written = ReadThenWritten.read_then_written

-- for given inputs one answer and one buffer; "writing a reading twice gives the same bytes", in whatever buffers; and inputs that differ give lines that differ
pub csi_write_single : (outputs inputs : ℕ) (records buffer : List ℕ) (a b : Answer) (after after' : List ℕ) → CsiWriteAnswered outputs inputs records buffer a after
    → CsiWriteAnswered outputs inputs records buffer b after' → (a ≡ b) × (after ≡ after')
csi_write_single = CsiWriteOnly.csi_write_answered_one

pub written_twice : {outputs inputs : ℕ} {records buffer buffer' : List ℕ} {answer answer' : Answer} {after after' : List ℕ}
    → CsiWriteAnswered outputs inputs records buffer answer after → answer.code ≡ 0
    → CsiWriteAnswered outputs inputs records buffer' answer' after' → answer'.code ≡ 0
    → take answer.number after ≡ take answer'.number after'
written_twice = CsiWriteOnly.csi_write_twice

pub written_apart : {outputs outputs' inputs inputs' : ℕ} {records records' buffer buffer' : List ℕ} {answer answer' : Answer} {after after' : List ℕ}
    → CsiWriteAnswered outputs inputs records buffer answer after → answer.code ≡ 0
    → CsiWriteAnswered outputs' inputs' records' buffer' answer' after' → answer'.code ≡ 0
    → take answer.number after ≡ take answer'.number after' → (outputs ≡ outputs') × (inputs ≡ inputs') × (records ≡ records')
written_apart = CsiWriteOnly.written_apart

-- P1 to P13, "a single tabulated statement"
pub examples : Examples
examples = Shown.examples

-- and those of the bounds
pub bound_examples : BoundExamples
bound_examples = Shown.bound_examples
