-- 2.1: what each request changes on success, said of entries, blocks and bytes; of all else `nothing_else` (Main.antt) says that it stays. In the order of the paper.
-- Format: an empty pack
pub use Rattle.creation.proofs.FormatRows.{format_done}
-- document 02 §7, the map: right to its last bit after Format; ALLOC makes the bits of its run 1, linked add that of its block, DELET those of the file's blocks 0,
-- and each leaves every other bit (of lines and Finish `map_agrees`, Main.antt, says it of the image that they leave)
pub use Rattle.creation.proofs.FormatEffect.{format_map}
pub use Rattle.creation.proofs.AllocEffect.{alloc_bits}
pub use Rattle.adding.proofs.LinkedAddEffect.{linked_add_bits}
pub use Rattle.directory.proofs.DeletEffect.{delet_bits}
-- ALLOC: the free run with the highest start, the lowest empty entry and every field of it; document 02 §2: every byte of the run is 0; OPENO
pub use Rattle.creation.proofs.AllocEffect.{alloc_made, alloc_cleared}
pub use Rattle.room.proofs.RoomHighest.{run_highest}
pub use Rattle.creation.proofs.CreatingLowest.{empty_lowest}
pub use Rattle.creation.proofs.OpenoEffect.{openo_entry}
-- OPENI, OPENU and OPENE, and CLOSE: the entry with that one field changed
pub use Rattle.opening.proofs.OpenEffect.{open_entry}
pub use Rattle.opening.proofs.CloseEffect.{close_entry}
-- DELET clears the entry and frees its blocks; RENAM changes name, extension and protect code
pub use Rattle.directory.proofs.DeletEffect.{delet_clears, delet_frees}
pub use Rattle.directory.proofs.RenamEffect.{renam_entry, renam_found}
-- APPND: the blocks and the payloads of the second behind those of the first, and the second entry cleared
pub use Rattle.appending.proofs.AppndEffect.{appnd_blocks, appnd_payloads, appnd_cleared}
-- KEEP sets bit 7 of the protect code
pub use Rattle.directory.proofs.KeepEffect.{keep_entry}
-- BLOCK output: the bytes of the buffer, which BLOCK input gives back
pub use Rattle.transfer.proofs.BlockWritten.{block_out_inside}
pub use Rattle.transfer.proofs.BlockAgain.{block_again}
-- taking blocks, for any use: every byte of them is 0, and nothing else is written but their bits on the map; ALLOC takes its run so, linked add and lines each block
pub use Rattle.room.proofs.Taken.{taken_zero, taken_changes}
-- linked add: the highest free block, joined at the end, its payload behind the others
pub use Rattle.adding.proofs.LinkedAddEffect.{linked_add_highest, linked_add_blocks, linked_add_payloads}
-- Finish, document 02 §12 (`finish_listed`, `finish_deletes`, `finish_again`: Main.antt). Exactly the scratch files are gone, every other entry has its
-- words, and no entry has their names; their blocks are free and no other changes hands; every other file has its words and bytes: another's, kept,
-- open, with bit 6 set, and these are all that is spared
pub use Rattle.finishing.proofs.FinishEffect.{finish_gone, finish_words, finish_absent, finish_frees, finish_owner, finish_leaves, finish_spares}
pub use Rattle.finishing.proofs.Spared.{spared_iff}
-- a caller in no list, and 0: nothing is deleted, on any image
pub use Rattle.finishing.proofs.FinishEffect.{finish_nobody, finish_zero}
-- lines, document 02 §1. Reading: from the position on, one of three results; what is laid, counted and passed; to the end of the file, call after call
pub use Rattle.requests.proofs.RequestDone.{line_read_done}
pub use Rattle.lines.proofs.LineReadingProgress.{line_read_most, line_read_grows}
pub use Rattle.lines.proofs.LineReadCases.{found_case}
pub use Rattle.lines.proofs.LineReadProgress.{passed_most, passed_some, laid_length, normal_count, special_count, found_empty}
pub use Rattle.lines.proofs.LineReadKept.{special_laid, read_count}
pub use Rattle.lines.proofs.ReadOn.{read_on_ends, special_joined, counts_added_law}
-- writing: the payloads and the gathered bytes go on with what is put, no byte lost or added; the highest free blocks are taken; bytes not laid over stay
pub use Rattle.requests.proofs.RequestDone.{line_write_stream}
pub use Rattle.requests.proofs.Taken.{line_write_taken, line_end_taken}
pub use Rattle.lines.proofs.LineWritingEffect.{line_write_numbers, line_write_filled, line_write_stays}
-- ending: the last block is filled with NUL, and at 0 nothing changes
pub use Rattle.lines.proofs.LineWritingEnding.{line_end_payloads, line_end_buffer, line_end_nothing}
-- lines that are put read back the same
pub use Rattle.lines.proofs.LineRoundTrip.{lines_read_back}
pub use Rattle.lines.proofs.LineRoundTripWritten.{line_taken, line_whole, line_status}
-- written by any calls, ended, closed, opened and read: any call goes on, and the writing can be finished (`lines_round_trip` is in Main.antt)
pub use Rattle.promises.proofs.LinesAgainAccepted.{lines_accepted, lines_go_on, lines_finish}
-- formatted binary lines, document 02 §10 (`binary_whole`, `binary_exclude`, `binary_answered`, `binary_statuses`, `binary_next_most`, `binary_next_grows`: Main.antt).
-- Reading: what is found in the bytes from the position on; the header said of its bytes, and in one way; bit 2 and bit 6; what is laid, counted and given back
pub use Rattle.binary.proofs.BinaryReadingStage.{binary_read_done}
pub use Rattle.binary.proofs.BinaryHeader.{header_case, header_only, wrong_stays, ended_there}
pub use Rattle.binary.proofs.BinaryGiven.{special_given, special_given_none, normal_given_none}
-- a normal read has the count, the position and, bit 0 aside, the status of a special read with a large buffer
pub use Rattle.binary.proofs.NormalLast.{normal_alike}
-- what a read gives back is not refused, and the next call goes on in the bytes behind (`binary_parts_one`, `binary_parts_end`: Main.antt)
pub use Rattle.binary.proofs.BinaryAgain.{given_again, binary_read_again}
-- writing: the payloads and the gathered bytes go on with the stored line, no byte lost or added; all data bytes are counted, with status 0; the highest free blocks
-- are taken; bytes not laid over stay
pub use Rattle.requests.proofs.RequestDone.{binary_write_stream}
pub use Rattle.requests.proofs.Taken.{binary_write_taken}
pub use Rattle.binary.proofs.BinaryWritingEffect.{binary_write_numbers, binary_write_filled, binary_write_stays}
-- the last byte makes the sum 0 modulo 256, and no other byte does
pub use Rattle.binary.proofs.BinarySums.{line_sum, sum_byte_only, line_length}
-- lines that are written read back the same, and a changed data byte is found: in normal mode whatever the buffer is, and in parts
pub use Rattle.promises.proofs.BinaryAgainCalls.{binary_accepted, binary_finish}
pub use Rattle.promises.proofs.BinaryChanged.{binary_changed_normal, binary_changed_parts}
-- the report, document 02 §6: "It says consistent exactly if document 01 says so, and every fault named is really there."; the first in the order; one answer, small enough for
-- five digits; one printed text; a fault named means that every request but Format is refused with 40
pub use Rattle.faults.proofs.ReportConsistent.{report_consistent, rule_consistent, report_one, fault_there}
pub use Rattle.faults.proofs.FaultReport.{report_fault}
-- by its rule: 0 in a member that it does not name; a loop is one of the file named, a shared block is one of two files, and a bit named is wrong
pub use Rattle.faults.proofs.FaultMembers.{report_members, loop_own, shared_two_files, shared_no_loop, map_wrong}
pub use Rattle.faults.proofs.SecondSought.{second_is}
pub use Rattle.faults.proofs.ReportSmall.{report_small}
pub use Rattle.printing.proofs.ReportText.{prints_one}
pub use Rattle.promises.proofs.ReportFault.{fault_refused}
