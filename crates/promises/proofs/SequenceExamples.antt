-- The examples of files that are named, computed.
use Prim.Native.Nat.{ℕ}
use mathlib.Core.Path.{◌≡◌, refl}
use mathlib.Core.Bool.{true}
use mathlib.Core.List.{List}
use mathlib.Core.Option.{none, some}
use native.Mathlib.Omega.{arith}
use Rattle.pack.specs.declared.Key.{Key}
use Rattle.pack.specs.Geometry.{slots}
use Rattle.asking.proofs.Keys.{found_keyed, none_keyed, not_empty}
use Rattle.consistency.proofs.ConsistentTestIff.{consistent_iff}
use Rattle.requests.specs.FileAt.{FileAt, NoFile}
use Rattle.promises.specs.SequenceExamples.{pack, NamedExamples}
use Rattle.answers.specs.Refusals.{first_of, on_success}
use Rattle.words.specs.Word.{word_at, set_word, word_bytes}
use Rattle.radix.specs.Characters.{table, character_of}
use Rattle.radix.specs.NamesTest.{legal_name, legal_extension}
use Rattle.radix.specs.Packing.{characters_of}
use Rattle.pack.specs.Entry.{entry_word, entry_of}
use Rattle.pack.specs.EntryWords.{set_entry_words}
use Rattle.pack.specs.File.{link_of, next_of, chain, after, last_of, blocks_of}
use Rattle.pack.specs.Form.{segments_of, most_blocks_of, most_contents_of, most_uics_of, bodies_of}
use Rattle.pack.specs.Geometry.{geometry_of}
use Rattle.pack.specs.HeaderTest.{zeros, among, distinct, listed, measured, header_test}
use Rattle.pack.specs.KeyTest.{same_key}
use Rattle.pack.specs.Map.{bit_set, bits_set}
use Rattle.consistency.specs.ConsistentTest.{scan_test, entries_test, files_test, consistent}
use Rattle.consistency.specs.DifferTest.{apart_test, new_test, differ_test}
use Rattle.consistency.specs.EntryTest.{key_test, writer_test, kind_test, opens_test, fields_test, end_test, body_test, rest_test, entry_test}
use Rattle.consistency.specs.MapTest.{agree_from, map_test}
use Rattle.consistency.specs.Walk.{takes, mark, system_set}
use Rattle.asking.specs.Asked.{entry_no, file_of}
use Rattle.asking.specs.AskedStage.{file_rows}
use Rattle.asking.specs.KeysTest.{find_from, found, legal_key}
use Rattle.asking.specs.OpensTest.{is_open}
use Rattle.asking.specs.Outcome.{settled}
use Rattle.asking.specs.RightsTest.{in_field, owners, may}
use Rattle.asking.specs.Keys.{key_of}
use Rattle.creation.specs.Creating.{created}
use Rattle.creation.specs.CreatingLowest.{empty_from, lowest_empty}
use Rattle.creation.specs.CreatingRows.{creating_rows}
use Rattle.creation.specs.Format.{empty_pack, formatted, format}
use Rattle.creation.specs.FormatRows.{format_test, format_rows}
use Rattle.creation.specs.Openo.{openo}
use Rattle.opening.specs.Close.{close}
use Rattle.opening.specs.CloseRows.{is_open_as, close_rows}
use Rattle.directory.specs.Delet.{deleted, delet}
use Rattle.directory.specs.DeletRows.{delet_rows}
use Rattle.directory.specs.Renam.{renam}
use Rattle.directory.specs.RenamRows.{renam_rows}
use Rattle.finishing.specs.Finish.{deleted_all, finish}
use Rattle.finishing.specs.FinishRows.{finish_rows}
use Rattle.finishing.specs.ScratchTest.{is_scratch, keys_from, scratch_keys}
use Rattle.appending.specs.Appnd.{chain_joined, appnd}
use Rattle.appending.specs.AppndRows.{name_rows, permit_rows, appnd_rows}
use Rattle.listed.specs.Record.{request_in}
use Rattle.listed.specs.Listed.{answer_bytes}
use Rattle.many.specs.Layout.{record_at, records_in}
use Rattle.many.specs.Many.{many_rows, many}

-- a legal key that was found is that of a file, and where none was found there is none
found_there : {img : List ℕ} {who : Key} {e : ℕ} → legal_key who ≡ true → found img who ≡ some e → FileAt img who e
unfolding found
found_there {img} {who} {e} legal is =
    let f = found_keyed img (geometry_of img) who 0 (slots (geometry_of img)) e is in
    record { inside = omega (arith, f.high); used = not_empty img (geometry_of img) who e legal f.keyed; keyed = f.keyed }

none_there : {img : List ℕ} {who : Key} → found img who ≡ none → NoFile img who
unfolding found
none_there {img} {who} is e there =
    none_keyed img (geometry_of img) who 0 (slots (geometry_of img)) is e (omega arith) (omega (arith, there.inside)) there.keyed

pub named_examples : NamedExamples
unfolding first_of on_success word_at set_word word_bytes table character_of legal_name legal_extension characters_of entry_word entry_of set_entry_words link_of next_of chain after last_of
    blocks_of segments_of most_blocks_of most_contents_of most_uics_of bodies_of geometry_of zeros among distinct listed measured header_test same_key bit_set bits_set scan_test
    entries_test files_test consistent apart_test new_test differ_test key_test writer_test kind_test opens_test fields_test end_test body_test rest_test entry_test agree_from map_test
    takes mark system_set entry_no file_of file_rows find_from found legal_key is_open settled in_field owners may key_of created empty_from lowest_empty creating_rows empty_pack
    formatted format format_test format_rows openo close is_open_as close_rows deleted delet delet_rows renam renam_rows deleted_all finish finish_rows is_scratch keys_from
    scratch_keys chain_joined appnd name_rows permit_rows appnd_rows request_in answer_bytes record_at records_in many_rows many
named_examples =
    record {
      right = (consistent_iff pack).0 refl;
      there = found_there refl refl;
      finished = none_there refl;
      deleted = none_there refl;
      renamed = none_there refl;
      formatted = none_there refl;
      recorded = none_there refl;
      second = found_there refl refl;
      joined = none_there refl;
      absent = none_there refl;
      opened = found_there refl refl;
      other = none_there refl;
      onto = found_there refl refl;
    }
