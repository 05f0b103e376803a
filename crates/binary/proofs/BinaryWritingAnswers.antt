-- What an answer of the stage comes to for writing a formatted binary line, and the line laid in its three parts.
use Prim.Native.Nat.{ℕ, ◌+◌, ◌/◌, ◌%◌, ◌-◌, ◌≤◌, ◌<◌}
use mathlib.Core.Path.{◌≡◌, sym, ap, ◌∙◌}
use mathlib.Core.List.{List, [], ◌∷◌, ◌++◌}
use native.Mathlib.Omega.{arith}
use lib.Dec.{ltb}
use lib.ListN.{length, set}
use borrow.Author.Tests.{ltb-false}
use Rattle.pack.specs.declared.Geometry.{Geometry}
use Rattle.pack.specs.declared.Entry.{Entry}
use Rattle.pack.specs.declared.Key.{Key}
use Rattle.consistency.specs.Mapped.{Mapped, MappedIf}
use Rattle.asking.specs.AskedStage.{Asked}
use Rattle.asking.specs.AskedStage.{File, Refused}
use Rattle.asking.specs.Outcome.{Outcome}
use Rattle.asking.specs.AskedStage.{stage_of}
use Rattle.asking.proofs.AskedStage.{stage_is_file}
use Rattle.stream.specs.declared.Filling.{Filling}
use Rattle.stream.specs.Filling.{Layable, LaidByte, Writable, Laying}
use Rattle.stream.specs.BytesWriting.{gathered_in, writing_rows}
use Rattle.stream.proofs.FillingLoop.{laying_start, laying_layable, laying_next, writable_front, writable_next, laying_append}
use Rattle.stream.proofs.BytesWritingAnswers.{from_start, write_denied, write_begun, write_mapped, write_filled, write_done, write_fitting}
use Rattle.binary.specs.BinaryLine.{sum_of, header_bytes, header_and_data, sum_byte, binary_line}
use Rattle.binary.specs.BinaryWriting.{binary_write}
use Rattle.binary.proofs.BinarySums.{line_length, sum_append}

-- the sum of header and data as the code adds it
pub sum_made : (content : List ℕ) {word added : ℕ} → word ≡ 4 + length content → added ≡ sum_of content
    → (256 - (1 + word % 256 + word / 256 + added) % 256) % 256 ≡ sum_byte (header_and_data content)
sum_made content {word} {added} is summed =
    let total : 1 + word % 256 + word / 256 + added ≡ sum_of (header_and_data content) =
    omega (arith, is, summed, sum_append (header_bytes (length content)) content, front) in
    ap (λ (n : ℕ). (256 - n % 256) % 256) total
  where
    front : sum_of (header_bytes (length content)) ≡ 1 + (4 + length content) % 256 + (4 + length content) / 256
    front = (unfold sum_of in omega arith)

-- the line in its parts: the header, the data, the last byte
module _ {g : Geometry} {e : ℕ} {img map gather : List ℕ} {at : Filling} (content : List ℕ) (w : Writable img map g e gather at (binary_line content)) where
  abbrev last : ℕ
  last = sum_byte (header_and_data content)

  in_parts : Writable img map g e gather at (header_and_data content ++ (last ∷ []))
  unfolding binary_line
  in_parts = w

  pub header_writable : Writable img map g e gather at (header_bytes (length content))
  header_writable = writable_front content (writable_front (last ∷ []) in_parts)

  module _ {img' map' gather' : List ℕ} {at' : Filling} (first : Laying g e img map gather at (header_bytes (length content)) img' map' gather' at' []) where
    pub data_writable : Writable img' map' g e gather' at' content
    data_writable = writable_next content first (writable_front (last ∷ []) in_parts)

    module _ {img'' map'' gather'' : List ℕ} {at'' : Filling} (second : Laying g e img' map' gather' at' content img'' map'' gather'' at'' []) where
      both : Laying g e img map gather at (header_and_data content) img'' map'' gather'' at'' []
      both = laying_append content first second

      last_writable : Writable img'' map'' g e gather'' at'' (last ∷ [])
      last_writable = writable_next (last ∷ []) both in_parts

      module _ {byte : ℕ} (is : byte ≡ last) where
        pub last_layable : Layable img'' map'' g e gather'' at'' byte
        last_layable = rw is (laying_layable last_writable laying_start)

        pub line_laid : {img''' map''' gather''' : List ℕ} {r : Filling} → gather''' ≡ set gather'' at''.filled byte → LaidByte img'' map'' g e at'' gather''' img''' map''' r
            → Laying g e img map gather at (binary_line content) img''' map''' gather''' r []
        unfolding binary_line
        line_laid laid one =
            laying_append (last ∷ []) both (laying_next laying_start (laid ∙ ap (λ (n : ℕ). set gather'' at''.filled n) is) one)

module _ (img : List ℕ) (key : Key) (caller : ℕ) (content gather : List ℕ) (filled : ℕ) where
  abbrev outcome : Outcome
  outcome = binary_write img key caller content gather filled

  module _ {blocks : ℕ} (full : filled < length gather → blocks ≡ (filled + (length content + 5)) / length gather) {asked : Asked}
      (is : (put : List ℕ) → (filled < length gather → blocks ≡ (filled + length put) / length gather)
      → asked ≡ stage_of (writing_rows img key caller (ltb 512 (length content)) gather filled put) img key) where
    own : asked ≡ stage_of (writing_rows img key caller (ltb 512 (length content)) gather filled (binary_line content)) img key
    own = is (binary_line content) (λ room. full room ∙ ap (λ (n : ℕ). (filled + n) / length gather) (sym (line_length content)))

    pub binary_denied : {code : ℕ} → asked ≡ Refused code
        → (code ≡ outcome.code) × (((0 ∷ (0 ∷ (0 ∷ []))) ≡ outcome.numbers) × ((img ≡ outcome.image) × (gather ≡ outcome.buffer)))
    unfolding binary_write
    binary_denied told = write_denied img key caller (ltb 512 (length content)) gather filled (binary_line content) _ own told

    -- "At most 512 data bytes"
    pub binary_few : {g : Geometry} {e : ℕ} {x : Entry} → asked ≡ File g e x → length content ≤ 512
    binary_few told =
        let given = stage_is_file (writing_rows img key caller (ltb 512 (length content)) gather filled (binary_line content)) img key _ _ _ (sym own ∙ told) in
        ltb-false 512 (length content) (write_fitting img key caller (ltb 512 (length content)) gather filled (binary_line content) given.clear).other

    module _ {g : Geometry} {e : ℕ} {x : Entry} (told : asked ≡ File g e x) (map : List ℕ) (mapped : MappedIf map img) where
      pub binary_begun : Writable img map g e gather (from_start g filled) (binary_line content)
      binary_begun = write_begun img key caller (ltb 512 (length content)) gather filled (binary_line content) [] own told map mapped

      pub binary_done : {img' map' gather' : List ℕ} {at : Filling} → Laying g e img map gather (from_start g filled) (binary_line content) img' map' gather' at []
          → (0 ≡ outcome.code)
          × (((length content ∷ (0 ∷ (at.filled ∷ []))) ≡ outcome.numbers)
          × ((img' ≡ outcome.image) × ((gather' ≡ outcome.buffer) × MappedIf map' img')))
      unfolding binary_write
      binary_done {img'} {map'} {gather'} {at} laying =
          let d = write_done img key caller (ltb 512 (length content)) gather filled (binary_line content) _ own told map mapped laying in
          let last : at.filled ≡ (gathered_in img gather filled (binary_line content)).filled =
          write_filled img key caller (ltb 512 (length content)) gather filled (binary_line content) [] own told map mapped laying in
          let behind : Mapped map' img' = write_mapped img key caller (ltb 512 (length content)) gather filled (binary_line content) [] own told map mapped laying in
          (d.0, (ap (λ (n : ℕ). length content ∷ (0 ∷ (n ∷ []))) last ∙ d.1.0, (d.1.1.0, (d.1.1.1, λ right. behind))))
