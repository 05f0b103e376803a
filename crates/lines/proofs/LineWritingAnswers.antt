-- What an answer of the stage comes to for writing a line, and for the ending call.
use Prim.Native.Nat.{ℕ, zero, suc, ◌+◌, ◌-◌, ◌/◌, ◌≤◌, ◌<◌}
use mathlib.Core.Path.{◌≡◌, refl, sym, ap, subst, ◌∙◌}
use mathlib.Core.Bool.{Bool, false, cond}
use mathlib.Core.List.{List, [], ◌∷◌}
use native.Mathlib.Omega.{arith}
use lib.Dec.{ltb}
use lib.ListN.{length, take, replicate, length-replicate}
use lib.Seq.{length-take-le}
use borrow.Author.Tests.{ne_eqb}
use Rattle.pack.specs.declared.Geometry.{Geometry}
use Rattle.pack.specs.declared.Entry.{Entry}
use Rattle.pack.specs.declared.Key.{Key}
use Rattle.words.specs.Word.{word_at}
use Rattle.pack.specs.GeometrySized.{most_segments}
use Rattle.pack.specs.Geometry.{geometry_of, segment_bytes, payload_bytes}
use Rattle.pack.proofs.FormBounds.{segments_few}
use Rattle.consistency.specs.Mapped.{Mapped, MappedIf}
use Rattle.asking.specs.AskedStage.{Asked}
use Rattle.asking.specs.AskedStage.{File, Refused}
use Rattle.asking.specs.Outcome.{Outcome}
use Rattle.asking.specs.AskedStage.{stage_of}
use Rattle.stream.specs.declared.Filling.{Filling}
use Rattle.stream.specs.Filling.{Writable, Laying}
use Rattle.lines.specs.declared.LineMode.{LineMode}
use Rattle.lines.specs.LineWrite.{put_all, taken_of, written_status}
use Rattle.lines.specs.LineReading.{mode_of}
use Rattle.stream.specs.BytesWriting.{gathered_in, writing_rows}
use Rattle.lines.specs.LineWriting.{line_write, nuls_for, line_end}
use Rattle.lines.proofs.LineWrite.{taken_front}
use Rattle.stream.proofs.BytesWritingAnswers.{from_start, write_denied, write_begun, write_mapped, write_filled, write_done}

-- what was counted in a mode was in the one that the number means
pub counted_for : (text : List ℕ) {kind means : LineMode} {count : ℕ} → count ≡ length (taken_of kind text) → kind ≡ means → count ≡ length (taken_of means text)
counted_for text counted is = counted ∙ ap (λ (m : LineMode). length (taken_of m text)) is

-- what the code took of the text is the front of it
module _ (mode : ℕ) (text : List ℕ) {count : ℕ} (counted : count ≡ length (taken_of (mode_of mode) text)) where
  pub front_fits : count ≡ length (take count text)
  front_fits = sym (length-take-le count text (omega (arith, counted, (taken_front (mode_of mode) text).0)))

  pub front_taken : take count text ≡ taken_of (mode_of mode) text
  front_taken = ap (λ (n : ℕ). take n text) counted ∙ sym (taken_front (mode_of mode) text).1

module _ (img : List ℕ) (key : Key) (caller mode : ℕ) (text gather : List ℕ) (filled : ℕ) where
  abbrev line : List ℕ
  line = taken_of (mode_of mode) text

  abbrev outcome : Outcome
  outcome = line_write img key caller mode text gather filled

  module _ {count : ℕ} (front : count ≡ length line) {blocks : ℕ}
      (full : filled < length gather → blocks ≡ (filled + length (put_all (take count text))) / length gather) {asked : Asked}
      (is : (put : List ℕ) → (filled < length gather → blocks ≡ (filled + length put) / length gather)
      → asked ≡ stage_of (writing_rows img key caller (ltb 1 mode) gather filled put) img key) where
    own : asked ≡ stage_of (writing_rows img key caller (ltb 1 mode) gather filled (put_all line)) img key
    own =
        is (put_all (take count text)) full
        ∙ ap (λ (s : List ℕ). stage_of (writing_rows img key caller (ltb 1 mode) gather filled (put_all s)) img key) (front_taken mode text front)

    pub line_denied : {code : ℕ} → asked ≡ Refused code
        → (code ≡ outcome.code) × (((0 ∷ (0 ∷ (0 ∷ []))) ≡ outcome.numbers) × ((img ≡ outcome.image) × (gather ≡ outcome.buffer)))
    unfolding line_write
    line_denied told = write_denied img key caller (ltb 1 mode) gather filled (put_all line) _ own told

    module _ {g : Geometry} {e : ℕ} {x : Entry} (told : asked ≡ File g e x) (map : List ℕ) (mapped : MappedIf map img) where
      pub line_begun : Writable img map g e gather (from_start g filled) (put_all (take count text))
      line_begun =
          subst (λ (s : List ℕ). Writable img map g e gather (from_start g filled) (put_all s)) (sym (front_taken mode text front))
          (write_begun img key caller (ltb 1 mode) gather filled (put_all line) [] own told map mapped)

      pub line_done : {img' map' gather' : List ℕ} {at : Filling} → Laying g e img map gather (from_start g filled) (put_all (take count text)) img' map' gather' at []
          → {status : ℕ} → status ≡ written_status (take count text)
          → (0 ≡ outcome.code)
          × (((count ∷ (status ∷ (at.filled ∷ []))) ≡ outcome.numbers)
          × ((img' ≡ outcome.image) × ((gather' ≡ outcome.buffer) × MappedIf map' img')))
      unfolding line_write
      line_done {img'} {map'} {gather'} {at} laying judged =
          let own-laying : Laying g e img map gather (from_start g filled) (put_all line) img' map' gather' at [] =
          subst (λ (s : List ℕ). Laying g e img map gather (from_start g filled) (put_all s) img' map' gather' at []) (front_taken mode text front) laying in
          let d = write_done img key caller (ltb 1 mode) gather filled (put_all line) _ own told map mapped own-laying in
          let last : at.filled ≡ (gathered_in img gather filled (put_all line)).filled =
          write_filled img key caller (ltb 1 mode) gather filled (put_all line) [] own told map mapped own-laying in
          let bits = judged ∙ ap (λ (s : List ℕ). written_status s) (front_taken mode text front) in
          let behind : Mapped map' img' = write_mapped img key caller (ltb 1 mode) gather filled (put_all line) [] own told map mapped own-laying in
          (d.0, ((λ i. front i ∷ (bits i ∷ (last i ∷ []))) ∙ d.1.0, (d.1.1.0, (d.1.1.1, λ right. behind))))

-- no payload is longer than the longest block
payload_most : (img : List ℕ) → payload_bytes (geometry_of img) ≤ segment_bytes most_segments
unfolding geometry_of
payload_most img = omega (arith, segments_few (word_at img 0))

-- so many NULs of more
nuls_front : (count most : ℕ) → count ≤ most → take {A = ℕ} count (replicate {A = ℕ} most 0) ≡ replicate {A = ℕ} count 0
nuls_front zero most few = refl
nuls_front (suc count) zero few = absurd (omega arith)
nuls_front (suc count) (suc most) few = ap (λ (s : List ℕ). 0 ∷ s) (nuls_front count most (omega arith))

pub nuls_counted : (count most : ℕ) → count ≤ most → count ≡ length (take {A = ℕ} count (replicate {A = ℕ} most 0))
nuls_counted count most few = sym (ap length (nuls_front count most few) ∙ length-replicate {A = ℕ} count 0)

-- a front of an array of NULs is laid as so many NULs are
module _ {img map gather : List ℕ} {g : Geometry} {e : ℕ} {start : Filling} (count most : ℕ) (few : count ≤ most) where
  pub nuls_begun : Writable img map g e gather start (replicate count 0) → Writable img map g e gather start (take {A = ℕ} count (replicate {A = ℕ} most 0))
  nuls_begun = subst (Writable img map g e gather start) (sym (nuls_front count most few))

  pub nuls_laid : {img' map' gather' : List ℕ} {at : Filling}
      → Laying g e img map gather start (take {A = ℕ} count (replicate {A = ℕ} most 0)) img' map' gather' at []
      → Laying g e img map gather start (replicate count 0) img' map' gather' at []
  nuls_laid {img'} {map'} {gather'} {at} = subst (λ (s : List ℕ). Laying g e img map gather start s img' map' gather' at []) (nuls_front count most few)

-- the NULs that the code counted
module _ (img : List ℕ) {size : ℕ} (stated : size ≡ payload_bytes (geometry_of img)) (filled : ℕ) (some : filled ≡ 0 → ⊥) where
  pub nuls_left : nuls_for img filled ≡ replicate (size - filled) 0
  nuls_left =
      ap (λ (t : Bool). replicate (cond t 0 (payload_bytes (geometry_of img) - filled)) 0) (ne_eqb filled 0 some)
      ∙ ap (λ (n : ℕ). replicate (n - filled) 0) (sym stated)

  pub nuls_few : size - filled ≤ segment_bytes most_segments
  nuls_few = omega (arith, stated, payload_most img)

  pub nuls_over : size ≤ filled → nuls_for img filled ≡ replicate 0 0
  nuls_over over = let none : size - filled ≡ 0 = omega arith in nuls_left ∙ ap (λ (n : ℕ). replicate n 0) none

module _ (img : List ℕ) (key : Key) (caller : ℕ) (gather : List ℕ) (filled : ℕ) where
  abbrev ended : Outcome
  ended = line_end img key caller gather filled

  module _ (nuls : ℕ) (counted : nuls_for img filled ≡ replicate nuls 0) {blocks : ℕ}
      (full : filled < length gather → blocks ≡ (filled + nuls) / length gather) {asked : Asked}
      (is : (put : List ℕ) → (filled < length gather → blocks ≡ (filled + length put) / length gather)
      → asked ≡ stage_of (writing_rows img key caller false gather filled put) img key) where
    ending : asked ≡ stage_of (writing_rows img key caller false gather filled (nuls_for img filled)) img key
    ending =
        let long : nuls ≡ length (nuls_for img filled) = sym (ap length counted ∙ length-replicate {A = ℕ} nuls 0) in
        is (nuls_for img filled) (λ room. full room ∙ ap (λ (n : ℕ). (filled + n) / length gather) long)

    pub end_denied : {code : ℕ} → asked ≡ Refused code → (code ≡ ended.code) × ((img ≡ ended.image) × (gather ≡ ended.buffer))
    unfolding line_end
    end_denied told = let d = write_denied img key caller false gather filled (nuls_for img filled) [] ending told in (d.0, d.1.1)

    module _ {g : Geometry} {e : ℕ} {x : Entry} (told : asked ≡ File g e x) (map : List ℕ) (mapped : MappedIf map img) where
      pub end_begun : Writable img map g e gather (from_start g filled) (replicate nuls 0)
      end_begun =
          subst (Writable img map g e gather (from_start g filled)) counted
          (write_begun img key caller false gather filled (nuls_for img filled) [] ending told map mapped)

      pub end_done : {img' map' gather' : List ℕ} {at : Filling} → Laying g e img map gather (from_start g filled) (replicate nuls 0) img' map' gather' at []
          → (0 ≡ ended.code) × ((img' ≡ ended.image) × ((gather' ≡ ended.buffer) × MappedIf map' img'))
      unfolding line_end
      end_done {img'} {map'} {gather'} {at} laying =
          let own-laying : Laying g e img map gather (from_start g filled) (nuls_for img filled) img' map' gather' at [] =
          subst (λ (s : List ℕ). Laying g e img map gather (from_start g filled) s img' map' gather' at []) (sym counted) laying in
          let d = write_done img key caller false gather filled (nuls_for img filled) [] ending told map mapped own-laying in
          let behind : Mapped map' img' = write_mapped img key caller false gather filled (nuls_for img filled) [] ending told map mapped own-laying in
          (d.0, (d.1.1.0, (d.1.1.1, λ right. behind)))
