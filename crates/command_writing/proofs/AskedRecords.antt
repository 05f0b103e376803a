-- Asking for a side's specifications by place, the answers kept as they come, yields the records of the line's reading.
use Prim.Native.Nat.{ℕ, suc, ◌+◌, ◌≤◌}
use mathlib.Core.Path.{◌≡◌, refl, sym, ap, subst, ◌∙◌}
use mathlib.Core.List.{List, [], ◌∷◌, ◌++◌, append_assoc}
use mathlib.Core.Option.{none, some}
use native.Mathlib.Omega.{arith}
use lib.ListN.{length, take, drop, length-append}
use lib.Seq.{take_at, drop_at}
use Rattle.words.specs.Word.{word_at, word_bytes}
use Rattle.command_grammar.specs.Parsed.{Switch, Specification}
use Rattle.command_grammar.specs.Reading.{Reading, Reads, side_of}
use Rattle.command_parts.specs.Numbers.{numbers_of}
use Rattle.command_switches.specs.Encoded.{switch_words, all_switch_words, encoded}
use Rattle.command_switches.proofs.EncodedLength.{switch_length, bytes_length}
use Rattle.command.specs.Condensed.{line_limit}
use Rattle.command.specs.Csi2.{asking_answer, FoundAt, Csi2Answered}
use Rattle.command.specs.declared.csi2.SpecificationAnswer.{SpecificationAnswer}
use Rattle.command.specs.Asking as A
use Rattle.command.proofs.Csi2Only.{csi2_answers}
use Rattle.command.proofs.Csi2Found.{answers_missing, answers_given, csi2_room}
use Rattle.command.proofs.KnownDecoded.{bytes_append, word_back}
use Rattle.command.proofs.KnownSides.{none_left, one_left}
use Rattle.command_writing.specs.Records.{record_words, record_of, records_of}
use Rattle.command_writing.specs.AskedRecords.{first_bytes, switch_bytes, kept_record, RecordsAsked, stops, goes}

-- the bytes that switches take are found in them

one_switch : (w : Switch) (ws : List Switch) (rest : List ℕ) → encoded (w ∷ ws) ++ rest ≡ word_bytes (switch_words w) ++ (encoded ws ++ rest)
unfolding encoded all_switch_words
one_switch w ws rest =
    ap (λ (l : List ℕ). l ++ rest) (bytes_append (switch_words w) (all_switch_words ws))
    ∙ append_assoc (word_bytes (switch_words w)) (word_bytes (all_switch_words ws)) rest

first_count : (w : Switch) (rest : List ℕ) → word_at (word_bytes (switch_words w) ++ rest) 0 ≡ length w.values
unfolding word_at word_bytes
first_count w rest = word_back (length w.values)

first_long : (w : Switch) (rest : List ℕ) → length (word_bytes (switch_words w)) ≡ first_bytes (word_bytes (switch_words w) ++ rest)
first_long w rest = omega (arith, first_count w rest, switch_length w, bytes_length (switch_words w))

encoded_more : (w : Switch) (ws : List Switch) → length (encoded (w ∷ ws)) ≡ length (word_bytes (switch_words w)) + length (encoded ws)
unfolding encoded all_switch_words
encoded_more w ws =
    ap (λ (l : List ℕ). length l) (bytes_append (switch_words w) (all_switch_words ws)) ∙ length-append (word_bytes (switch_words w)) (word_bytes (all_switch_words ws))

encoded_none : length (encoded []) ≡ 0
unfolding encoded all_switch_words word_bytes
encoded_none = refl

bytes_more : (count : ℕ) (bytes : List ℕ) → switch_bytes (suc count) bytes ≡ first_bytes bytes + switch_bytes count (drop (first_bytes bytes) bytes)
unfolding switch_bytes
bytes_more count bytes = refl

switch_bytes_law : (ws : List Switch) (rest : List ℕ) → switch_bytes (length ws) (encoded ws ++ rest) ≡ length (encoded ws)
unfolding switch_bytes
switch_bytes_law [] rest = sym encoded_none
switch_bytes_law (w ∷ ws) rest =
    let front = word_bytes (switch_words w) ++ (encoded ws ++ rest) in
    let left : drop (first_bytes front) front ≡ encoded ws ++ rest =
    drop_at (word_bytes (switch_words w)) (encoded ws ++ rest) (first_bytes front) (first_long w (encoded ws ++ rest)) in
    omega (
      arith,
      ap (λ (l : List ℕ). switch_bytes (suc (length ws)) l) (one_switch w ws rest),
      bytes_more (length ws) front,
      ap (λ (l : List ℕ). switch_bytes (length ws) l) left,
      switch_bytes_law ws rest,
      encoded_more w ws,
      first_long w (encoded ws ++ rest),
    )

pub kept_given : (v : Specification) (rest : List ℕ) → kept_record (asking_answer (A.Given (numbers_of v))) (encoded v.switches ++ rest) ≡ record_of v
unfolding numbers_of record_of
kept_given v rest =
    ap (λ (l : List ℕ). word_bytes (record_words (numbers_of v)) ++ l)
    (ap (λ (n : ℕ). take n (encoded v.switches ++ rest)) (switch_bytes_law v.switches rest) ∙ take_at (encoded v.switches) rest (length (encoded v.switches)) refl)

-- one answer, by what is left of the side from its place on

module _ (line : List ℕ) (reading : Reading) (fits : length line ≤ line_limit) (read : Reads line reading) (side : ℕ) where
  module _ {k : ℕ} {buffer : List ℕ} {answer : SpecificationAnswer} {after : List ℕ} (is : Csi2Answered line side k buffer answer after) where
    nothing_kept : drop k (side_of side reading) ≡ [] → answer.code ≡ 0o51
    nothing_kept left =
        let found : FoundAt line side k none = record { reading = reading; reads = read; there = none_left k (side_of side reading) left } in
        ap (λ (a : SpecificationAnswer). a.code) (answers_missing line fits side k buffer answer after is found).0

    one_kept : (v : Specification) (us : List Specification) → drop k (side_of side reading) ≡ v ∷ us → (answer.code ≡ 0o52 → ⊥)
        → (answer.code ≡ 0) × (kept_record answer after ≡ record_of v)
    one_kept v us left room =
        let found : FoundAt line side k (some v) = record { reading = reading; reads = read; there = (one_left k (side_of side reading) v us left).0 } in
        let given = answers_given line fits side k buffer answer after is v found room in
        (ap (λ (a : SpecificationAnswer). a.code) given.0, rw (given.0, given.1) (kept_given v (drop (length (encoded v.switches)) buffer)))

  -- all answers

  module _ (lent : ℕ → List ℕ) where
    records_from : ((k : ℕ) → 384 ≤ length (lent k)) → (k : ℕ) (us : List Specification) → drop k (side_of side reading) ≡ us
        → RecordsAsked line side lent k (length us) (records_of us)
    unfolding records_of
    records_from room k [] left = let given = csi2_answers line side k (lent k) in stops given.2 (nothing_kept given.2 left)
    records_from room k (v ∷ us) left =
        let given = csi2_answers line side k (lent k) in
        let kept = one_kept given.2 v us left (csi2_room line side k (lent k) given.0 given.1 given.2 (room k)) in
        subst (λ (x : List ℕ). RecordsAsked line side lent k (suc (length us)) (x ++ records_of us)) kept.1
        (goes given.2 kept.0 (records_from room (suc k) us (one_left k (side_of side reading) v us left).1))

    from_one : (k count : ℕ) (us : List Specification) (records : List ℕ) → drop k (side_of side reading) ≡ us → RecordsAsked line side lent k count records
        → (count ≡ length us) × (records ≡ records_of us)
    unfolding records_of
    from_one k count [] records left (stops is code) = (refl, refl)
    from_one k count (v ∷ us) records left (stops is code) = absurd (omega (arith, code, (one_kept is v us left (λ short. omega (arith, code, short))).0))
    from_one k count [] records left (goes is code rest) = absurd (omega (arith, code, nothing_kept is left))
    from_one k count (v ∷ us) records left (goes {count = less} {rest = more} is code rest) =
        let behind = from_one (suc k) less us more (one_left k (side_of side reading) v us left).1 rest in
        (omega (arith, behind.0), rw ((one_kept is v us left (λ short. omega (arith, code, short))).1, behind.1))

    -- with 384 bytes for each answer the asking ends, and what is then counted and kept, with whatever buffers it ends, is what the reading gives
    pub records_asked : ((k : ℕ) → 384 ≤ length (lent k)) → RecordsAsked line side lent 0 (length (side_of side reading)) (records_of (side_of side reading))
    records_asked room = records_from room 0 (side_of side reading) refl

    pub records_asked_one : (count : ℕ) (records : List ℕ) → RecordsAsked line side lent 0 count records
        → (count ≡ length (side_of side reading)) × (records ≡ records_of (side_of side reading))
    records_asked_one count records asked = from_one 0 count (side_of side reading) records refl asked
