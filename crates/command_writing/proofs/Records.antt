-- Records tell what there is to know of specifications, and so the reading: of two readings that give the same records there is one.
use Prim.Native.Nat.{ℕ, ◌/◌, ◌%◌}
use mathlib.Core.Path.{◌≡◌, refl, sym, ap, ◌∙◌}
use mathlib.Core.Bool.{Bool, true, false, cond}
use mathlib.Core.List.{List, [], ◌∷◌, ◌++◌, append_assoc, append-nil}
use native.Mathlib.Omega.{arith}
use lib.Dec.{eqb}
use lib.ListN.{length}
use Rattle.words.specs.Word.{word_bytes}
use Rattle.command_cursor.specs.FilledWord.{first_word, second_word}
use Rattle.command_grammar.specs.Parsed.{Switch, Specification}
use Rattle.command_grammar.specs.Reading.{Reading, Reads, input_of, side_of}
use Rattle.command_parts.specs.declared.Numbers.{Numbers}
use Rattle.command_parts.specs.Numbers.{numbers_of}
use Rattle.command_switches.specs.Encoded.{value_words, all_switch_words, encoded}
use Rattle.command.specs.Csi2.{asking_answer}
use Rattle.command.specs.Known.{Known, Pair, DecodedSwitch, pair_of, value_numbers, switch_numbers, decoded, known_of}
use Rattle.command.specs.Asking as A
use Rattle.command.proofs.KnownDecoded.{decoded_encoded}
use Rattle.command.proofs.KnownReading.{known_reading}
use Rattle.command_writing.specs.WrittenLine.{written}
use Rattle.command_writing.specs.Records.{record_words, record_of, records_of, Gives, Given}
use Rattle.command_writing.proofs.WrittenLine.{written_one}

-- as many words on each side are the same words

word_of : (word other : ℕ) → word % 256 ≡ other % 256 → word / 256 ≡ other / 256 → word ≡ other
word_of word other low high = omega arith

words_front : (words others rest behind : List ℕ) → length words ≡ length others → word_bytes words ++ rest ≡ word_bytes others ++ behind
    → (words ≡ others) × (rest ≡ behind)
unfolding word_bytes
words_front [] [] rest behind long is = (refl, is)
words_front [] (other ∷ others) rest behind long is = absurd (omega arith)
words_front (word ∷ words) [] rest behind long is = absurd (omega arith)
words_front (word ∷ words) (other ∷ others) rest behind long is =
    let low : word % 256 ≡ other % 256 = cc in
    let high : word / 256 ≡ other / 256 = cc in
    let left : word_bytes words ++ rest ≡ word_bytes others ++ behind = cc in
    let more = words_front words others rest behind (omega arith) left in
    let same : word ≡ other = word_of word other low high in
    (rw (same, more.0), more.1)

-- switches of which the same is known have the same bytes

values_known : (vs us : List (List ℕ)) → value_numbers vs ≡ value_numbers us → (length vs ≡ length us) × (value_words vs ≡ value_words us)
unfolding value_numbers value_words
values_known [] [] is = (refl, refl)
values_known [] (u ∷ us) is = let z : ◌≡◌ {A = ℕ} 0 1 = cc in absurd (omega arith)
values_known (v ∷ vs) [] is = let z : ◌≡◌ {A = ℕ} 0 1 = cc in absurd (omega arith)
values_known (v ∷ vs) (u ∷ us) is =
    let value : pair_of v ≡ pair_of u = cc in
    let first : first_word v ≡ first_word u = ap (λ (p : Pair). p.first) value in
    let second : second_word v ≡ second_word u = ap (λ (p : Pair). p.second) value in
    let left : value_numbers vs ≡ value_numbers us = cc in
    let more = values_known vs us left in
    (omega (arith, more.0), rw (first, second, more.1))

decoded_of : Switch → DecodedSwitch
decoded_of w = record { name = pair_of w.name; values = value_numbers w.values }

switches_known : (ws us : List Switch) → switch_numbers ws ≡ switch_numbers us → all_switch_words ws ≡ all_switch_words us
unfolding switch_numbers all_switch_words decoded_of
switches_known [] [] is = refl
switches_known [] (u ∷ us) is = let z : ◌≡◌ {A = ℕ} 0 1 = cc in absurd (omega arith)
switches_known (w ∷ ws) [] is = let z : ◌≡◌ {A = ℕ} 0 1 = cc in absurd (omega arith)
switches_known (w ∷ ws) (u ∷ us) is =
    let switch : decoded_of w ≡ decoded_of u = cc in
    let first : first_word w.name ≡ first_word u.name = ap (λ (d : DecodedSwitch). d.name.first) switch in
    let second : second_word w.name ≡ second_word u.name = ap (λ (d : DecodedSwitch). d.name.second) switch in
    let values : value_numbers w.values ≡ value_numbers u.values = ap (λ (d : DecodedSwitch). d.values) switch in
    let left : switch_numbers ws ≡ switch_numbers us = cc in
    let more = switches_known ws us left in
    let here = values_known w.values u.values values in
    rw (here.0, first, second, here.1, more)

encoded_known : (ws us : List Switch) → switch_numbers ws ≡ switch_numbers us → encoded ws ≡ encoded us
unfolding encoded
encoded_known ws us is = ap word_bytes (switches_known ws us is)

append_same : (front rest behind : List ℕ) → front ++ rest ≡ front ++ behind → rest ≡ behind
append_same [] rest behind is = is
append_same (x ∷ front) rest behind is = let left : front ++ rest ≡ front ++ behind = cc in append_same front rest behind left

encoded_front : (ws us : List Switch) (rest behind : List ℕ) → length ws ≡ length us → encoded ws ++ rest ≡ encoded us ++ behind
    → (switch_numbers ws ≡ switch_numbers us) × (rest ≡ behind)
encoded_front ws us rest behind long is =
    let known : switch_numbers ws ≡ switch_numbers us =
    sym (decoded_encoded ws rest) ∙ ap (λ (n : ℕ). decoded n (encoded ws ++ rest)) long ∙ ap (λ (l : List ℕ). decoded (length us) l) is ∙ decoded_encoded us behind in
    (known, append_same (encoded us) rest behind (ap (λ (l : List ℕ). l ++ rest) (sym (encoded_known ws us known)) ∙ is))

-- what is known of a specification, from its record

abbrev known_as : Specification → Known
known_as v = record { answer = asking_answer (A.Given (numbers_of v)); switches = switch_numbers v.switches }

numbers_same : (n m : Numbers) → record_words n ≡ record_words m → n ≡ m
numbers_same n m is =
    let present : n.present ≡ m.present = cc in
    let device : n.device ≡ m.device = cc in
    let unit : n.unit ≡ m.unit = cc in
    let name1 : n.name1 ≡ m.name1 = cc in
    let name2 : n.name2 ≡ m.name2 = cc in
    let extension : n.extension ≡ m.extension = cc in
    let group : n.group ≡ m.group = cc in
    let user : n.user ≡ m.user = cc in
    let switches : n.switches ≡ m.switches = cc in
    λ i. record {
      present = present i;
      device = device i;
      unit = unit i;
      name1 = name1 i;
      name2 = name2 i;
      extension = extension i;
      group = group i;
      user = user i;
      switches = switches i;
    }

count_of : (v : Specification) → (numbers_of v).switches ≡ length v.switches
unfolding numbers_of
count_of v = refl

record_known : (v w : Specification) (rest behind : List ℕ) → record_of v ++ rest ≡ record_of w ++ behind → (known_as v ≡ known_as w) × (rest ≡ behind)
unfolding record_of
record_known v w rest behind is =
    let split = words_front (record_words (numbers_of v)) (record_words (numbers_of w)) (encoded v.switches ++ rest) (encoded w.switches ++ behind) refl
    (sym (append_assoc (word_bytes (record_words (numbers_of v))) (encoded v.switches) rest) ∙ is
    ∙ append_assoc (word_bytes (record_words (numbers_of w))) (encoded w.switches) behind) in
    let numbers = numbers_same (numbers_of v) (numbers_of w) split.0 in
    let switches = encoded_front v.switches w.switches rest behind (sym (count_of v) ∙ ap (λ (n : Numbers). n.switches) numbers ∙ count_of w) split.1 in
    (rw (numbers, switches.0), switches.1)

records_known : (vs ws : List Specification) (rest behind : List ℕ) → length vs ≡ length ws → records_of vs ++ rest ≡ records_of ws ++ behind
    → (known_of vs ≡ known_of ws) × (rest ≡ behind)
unfolding records_of known_of
records_known [] [] rest behind long is = (refl, is)
records_known [] (w ∷ ws) rest behind long is = absurd (omega arith)
records_known (v ∷ vs) [] rest behind long is = absurd (omega arith)
records_known (v ∷ vs) (w ∷ ws) rest behind long is =
    let here = record_known v w (records_of vs ++ rest) (records_of ws ++ behind)
    (sym (append_assoc (record_of v) (records_of vs) rest) ∙ is ∙ append_assoc (record_of w) (records_of ws) behind) in
    let more = records_known vs ws rest behind (omega arith) here.1 in
    (rw (here.0, more.0), more.1)

-- what is known of both sides is known of any

sides_known : (r q : Reading) → known_of r.output ≡ known_of q.output → known_of (input_of r.input) ≡ known_of (input_of q.input)
    → (side : ℕ) → known_of (side_of side r) ≡ known_of (side_of side q)
unfolding side_of
sides_known r q output input side = by (eqb side 0) (eqb side 1)
  where
    by : (zeroth first : Bool) → known_of (cond zeroth r.output (cond first (input_of r.input) [])) ≡ known_of (cond zeroth q.output (cond first (input_of q.input) []))
    by true first = output
    by false true = input
    by false false = refl

-- records tell the readings of lines apart
reading_known : (line other : List ℕ) (r q : Reading) → Reads line r → Reads other q → known_of r.output ≡ known_of q.output
    → known_of (input_of r.input) ≡ known_of (input_of q.input) → r ≡ q
reading_known line other r q read read' output input = known_reading line other r q read read' (sides_known r q output input)

gives_single : (line other : List ℕ) (r q : Reading) (outputs inputs : ℕ) (records : List ℕ) → Reads line r → Reads other q
    → Gives r outputs inputs records → Gives q outputs inputs records → r ≡ q
gives_single line other r q outputs inputs records read read' gives gives' =
    let output = records_known r.output q.output (records_of (input_of r.input)) (records_of (input_of q.input))
    (gives.output ∙ sym gives'.output) (gives.bytes ∙ sym gives'.bytes) in
    let input = records_known (input_of r.input) (input_of q.input) [] [] (gives.input ∙ sym gives'.input)
    (append-nil (records_of (input_of r.input)) ∙ output.1 ∙ sym (append-nil (records_of (input_of q.input)))) in
    reading_known line other r q read read' output.0 input.0

-- what is given has one reading
pub given_single : {outputs inputs : ℕ} {records : List ℕ} {r q : Reading} → Given outputs inputs records r → Given outputs inputs records q → r ≡ q
given_single {outputs} {inputs} {records} {r} {q} given given' =
    gives_single given.line given'.line r q outputs inputs records given.reads given'.reads given.gives given'.gives

-- a reading gives one input
pub gives_one : {r q : Reading} {outputs outputs' inputs inputs' : ℕ} {records records' : List ℕ} → r ≡ q → Gives r outputs inputs records
    → Gives q outputs' inputs' records' → (outputs ≡ outputs') × (inputs ≡ inputs') × (records ≡ records')
gives_one {r} {q} same gives gives' = (
  sym gives.output ∙ ap (λ (x : Reading). length x.output) same ∙ gives'.output,
  sym gives.input ∙ ap (λ (x : Reading). length (input_of x.input)) same ∙ gives'.input,
  sym gives.bytes ∙ ap (λ (x : Reading). records_of x.output ++ records_of (input_of x.input)) same ∙ gives'.bytes,
)

-- two inputs whose lines are the same are the same
pub given_apart : {outputs outputs' inputs inputs' : ℕ} {records records' : List ℕ} {r q : Reading} → Given outputs inputs records r
    → Given outputs' inputs' records' q → written r ≡ written q → (outputs ≡ outputs') × (inputs ≡ inputs') × (records ≡ records')
given_apart {r} {q} given given' same =
    gives_one (written_one given.line given'.line r q given.reads given'.reads same) given.gives given'.gives
