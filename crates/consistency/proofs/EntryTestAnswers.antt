-- The answers of the code that tests one entry: what each has to show, from the tests that led to it.
use Prim.Native.Nat.{ℕ, suc, zero, ◌+◌, ◌-◌, ◌*◌, ◌≤◌, ◌<◌}
use mathlib.Core.Path.{◌≡◌, refl, sym, ap, ◌∙◌}
use mathlib.Core.Bool.{Bool, true, false, cond, not, ◌&&◌, ◌||◌, and-true}
use mathlib.Core.List.{List}
use native.Mathlib.Omega.{arith}
use native.Mathlib.Decide.{ℕ_discrete, dec_lt}
use lib.Dec.{eqb, leb, ltb}
use lib.ListN.{get_or}
use borrow.Author.Tests.{eq-eqb, ne_eqb, eqb-true, le-leb, lt-leb, lt-ltb, le-ltb}
use Rattle.radix.specs.NamesTest.{legal_name, legal_extension}
use Rattle.words.specs.Word.{word_at}
use Rattle.pack.specs.declared.Geometry.{Geometry}
use Rattle.pack.specs.Geometry.{block_bytes, entry_at}
use Rattle.pack.specs.declared.Entry.{Entry}
use Rattle.pack.specs.HeaderTest.{listed}
use Rattle.pack.specs.File.{next_of, last_of, blocks_of}
use Rattle.pack.specs.Entry.{entry_word, entry_of, blocks_at, Empty}
use Rattle.answers.proofs.RefusalsTests.{and_left, go_on, stop}
use Rattle.pack.proofs.EntryRead.{empty_blocks}
use Rattle.consistency.specs.EightBytes.{eight_at}
use Rattle.consistency.specs.Walk.{takes, mark, blocks_from}
use Rattle.consistency.specs.EntryTest.{key_test, writer_test, kind_test, opens_test, fields_test, end_test, body_test, run_test, chain_test, rest_test, open_test, held_test, placed_test, entry_test}
use Rattle.consistency.proofs.EntryTestWhole.{rest_iff}

-- of the test of the name, the extension and the UIC of entry e, of which these words were read
module _ (img : List ℕ) (g : Geometry) (e : ℕ) {name1 name2 : ℕ} (is₀ : name1 ≡ entry_word img g e 0) (is₁ : name2 ≡ entry_word img g e 1) where
  pub key_name : legal_name name1 name2 ≡ false → false ≡ key_test img (entry_of img g e)
  unfolding key_test entry_of
  key_name wrong = stop _ _ (rw (is₀, is₁) at wrong)

  module _ (named : legal_name name1 name2 ≡ true) {extension : ℕ} (is₂ : extension ≡ entry_word img g e 2) where
    pub key_extension : legal_extension extension ≡ false → false ≡ key_test img (entry_of img g e)
    unfolding key_test entry_of
    key_extension wrong = go_on (rw (is₀, is₁) at named) (stop _ _ (rw is₂ at wrong))

    pub key_uic : legal_extension extension ≡ true → (r : Bool) (uic : ℕ) → uic ≡ entry_word img g e 3 → r ≡ listed img uic → r ≡ key_test img (entry_of img g e)
    unfolding key_test entry_of
    key_uic extended r uic is₃ is = go_on (rw (is₀, is₁) at named) (go_on (rw is₂ at extended) (rw is₃ at is))

-- a number of eight bytes that is 0
module _ (bytes : List ℕ) (at : ℕ) where
  abbrev AllZero : Type 0
  AllZero = (get_or bytes at 0 ≡ 0) × (get_or bytes (at + 1) 0 ≡ 0) × (get_or bytes (at + 2) 0 ≡ 0) × (get_or bytes (at + 3) 0 ≡ 0)
      × (get_or bytes (at + 4) 0 ≡ 0) × (get_or bytes (at + 5) 0 ≡ 0) × (get_or bytes (at + 6) 0 ≡ 0) × (get_or bytes (at + 7) 0 ≡ 0)

  all_zero : eight_at bytes at ≡ 0 → AllZero
  unfolding eight_at
  all_zero is =
      (omega (arith, is), omega (arith, is), omega (arith, is), omega (arith, is), omega (arith, is), omega (arith, is), omega (arith, is), omega (arith, is))

word_zero : (img : List ℕ) (w low high : ℕ) → low ≡ 2 * w → high ≡ 2 * w + 1 → get_or img low 0 ≡ 0 → get_or img high 0 ≡ 0 → word_at img w ≡ 0
unfolding word_at
word_zero img w low high is next none none' =
    omega (arith, none, none', ap (λ (k : ℕ). get_or img k 0) is, ap (λ (k : ℕ). get_or img k 0) next)

-- the words 9 to 15 of entry e, of which two such numbers were read
pub closed_by : (img : List ℕ) (g : Geometry) (e : ℕ) {bytes first second : ℕ} → bytes ≡ block_bytes g
    → first ≡ eight_at img (bytes + 32 * e + 18) → second ≡ eight_at img (bytes + 32 * e + 24) → first ≡ 0 → second ≡ 0
    → (i : ℕ) → 9 ≤ i → i < 16 → entry_word img g e i ≡ 0
unfolding entry_word
closed_by img g e {bytes} {first} {second} size is₁ is₂ none none' i low high =
    let place : 9 + (i - 9) ≡ i = omega arith in
    ap (λ (k : ℕ). word_at img (entry_at g e + k)) (sym place)
    ∙ each (all_zero img (bytes + 32 * e + 18) (sym is₁ ∙ none)) (all_zero img (bytes + 32 * e + 24) (sym is₂ ∙ none')) (i - 9) (omega arith)
  where
    each : AllZero img (bytes + 32 * e + 18) → AllZero img (bytes + 32 * e + 24) → (j : ℕ) → j < 7 → word_at img (entry_at g e + (9 + j)) ≡ 0
    each one two zero low = word_zero img _ (bytes + 32 * e + 18) (bytes + 32 * e + 18 + 1) (omega (arith, size)) (omega (arith, size)) one.0 one.1
    each one two (suc zero) low = word_zero img _ (bytes + 32 * e + 18 + 2) (bytes + 32 * e + 18 + 3) (omega (arith, size)) (omega (arith, size)) one.2 one.3
    each one two (suc (suc zero)) low = word_zero img _ (bytes + 32 * e + 18 + 4) (bytes + 32 * e + 18 + 5) (omega (arith, size)) (omega (arith, size)) one.4 one.5
    each one two (suc (suc (suc zero))) low = word_zero img _ (bytes + 32 * e + 24) (bytes + 32 * e + 24 + 1) (omega (arith, size)) (omega (arith, size)) two.0 two.1
    each one two (suc (suc (suc (suc zero)))) low = word_zero img _ (bytes + 32 * e + 24 + 2) (bytes + 32 * e + 24 + 3) (omega (arith, size)) (omega (arith, size)) two.2 two.3
    each one two (suc (suc (suc (suc (suc zero))))) low = word_zero img _ (bytes + 32 * e + 24 + 4) (bytes + 32 * e + 24 + 5) (omega (arith, size)) (omega (arith, size)) two.4 two.5
    each one two (suc (suc (suc (suc (suc (suc zero)))))) low = word_zero img _ (bytes + 32 * e + 24 + 6) (bytes + 32 * e + 24 + 7) (omega (arith, size)) (omega (arith, size)) two.6 two.7
    each one two (suc (suc (suc (suc (suc (suc (suc j))))))) low = absurd (omega arith)

-- of the test of all that stands behind the blocks of entry e
module _ (img : List ℕ) (g : Geometry) (e kind : ℕ) where
  pub open_closed : ((i : ℕ) → 9 ≤ i → i < 16 → entry_word img g e i ≡ 0) → (eqb kind 1 || eqb kind 2) ≡ open_test img g e kind
  unfolding open_test writer_test opens_test
  open_closed closed =
      rw (
        closed 9 (omega arith) (omega arith),
        closed 10 (omega arith) (omega arith),
        (rest_iff img g e 11 (omega arith)).1 (λ i low high. closed i (omega arith) high),
      )
      (by (eqb kind 1) (eqb kind 2))
    where
      by : (a b : Bool) → (a || b) ≡ (cond a true (b && true) && true)
      by true b = refl
      by false true = refl
      by false false = refl

  module _ {writer : ℕ} (is₉ : writer ≡ entry_word img g e 9) where
    pub open_writer : writer_test kind writer ≡ false → false ≡ open_test img g e kind
    unfolding open_test
    open_writer wrong = stop _ _ (rw is₉ at wrong)

    module _ (right : writer_test kind writer ≡ true) {readers : ℕ} (is₁₀ : readers ≡ entry_word img g e 10) where
      pub open_many : opens_test writer readers ≡ false → false ≡ open_test img g e kind
      unfolding open_test
      open_many wrong = go_on (rw is₉ at right) (stop _ _ (rw (is₉, is₁₀) at wrong))

      pub open_rest : opens_test writer readers ≡ true → (r : Bool) → r ≡ rest_test img g e 11 → r ≡ open_test img g e kind
      unfolding open_test
      open_rest few r is = go_on (rw is₉ at right) (go_on (rw (is₉, is₁₀) at few) is)

-- of the test of the blocks, by the kind
module _ (img : List ℕ) (g : Geometry) (map : List ℕ) (x : Entry) where
  run_body : x.kind ≡ 1 → run_test img g map x.length x.first.0 x.last.0 ≡ (not (eqb x.kind 1 && ltb x.length 1) && body_test img g map x)
  unfolding run_test body_test end_test blocks_of blocks_from
  run_body is =
      ap (λ (t : Bool). t && (takes g.bodies.0 g.blocks map (blocks_from img g 1 x.length x.first.0)
      && eqb (last_of (next_of img g 1) 0 x.length x.first.0) x.last.0))
      (some (dec_lt 0 x.length))
      ∙ rw (is, and-true)
    where
      some : Dec (0 < x.length) → ltb 0 x.length ≡ not (ltb x.length 1)
      some (yes more) = lt-ltb _ _ more ∙ ap not (sym (le-ltb _ _ more))
      some (no none) = le-ltb 0 x.length (omega (arith, none)) ∙ ap not (sym (lt-ltb x.length 1 (omega (arith, none))))

  chain_body : x.kind ≡ 2 → chain_test img g map 0 x.length x.first.0 x.last.0 ≡ (not (eqb x.kind 1 && ltb x.length 1) && body_test img g map x)
  unfolding chain_test body_test end_test blocks_of blocks_from
  chain_body is = rw is

-- a kind that is not 1, and with which the writer goes, is 2
kind_two : (kind writer : ℕ) → (kind ≡ 1 → ⊥) → writer_test kind writer ≡ true → kind ≡ 2
unfolding writer_test
kind_two kind writer other test = eqb-true kind 2 (and_left (eqb kind 2) _ (simp (ne_eqb _ _ other) at test))

-- of the test of entry e beside its key
module _ (img : List ℕ) (g : Geometry) (map : List ℕ) (e : ℕ) {protect : ℕ} (is₄ : protect ≡ entry_word img g e 4) where
  pub held_protect : 255 < protect → false ≡ held_test img g map e
  unfolding held_test entry_of
  held_protect large = stop _ _ (lt-leb _ _ (rw is₄ at large))

  module _ (few : protect ≤ 255) {kind : ℕ} (is₅ : kind ≡ entry_word img g e 5) where
    pub held_open : open_test img g e kind ≡ false → false ≡ held_test img g map e
    unfolding held_test entry_of
    held_open wrong = go_on (le-leb _ _ (rw is₄ at few)) (stop _ _ (rw is₅ at wrong))

    module _ (right : open_test img g e kind ≡ true) {first count stored : ℕ}
        (is₆ : first ≡ entry_word img g e 6) (is₇ : count ≡ entry_word img g e 7) (is₈ : stored ≡ entry_word img g e 8) where
      held_body : (r : Bool) → r ≡ (not (eqb (entry_of img g e).kind 1 && ltb (entry_of img g e).length 1) && body_test img g map (entry_of img g e))
          → r ≡ held_test img g map e
      unfolding held_test entry_of
      held_body r is = go_on (le-leb _ _ (rw is₄ at few)) (go_on (rw is₅ at right) is)

      pub held_run : kind ≡ 1 → (r : Bool) → r ≡ run_test img g map count first stored → r ≡ held_test img g map e
      unfolding entry_of
      held_run one r is = held_body r (read is ∙ run_body img g map (entry_of img g e) (fields one))
        where
          read : r ≡ run_test img g map count first stored → r ≡ run_test img g map (entry_of img g e).length (entry_of img g e).first.0 (entry_of img g e).last.0
          read is = rw (is₆, is₇, is₈) at is

          fields : kind ≡ 1 → (entry_of img g e).kind ≡ 1
          fields one = sym is₅ ∙ one

      open_kind : (kind ≡ 1 → ⊥) → kind ≡ 2
      unfolding open_test
      open_kind other = kind_two kind (entry_word img g e 9) other (and_left (writer_test kind (entry_word img g e 9)) _ right)

      pub held_chain : (kind ≡ 1 → ⊥) → (r : Bool) → r ≡ chain_test img g map 0 count first stored → r ≡ held_test img g map e
      unfolding entry_of
      held_chain other r is = held_body r (read is ∙ chain_body img g map (entry_of img g e) (fields (open_kind other)))
        where
          read : r ≡ chain_test img g map 0 count first stored → r ≡ chain_test img g map 0 (entry_of img g e).length (entry_of img g e).first.0 (entry_of img g e).last.0
          read is = rw (is₆, is₇, is₈) at is

          fields : kind ≡ 2 → (entry_of img g e).kind ≡ 2
          fields two = sym is₅ ∙ two

      pub run_mark : kind ≡ 1 → {map' : List ℕ} → map' ≡ mark map (blocks_from img g 1 count first) → map' ≡ mark map (blocks_at img g e)
      unfolding blocks_from blocks_of entry_of
      run_mark one is = is ∙ rw (is₆, is₇, ← one, is₅)

      pub chain_mark : (kind ≡ 1 → ⊥) → {map' : List ℕ} → map' ≡ mark map (blocks_from img g 2 count first) → map' ≡ mark map (blocks_at img g e)
      unfolding blocks_from blocks_of entry_of
      chain_mark other is = is ∙ rw (is₆, is₇, ← open_kind other, is₅)

-- of an empty entry
module _ (img : List ℕ) (g : Geometry) (map : List ℕ) (e : ℕ) where
  empty_entry : (entry_of img g e).name1 ≡ 0 → entry_test img g map e ≡ rest_test img g e 0
  unfolding entry_test
  empty_entry is = rw (eq-eqb _ _ is)

  pub empty_mark : rest_test img g e 0 ≡ true → map ≡ mark map (blocks_at img g e)
  unfolding mark
  empty_mark test =
      let empty : Empty img g e = record { zero = λ i below. (rest_iff img g e 0 (omega arith)).0 test i (omega arith) below } in
      sym (ap (mark map) (empty_blocks img g e empty))

name_used : (img : List ℕ) (g : Geometry) (e : ℕ) → ((entry_of img g e).name1 ≡ 0 → ⊥) → entry_word img g e 0 ≡ 0 → ⊥
unfolding entry_of
name_used img g e used none = used none

-- of the test of entry e, one in use
module _ (img : List ℕ) (g : Geometry) (map : List ℕ) (e : ℕ) (used : entry_word img g e 0 ≡ 0 → ⊥) where
  file_parts : (key_test img (entry_of img g e) && held_test img g map e) ≡ entry_test img g map e
  unfolding entry_test fields_test kind_test held_test open_test entry_of
  file_parts =
      simp (ne_eqb _ _ used)
      (by (key_test img (entry_of img g e)) (leb (entry_word img g e 4) 255) (not (eqb (entry_word img g e 5) 1 && ltb (entry_word img g e 7) 1))
      (writer_test (entry_word img g e 5) (entry_word img g e 9)) (opens_test (entry_word img g e 9) (entry_word img g e 10)) (rest_test img g e 11) _)
    where
      by : (k p l w s r b : Bool) → (k && (p && ((w && (s && r)) && (l && b)))) ≡ ((k && (p && ((l && w) && s))) && (r && b))
      by false p l w s r b = refl
      by true false l w s r b = refl
      by true true true true true r b = refl
      by true true true true false r b = refl
      by true true true false s r b = refl
      by true true false true true true b = refl
      by true true false true true false b = refl
      by true true false true false r b = refl
      by true true false false s r b = refl

-- of the test of any entry in two parts
pub entry_parts : (img : List ℕ) (g : Geometry) (map : List ℕ) (e : ℕ)
    → (cond (eqb (entry_of img g e).name1 0) true (key_test img (entry_of img g e)) && placed_test img g map e) ≡ entry_test img g map e
unfolding placed_test
entry_parts img g map e = by (ℕ_discrete (entry_of img g e).name1 0)
  where
    by : Dec ((entry_of img g e).name1 ≡ 0)
        → (cond (eqb (entry_of img g e).name1 0) true (key_test img (entry_of img g e)) && cond (eqb (entry_of img g e).name1 0) (rest_test img g e 0) (held_test img g map e))
        ≡ entry_test img g map e
    by (yes is) = rw (eq-eqb _ _ is) (sym (empty_entry img g map e is))
    by (no used) = rw (ne_eqb _ _ used) (file_parts img g map e (name_used img g e used))

module _ (img : List ℕ) (g : Geometry) (map : List ℕ) (e : ℕ) where
  -- what the code finds of the parts
  pub placed_empty : {w : ℕ} → w ≡ entry_word img g e 0 → w ≡ 0 → (r : Bool) → r ≡ rest_test img g e 0 → r ≡ placed_test img g map e
  unfolding placed_test entry_of
  placed_empty is none r tested = rw (eq-eqb _ _ (sym is ∙ none)) tested

  pub placed_used : (entry_word img g e 0 ≡ 0 → ⊥) → (r : Bool) → r ≡ held_test img g map e → r ≡ placed_test img g map e
  unfolding placed_test entry_of
  placed_used used r is = rw (ne_eqb _ _ used) is

pub empty_placed : (img : List ℕ) (g : Geometry) (map : List ℕ) (e : ℕ) → Empty img g e → placed_test img g map e ≡ true
unfolding placed_test entry_of
empty_placed img g map e empty = rw (eq-eqb _ _ (empty.zero 0 (omega arith))) ((rest_iff img g e 0 (omega arith)).1 (λ i low high. empty.zero i high))

pub key_used : (img : List ℕ) (g : Geometry) (e : ℕ) → (entry_word img g e 0 ≡ 0 → ⊥)
    → cond (eqb (entry_of img g e).name1 0) true (key_test img (entry_of img g e)) ≡ key_test img (entry_of img g e)
unfolding entry_of
key_used img g e used = rw (ne_eqb _ _ used)
