-- That files differ: each test of pairs is true exactly if no two entries have one name, extension and UIC; and the lists in which files of one number stand.
use Prim.Native.Nat.{ℕ, suc, zero, ◌+◌, ◌-◌, ◌*◌, ◌/◌, ◌%◌, ◌≤◌, ◌<◌}
use mathlib.Core.Path.{◌≡◌, refl, sym, ap, subst, ◌∙◌}
use mathlib.Core.Bool.{Bool, true, false, not}
use mathlib.Core.List.{List}
use mathlib.Core.Logic.{◌↔◌}
use native.Mathlib.Omega.{arith}
use native.Mathlib.Decide.{ℕ_discrete, dec_lt}
use lib.ListN.{length, get_or, set, replicate, length-set, length-replicate, get_or-replicate, get_or-eq_default}
use lib.Seq.{get_or-set_same, get_or-set_other}
use borrow.Author.Tests.{eq-eqb, ne_eqb, not-true}
use Rattle.words.specs.Word.{word_at}
use Rattle.pack.specs.declared.Geometry.{Geometry}
use Rattle.pack.specs.Geometry.{block_bytes, entry_at}
use Rattle.pack.specs.Entry.{entry_word, entry_of}
use Rattle.pack.specs.Key.{key_in, SameKey}
use Rattle.pack.proofs.KeySame.{same_key_iff}
use Rattle.answers.proofs.RefusalsTests.{and_left, and_right, and_both, true_not_false}
use Rattle.consistency.specs.EightBytes.{eight_at}
use Rattle.consistency.specs.DifferTest.{same_test, key_number, SmallKey, TableSize, few, many, slot_of, InList, here, later, Compared, apart_test, new_test, differ_test, Listing}

-- the list of a file is one of them
slot_in : (long key : ℕ) → TableSize long → slot_of long key < long
unfolding slot_of
slot_in long key few = omega arith
slot_in long key many = omega arith

larger : {long : ℕ} → TableSize long → (long ≡ 256 → ⊥) → long ≡ 1024
larger few other = absurd (other refl)
larger many other = refl

-- either size, as the code asks for it
module _ (long key : ℕ) (size : TableSize long) {mixed : ℕ} (is : mixed ≡ ((key % 4294967296 + key / 4294967296) * 1580693937) / 8388608) where
  pub slot_few : long ≡ 256 → (mixed % 256 ≡ slot_of long key) × (mixed % 256 < long)
  unfolding slot_of
  slot_few one = (rw (is, one), omega (arith, one))

  pub slot_many : (long ≡ 256 → ⊥) → (mixed % 1024 ≡ slot_of long key) × (mixed % 1024 < long)
  unfolding slot_of
  slot_many other = let one = larger size other in (rw (is, one), omega (arith, one))

-- entries left to count from e on
pub left_of : (e end : ℕ) → e < end → end - e ≡ suc (end - (e + 1))
left_of e end below = omega arith

-- a word by its bytes, and words by their number
word_in : (img : List ℕ) (w low high : ℕ) → low ≡ 2 * w → high ≡ 2 * w + 1 → get_or img low 0 + 256 * get_or img high 0 ≡ word_at img w
unfolding word_at
word_in img w low high is next = rw (is, next)

word_small : (img : List ℕ) (w : ℕ) → ((i : ℕ) → get_or img i 0 < 256) → word_at img w < 65536
unfolding word_at
word_small img w bytes = omega (arith, bytes (2 * w), bytes (2 * w + 1))

parts_of : {a b c d number : ℕ} → a < 65536 → b < 65536 → c < 65536 → number ≡ a + 65536 * b + 4294967296 * c + 281474976710656 * d
    → (number % 65536 ≡ a) × (number / 65536 % 65536 ≡ b) × (number / 4294967296 % 65536 ≡ c) × (number / 281474976710656 ≡ d)
parts_of {a} {b} {c} {d} {number} x y z is =
    let one : number / 65536 ≡ b + 65536 * (c + 65536 * d) = omega (arith, x, is) in
    let two : number / 4294967296 ≡ c + 65536 * d = omega (arith, x, y, is) in
    (omega (arith, x, is), omega (arith, y, one), omega (arith, z, two), omega (arith, x, y, z, is))

module _ (img : List ℕ) (g : Geometry) where
  abbrev Same : ℕ → ℕ → Type 0
  Same e f = SameKey (key_in (entry_of img g e)) (key_in (entry_of img g f))

  pub same_iff : (e f : ℕ) → same_test img g e f ≡ true ↔ Same e f
  same_iff e f = same_key_iff (key_in (entry_of img g e)) (key_in (entry_of img g f))

  -- the test of one entry against others
  abbrev Apart : ℕ → ℕ → ℕ → Type 0
  Apart e f k = (i : ℕ) → f ≤ i → i < f + k → Same e i → ⊥

  apart_means : (e f k : ℕ) → apart_test img g e f k ≡ true → Apart e f k
  unfolding apart_test
  apart_means e f zero test i low high same = omega arith
  apart_means e f (suc k) test i low high same =
      elim (ℕ_discrete f i) [
        | yes is ↦ true_not_false (sym ((same_iff e f).1 (subst (Same e) (sym is) same)) ∙ not-true _ (and_left (not (same_test img g e f)) _ test))
        | no other ↦ apart_means e (f + 1) k (and_right (not (same_test img g e f)) _ test) i (omega (arith, other)) (omega arith) same
      ]

  never : (t : Bool) → (t ≡ true → ⊥) → not t ≡ true
  never true no_way = absurd (no_way refl)
  never false no_way = refl

  apart_tested : (e f k : ℕ) → Apart e f k → apart_test img g e f k ≡ true
  unfolding apart_test
  apart_tested e f zero apart = refl
  apart_tested e f (suc k) apart =
      and_both (never (same_test img g e f) (λ test. apart f (omega arith) (omega arith) ((same_iff e f).0 test)))
      (apart_tested e (f + 1) k (λ i low high. apart i (omega arith) (omega arith)))

  -- the test of one entry against those before it
  new_means : (e : ℕ) → new_test img g e ≡ true → (entry_word img g e 0 ≡ 0 → ⊥) → Apart e 0 e
  unfolding new_test
  new_means e test used = apart_means e 0 e (simp (ne_eqb _ _ used) at test)

  new_tested : (e : ℕ) → ((entry_word img g e 0 ≡ 0 → ⊥) → Apart e 0 e) → new_test img g e ≡ true
  unfolding new_test
  new_tested e apart =
      elim (ℕ_discrete (entry_word img g e 0) 0) [
        | yes is ↦ simp (eq-eqb _ _ is)
        | no used ↦ simp (ne_eqb _ _ used) (apart_tested e 0 e (apart used))
      ]

  -- of each of several entries
  each_means : (e k : ℕ) → differ_test img g e k ≡ true → (j : ℕ) → e ≤ j → j < e + k → new_test img g j ≡ true
  unfolding differ_test
  each_means e zero test j low high = absurd (omega arith)
  each_means e (suc k) test j low high =
      elim (ℕ_discrete e j) [
        | yes is ↦ subst (λ (n : ℕ). new_test img g n ≡ true) is (and_left (new_test img g e) _ test)
        | no other ↦ each_means (e + 1) k (and_right (new_test img g e) _ test) j (omega (arith, other)) (omega arith)
      ]

  each_tested : (e k : ℕ) → ((j : ℕ) → e ≤ j → j < e + k → new_test img g j ≡ true) → differ_test img g e k ≡ true
  unfolding differ_test
  each_tested e zero all = refl
  each_tested e (suc k) all = and_both (all e (omega arith) (omega arith)) (each_tested (e + 1) k (λ j low high. all j (omega arith) (omega arith)))

  -- the test of all pairs
  abbrev pub Differ : ℕ → Type 0
  Differ k = (i j : ℕ) → i < j → j < k → (entry_word img g i 0 ≡ 0 → ⊥) → Same i j → ⊥

  -- entries of one key are in use both or neither
  used_same : (i j : ℕ) → Same i j → (entry_word img g i 0 ≡ 0 → ⊥) → entry_word img g j 0 ≡ 0 → ⊥
  unfolding entry_of
  used_same i j same used none = used (same.name1 ∙ none)

  turned : (i j : ℕ) → Same i j → Same j i
  turned i j same = record { name1 = sym same.name1; name2 = sym same.name2; extension = sym same.extension; uic = sym same.uic }

  pub differ_iff : (k : ℕ) → differ_test img g 0 k ≡ true ↔ Differ k
  differ_iff k = (
    λ test i j less below used same.
        new_means j (each_means 0 k test j (omega arith) (omega arith)) (used_same i j same used) i (omega arith) (omega arith) (turned i j same),
    λ differ. each_tested 0 k (λ j low high. new_tested j (λ used i below less same.
        differ i j (omega arith) (omega arith) (used_same j i same used) (turned j i same))),
  )

  -- an empty entry has no file that could be another's
  pub new_empty : (e : ℕ) → entry_word img g e 0 ≡ 0 → new_test img g e ≡ true
  unfolding new_test
  new_empty e is = simp (eq-eqb _ _ is)

  -- the number of what was read, and its words
  pub number_read : (e : ℕ) {bytes number : ℕ} → bytes ≡ block_bytes g → number ≡ eight_at img (bytes + 32 * e) → number ≡ key_number img g e
  unfolding key_number entry_word eight_at
  number_read e {bytes} size is =
      omega (
        arith,
        is,
        word_in img (entry_at g e + 0) (bytes + 32 * e) (bytes + 32 * e + 1) (omega (arith, size)) (omega (arith, size)),
        word_in img (entry_at g e + 1) (bytes + 32 * e + 2) (bytes + 32 * e + 3) (omega (arith, size)) (omega (arith, size)),
        word_in img (entry_at g e + 2) (bytes + 32 * e + 4) (bytes + 32 * e + 5) (omega (arith, size)) (omega (arith, size)),
        word_in img (entry_at g e + 3) (bytes + 32 * e + 6) (bytes + 32 * e + 7) (omega (arith, size)) (omega (arith, size)),
      )

  pub key_small : (e : ℕ) → ((i : ℕ) → get_or img i 0 < 256) → SmallKey img g e
  unfolding entry_word
  key_small e bytes =
      record {
        name1 = word_small img (entry_at g e + 0) bytes;
        name2 = word_small img (entry_at g e + 1) bytes;
        extension = word_small img (entry_at g e + 2) bytes;
        uic = word_small img (entry_at g e + 3) bytes;
      }

  pub number_words : (e : ℕ) {number : ℕ} → number ≡ key_number img g e → SmallKey img g e
      → (number % 65536 ≡ entry_word img g e 0) × (number / 65536 % 65536 ≡ entry_word img g e 1)
      × (number / 4294967296 % 65536 ≡ entry_word img g e 2) × (number / 281474976710656 ≡ entry_word img g e 3)
  unfolding key_number
  number_words e is small = parts_of small.name1 small.name2 small.extension is

  pub number_used : (e : ℕ) {number : ℕ} → number ≡ key_number img g e → SmallKey img g e → (number % 65536 ≡ 0 → ⊥) → entry_word img g e 0 ≡ 0 → ⊥
  number_used e is small other none = other ((number_words e is small).0 ∙ none)

  -- entries of one key have one number, and the other way where the words are small
  pub number_same : (e f : ℕ) → Same e f → key_number img g e ≡ key_number img g f
  unfolding key_number entry_of
  number_same e f same = rw (same.name1, same.name2, same.extension, same.uic)

  pub same_number : (e f : ℕ) → SmallKey img g e → SmallKey img g f → key_number img g e ≡ key_number img g f → Same e f
  unfolding key_number entry_of
  same_number e f a b is =
      record {
        name1 = omega (arith, is, a.name1, b.name1);
        name2 = omega (arith, is, a.name1, b.name1, a.name2, b.name2);
        extension = omega (arith, is, a.name1, b.name1, a.name2, b.name2, a.extension, b.extension);
        uic = omega (arith, is, a.name1, b.name1, a.name2, b.name2, a.extension, b.extension);
      }

  -- nobody stands in the lists at the start
  listing_none : (heads links : List ℕ) → TableSize (length heads) → ((s : ℕ) → get_or heads s 0 ≡ 0) → ((f : ℕ) → get_or links f 0 ≡ 0) → Listing img g heads links 0
  listing_none heads links size empty empty' =
      record { size = size; first = λ s. omega (arith, empty s); next = λ f. omega (arith, empty' f); all = λ i low used. absurd (omega arith) }

  pub listing_fresh : (size room : ℕ) → TableSize size → Listing img g (replicate size 0) (replicate room 0) 0
  listing_fresh size room is =
      listing_none (replicate size 0) (replicate room 0) (subst TableSize (sym (length-replicate {A = ℕ} size 0)) is) (zeros size) (zeros room)
    where
      zeros : (n i : ℕ) → get_or {A = ℕ} (replicate n 0) i 0 ≡ 0
      zeros n i = elim (dec_lt i n) [
        | yes inside ↦ get_or-replicate n i 0 0 inside
        | no outside ↦ let beyond : length {A = ℕ} (replicate n 0) ≤ i = omega (arith, outside, length-replicate {A = ℕ} n 0) in get_or-eq_default (replicate n 0) 0 beyond
      ]

  -- an empty entry has no file
  pub listing_empty : (heads links : List ℕ) (e : ℕ) → entry_word img g e 0 ≡ 0 → Listing img g heads links e → Listing img g heads links (e + 1)
  listing_empty heads links e empty before =
      record {
        size = before.size;
        first = λ s. omega (arith, before.first s);
        next = before.next;
        all = λ i below used. elim (ℕ_discrete i e) [
          | yes is ↦ absurd (used (ap (λ (n : ℕ). entry_word img g n 0) is ∙ empty))
          | no other ↦ before.all i (omega (arith, other, below)) used
        ];
      }

  -- a list stays where another entry, behind all of its own, is led on
  kept_list : (links : List ℕ) (e value : ℕ) → ((f : ℕ) → get_or links f 0 ≤ f) → (f i : ℕ) → f ≤ e → InList links f i → InList (set links e value) f i
  kept_list links e value lower f i low (here is) = here is
  kept_list links e value lower f i low (later k is rest) =
      let below : k < e = omega (arith, low, is) in
      later k is (subst (λ (n : ℕ). InList (set links e value) n i) (sym (get_or-set_other links e k value 0 (λ same. omega (arith, same, below))))
      (kept_list links e value lower (get_or links k 0) i (omega (arith, lower k, below)) rest))

  module _ (heads links : List ℕ) (e : ℕ) (before : Listing img g heads links e) where
    module _ {key slot from : ℕ} (is : key ≡ key_number img g e) (at : slot ≡ slot_of (length heads) key) (begins : from ≡ get_or heads slot 0) where
      -- a file before e of its number stands in its list
      found : (i : ℕ) → i < e → (entry_word img g i 0 ≡ 0 → ⊥) → key_number img g i ≡ key → InList links from i
      found i below used same =
          subst (λ (n : ℕ). InList links n i) (ap (λ (n : ℕ). get_or heads (slot_of (length heads) n) 0) same ∙ ap (λ (n : ℕ). get_or heads n 0) (sym at) ∙ sym begins)
          (before.all i below used)

      -- where none in the list of e has its number, no file before it is the same
      pub compared_new : {r : Bool} → Compared img g links key from r → r ≡ true → (entry_word img g e 0 ≡ 0 → ⊥) → true ≡ new_test img g e
      compared_new apart right used = sym (new_tested e (λ _ i low high same.
          let equal : key_number img g i ≡ key = sym (is ∙ number_same e i same) in
          apart.other right i (found i (omega (arith, high)) (used_same e i same used) equal) equal))

      pub compared_old : {r : Bool} → SmallKey img g e → Compared img g links key from r → r ≡ false → (entry_word img g e 0 ≡ 0 → ⊥) → false ≡ new_test img g e
      compared_old small apart wrong used =
          let one = apart.met wrong in
          let same = same_number e one.at small one.small (sym (one.same ∙ is)) in
          by (new_test img g e) (λ test. new_means e test used one.at (omega arith) (omega (arith, one.before, begins, before.first slot)) same)
        where
          by : (t : Bool) → (t ≡ true → ⊥) → false ≡ t
          by true never = absurd (never refl)
          by false never = refl

    -- file e at the head of its list
    pub listing_more : {key slot : ℕ} → key ≡ key_number img g e → slot ≡ slot_of (length heads) key → e < length links → {heads' links' : List ℕ}
        → heads' ≡ set heads slot (e + 1) → links' ≡ set links e (get_or heads slot 0) → Listing img g heads' links' (e + 1)
    listing_more {key} {slot} is_key of-key inside {heads'} {links'} is₁ is₂ =
        rw (is₁, is₂)
        (record {
          size = subst TableSize (sym long) before.size;
          first = first;
          next = next;
          all = λ i below used. subst (λ (n : ℕ). InList after (get_or first' (slot_of n (key_number img g i)) 0) i) (sym long) (listed i below used);
        })
      where
        at : slot ≡ slot_of (length heads) (key_number img g e)
        at = of-key ∙ ap (slot_of (length heads)) is_key

        first' : List ℕ
        first' = set heads slot (e + 1)

        after : List ℕ
        after = set links e (get_or heads slot 0)

        long : length first' ≡ length heads
        long = length-set heads slot (e + 1)

        slot_inside : slot < length heads
        slot_inside = omega (arith, at, slot_in (length heads) (key_number img g e) before.size)

        own : get_or first' slot 0 ≡ e + 1
        own = get_or-set_same heads slot (e + 1) 0 slot_inside

        first : (s : ℕ) → get_or first' s 0 ≤ e + 1
        first s = elim (ℕ_discrete s slot) [
          | yes is ↦ omega (arith, ap (λ (n : ℕ). get_or first' n 0) is, own)
          | no other ↦ omega (arith, get_or-set_other heads slot s (e + 1) 0 other, before.first s)
        ]

        next : (f : ℕ) → get_or after f 0 ≤ f
        next f = elim (ℕ_discrete f e) [
          | yes is ↦ omega (arith, is, ap (λ (n : ℕ). get_or after n 0) is, get_or-set_same links e (get_or heads slot 0) 0 inside, before.first slot)
          | no other ↦ omega (arith, get_or-set_other links e f (get_or heads slot 0) 0 other, before.next f)
        ]

        kept : (f i : ℕ) → f ≤ e → InList links f i → InList after f i
        kept = kept_list links e (get_or heads slot 0) before.next

        listed : (i : ℕ) → i < e + 1 → (entry_word img g i 0 ≡ 0 → ⊥) → InList after (get_or first' (slot_of (length heads) (key_number img g i)) 0) i
        listed i below used = elim (ℕ_discrete i e) [
          | yes is ↦ subst (λ (n : ℕ). InList after (get_or first' (slot_of (length heads) (key_number img g n)) 0) n) (sym is)
              (subst (λ (n : ℕ). InList after n e) (sym (ap (λ (n : ℕ). get_or first' n 0) (sym at) ∙ own)) (here (omega arith)))
          | no other ↦ by (ℕ_discrete (slot_of (length heads) (key_number img g i)) slot) (before.all i (omega (arith, other, below)) used)
        ]
          where
            by : Dec (slot_of (length heads) (key_number img g i) ≡ slot) → InList links (get_or heads (slot_of (length heads) (key_number img g i)) 0) i
                → InList after (get_or first' (slot_of (length heads) (key_number img g i)) 0) i
            by (yes is) old =
                subst (λ (n : ℕ). InList after n i) (sym (ap (λ (n : ℕ). get_or first' n 0) is ∙ own))
                (later e (omega arith) (subst (λ (n : ℕ). InList after n i) (sym (get_or-set_same links e (get_or heads slot 0) 0 inside))
                (kept (get_or heads slot 0) i (before.first slot) (subst (λ (n : ℕ). InList links (get_or heads n 0) i) is old))))
            by (no apart) old =
                subst (λ (n : ℕ). InList after n i) (sym (get_or-set_other heads slot (slot_of (length heads) (key_number img g i)) (e + 1) 0 apart))
                (kept (get_or heads (slot_of (length heads) (key_number img g i)) 0) i (before.first (slot_of (length heads) (key_number img g i))) old)
