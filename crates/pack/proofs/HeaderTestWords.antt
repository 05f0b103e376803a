-- The tests of words in a row say exactly what the rules say: that they are 0, that a number is among them, that they are distinct and not 0.
use Prim.Native.Nat.{ℕ, suc, zero, ◌+◌, ◌-◌, ◌≤◌, ◌<◌}
use mathlib.Core.Path.{◌≡◌, refl, sym, ap, ◌∙◌}
use mathlib.Core.Bool.{Bool, true, false, cond, not, ◌&&◌}
use mathlib.Core.List.{List}
use mathlib.Core.Logic.{◌↔◌}
use native.Mathlib.Omega.{arith}
use native.Mathlib.Decide.{ℕ_discrete}
use lib.Bits.{bit_or, or_zero_l, or_add_and, and_le_r}
use lib.Dec.{eqb}
use lib.ListN.{get_or}
use borrow.Author.Tests.{eq-eqb, ne_eqb, eqb-true, eqb-false, not-true}
use Rattle.answers.proofs.RefusalsTests.{and_left, and_right, and_both, true_not_false}
use Rattle.words.specs.Word.{word_at}
use Rattle.words.proofs.Word.{word_bound}
use Rattle.pack.specs.Header.{uic_count, Listed, DistinctWords}
use Rattle.pack.specs.HeaderTest.{zeros, among, distinct, listed}

-- words that are 0
pub zeros_at : (img : List ℕ) (from k w : ℕ) → zeros img from k ≡ true → from ≤ w → w < from + k → word_at img w ≡ 0
unfolding zeros
zeros_at img from zero w z low high = absurd (omega arith)
zeros_at img from (suc k) w z low high = at (ℕ_discrete from w) (zeros_at img (from + 1) k w (and_right (eqb (word_at img from) 0) (zeros img (from + 1) k) z))
  where
    at : Dec (from ≡ w) → (from + 1 ≤ w → w < from + 1 + k → word_at img w ≡ 0) → word_at img w ≡ 0
    at (yes is) later = ap (word_at img) (sym is) ∙ eqb-true _ 0 (and_left (eqb (word_at img from) 0) (zeros img (from + 1) k) z)
    at (no other) later = later (omega (arith, other)) (omega arith)

pub zeros_all : (img : List ℕ) (from k : ℕ) → ((w : ℕ) → from ≤ w → w < from + k → word_at img w ≡ 0) → zeros img from k ≡ true
unfolding zeros
zeros_all img from zero all = refl
zeros_all img from (suc k) all =
    and_both (eq-eqb _ 0 (all from (omega arith) (omega arith))) (zeros_all img (from + 1) k (λ w low high. all w (omega arith) (omega arith)))

-- step by step, with what was found of the words before
module _ (img : List ℕ) (from k : ℕ) (clear later : Bool) where
  pub zeros_clear : word_at img from ≡ 0 → later ≡ clear → (clear && zeros img from (suc k)) ≡ (later && zeros img (from + 1) k)
  unfolding zeros
  zeros_clear is same = rw (same, eq-eqb _ 0 is)

  pub zeros_never : (word_at img from ≡ 0 → ⊥) → later ≡ false → (clear && zeros img from (suc k)) ≡ (later && zeros img (from + 1) k)
  unfolding zeros
  zeros_never never same = rw (same, ne_eqb _ 0 never) (by clear)
    where
      by : (t : Bool) → (t && false) ≡ false
      by true = refl
      by false = refl

-- words laid over each other are 0 only if each is
laid_zero : (laid word : ℕ) → eqb (bit_or laid word) 0 ≡ (eqb laid 0 && eqb word 0)
laid_zero laid word = at (ℕ_discrete laid 0) (ℕ_discrete word 0)
  where
    at : Dec (laid ≡ 0) → Dec (word ≡ 0) → eqb (bit_or laid word) 0 ≡ (eqb laid 0 && eqb word 0)
    at (yes p) (yes q) = rw (p, q)
    at (yes p) (no q) = rw (p, or_zero_l word)
    at (no p) q = rw (ne_eqb laid 0 p) (ne_eqb (bit_or laid word) 0 (λ none. p (omega (arith, none, or_add_and laid word, and_le_r laid word))))

pub zeros_laid : (img : List ℕ) (from k laid word : ℕ) → word ≡ word_at img from
    → (eqb laid 0 && zeros img from (suc k)) ≡ (eqb (bit_or laid word) 0 && zeros img (from + 1) k)
unfolding zeros
zeros_laid img from k laid word is = rw (laid_zero laid word, is) (and_within (eqb laid 0) _ _)
  where
    and_within : (a b c : Bool) → (a && (b && c)) ≡ ((a && b) && c)
    and_within true b c = refl
    and_within false b c = refl

pub zeros_done : (img : List ℕ) (from : ℕ) (clear : Bool) → (clear && zeros img from 0) ≡ clear
unfolding zeros
zeros_done img from true = refl
zeros_done img from false = refl

-- a number among words
pub record Among (img : List ℕ) (word from k : ℕ) : Type 0 where
  pub at : ℕ
  pub low : from ≤ at
  pub high : at < from + k
  pub is : word_at img at ≡ word

pub among_is : (img : List ℕ) (word from k : ℕ) → among img word from k ≡ true → Among img word from k
unfolding among
among_is img word from zero t = true_not_false (sym t)
among_is img word from (suc k) t = by (ℕ_discrete (word_at img from) word) (among_is img word (from + 1) k)
  where
    by : Dec (word_at img from ≡ word) → (among img word (from + 1) k ≡ true → Among img word (from + 1) k) → Among img word from (suc k)
    by (yes is) later = record { at = from; low = omega arith; high = omega arith; is = is }
    by (no other) later = let l = later (simp (ne_eqb _ _ other) at t) in record { at = l.at; low = omega (arith, l.low); high = omega (arith, l.high); is = l.is }

pub is_among : (img : List ℕ) (word from k w : ℕ) → from ≤ w → w < from + k → word_at img w ≡ word → among img word from k ≡ true
unfolding among
is_among img word from zero w low high is = absurd (omega arith)
is_among img word from (suc k) w low high is = by (ℕ_discrete (word_at img from) word) (is_among img word (from + 1) k w)
  where
    by : Dec (word_at img from ≡ word) → (from + 1 ≤ w → w < from + 1 + k → word_at img w ≡ word → among img word (from + 1) k ≡ true)
        → cond (eqb (word_at img from) word) true (among img word (from + 1) k) ≡ true
    by (yes same) later = rw (eq-eqb _ _ same)
    by (no other) later =
        let apart : from ≡ w → ⊥ = λ e. other (ap (word_at img) e ∙ is) in
        rw (ne_eqb _ _ other) (later (omega (arith, apart)) (omega arith) is)

pub among_step : (img : List ℕ) (word from k : ℕ) → (word_at img from ≡ word → ⊥) → among img word from (suc k) ≡ among img word (from + 1) k
unfolding among
among_step img word from k other = simp (ne_eqb _ _ other)

pub among_found_law : (img : List ℕ) (word from k : ℕ) → word_at img from ≡ word → among img word from (suc k) ≡ true
unfolding among
among_found_law img word from k is = simp (eq-eqb _ _ is)

pub among_end : (img : List ℕ) (word from : ℕ) → among img word from 0 ≡ false
unfolding among
among_end img word from = refl

pub listed_iff : (img : List ℕ) (uic : ℕ) → listed img uic ≡ true ↔ Listed img uic
unfolding listed
listed_iff img uic = (λ t. found (among_is img uic 4 (uic_count img) t), λ l. is_among img uic 4 (uic_count img) (4 + l.at) (omega arith) (omega (arith, l.within)) l.is)
  where
    found : Among img uic 4 (uic_count img) → Listed img uic
    found a =
        let place : 4 + (a.at - 4) ≡ a.at = omega (arith, a.low) in
        record { at = a.at - 4; within = omega (arith, a.low, a.high); is = ap (word_at img) place ∙ a.is }

-- a listed UIC is a word of the image, so that an entry can hold it
pub listed_word : (img : List ℕ) (uic : ℕ) → ((i : ℕ) → get_or img i 0 < 256) → listed img uic ≡ true → uic < 65536
listed_word img uic bytes known =
    let there = (listed_iff img uic).0 known in
    omega (arith, word_bound img (4 + there.at) bytes, there.is)

pub listed_is : (img : List ℕ) (uic count : ℕ) (answer : Bool) → count ≡ uic_count img → answer ≡ among img uic 4 count → answer ≡ listed img uic
unfolding listed
listed_is img uic count answer is e = rw is at e

-- distinct words that are not 0
pub distinct_is : (img : List ℕ) (from k : ℕ) → distinct img from k ≡ true → DistinctWords img from k
unfolding distinct
distinct_is img from zero t = record { some = λ w low high. absurd (omega arith); apart = λ v w low less high. absurd (omega arith) }
distinct_is img from (suc k) t = join (distinct_is img (from + 1) k (and_right (not (among img (word_at img from) (from + 1) k)) (distinct img (from + 1) k) behind))
  where
    behind : (not (among img (word_at img from) (from + 1) k) && distinct img (from + 1) k) ≡ true
    behind = and_right (not (eqb (word_at img from) 0)) _ t

    here : word_at img from ≡ 0 → ⊥
    here = eqb-false _ 0 (not-true _ (and_left (not (eqb (word_at img from) 0)) _ t))

    alone : among img (word_at img from) (from + 1) k ≡ false
    alone = not-true _ (and_left (not (among img (word_at img from) (from + 1) k)) (distinct img (from + 1) k) behind)

    join : DistinctWords img (from + 1) k → DistinctWords img from (suc k)
    join d =
        record {
          some = λ w low high is. elim (ℕ_discrete from w) [
            | yes e ↦ here (ap (word_at img) e ∙ is)
            | no n ↦ d.some w (omega (arith, n)) (omega arith) is
          ];
          apart = λ v w low less high same. elim (ℕ_discrete from v) [
            | yes e ↦ true_not_false (sym (is_among img (word_at img from) (from + 1) k w (omega (arith, e)) (omega arith) (sym same ∙ ap (word_at img) (sym e))) ∙ alone)
            | no n ↦ d.apart v w (omega (arith, n)) less (omega arith) same
          ];
        }

pub is_distinct : (img : List ℕ) (from k : ℕ) → DistinctWords img from k → distinct img from k ≡ true
unfolding distinct
is_distinct img from zero d = refl
is_distinct img from (suc k) d =
    and_both (ap not (ne_eqb _ 0 (λ is. d.some from (omega arith) (omega arith) is)))
    (and_both (ap not (alone (among img (word_at img from) (from + 1) k) refl))
    (is_distinct img (from + 1) k (record {
      some = λ w low high. d.some w (omega arith) (omega arith);
      apart = λ v w low less high. d.apart v w (omega arith) less (omega arith);
    })))
  where
    alone : (b : Bool) → among img (word_at img from) (from + 1) k ≡ b → among img (word_at img from) (from + 1) k ≡ false
    alone false t = t
    alone true t =
        let a = among_is img (word_at img from) (from + 1) k t in
        absurd (d.apart from a.at (omega arith) (omega (arith, a.low)) (omega (arith, a.high)) (sym a.is))

-- step by step: the words behind a word, once it is taken off
module _ (img : List ℕ) (from k : ℕ) where
  pub distinct_zero : word_at img from ≡ 0 → distinct img from (suc k) ≡ false
  unfolding distinct
  distinct_zero is = simp (eq-eqb _ 0 is)

  module _ (word : ℕ) (is : word ≡ word_at img from) (never : word_at img from ≡ 0 → ⊥) where
    pub distinct_again : among img word (from + 1) k ≡ true → distinct img from (suc k) ≡ false
    unfolding distinct
    distinct_again t = simp (ne_eqb _ 0 never, rw is at t)

    pub distinct_step : among img word (from + 1) k ≡ false → distinct img from (suc k) ≡ distinct img (from + 1) k
    unfolding distinct
    distinct_step t = simp (ne_eqb _ 0 never, rw is at t)

pub distinct_end : (img : List ℕ) (from : ℕ) → distinct img from 0 ≡ true
unfolding distinct
distinct_end img from = refl
