-- The test of two keys says exactly that they are the same, word by word.
use mathlib.Core.Path.{◌≡◌, sym, ap, ◌∙◌}
use mathlib.Core.Bool.{Bool, true}
use mathlib.Core.Logic.{◌↔◌}
use lib.Dec.{eqb}
use borrow.Author.Tests.{eq-eqb, eqb-true}
use Rattle.answers.proofs.RefusalsTests.{and_left, and_right, and_both}
use Rattle.pack.specs.declared.Key.{Key}
use Rattle.pack.specs.KeyTest.{same_key}
use Rattle.pack.specs.Key.{SameKey}

pub same_key_iff : (a b : Key) → same_key a b ≡ true ↔ SameKey a b
unfolding same_key
same_key_iff a b = (
  λ t.
      let second = and_right (eqb a.name1 b.name1) _ t in
      let third = and_right (eqb a.name2 b.name2) _ second in
      record {
        name1 = eqb-true _ _ (and_left (eqb a.name1 b.name1) _ t);
        name2 = eqb-true _ _ (and_left (eqb a.name2 b.name2) _ second);
        extension = eqb-true _ _ (and_left (eqb a.extension b.extension) _ third);
        uic = eqb-true _ _ (and_right (eqb a.extension b.extension) _ third);
      },
  λ k. and_both (eq-eqb _ _ k.name1) (and_both (eq-eqb _ _ k.name2) (and_both (eq-eqb _ _ k.extension) (eq-eqb _ _ k.uic))),
)

-- keys of which each word is the same are equal
pub same_equal : {a b : Key} → SameKey a b → a ≡ b
same_equal k = λ i. record { name1 = k.name1 i; name2 = k.name2 i; extension = k.extension i; uic = k.uic i }

pub equal_same : {a b : Key} → a ≡ b → SameKey a b
equal_same is =
    record { name1 = ap (λ k. k.name1) is; name2 = ap (λ k. k.name2) is; extension = ap (λ k. k.extension) is; uic = ap (λ k. k.uic) is }

-- two keys of one thing
pub key_single : {a key key' : Key} → SameKey a key → SameKey a key' → key' ≡ key
key_single k k' = sym (same_equal k') ∙ same_equal k

pub same_back : {a b : Key} → SameKey a b → SameKey b a
same_back same = record { name1 = sym same.name1; name2 = sym same.name2; extension = sym same.extension; uic = sym same.uic }

pub same_through : {a b c : Key} → SameKey a b → SameKey b c → SameKey a c
same_through same same₂ =
    record {
      name1 = same.name1 ∙ same₂.name1;
      name2 = same.name2 ∙ same₂.name2;
      extension = same.extension ∙ same₂.extension;
      uic = same.uic ∙ same₂.uic;
    }

-- the answer for two keys that were read
pub same_read : {a b a' b' : Key} {answer : Bool} → a ≡ a' → b ≡ b' → answer ≡ same_key a b → answer ≡ same_key a' b'
same_read is is₂ answers = rw (is, is₂) at answers
