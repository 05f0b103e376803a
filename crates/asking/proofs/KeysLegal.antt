-- The words of a legal key: they are words, so that an entry can hold them.
use Prim.Native.Nat.{ℕ, ◌<◌}
use mathlib.Core.Path.{◌≡◌, refl, sym, ap, ◌∙◌}
use mathlib.Core.Bool.{Bool, true, false}
use mathlib.Core.List.{List}
use mathlib.Core.Option.{Option, none, some}
use native.Mathlib.Omega.{arith}
use native.Mathlib.Decide.{dec_lt}
use Rattle.radix.specs.Packing.{upper_end, characters_of}
use Rattle.radix.specs.NamesTest.{name_test, extension_test, legal_name, legal_extension}
use Rattle.radix.proofs.Packing.{characters_end}
use Rattle.pack.specs.declared.Key.{Key}
use Rattle.answers.proofs.RefusalsTests.{and_left, and_right, true_not_false}
use Rattle.asking.specs.KeysTest.{legal_key}

-- a test that words without characters fail
below : (test : Option (List ℕ) → Bool) (word : ℕ) → test none ≡ false → test (characters_of word) ≡ true → word < upper_end
below test word fails is =
    elim (dec_lt word upper_end) [
      | yes less ↦ less
      | no not ↦ absurd (true_not_false (sym is ∙ (ap test (characters_end word (omega (arith, not))) ∙ fails)))
    ]

second_none : (first : Option (List ℕ)) → name_test first none ≡ false
second_none none = refl
second_none (some xs) = refl

pub record KeyWords (key : Key) : Type 0 where
  pub name1 : key.name1 < upper_end
  pub name2 : key.name2 < upper_end
  pub extension : key.extension < upper_end

pub legal_words : (key : Key) → legal_key key ≡ true → KeyWords key
unfolding legal_key legal_name legal_extension
legal_words key is =
    let name = and_left (legal_name key.name1 key.name2) _ is in
    record {
      name1 = below (λ first. name_test first (characters_of key.name2)) key.name1 refl name;
      name2 = below (name_test (characters_of key.name1)) key.name2 (second_none (characters_of key.name1)) name;
      extension = below extension_test key.extension refl (and_right (legal_name key.name1 key.name2) _ is);
    }
