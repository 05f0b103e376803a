-- What a line may name is legal: the words of a name are a legal name, and the word of an extension is a legal extension.
use Prim.Native.Nat.{ℕ, ◌≤◌}
use mathlib.Core.Path.{◌≡◌, refl, ap, ◌∙◌}
use mathlib.Core.Bool.{Bool, true}
use mathlib.Core.List.{List, [], ◌∷◌}
use native.Mathlib.Omega.{arith}
use lib.ListN.{length, take, drop, length-take, length-drop}
use Rattle.radix.specs.Packing.{word_of}
use Rattle.radix.specs.Names.{is_letter_or_digit, every, blank_filled, LegalName, LegalExtension}
use Rattle.command_grammar.specs.Grammar.{All, nil, cons, Between}
use Rattle.command_cursor.specs.FilledWord.{filled_word, first_word, second_word}
use Rattle.command_cursor.proofs.FilledWord.{filled_word_law, all_take, all_drop}

all_every : {t : ℕ → Bool} {s : List ℕ} → All t s → every t s ≡ true
all_every nil = refl
all_every (cons p all) = rw p (all_every all)

-- a name filled up is its two halves filled up
pub halves : (s : List ℕ) → length s ≤ 6 → (take 3 (blank_filled 6 s) ≡ blank_filled 3 (take 3 s)) × (drop 3 (blank_filled 6 s) ≡ blank_filled 3 (drop 3 s))
halves [] few = (refl, refl)
halves (a ∷ []) few = (refl, refl)
halves (a ∷ (b ∷ [])) few = (refl, refl)
halves (a ∷ (b ∷ (c ∷ []))) few = (refl, refl)
halves (a ∷ (b ∷ (c ∷ (d ∷ [])))) few = (refl, refl)
halves (a ∷ (b ∷ (c ∷ (d ∷ (e ∷ []))))) few = (refl, refl)
halves (a ∷ (b ∷ (c ∷ (d ∷ (e ∷ (f ∷ [])))))) few = (refl, refl)
halves (a ∷ (b ∷ (c ∷ (d ∷ (e ∷ (f ∷ (g ∷ s))))))) few = absurd (omega arith)

pub legal_words : {name : List ℕ} → Between 1 6 is_letter_or_digit name → LegalName (first_word name) (second_word name)
legal_words {name} r =
    record {
      name = name;
      least = r.least;
      most = r.most;
      made = all_every r.all;
      first_word = ap word_of (halves name r.most).0 ∙ filled_word_law (take 3 name) (simp length-take (omega arith)) (all_take 3 r.all);
      second_word = ap word_of (halves name r.most).1 ∙ filled_word_law (drop 3 name) (simp length-drop (omega (arith, r.most))) (all_drop 3 r.all);
    }

pub legal_word : {extension : List ℕ} → Between 1 3 is_letter_or_digit extension → LegalExtension (filled_word extension)
legal_word {extension} r =
    record {
      extension = extension;
      most = r.most;
      made = all_every r.all;
      one_word = filled_word_law extension r.most r.all;
    }
