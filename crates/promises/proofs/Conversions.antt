-- What the demands ask of a conversion, for every conversion of the two shapes at once.
use Prim.Native.Nat.{ℕ}
use mathlib.Core.Path.{◌≡◌, sym, ◌∙◌}
use mathlib.Core.Logic.{◌↔◌}
use mathlib.Core.List.{List}
use mathlib.Core.Option.{Option, none}
use lib.ListN.{length}
use Rattle.answers.specs.Refusals.{answered}
use Rattle.answers.specs.declared.Answer.{Answer}
use Rattle.answers.specs.Conversion.{to_number, Converted, to_characters}
use Rattle.answers.proofs.Conversion.{code_of_three, code_41_iff, code_60_iff, number_refused, characters_refused}
use Rattle.promises.specs.Conversions.{NumberDemands, CharactersDemands, OneAnswer, OneWriting}

pub number_demands : {size : ℕ} {number : List ℕ → Option ℕ} {NotOfSet : List ℕ → Type 0}
    → ((s : List ℕ) → length s ≡ size → number s ≡ none ↔ NotOfSet s) → NumberDemands size NotOfSet (to_number size number)
unfolding to_number answered
number_demands {size} {number} means =
    record {
      any = λ s. code_of_three size s (number s);
      other_size = λ s. code_41_iff size s (number s);
      not_of_set = λ s. code_60_iff size s (number s) (means s);
      refused = λ s. number_refused size number s;
    }

pub characters_demands : {size : ℕ} {characters : ℕ → Option (List ℕ)} {NotOfSet : ℕ → Type 0}
    → ((n : ℕ) → characters n ≡ none ↔ NotOfSet n) → CharactersDemands size NotOfSet (to_characters size characters)
unfolding to_characters
characters_demands {size} {characters} means =
    record {
      any = λ n buffer. code_of_three size buffer (characters n);
      other_size = λ n buffer. code_41_iff size buffer (characters n);
      not_of_set = λ n buffer. code_60_iff size buffer (characters n) (λ same. means n);
      refused = λ n buffer. characters_refused size characters n buffer;
    }

pub one_answer : (meaning : List ℕ → Answer) → OneAnswer meaning
one_answer meaning characters r r' is is' = is ∙ sym is'

pub one_writing : (meaning : ℕ → List ℕ → Converted) → OneWriting meaning
one_writing meaning number buffer r r' after after' is left is' left' = (is ∙ sym is', left ∙ sym left')
