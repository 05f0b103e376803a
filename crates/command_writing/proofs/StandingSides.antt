-- Sides and whole readings that stand in records, and what is laid of them.
use Prim.Native.Nat.{ℕ, ◌-◌, ◌≤◌}
use mathlib.Core.Path.{◌≡◌, refl, sym, ap, ◌∙◌, subst}
use mathlib.Core.List.{List, [], ◌∷◌, ◌++◌, append_assoc, append-nil}
use mathlib.Core.Option.{Option, none, some}
use native.Mathlib.Omega.{arith}
use lib.ListN.{drop}
use Rattle.std.specs.Prelude.{Some}
use Rattle.std.specs.Prelude as P
use Rattle.command_grammar.specs.LineCharacters.{less}
use Rattle.command_grammar.specs.Parsed.{Specification}
use Rattle.command_grammar.specs.Reading.{input_of, Reading}
use Rattle.command_writing.specs.WrittenLine.{written_specification, written_side, written}
use Rattle.command_writing.specs.Sayable.{Each, SayableSpecification, SayableSide, SayableInput, SayableReading}
use Rattle.command_writing.specs.Sayable as Y
use Rattle.command_writing.specs.Standing.{joined, specification_words, reading_words, Taken, Never}
use Rattle.command_writing.specs.LaidText.{Puts, StepLaid}
use Rattle.command_writing.specs.LaidText as L
use Rattle.command_writing.specs.PartFits.{next_text}
use Rattle.command_writing.specs.declared.Walk.{Walk}
use Rattle.command_writing.proofs.LaidPieces.{puts_both, puts_same}
use Rattle.command_writing.proofs.StandingMany.{taken_more, never_more, never_one}
use Rattle.command_writing.proofs.LaidMany.{Went}

-- a side

side_text : (v : Specification) (vs : List Specification) → written_specification v ++ joined next_text vs ≡ written_side (v ∷ vs)
unfolding joined next_text written_side
side_text v [] = append-nil (written_specification v)
side_text v (w ∷ vs) = ap (λ (l : List ℕ). written_specification v ++ (44 ∷ l)) (side_text w vs)

module _ {records : List ℕ} {at many : ℕ} where
  pub side_empty : many ≡ 0 → Never (SayableSide many) (joined specification_words) records at
  side_empty zero_is = record { never = λ vs rest says is. omega (arith, says.least) }

  pub side_never : Never (Each SayableSpecification many) (joined specification_words) records at → Never (SayableSide many) (joined specification_words) records at
  side_never nothing = record { never = λ vs rest says is. nothing.never vs rest says.each is }

  pub side_stuck : (many ≡ 0 → ⊥) → Never SayableSpecification specification_words records at → Never (SayableSide many) (joined specification_words) records at
  side_stuck some-there nothing = side_never (never_one (omega arith) nothing)

  pub side_taken : {vs : List Specification} {end : ℕ} → 1 ≤ many → Taken (Each SayableSpecification many) (joined specification_words) records at vs end
      → Taken (SayableSide many) (joined specification_words) records at vs end
  side_taken least t =
      record {
        says = record { each = t.says; least = least };
        stands = t.stands;
        within = t.within;
        only = λ other rest says is. t.only other rest says.each is;
      }

  pub side_laid : {before between after : List ℕ} {count : ℕ} {next : Walk} {step : P.Option Walk} → (many ≡ 0 → ⊥)
      → Went SayableSpecification specification_words written_specification records at before count next between
      → StepLaid (Each SayableSpecification (many - 1)) (joined specification_words) (joined next_text) records next.at between next.count step after
      → StepLaid (SayableSide many) (joined specification_words) written_side records at before count step after
  side_laid some-there first (L.StepLaid.to {v = vs} t laid) =
      L.StepLaid.to (side_taken (omega arith) (taken_more first.taken (omega arith) t)) (puts_same (side_text first.what vs) (puts_both first.laid laid))
  side_laid some-there first (L.StepLaid.wrong nothing) = L.StepLaid.wrong (side_never (never_more first.taken (omega arith) nothing))

-- a reading: the output side, and the input side where there is one

no_input : {many : ℕ} {i : Option (List Specification)} → SayableInput many i → many ≡ 0 → i ≡ none
no_input Y.SayableInput.absent zero_is = refl
no_input (Y.SayableInput.side says) zero_is = absurd (omega (arith, says.least))

record Side (many : ℕ) (i : Option (List Specification)) : Type 0 where
  side : List Specification
  is : i ≡ some side
  says : SayableSide many side

some_input : {many : ℕ} {i : Option (List Specification)} → SayableInput many i → (many ≡ 0 → ⊥) → Side many i
some_input Y.SayableInput.absent some-there = absurd (some-there refl)
some_input (Y.SayableInput.side {vs} says) some-there = record { side = vs; is = refl; says = says }

module _ (records : List ℕ) (at : ℕ) where
  output_stands : (r : Reading) (rest : List ℕ) → drop at records ≡ reading_words r ++ rest
      → drop at records ≡ joined specification_words r.output ++ (joined specification_words (input_of r.input) ++ rest)
  unfolding reading_words
  output_stands r rest is = is ∙ append_assoc (joined specification_words r.output) (joined specification_words (input_of r.input)) rest

module _ (records : List ℕ) (at : ℕ) {outputs inputs : ℕ} where
  pub reading_stuck : Never (SayableSide outputs) (joined specification_words) records at → Never (SayableReading outputs inputs) reading_words records at
  reading_stuck nothing =
      record { never = λ r rest says is. nothing.never r.output (joined specification_words (input_of r.input) ++ rest) says.output (output_stands records at r rest is) }

  module _ {o : List Specification} {middle : ℕ} (output : Taken (SayableSide outputs) (joined specification_words) records at o middle) where
    -- whatever reading stands there, its input side stands behind
    input_stands : (r : Reading) (rest : List ℕ) → SayableReading outputs inputs r → drop at records ≡ reading_words r ++ rest
        → joined specification_words (input_of r.input) ++ rest ≡ drop middle records
    input_stands r rest says is = output.only r.output (joined specification_words (input_of r.input) ++ rest) says.output (output_stands records at r rest is)

    pub output_taken : inputs ≡ 0 → Taken (SayableReading outputs inputs) reading_words records at (record { output = o; input = none }) middle
    unfolding reading_words joined
    output_taken zero_is =
        record {
          says = record { output = output.says; input = subst (λ n. SayableInput n none) (sym zero_is) Y.SayableInput.absent };
          stands = rw append-nil output.stands;
          within = output.within;
          only = only;
        }
      where
        only : (r : Reading) (rest : List ℕ) → SayableReading outputs inputs r → drop at records ≡ reading_words r ++ rest → rest ≡ drop middle records
        only r rest says is =
            let gone : joined specification_words (input_of r.input) ++ rest ≡ rest =
            ap (λ (i : Option (List Specification)). joined specification_words (input_of i) ++ rest) (no_input says.input zero_is) in
            sym gone ∙ input_stands r rest says is

    module _ (some-there : inputs ≡ 0 → ⊥) where
      -- that side, whichever reading it is of
      side_stands : (r : Reading) (rest : List ℕ) → SayableReading outputs inputs r → drop at records ≡ reading_words r ++ rest
          → (vs : List Specification) × SayableSide inputs vs × (drop middle records ≡ joined specification_words vs ++ rest)
      side_stands r rest says is =
          let i = some_input says.input some-there in
          let here : joined specification_words (input_of r.input) ++ rest ≡ joined specification_words i.side ++ rest =
          ap (λ (j : Option (List Specification)). joined specification_words (input_of j) ++ rest) i.is in
          (i.side, i.says, sym (input_stands r rest says is) ∙ here)

      pub both_taken : {i : List Specification} {end : ℕ} → Taken (SayableSide inputs) (joined specification_words) records middle i end
          → Taken (SayableReading outputs inputs) reading_words records at (record { output = o; input = some i }) end
      unfolding reading_words
      both_taken {i} {end} input =
          record {
            says = record { output = output.says; input = Y.SayableInput.side input.says };
            stands = output.stands ∙ ap (λ (l : List ℕ). joined specification_words o ++ l) input.stands
                ∙ sym (append_assoc (joined specification_words o) (joined specification_words i) (drop end records));
            within = input.within;
            only = λ r rest says is. let v = side_stands r rest says is in input.only v.0 rest v.1 v.2;
          }

      pub both_never : Never (SayableSide inputs) (joined specification_words) records middle → Never (SayableReading outputs inputs) reading_words records at
      both_never nothing = record { never = λ r rest says is. let v = side_stands r rest says is in nothing.never v.0 rest v.1 v.2 }

  pub reading_output : {before after : List ℕ} {count : ℕ} {next : Walk} → inputs ≡ 0
      → Went (SayableSide outputs) (joined specification_words) written_side records at before count next after
      → StepLaid (SayableReading outputs inputs) reading_words written records at before count (Some next) after
  unfolding written
  reading_output zero_is output =
      L.StepLaid.to (output_taken output.taken zero_is) (puts_same (sym (append-nil (written_side output.what))) output.laid)

  pub reading_both : {before between further after : List ℕ} {count middle : ℕ} {next : Walk} {step : P.Option Walk} → (inputs ≡ 0 → ⊥)
      → Went (SayableSide outputs) (joined specification_words) written_side records at before count next between
      → Puts between next.count further middle (less ∷ [])
      → StepLaid (SayableSide inputs) (joined specification_words) written_side records next.at further middle step after
      → StepLaid (SayableReading outputs inputs) reading_words written records at before count step after
  unfolding written
  reading_both some-there output p (L.StepLaid.to t laid) =
      L.StepLaid.to (both_taken output.taken some-there t) (puts_both output.laid (puts_both p laid))
  reading_both some-there output p (L.StepLaid.wrong nothing) = L.StepLaid.wrong (both_never output.taken some-there nothing)
