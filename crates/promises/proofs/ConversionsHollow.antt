-- No hollow conversion meets its contract, by the examples of document 01.
use Prim.Native.Nat.{ℕ}
use Prim.Native.String.{String}
use mathlib.Core.Path.{◌≡◌, refl, sym, ap, ◌∙◌}
use mathlib.Core.List.{List}
use native.Mathlib.Omega.{arith}
use lib.ListN.{length, get_or}
use Rattle.answers.specs.declared.Answer.{Answer}
use Rattle.answers.specs.Conversion.{Converted}
use Rattle.radix.specs.Radpk.{radpk}
use Rattle.radix.specs.Radup.{radup}
use Rattle.numerals.specs.Decimal.{d2bin, bin2d}
use Rattle.numerals.specs.Octal.{o2bin, bin2o}
use Rattle.words.specs.Text.{bytes}
use Rattle.promises.specs.Examples.{Converts, NumberRefused}
use Rattle.promises.specs.Conversions.{NoHollowAnswer, NoHollowWriting}
use Rattle.promises.proofs.Examples.{examples}

-- a text is taken, and another has a different answer
no_hollow_answer : (meaning : List ℕ → Answer) (s t : String) {number : ℕ} {other : Answer}
    → meaning (bytes s) ≡ record { code = 0; number = number } → meaning (bytes t) ≡ other → (record { code = 0; number = number } ≡ other → ⊥) → NoHollowAnswer meaning
no_hollow_answer meaning s t first second differ =
    record {
      taken = (bytes s, ap (λ a. a.code) first);
      answer = λ r fixed. differ (sym first ∙ (sym (fixed (bytes s)) ∙ (fixed (bytes t) ∙ second)));
    }

-- one number is taken and another refused, and a buffer is written whose first character was another
no_hollow_writing : {to_number : List ℕ → Answer} {meaning : ℕ → List ℕ → Converted} {size : ℕ} {text : String} {number : ℕ} → Converts to_number meaning size text number
    → (other : ℕ) → NumberRefused meaning size other → (held : List ℕ) → length held ≡ size → (get_or held 0 0 ≡ get_or (bytes text) 0 0 → ⊥) → NoHollowWriting meaning
no_hollow_writing {meaning} {number} taken other refused held same differ =
    record { taken = (number, held, success); code = code; buffer = buffer }
  where
    success : (meaning number held).code ≡ 0
    success = ap (λ w. w.code) (taken.back held same)

    code : (r : ℕ) → ((n : ℕ) (b : List ℕ) → r ≡ (meaning n b).code) → ⊥
    code r fixed =
        let given : r ≡ 0 = fixed number held ∙ success in
        let refusal : r ≡ 0o60 = fixed other held ∙ ap (λ w. w.code) (refused held same) in
        omega arith

    buffer : ((n : ℕ) (b : List ℕ) → b ≡ (meaning n b).buffer) → ⊥
    buffer stays = differ (ap (λ (s : List ℕ). get_or s 0 0) (stays number held ∙ ap (λ w. w.buffer) (taken.back held same)))

pub radpk_solid : NoHollowAnswer radpk
radpk_solid =
    no_hollow_answer radpk "KB " "DS1" examples.p1.0.forth examples.p2.forth (λ is. let z : ◌≡◌ {A = ℕ} 17680 7191 = ap (λ a. a.number) is in omega arith)

pub radup_solid : NoHollowWriting radup
radup_solid = no_hollow_writing examples.p2 64000 examples.p3.1 (bytes "***") refl (λ is. omega arith)

pub d2bin_solid : NoHollowAnswer d2bin
d2bin_solid = no_hollow_answer d2bin "65535" "65536" examples.p4.0.forth examples.p4.1.0 (λ is. let z : ◌≡◌ {A = ℕ} 0 0o60 = ap (λ a. a.code) is in omega arith)

pub bin2d_solid : NoHollowWriting bin2d
bin2d_solid = no_hollow_writing examples.p4.0 65536 examples.p4.1.1 (bytes "*****") refl (λ is. omega arith)

pub o2bin_solid : NoHollowAnswer o2bin
o2bin_solid = no_hollow_answer o2bin "177777" "200000" examples.p5.0.forth examples.p5.1.0 (λ is. let z : ◌≡◌ {A = ℕ} 0 0o60 = ap (λ a. a.code) is in omega arith)

pub bin2o_solid : NoHollowWriting bin2o
bin2o_solid = no_hollow_writing examples.p5.0 0o200000 examples.p5.1.1 (bytes "******") refl (λ is. omega arith)
