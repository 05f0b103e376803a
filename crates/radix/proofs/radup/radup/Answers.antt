-- Rests on `RadupCases`, code and buffer for each return.
use mathlib.Core.Path.{◌≡◌, sym, ap, ◌∙◌}
use borrow.Author.Rules.{rules}
use Rattle.std.specs.Prelude.{Err}
use Rattle.answers.specs.declared.Refusal.TheVariants.{NotOfSet}
use Rattle.answers.specs.Missing.{value_in}
use Rattle.answers.specs.Refusals.{code_in, code_of}
use Rattle.radix.proofs.RadupCases.{other_buffer, no_characters, characters_written}
use Rattle.radix.proofs.radup.radup.Goals as goal

pub returns-then-characters-ne3 : goal.returns-then-characters-ne3
unfolding code_in code_of
returns-then-characters-ne3 c = let both = other_buffer _ _ c.if-characters-ne3.true in
    record { value = both.0; characters_after = both.1 }

pub returns-in_err-x : goal.returns-in_err-x
unfolding code_in code_of
returns-in_err-x c =
    let is : c.from_residual.result ≡ Err NotOfSet = search rules in
    let both = no_characters _ _ c.if-characters-ne3.false (sym c.characters_of.ensures ∙ ap value_in c.in_err-x.ensures.ok_part) in
    record { value = ap code_in is ∙ both.0; characters_after = both.1 }

pub returns : goal.returns
unfolding code_in
returns c =
    let both = characters_written _ _ _ c.if-characters-ne3.false (sym c.characters_of.ensures ∙ ap value_in c.in_ok-x.ensures.ok_part) in
    record { value = both.0; characters_after = both.1 }
