-- The laws of outcomes: what a refusal and a success come to.
use Prim.Native.Nat.{ℕ}
use mathlib.Core.Path.{◌≡◌, refl, sym, ap, subst, ◌∙◌}
use mathlib.Core.List.{List}
use native.Mathlib.Decide.{ℕ_discrete}
use Rattle.answers.specs.Refusals.{Row, first_of}
use Rattle.answers.proofs.Refusals.{success_is, refusal_is}
use Rattle.asking.specs.Outcome.{Outcome, zeroed, settled, Unchanged}

module _ (rows : List Row) (image buffer : List ℕ) (effect : Outcome) where
  pub settled_refused : {code : ℕ} → first_of rows ≡ code → (code ≡ 0 → ⊥)
      → settled rows image buffer effect ≡ record { code = code; numbers = zeroed effect.numbers; image = image; buffer = buffer }
  unfolding settled
  settled_refused {code} is never =
      rw (
        is,
        refusal_is {code = code} effect.numbers (zeroed effect.numbers) never,
        refusal_is {code = code} effect.image image never,
        refusal_is {code = code} effect.buffer buffer never,
      )

  pub settled_success : first_of rows ≡ 0
      → settled rows image buffer effect ≡ record { code = 0; numbers = effect.numbers; image = effect.image; buffer = effect.buffer }
  unfolding settled
  settled_success is =
      rw (
        is,
        success_is {code = 0} effect.numbers (zeroed effect.numbers) refl,
        success_is {code = 0} effect.image image refl,
        success_is {code = 0} effect.buffer buffer refl,
      )

  pub code_is : (settled rows image buffer effect).code ≡ first_of rows
  unfolding settled
  code_is = refl

  pub success_image : first_of rows ≡ 0 → (settled rows image buffer effect).image ≡ effect.image
  success_image clear = ap (λ (p : Outcome). p.image) (settled_success clear)

  pub success_numbers : first_of rows ≡ 0 → (settled rows image buffer effect).numbers ≡ effect.numbers
  success_numbers clear = ap (λ (p : Outcome). p.numbers) (settled_success clear)

  -- "A refusal returns its code, any other number in the answer 0 .., and nothing in the image or a lent buffer changes."
  pub refusal_keeps : ((settled rows image buffer effect).code ≡ 0 → ⊥) → Unchanged (settled rows image buffer effect) (zeroed effect.numbers) image buffer
  refusal_keeps never =
      let is = settled_refused refl (λ none. never (code_is ∙ none)) in
      record { same_numbers = ap (λ (p : Outcome). p.numbers) is; same_image = ap (λ (p : Outcome). p.image) is; same_buffer = ap (λ (p : Outcome). p.buffer) is }

  -- what a request answers that refuses, and one that has written what its effect says
  pub refused_answer : {code : ℕ} → first_of rows ≡ code → (code ≡ 0 → ⊥)
      → (code ≡ (settled rows image buffer effect).code)
      × (zeroed effect.numbers ≡ (settled rows image buffer effect).numbers)
      × (image ≡ (settled rows image buffer effect).image)
  refused_answer is never =
      let o = settled_refused is never in
      (sym (ap (λ (p : Outcome). p.code) o), sym (ap (λ (p : Outcome). p.numbers) o), sym (ap (λ (p : Outcome). p.image) o))

  pub done_answer : first_of rows ≡ 0 → (numbers image' : List ℕ) → numbers ≡ effect.numbers → image' ≡ effect.image
      → (0 ≡ (settled rows image buffer effect).code)
      × (numbers ≡ (settled rows image buffer effect).numbers)
      × (image' ≡ (settled rows image buffer effect).image)
  done_answer clear numbers image' told written =
      (sym (code_is ∙ clear), told ∙ sym (success_numbers clear), written ∙ sym (success_image clear))

  -- what holds of the image before, and of the one that is written, holds of the image afterwards
  pub image_by : (P : List ℕ → Type 0) → P image → (first_of rows ≡ 0 → P effect.image) → P (settled rows image buffer effect).image
  image_by P before after = by (ℕ_discrete (first_of rows) 0)
    where
      by : Dec (first_of rows ≡ 0) → P (settled rows image buffer effect).image
      by (yes clear) = subst P (sym (success_image clear)) (after clear)
      by (no never) = subst P (refused_answer refl never).2 before
