-- OPENO, for all images and arguments: what a refusal keeps, what a success makes, and what stays as it was.
use Prim.Native.Nat.{ℕ}
use mathlib.Core.Path.{◌≡◌, refl, sym, ap, ◌∙◌}
use mathlib.Core.Logic.{inl, inr}
use mathlib.Core.Bool.{false}
use mathlib.Core.List.{List, []}
use native.Mathlib.Omega.{arith}
use Rattle.pack.specs.declared.Key.{Key}
use Rattle.pack.specs.declared.Geometry.{Geometry}
use Rattle.pack.specs.Geometry.{geometry_of}
use Rattle.pack.specs.File.{chain, after, last_of, blocks_of, count}
use Rattle.pack.specs.Entry.{entry_of, Linked}
use Rattle.pack.specs.Consistent.{held, Consistent}
use Rattle.pack.specs.Owner.{owner_of}
use Rattle.pack.specs.Untouched.{Untouched}
use Rattle.pack.proofs.FileCount.{count_nil}
use Rattle.pack.proofs.MapSays.{says_same}
use Rattle.frame.proofs.UntouchedFramed.{untouched_refl}
use Rattle.asking.proofs.Outcome.{code_is, success_image, refusal_keeps, image_by}
use Rattle.asking.specs.Outcome.{Unchanged}
use Rattle.creation.specs.Creating.{created, LowestEmpty, new_file, entry_for}
use Rattle.creation.specs.OpenoRows.{openo_rows}
use Rattle.creation.specs.Openo.{openo, empty_output}
use Rattle.creation.proofs.CreatingStage.{Creatable, creatable}
use Rattle.creation.proofs.CreatingEffect.{entered, entered_says, entry_entered, entered_untouched, entered_consistent, entered_others, entered_held}

-- the new file has no block
no_blocks : (img : List ℕ) (g : Geometry) (key : Key) (protect : ℕ) → blocks_of img g (new_file key protect empty_output) ≡ []
unfolding blocks_of chain
no_blocks img g key protect = refl

linked : (img : List ℕ) (g : Geometry) (key : Key) (protect : ℕ) → Linked img g (new_file key protect empty_output)
unfolding after last_of
linked img g key protect = record { kind = refl; end = refl; last = refl; writer = inr (inl refl) }

module _ (img : List ℕ) (key : Key) (caller protect : ℕ) where
  -- "A refusal returns its code, .. and nothing in the image .. changes."
  pub openo_refused : ((openo img key caller protect).code ≡ 0 → ⊥) → Unchanged (openo img key caller protect) [] img []
  unfolding openo
  openo_refused = refusal_keeps (openo_rows img key caller protect) img [] _

  module _ (ready : Creatable img key caller protect false) where
    none_counted : (b : ℕ) → count b (blocks_of (entered ready empty_output) (geometry_of img) (new_file key protect empty_output)) ≡ 0
    none_counted b = ap (count b) (no_blocks (entered ready empty_output) (geometry_of img) key protect) ∙ count_nil b

    written_consistent : Consistent (entered ready empty_output)
    written_consistent =
        entered_consistent ready empty_output (entry_entered ready empty_output) (inr (linked (entered ready empty_output) (geometry_of img) key protect)) (omega arith)
        (λ b. omega (arith, none_counted b)) (λ b some. absurd (omega (arith, some, none_counted b)))
        (says_same (entered_says ready empty_output) (λ b. omega (arith, none_counted b)))

  -- what was written, where nothing speaks against it
  image_is : (P : List ℕ → Type 0) → P img → ((ready : Creatable img key caller protect false) → P (entered ready empty_output)) → P (openo img key caller protect).image
  unfolding openo created
  image_is P before after =
      image_by (openo_rows img key caller protect) img [] _ P before (λ clear. after (creatable img key caller protect false clear))

  pub openo_consistent : Consistent img → Consistent (openo img key caller protect).image
  openo_consistent right = image_is Consistent right written_consistent

  -- every file is untouched: the request's own key has none
  pub openo_untouched : (key' : Key) → Untouched key' img (openo img key caller protect).image
  openo_untouched key' = image_is (Untouched key' img) (untouched_refl key' img) (λ ready. entered_untouched ready empty_output (entry_entered ready empty_output) key')

  -- every block is whose it was
  pub openo_owner : (b : ℕ) → owner_of (openo img key caller protect).image b ≡ owner_of img b
  openo_owner b = image_is (λ img'. owner_of img' b ≡ owner_of img b) refl (λ ready. entered_others ready empty_output (entry_entered ready empty_output) b (none_counted ready b))

  -- and is held as often as before
  pub openo_held : Consistent img → (b : ℕ) → held (openo img key caller protect).image b ≡ held img b
  openo_held right b =
      image_is (λ img'. held img' b ≡ held img b) refl
      (λ ready. omega (arith, entered_held ready empty_output (entry_entered ready empty_output) b, none_counted ready b))

  -- "OPENO: a new linked file of length 0, writer 2, readers 0. Lowest empty entry."
  pub openo_entry : (openo img key caller protect).code ≡ 0
      → LowestEmpty img (entry_for img) × (entry_of (openo img key caller protect).image (geometry_of img) (entry_for img) ≡ new_file key protect empty_output)
  unfolding openo created
  openo_entry success =
      let clear = sym (code_is (openo_rows img key caller protect) img [] _) ∙ success in
      let ready = creatable img key caller protect false clear in (
        ready.entry,
        ap (λ (img' : List ℕ). entry_of img' (geometry_of img) (entry_for img)) (success_image (openo_rows img key caller protect) img [] _ clear)
            ∙ (entry_entered ready empty_output).entry,
      )
