-- Asking whose a block is, of any consistent image: the numbers of the answer are those of the one owner.
use Prim.Native.Nat.{ℕ, ◌<◌}
use mathlib.Core.Path.{◌≡◌, refl, sym, ap, ◌∙◌}
use mathlib.Core.Logic.{◌↔◌}
use mathlib.Core.List.{List, [], ◌∷◌}
use native.Mathlib.Omega.{arith}
use Rattle.pack.specs.declared.Owner.{Owner}
use Rattle.pack.specs.declared.Owner.TheVariants.{System, Free, Held}
use Rattle.pack.specs.Geometry.{geometry_of}
use Rattle.pack.specs.Consistent.{Consistent}
use Rattle.pack.specs.Owner.{owner_of, HeldAt, FreeBlock}
use Rattle.consistency.proofs.ConsistentTestIff.{consistent_iff}
use Rattle.asking.specs.Outcome.{Outcome}
use Rattle.owners.specs.OwnerQuestion.{owner_numbers, owner}
use Rattle.owners.proofs.OneOwner.{owner_system, owner_free, owner_held}
use Rattle.owners.proofs.OwnerQuestionStage.{tells}

-- two owners have the same numbers only if they are one
numbers_tell : (o v : Owner) → owner_numbers o ≡ owner_numbers v → o ≡ v
unfolding owner_numbers
numbers_tell System System is = refl
numbers_tell System Free is = let never : ◌≡◌ {A = ℕ} 0 1 = cc in absurd (omega arith)
numbers_tell System (Held f q) is = let never : ◌≡◌ {A = ℕ} 0 2 = cc in absurd (omega arith)
numbers_tell Free System is = let never : ◌≡◌ {A = ℕ} 1 0 = cc in absurd (omega arith)
numbers_tell Free Free is = refl
numbers_tell Free (Held f q) is = let never : ◌≡◌ {A = ℕ} 1 2 = cc in absurd (omega arith)
numbers_tell (Held e p) System is = let never : ◌≡◌ {A = ℕ} 2 0 = cc in absurd (omega arith)
numbers_tell (Held e p) Free is = let never : ◌≡◌ {A = ℕ} 2 1 = cc in absurd (omega arith)
numbers_tell (Held e p) (Held f q) is =
    let entries : e ≡ f = cc in
    let places : p.0 ≡ q.0 = cc in
    λ i. Held (entries i) (record { 0 = places i })

-- what the numbers mean, each answer by itself
module _ {img : List ℕ} (right : Consistent img) (b : ℕ) (inside : b < (geometry_of img).blocks) where
  says : (owner img b).numbers ≡ owner_numbers (owner_of img b)
  says = ap (λ (o : Outcome). o.numbers) (tells img b ((consistent_iff img).1 right) inside)

  same_owner : (o : Owner) → (owner img b).numbers ≡ owner_numbers o ↔ owner_of img b ≡ o
  same_owner o = (λ is. numbers_tell (owner_of img b) o (sym says ∙ is), λ is. says ∙ ap owner_numbers is)

  pub says_system : (owner img b).numbers ≡ 0 ∷ (0 ∷ (0 ∷ [])) ↔ b < (geometry_of img).bodies.0
  unfolding owner_numbers
  says_system = (λ is. (owner_system right b).0 ((same_owner System).0 is), λ below. (same_owner System).1 ((owner_system right b).1 below))

  pub says_free : (owner img b).numbers ≡ 1 ∷ (0 ∷ (0 ∷ [])) ↔ FreeBlock img b
  unfolding owner_numbers
  says_free = (
    λ is. let free = (owner_free right b).0 ((same_owner Free).0 is) in record { body = free.0; below = inside; nobody = free.1 },
    λ free. (same_owner Free).1 ((owner_free right b).1 (free.body, free.nobody)),
  )

  pub says_held : (e p : ℕ) → (owner img b).numbers ≡ 2 ∷ (e ∷ (p ∷ [])) ↔ HeldAt img e p b
  unfolding owner_numbers
  says_held e p = (
    λ is. (owner_held right b e p).0 ((same_owner (Held e (record { 0 = p }))).0 is),
    λ at. (same_owner (Held e (record { 0 = p }))).1 ((owner_held right b e p).1 at),
  )
