-- Asking whose a block is: its rows, and what each answer of the code comes to.
use Prim.Native.Nat.{ℕ, ◌≤◌, ◌<◌}
use mathlib.Core.Path.{◌≡◌, refl, sym, ap, ◌∙◌}
use mathlib.Core.Bool.{true, false, not}
use mathlib.Core.List.{List, [], ◌∷◌}
use native.Mathlib.Omega.{arith}
use borrow.Author.Tests.{le-leb, lt-leb}
use Rattle.answers.specs.declared.Refusal.TheVariants.{Inconsistent, NoSuchBlock}
use Rattle.answers.specs.Refusals.{first_of, code_of, table_order, in_order}
use Rattle.answers.proofs.Refusals.{refuse, pass, clear}
use Rattle.pack.specs.declared.Geometry.{Geometry}
use Rattle.pack.specs.declared.Owner.{Owner}
use Rattle.pack.specs.declared.Owner.TheVariants.{System, Free, Held}
use Rattle.pack.specs.Geometry.{geometry_of}
use Rattle.pack.specs.Consistent.{Consistent}
use Rattle.pack.specs.Owner.{owner_of}
use Rattle.consistency.specs.ConsistentTest.{Opened}
use Rattle.std.specs.Prelude.{Some, None, Ok, Err}
use Rattle.consistency.specs.ConsistentTest.{consistent, opened_of}
use Rattle.consistency.proofs.ConsistentTestIff.{consistent_iff, opened_good, opened_bad}
use Rattle.asking.specs.Outcome.{Outcome, zeroed}
use Rattle.asking.proofs.Outcome.{settled_refused, settled_success}
use Rattle.owners.specs.OwnerQuestionRows.{owner_rows}
use Rattle.owners.specs.OwnerQuestion.{owner_numbers, owner, owner_answer, owner_outcome}

-- 40 and 44 stand in the order of the table
pub owner_ordered : (img : List ℕ) (b : ℕ) → in_order table_order 0 (owner_rows img b) ≡ true
unfolding owner_rows
owner_ordered img b = refl

-- the effect on success
abbrev pub told : List ℕ → Owner → Outcome
told img o = record { code = 0; numbers = owner_numbers o; image = img; buffer = [] }

answered : (img : List ℕ) (o : Owner) → owner_outcome img (owner_answer (Ok o)) ≡ told img o
unfolding owner_numbers
answered img System = refl
answered img Free = refl
answered img (Held e p) = refl

-- of three numbers each is 0 on a refusal
zeros : (o : Owner) → zeroed (owner_numbers o) ≡ 0 ∷ (0 ∷ (0 ∷ []))
unfolding owner_numbers
zeros System = refl
zeros Free = refl
zeros (Held e p) = refl

refuses : (img : List ℕ) (b code : ℕ) → first_of (owner_rows img b) ≡ code → (code ≡ 0 → ⊥)
    → owner img b ≡ record { code = code; numbers = 0 ∷ (0 ∷ (0 ∷ [])); image = img; buffer = [] }
unfolding owner
refuses img b code first never =
    settled_refused (owner_rows img b) img [] (told img (owner_of img b)) first never
    ∙ ap (λ (numbers : List ℕ). record { code = code; numbers = numbers; image = img; buffer = [] }) (zeros (owner_of img b))

first_40 : (img : List ℕ) (b : ℕ) → consistent img ≡ false → first_of (owner_rows img b) ≡ 0o40
unfolding owner_rows
first_40 img b wrong = refuse _ (ap not wrong)

first_44 : (img : List ℕ) (b : ℕ) → consistent img ≡ true → (geometry_of img).blocks ≤ b → first_of (owner_rows img b) ≡ 0o44
unfolding owner_rows
first_44 img b right beyond = pass 0o40 _ (ap not right) ∙ refuse [] (le-leb (geometry_of img).blocks b beyond)

first_0 : (img : List ℕ) (b : ℕ) → consistent img ≡ true → b < (geometry_of img).blocks → first_of (owner_rows img b) ≡ 0
unfolding owner_rows
first_0 img b right inside = pass 0o40 _ (ap not right) ∙ (pass 0o44 [] (lt-leb (geometry_of img).blocks b inside) ∙ clear)

pub tells : (img : List ℕ) (b : ℕ) → consistent img ≡ true → b < (geometry_of img).blocks → owner img b ≡ told img (owner_of img b)
unfolding owner
tells img b right inside = settled_success (owner_rows img b) img [] (told img (owner_of img b)) (first_0 img b right inside)

-- the answers, by what a pack was opened as
module _ (img : List ℕ) (r : Opened) (is : r ≡ opened_of img) (b : ℕ) where
  pub owner_40 : r ≡ None → owner_outcome img (owner_answer (Err Inconsistent)) ≡ owner img b
  unfolding code_of
  owner_40 bad = sym (refuses img b 0o40 (first_40 img b (opened_bad img (sym is ∙ bad))) (λ never. omega arith))

  module _ (g : Geometry) (good : r ≡ Some g) where
    right : Consistent img
    right = (opened_good img g (sym is ∙ good)).0

    measures : geometry_of img ≡ g
    measures = (opened_good img g (sym is ∙ good)).1

    test : consistent img ≡ true
    test = (consistent_iff img).1 right

    blocks : (geometry_of img).blocks ≡ g.blocks
    blocks = ap (λ (h : Geometry). h.blocks) measures

    pub owner_44 : g.blocks ≤ b → owner_outcome img (owner_answer (Err NoSuchBlock)) ≡ owner img b
    unfolding code_of
    owner_44 beyond = sym (refuses img b 0o44 (first_44 img b test (omega (arith, blocks))) (λ never. omega arith))

    pub owner_answered : b < g.blocks → (o : Owner) → o ≡ owner_of img b → owner_outcome img (owner_answer (Ok o)) ≡ owner img b
    owner_answered inside o of = answered img o ∙ (ap (told img) of ∙ sym (tells img b test (omega (arith, blocks))))
