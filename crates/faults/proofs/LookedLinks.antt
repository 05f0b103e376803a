-- The walk along the links of a chain: its marks are the blocks at the places walked, so that a block that is marked stands at one of them.
use Prim.Native.Nat.{ℕ, ◌+◌, ◌≤◌, ◌<◌}
use mathlib.Core.Path.{◌≡◌, refl, sym, ap, subst, ◌∙◌}
use mathlib.Core.List.{List}
use native.Mathlib.Omega.{arith}
use native.Mathlib.Decide.{ℕ_discrete}
use lib.ListN.{length, get_or, set, length-set}
use lib.Seq.{get_or-set_same, get_or-set_other}
use Rattle.pack.specs.declared.Entry.{Entry}
use Rattle.pack.specs.declared.Geometry.{Geometry}
use Rattle.pack.specs.Geometry.{geometry_of}
use Rattle.pack.specs.File.{next_of, after}
use Rattle.frame.proofs.FileChainWays.{after_append}
use Rattle.consistency.specs.ConsistentTest.{empty_map}
use Rattle.consistency.proofs.ConsistentTestIff.{empty_zero}
use Rattle.faults.specs.Rules.{Body, chain_at}
use Rattle.faults.proofs.RulesChain.{Stands}

-- at place p stands block b, and all is right before it
pub record Walked (img : List ℕ) (g : Geometry) (x : Entry) (marks : List ℕ) (p b : ℕ) : Type 0 where
  pub is : chain_at img x p ≡ b
  pub within : p < x.length
  pub first : Body g x.first.0
  pub body : Body g b
  pub links : (q : ℕ) → q < p → Body g (chain_at img x (q + 1))
  pub once : (q : ℕ) → q < p → (s : ℕ) → s ≤ q → chain_at img x s ≡ chain_at img x (q + 1) → ⊥
  pub long : g.blocks ≤ length marks
  pub marked : (s : ℕ) → s ≤ p → get_or marks (chain_at img x s) 0 ≡ 1
  pub places : (c : ℕ) → (get_or marks c 0 ≡ 0 → ⊥) → Stands (next_of img (geometry_of img) 2) (p + 1) x.first.0 c

-- behind the block at a place stands the one that its link leads to
pub next_place : (img : List ℕ) (x : Entry) (p : ℕ) {b next : ℕ} → chain_at img x p ≡ b → next ≡ next_of img (geometry_of img) 2 b → chain_at img x (p + 1) ≡ next
unfolding after
next_place img x p here is = after_append (next_of img (geometry_of img) 2) p 1 x.first.0 ∙ (ap (next_of img (geometry_of img) 2) here ∙ sym is)

pub walked_next : {img : List ℕ} {g : Geometry} {x : Entry} → geometry_of img ≡ g → {marks : List ℕ} {p b : ℕ} → Walked img g x marks p b
    → {next : ℕ} → next ≡ next_of img g 2 b → chain_at img x (p + 1) ≡ next
walked_next {img} {g} {x} is {marks} {p} {b} walked link = next_place img x p walked.is (link ∙ ap (λ (k : Geometry). next_of img k 2 b) (sym is))

-- a mark at a place of the map
mark_here : (marks : List ℕ) {c b : ℕ} → b < length marks → c ≡ b → get_or (set marks b 1) c 0 ≡ 1
mark_here marks {c} {b} inside is = ap (λ (n : ℕ). get_or (set marks b 1) n 0) is ∙ get_or-set_same marks b 1 0 inside

module _ {img : List ℕ} {g : Geometry} {x : Entry} where
  pub walked_start : {marks : List ℕ} → marks ≡ empty_map (length marks) → g.blocks ≤ length marks → 0 < x.length → Body g x.first.0
      → Walked img g x (set marks x.first.0 1) 0 x.first.0
  unfolding after
  walked_start {marks} empty long some body =
      record {
        is = refl;
        within = some;
        first = body;
        body = body;
        links = λ q less. absurd (omega arith);
        once = λ q less. absurd (omega arith);
        long = omega (arith, long, length-set marks x.first.0 1);
        marked = λ s less.
            let none : s ≡ 0 = omega arith in
            let inside : x.first.0 < length marks = omega (arith, body, long) in
            mark_here marks inside (ap (chain_at img x) none);
        places = λ c taken. elim (ℕ_discrete c x.first.0) [
          | yes here ↦ record { place = 0; within = omega arith; is = sym here }
          | no other ↦
              absurd (taken (get_or-set_other marks x.first.0 c 1 0 other ∙ (ap (λ (m : List ℕ). get_or m c 0) empty ∙ empty_zero (length marks) c)))
        ];
      }

  -- one block on
  module _ (is : geometry_of img ≡ g) {marks : List ℕ} {p b : ℕ} (walked : Walked img g x marks p b) {next : ℕ} (link : next ≡ next_of img g 2 b) where
    behind : chain_at img x (p + 1) ≡ next
    behind = walked_next is walked link

    one_on : p + 1 < x.length → Body g next → get_or marks next 0 ≡ 0 → Walked img g x (set marks next 1) (p + 1) next
    one_on more body free =
        record {
          is = behind;
          within = more;
          first = walked.first;
          body = body;
          links = λ q less. elim (ℕ_discrete q p) [
            | yes here ↦ let same : q + 1 ≡ p + 1 = omega (arith, here) in subst (Body g) (sym (ap (chain_at img x) same ∙ behind)) body
            | no other ↦ walked.links q (omega (arith, less, other))
          ];
          once = λ q less s before same. elim (ℕ_discrete q p) [
            | yes here ↦
                let at : q + 1 ≡ p + 1 = omega (arith, here) in
                let there : chain_at img x s ≡ next = same ∙ (ap (chain_at img x) at ∙ behind) in
                omega (arith, walked.marked s (omega (arith, before, here)), free, ap (λ (c : ℕ). get_or marks c 0) there)
            | no other ↦ walked.once q (omega (arith, less, other)) s before same
          ];
          long = omega (arith, length-set marks next 1, walked.long);
          marked = λ s less. elim (ℕ_discrete (chain_at img x s) next) [
            | yes here ↦ mark_here marks inside here
            | no other ↦ get_or-set_other marks next (chain_at img x s) 1 0 other ∙ walked.marked s (before s less other)
          ];
          places = λ c taken. elim (ℕ_discrete c next) [
            | yes here ↦ record { place = p + 1; within = omega arith; is = behind ∙ sym here }
            | no other ↦
                let stands = walked.places c (λ none. taken (get_or-set_other marks next c 1 0 other ∙ none)) in
                record { place = stands.place; within = omega (arith, stands.within); is = stands.is }
          ];
        }
      where
        inside : next < length marks
        inside = omega (arith, body, walked.long)

        before : (s : ℕ) → s ≤ p + 1 → (chain_at img x s ≡ next → ⊥) → s ≤ p
        before s less other = elim (ℕ_discrete s (p + 1)) [
          | yes here ↦ absurd (other (ap (chain_at img x) here ∙ behind))
          | no apart ↦ omega (arith, less, apart)
        ]

    pub walked_on : {place : ℕ} → place ≡ p + 1 → place < x.length → Body g next → get_or marks next 0 ≡ 0 → Walked img g x (set marks next 1) place next
    walked_on at more body free = subst (λ (n : ℕ). Walked img g x (set marks next 1) n next) (sym at) (one_on (omega (arith, at, more)) body free)
