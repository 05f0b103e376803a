-- The rules of an extent hold exactly if the file is a contiguous one whose blocks are bodies; those of a chain exactly if it is a linked one, with no block twice.
use Prim.Native.Nat.{ℕ, suc, zero, ◌+◌, ◌≤◌, ◌<◌}
use mathlib.Core.Path.{◌≡◌, refl, sym, ap, subst, ◌∙◌}
use mathlib.Core.List.{List}
use native.Mathlib.Omega.{arith}
use native.Mathlib.Decide.{ℕ_discrete, dec_lt}
use Rattle.pack.specs.declared.Geometry.{Geometry}
use Rattle.pack.specs.declared.Entry.{Entry}
use Rattle.pack.specs.Geometry.{geometry_of}
use Rattle.pack.specs.File.{link_of, next_of, chain, after, last_of, blocks_of, count}
use Rattle.pack.specs.Entry.{Contiguous, Linked}
use Rattle.pack.proofs.FileChain.{next_contiguous}
use Rattle.frame.proofs.FileChainWays.{extent_below, extent_above, extent_inside, extent_most, next_linked, after_append, after_none, last_none, first_in}
use Rattle.faults.specs.Rules.{Body, chain_at, RightExtent, RightChain}
use Rattle.faults.proofs.RulesChain.{place_counted, places_counted, counted_place, counted_once, last_place}

-- the blocks of a file are bodies
abbrev pub Bodies : List ℕ → Geometry → Entry → Type 0
Bodies img g x = (b : ℕ) → 0 < count b (blocks_of img g x) → Body g b

-- and it reaches none twice
abbrev pub Once : List ℕ → Geometry → Entry → Type 0
Once img g x = (b : ℕ) → count b (blocks_of img g x) ≤ 1

-- a contiguous file
module _ (img : List ℕ) (g : Geometry) (x : Entry) (is : x.kind ≡ 1) where
  steps : (b : ℕ) → next_of img g x.kind b ≡ b + 1
  steps b = next_contiguous img g x.kind b is

  pub extent_once : Once img g x
  unfolding blocks_of
  extent_once b = extent_most (next_of img g x.kind) steps b x.length x.first.0

  pub extent_bodies : RightExtent g 6 x → RightExtent g 7 x → Bodies img g x
  unfolding blocks_of
  extent_bodies six seven b some =
      elim (dec_lt b x.first.0) [
        | yes below ↦ absurd (omega (arith, some, extent_below (next_of img g x.kind) steps b x.length x.first.0 below))
        | no low ↦ elim (dec_lt b (x.first.0 + x.length)) [
          | yes high ↦ (omega (arith, low, (six.first refl).0), omega (arith, high, (seven.length refl).1))
          | no above ↦
              absurd (omega (arith, some, extent_above (next_of img g x.kind) steps b x.length x.first.0 (omega (arith, above))))
        ]
      ]

  pub bodies_extent : Contiguous x → Bodies img g x → (w : ℕ) → RightExtent g w x
  unfolding blocks_of
  bodies_extent c bodies w =
      record {
        first = λ at.
            bodies x.first.0
            (omega (arith, extent_inside (next_of img g x.kind) steps x.first.0 x.length x.first.0 (omega arith) (omega (arith, c.length))));
        length = λ at. (c.length, end x.last.0 c.last);
        last = λ at. c.last;
      }
    where
      end : (z : ℕ) → z + 1 ≡ x.first.0 + x.length → x.first.0 + x.length ≤ g.blocks
      end z there =
          let inside = extent_inside (next_of img g x.kind) steps z x.length x.first.0 (omega (arith, there, c.length)) (omega (arith, there)) in
          omega (arith, there, (bodies z (omega (arith, inside))).1)

-- a linked file: its links lead to bodies, and to none a second time
abbrev pub LinksBodies : List ℕ → Entry → Type 0
LinksBodies img x = (place : ℕ) → place + 1 < x.length → Body (geometry_of img) (chain_at img x (place + 1))

abbrev pub LinksOnce : List ℕ → Entry → Type 0
LinksOnce img x = (place : ℕ) → place + 1 < x.length → (q : ℕ) → q ≤ place → chain_at img x q ≡ chain_at img x (place + 1) → ⊥

module _ (img : List ℕ) (x : Entry) (is : x.kind ≡ 2) where
  -- its blocks by its links
  pub linked_blocks : blocks_of img (geometry_of img) x ≡ chain (next_of img (geometry_of img) 2) x.length x.first.0
  unfolding blocks_of
  linked_blocks = ap (λ (k : ℕ). chain (next_of img (geometry_of img) k) x.length x.first.0) is

  -- a block of the chain is a body if the links before it lead to bodies
  pub chain_body : RightChain img 6 x → (p : ℕ) → p < x.length → ((q : ℕ) → q < p → Body (geometry_of img) (chain_at img x (q + 1)))
      → Body (geometry_of img) (chain_at img x p)
  unfolding after
  chain_body six zero within links = six.first refl (omega arith)
  chain_body six (suc p) within links =
      let next : p + 1 ≡ suc p = omega arith in
      subst (λ (n : ℕ). Body (geometry_of img) (chain_at img x n)) next (links p (omega arith))

  -- behind a block stands what its link says
  pub chain_link : (p : ℕ) → chain_at img x (p + 1) ≡ link_of img (geometry_of img) (chain_at img x p)
  unfolding after
  chain_link p =
      after_append (next_of img (geometry_of img) 2) p 1 x.first.0 ∙ next_linked img (geometry_of img) 2 (chain_at img x p) refl

  pub linked_bodies : RightChain img 6 x → LinksBodies img x → Bodies img (geometry_of img) x
  linked_bodies six links b some =
      let stands = counted_place (next_of img (geometry_of img) 2) x.length x.first.0 b (rw linked_blocks at some) in
      let body = chain_body six stands.place stands.within (λ q less. links q (omega (arith, less, stands.within))) in
      subst (Body (geometry_of img)) stands.is body

  pub linked_once : LinksOnce img x → Once img (geometry_of img) x
  linked_once once b =
      rw linked_blocks
      (counted_once (next_of img (geometry_of img) 2) x.length x.first.0 (λ p q less within same. before p q less within same) b)
    where
      before : (p q : ℕ) → p < q → q < x.length → chain_at img x p ≡ chain_at img x q → ⊥
      before p zero less within same = absurd (omega arith)
      before p (suc q) less within same =
          let next : suc q ≡ q + 1 = omega arith in
          once q (omega arith) p (omega arith) (same ∙ ap (chain_at img x) next)

  module _ (six : RightChain img 6 x) (eight : RightChain img 8 x) where
    pub linked_last : last_of (next_of img (geometry_of img) 2) 0 x.length x.first.0 ≡ x.last.0
    unfolding last_of
    linked_last = at x.length refl
      where
        at : (k : ℕ) → x.length ≡ k → last_of (next_of img (geometry_of img) 2) 0 k x.first.0 ≡ x.last.0
        at zero there = sym (eight.no_last refl there)
        at (suc k) there = last_place (next_of img (geometry_of img) 2) 0 k x.first.0 ∙ eight.last refl k (omega (arith, there))

    pub linked_end : (0 < x.length → chain_at img x x.length ≡ 0) → after (next_of img (geometry_of img) 2) x.length x.first.0 ≡ 0
    linked_end ends =
        elim (ℕ_discrete x.length 0) [
          | yes none ↦ after_none (next_of img (geometry_of img) 2) x.length x.first.0 none ∙ six.no_first refl none
          | no some ↦ ends (omega (arith, some))
        ]

  -- the other way
  module _ (l : Linked img (geometry_of img) x) (bodies : Bodies img (geometry_of img) x) where
    reached : (p : ℕ) → p < x.length → 0 < count (chain_at img x p) (blocks_of img (geometry_of img) x)
    reached p within = rw linked_blocks (place_counted (next_of img (geometry_of img) 2) x.length x.first.0 p within)

    pub bodies_links : LinksBodies img x
    bodies_links place within = bodies (chain_at img x (place + 1)) (reached (place + 1) within)

    pub once_links : Once img (geometry_of img) x → LinksOnce img x
    once_links once place within q before same =
        let twice : 2 ≤ count (chain_at img x (place + 1)) (blocks_of img (geometry_of img) x) =
        rw linked_blocks (places_counted (next_of img (geometry_of img) 2) x.length x.first.0 q (place + 1) (omega arith) within same) in
        omega (arith, twice, once (chain_at img x (place + 1)))

    pub linked_chain : (w : ℕ) → RightChain img w x
    linked_chain w =
        record {
          first = λ at some. bodies x.first.0 (rw linked_blocks (first_in (next_of img (geometry_of img) 2) x.length x.first.0 some));
          no_first = λ at none. sym (after_none (next_of img (geometry_of img) 2) x.length x.first.0 none) ∙ l.end;
          last = λ at place there. at_place place there;
          no_last = λ at none. sym l.last ∙ last_none (next_of img (geometry_of img) 2) 0 x.length x.first.0 none;
        }
      where
        at_place : (place : ℕ) → place + 1 ≡ x.length → chain_at img x place ≡ x.last.0
        at_place place there =
            let long : suc place ≡ x.length = omega (arith, there) in
            sym (last_place (next_of img (geometry_of img) 2) 0 place x.first.0)
            ∙ ap (λ (k : ℕ). last_of (next_of img (geometry_of img) 2) 0 k x.first.0) long
            ∙ l.last
