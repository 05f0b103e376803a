-- The chain of a linked file of a consistent image: its numbers are small, and the last block of a file that has blocks is a body.
use Prim.Native.Nat.{ℕ, ◌≤◌, ◌<◌}
use mathlib.Core.Path.{◌≡◌, sym, ap, ◌∙◌}
use mathlib.Core.Bool.{false}
use mathlib.Core.List.{List}
use mathlib.Core.Logic.{◌⊎◌, inl, inr}
use native.Mathlib.Omega.{arith}
use native.Mathlib.Decide.{ℕ_discrete}
use lib.Dec.{eqb}
use borrow.Author.Tests.{eq-eqb}
use Rattle.pack.specs.declared.Geometry.{Geometry}
use Rattle.pack.specs.Geometry.{geometry_of, slots}
use Rattle.pack.specs.GeometrySized.{Sized}
use Rattle.pack.specs.File.{link_of, count}
use Rattle.pack.specs.Entry.{entry_of, blocks_at, Empty, Contiguous, Linked, RightEntry}
use Rattle.pack.specs.Consistent.{Consistent}
use Rattle.answers.proofs.RefusalsTests.{true_not_false}
use Rattle.frame.specs.Growth.{EndedChain}
use Rattle.frame.proofs.FramedStays.{entries_at}
use Rattle.pack.proofs.ConsistentHeld.{right_bodies}
use Rattle.frame.proofs.FileChainWays.{first_in}
use Rattle.frame.proofs.GrowthChain.{ended_first, ended_final, ended_last}
use Rattle.frame.proofs.GrowthResized.{linked_ended}

-- the one block that is written: the last of a file that has blocks
abbrev pub Joint : List ℕ → Geometry → ℕ → ℕ → Type 0
Joint img g x b = (0 < (entry_of img g x).length) × (b ≡ (entry_of img g x).last.0)

-- an entry in use that is not contiguous is linked
pub linked_kind : (img : List ℕ) (g : Geometry) (e : ℕ) → (Empty img g e → ⊥) → eqb (entry_of img g e).kind 1 ≡ false → RightEntry img g e → (entry_of img g e).kind ≡ 2
linked_kind img g e used other (inl empty) = absurd (used empty)
linked_kind img g e used other (inr rules) = by rules.kind
  where
    by : Contiguous (entry_of img g e) ⊎ Linked img g (entry_of img g e) → (entry_of img g e).kind ≡ 2
    by (inl contiguous) = absurd (true_not_false (sym (eq-eqb (entry_of img g e).kind 1 contiguous.kind) ∙ other))
    by (inr linked) = linked.kind

module _ {img : List ℕ} (g : Geometry) (stated : g ≡ geometry_of img) (right : Consistent img) (sized : Sized img g) (e : ℕ) (within : e < slots g)
    (linked : (entry_of img g e).kind ≡ 2) where
  walked : EndedChain (link_of img g) (entry_of img g e).first.0 (entry_of img g e).length (entry_of img g e).last.0 (blocks_at img g e)
  walked = linked_ended img g e (entries_at img g stated right e within) linked

  pub last_body : 0 < (entry_of img g e).length → (g.bodies.0 ≤ (entry_of img g e).last.0) × ((entry_of img g e).last.0 < g.blocks)
  last_body some = right_bodies img g e (entry_of img g e).last.0 (entries_at img g stated right e within) (ended_last walked some)

  pub first_small : (entry_of img g e).first.0 < 65536
  first_small = by (ℕ_discrete (entry_of img g e).length 0)
    where
      by : Dec ((entry_of img g e).length ≡ 0) → (entry_of img g e).first.0 < 65536
      by (yes none) = omega (arith, ended_first walked none)
      by (no some) =
          let reached : 0 < count (entry_of img g e).first.0 (blocks_at img g e) =
          omega (
            arith,
            first_in (link_of img g) (entry_of img g e).length (entry_of img g e).first.0 (omega (arith, some)),
            ap (count (entry_of img g e).first.0) walked.blocks,
          ) in
          omega (arith, (right_bodies img g e (entry_of img g e).first.0 (entries_at img g stated right e within) reached).1, sized.most)

  pub last_small : (entry_of img g e).last.0 < 65536
  last_small = by (ℕ_discrete (entry_of img g e).length 0)
    where
      by : Dec ((entry_of img g e).length ≡ 0) → (entry_of img g e).last.0 < 65536
      by (yes none) = omega (arith, ended_final walked none)
      by (no some) = omega (arith, (last_body (omega (arith, some))).1, sized.most)
