-- Two linked files of a consistent image after APPND: one file, as crate `frame` knows it.
use Prim.Native.Nat.{ℕ, ◌+◌, ◌*◌, ◌≤◌, ◌<◌}
use mathlib.Core.Path.{◌≡◌, refl, sym, ap, subst, ◌∙◌}
use mathlib.Core.List.{List}
use mathlib.Core.Logic.{inl, inr}
use native.Mathlib.Omega.{arith}
use lib.ListN.{get_or}
use Rattle.pack.specs.declared.Geometry.{Geometry}
use Rattle.pack.specs.Geometry.{geometry_of, slots, block_bytes}
use Rattle.pack.specs.GeometrySized.{Sized}
use Rattle.pack.specs.File.{link_of, count}
use Rattle.pack.specs.Entry.{entry_of, blocks_at}
use Rattle.pack.specs.Consistent.{Consistent}
use Rattle.pack.specs.EntryWords.{clear_entry}
use Rattle.pack.proofs.GeometryRoom.{sized_same}
use Rattle.frame.specs.Framed.{Only, Never, Kept}
use Rattle.frame.specs.Growth.{Joined}
use Rattle.frame.proofs.FramedCompose.{kept_widen, entry_kept, link_kept, entries_kept, block_kept}
use Rattle.frame.proofs.FramedStays.{entries_at}
use Rattle.pack.proofs.ConsistentHeld.{right_bodies}
use Rattle.frame.proofs.FramedHeld.{held_apart}
use Rattle.frame.proofs.GrowthChain.{ended_last}
use Rattle.frame.proofs.GrowthResized.{linked_ended}
use Rattle.bodies.proofs.EntryChainLinked.{Joint}
use Rattle.appending.specs.Appnd.{chain_joined}
use Rattle.frame.proofs.FramedWritten.{clear_kept}
use Rattle.frame.proofs.ChangesWritten.{changes_then}
use Rattle.pack.proofs.EntryWordsWritten.{clear_empty}
use Rattle.appending.proofs.AppndMiddle.{Middle, middle}

module _ (img : List ℕ) (g : Geometry) (x y : ℕ) (stated : g ≡ geometry_of img) (consistent : Consistent img) (sized : Sized img g)
    (within : x < slots g) (within₂ : y < slots g) (other : x ≡ y → ⊥) (linked : (entry_of img g x).kind ≡ 2) (linked₂ : (entry_of img g y).kind ≡ 2) where
  abbrev mid : List ℕ
  mid = chain_joined img g x (entry_of img g x) (entry_of img g y)

  here : Middle img mid g x y
  here = middle img g x y stated consistent sized within within₂ linked linked₂

  cleared : {Written : ℕ → Type 0} → Kept (Only y) Written mid (clear_entry mid g y) g
  cleared = clear_kept mid y refl within₂

  entry_same : entry_of (clear_entry mid g y) g x ≡ entry_of mid g x
  entry_same = entry_kept (cleared {Written = Never}) x within other

  last_held : 0 < (entry_of img g x).length → 0 < count (entry_of img g x).last.0 (blocks_at img g x)
  last_held some = ended_last (linked_ended img g x (entries_at img g stated consistent x within) linked) some

  body : (z : ℕ) → 0 < count z (blocks_at img g x) → (g.bodies.0 ≤ z) × (z < g.blocks)
  body z reached = right_bodies img g x z (entries_at img g stated consistent x within) reached

  body₂ : (z : ℕ) → 0 < count z (blocks_at img g y) → (g.bodies.0 ≤ z) × (z < g.blocks)
  body₂ z reached = right_bodies img g y z (entries_at img g stated consistent y within₂) reached

  -- clearing an entry changes no link
  link_same : (z : ℕ) → (g.bodies.0 ≤ z) × (z < g.blocks) → link_of (clear_entry mid g y) g z ≡ link_of mid g z
  link_same z range = link_kept (cleared {Written = Never}) sized.some z (omega (arith, range.0, sized.contents)) (λ never. never)

  pub joining : Joined (Joint img g x) img (clear_entry mid g y) g x y
  joining =
      record {
        kept = changes_then (kept_widen (λ e is. inl is) (λ b w. w) here.kept) (kept_widen (λ e is. inr is) (λ b w. w) cleared);
        own = λ z written. inl (subst (λ (b : ℕ). 0 < count b (blocks_at img g x)) (sym written.1) (last_held written.0));
        emptied = clear_empty g y mid (sized_same sized here.kept.long) within₂;
        resized = record {
          words = λ i small six seven eight. entries_kept (cleared {Written = Never}) x within other i small ∙ here.resized.words i small six seven eight;
        };
        size = ap (λ n. n.length) entry_same ∙ here.size;
        first = λ some. ap (λ n. n.first.0) entry_same ∙ here.first some;
        begun = λ none. ap (λ n. n.first.0) entry_same ∙ here.begun none;
        final = λ some. ap (λ n. n.last.0) entry_same ∙ here.final some;
        ended = λ none. ap (λ n. n.last.0) entry_same ∙ here.ended none;
        links = λ z reached not_last.
            link_same z (body z reached) ∙ link_kept here.kept sized.some z (omega (arith, (body z reached).0, sized.contents)) (λ written. not_last written.1);
        second = λ z reached.
            link_same z (body₂ z reached)
            ∙ link_kept here.kept sized.some z (omega (arith, (body₂ z reached).0, sized.contents)) (λ written. not_joint z reached written.0 written.1);
        joint = λ some more. link_same (entry_of img g x).last.0 (body (entry_of img g x).last.0 (last_held some)) ∙ here.joint some more;
        alone = λ some none. link_same (entry_of img g x).last.0 (body (entry_of img g x).last.0 (last_held some)) ∙ here.alone some none;
      }
    where
      not_joint : (z : ℕ) → 0 < count z (blocks_at img g y) → 0 < (entry_of img g x).length → z ≡ (entry_of img g x).last.0 → ⊥
      not_joint z reached some is =
          omega (
            arith,
            reached,
            ap (λ (b : ℕ). count b (blocks_at img g y)) is,
            held_apart img g (entry_of img g x).last.0 x y stated consistent within within₂ other (last_held some),
          )

  -- the bytes of a body behind its link
  pub payload_same : (b i : ℕ) → g.bodies.0 ≤ b → b < g.blocks → 2 ≤ i → i < block_bytes g
      → get_or (clear_entry mid g y) (b * block_bytes g + i) 0 ≡ get_or img (b * block_bytes g + i) 0
  payload_same b i low high behind small = block_kept (cleared {Written = Never}) b (omega (arith, low, sized.contents)) (λ never. never) i small ∙ here.payload b i low high behind small
