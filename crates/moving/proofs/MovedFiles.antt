-- The files of the target are those of the source, each number of a block renumbered.
use Prim.Native.Nat.{ℕ, ◌+◌, ◌<◌}
use mathlib.Core.Path.{◌≡◌, refl, sym, ap, ◌∙◌}
use mathlib.Core.List.{List, map}
use mathlib.Core.Logic.{◌⊎◌, inl, inr}
use native.Mathlib.Omega.{arith}
use Rattle.pack.specs.declared.Geometry.{Geometry}
use Rattle.pack.specs.Geometry.{geometry_of, slots}
use Rattle.pack.specs.File.{link_of, next_of, blocks_of, count}
use Rattle.pack.specs.Entry.{entry_word, entry_of, blocks_at, Contiguous, Linked, RightEntry}
use Rattle.pack.specs.Consistent.{held_in}
use Rattle.pack.proofs.FileCount.{count_nil}
use Rattle.pack.proofs.FileChain.{next_contiguous}
use Rattle.pack.proofs.EntryRead.{empty_blocks}
use Rattle.pack.proofs.ConsistentTotal.{total_same}
use Rattle.frame.proofs.FileChainWays.{next_linked}
use Rattle.pack.proofs.ConsistentHeld.{right_bodies}
use Rattle.moving.specs.declared.Way.{Way}
use Rattle.moving.specs.Ways.{back, moved, renumbered}
use Rattle.moving.specs.Moving.{Movable}
use Rattle.moving.specs.Moved.{moved_measures, moved_entry, Moved}
use Rattle.moving.proofs.WayNumbers.{moved_next, moved_from, moved_to, renumbered_some}
use Rattle.moving.proofs.ChainMapped.{chain_mapped, count_mapped}
use Rattle.moving.proofs.MovedMeasures.{bodies_high}
use Rattle.moving.proofs.SourceNumbers.{right_source}

-- where entries and links stand depends on the segments in a block alone
pub word_there : (way : Way) (img : List ℕ) (g : Geometry) (e i : ℕ) → entry_word img (moved_measures way g) e i ≡ entry_word img g e i
unfolding entry_word
word_there way img g e i = refl

pub link_there : (way : Way) (img : List ℕ) (g : Geometry) (b : ℕ) → link_of img (moved_measures way g) b ≡ link_of img g b
unfolding link_of
link_there way img g b = refl

module _ {way : Way} {src dst : List ℕ} {g : Geometry} (stated : g ≡ geometry_of src) (movable : Movable way src) (m : Moved way src dst g) where
  high : 1 < g.bodies.0
  high = bodies_high stated movable

  same_word : (e : ℕ) → e < slots g → (i : ℕ) → i < 16 → (i ≡ 6 → ⊥) → (i ≡ 8 → ⊥) → entry_word dst (moved_measures way g) e i ≡ entry_word src g e i
  same_word e within i small six eight = word_there way dst g e i ∙ m.entries e within i small six eight

  pub entry_moved : (e : ℕ) → e < slots g → entry_of dst (moved_measures way g) e ≡ moved_entry way (entry_of src g e)
  unfolding entry_of
  entry_moved e within =
      λ j. record {
        name1 = same_word e within 0 (omega arith) (λ is. omega (arith, is)) (λ is. omega (arith, is)) j;
        name2 = same_word e within 1 (omega arith) (λ is. omega (arith, is)) (λ is. omega (arith, is)) j;
        extension = same_word e within 2 (omega arith) (λ is. omega (arith, is)) (λ is. omega (arith, is)) j;
        uic = same_word e within 3 (omega arith) (λ is. omega (arith, is)) (λ is. omega (arith, is)) j;
        protect = same_word e within 4 (omega arith) (λ is. omega (arith, is)) (λ is. omega (arith, is)) j;
        kind = same_word e within 5 (omega arith) (λ is. omega (arith, is)) (λ is. omega (arith, is)) j;
        first = record { 0 = (word_there way dst g e 6 ∙ m.first e within) j };
        length = same_word e within 7 (omega arith) (λ is. omega (arith, is)) (λ is. omega (arith, is)) j;
        last = record { 0 = (word_there way dst g e 8 ∙ m.last e within) j };
        writer = same_word e within 9 (omega arith) (λ is. omega (arith, is)) (λ is. omega (arith, is)) j;
        readers = same_word e within 10 (omega arith) (λ is. omega (arith, is)) (λ is. omega (arith, is)) j;
      }

  -- from a block of a file to the next, there as here
  module _ (e : ℕ) (within : e < slots g) where
    steps_by : RightEntry src g e → (b : ℕ) → 0 < count b (blocks_at src g e)
        → next_of dst (moved_measures way g) (entry_of src g e).kind (renumbered way b) ≡ renumbered way (next_of src g (entry_of src g e).kind b)
    steps_by (inl empty) b some = absurd (omega (arith, some, ap (count b) (empty_blocks src g e empty), count_nil b))
    steps_by (inr used) b some = by used.kind
      where
        low : 1 < b
        low = omega (arith, high, (used.bodies b some).0)

        number : renumbered way b ≡ moved way b
        number = renumbered_some way b (omega (arith, low))

        by : Contiguous (entry_of src g e) ⊎ Linked src g (entry_of src g e)
            → next_of dst (moved_measures way g) (entry_of src g e).kind (renumbered way b) ≡ renumbered way (next_of src g (entry_of src g e).kind b)
        by (inl contiguous) =
            next_contiguous dst (moved_measures way g) (entry_of src g e).kind (renumbered way b) contiguous.kind
            ∙ (ap (λ (n : ℕ). n + 1) number
            ∙ (sym (moved_next way b (omega (arith, low)))
            ∙ (sym (renumbered_some way (b + 1) (omega arith)) ∙ ap (renumbered way) (sym (next_contiguous src g (entry_of src g e).kind b contiguous.kind)))))
        by (inr linked) =
            next_linked dst (moved_measures way g) (entry_of src g e).kind (renumbered way b) linked.kind
            ∙ (link_there way dst g (renumbered way b)
            ∙ (ap (link_of dst g) number
            ∙ (m.links b (record { entry = e; within = within; kind = linked.kind; has = some })
            ∙ ap (renumbered way) (sym (next_linked src g (entry_of src g e).kind b linked.kind)))))

    pub steps_moved : (b : ℕ) → 0 < count b (blocks_at src g e)
        → next_of dst (moved_measures way g) (entry_of src g e).kind (renumbered way b) ≡ renumbered way (next_of src g (entry_of src g e).kind b)
    steps_moved = steps_by (right_source stated movable e within)

    -- the blocks of each file, renumbered
    file_moved : blocks_of dst (moved_measures way g) (moved_entry way (entry_of src g e)) ≡ map (renumbered way) (blocks_of src g (entry_of src g e))
    unfolding blocks_of
    file_moved = chain_mapped (renumbered way) _ _ _ _ (λ b some. steps_moved b some)

    pub blocks_moved : blocks_at dst (moved_measures way g) e ≡ map (renumbered way) (blocks_at src g e)
    blocks_moved = ap (blocks_of dst (moved_measures way g)) (entry_moved e within) ∙ file_moved

    -- a block is in a file as often as the block from which it came
    pub count_moved : (y : ℕ) → count y (blocks_at dst (moved_measures way g) e) ≡ count (moved (back way) y) (blocks_at src g e)
    count_moved y =
        ap (count y) blocks_moved
        ∙ count_mapped (renumbered way) (moved (back way)) y (blocks_at src g e)
        (λ x some is. moved_from way x y (body x some) (is ∙ renumbered_some way x (omega (arith, body x some))))
        (λ x some is. moved_to way x y (body x some) is ∙ sym (renumbered_some way x (omega (arith, body x some))))
      where
        body : (x : ℕ) → 0 < count x (blocks_at src g e) → 1 < x
        body x some = omega (arith, high, (right_bodies src g e x (right_source stated movable e within) some).0)

  pub held_moved : (y : ℕ) → held_in dst (moved_measures way g) y ≡ held_in src g (moved (back way) y)
  held_moved y = total_same _ _ 0 (slots g) (λ e low below. count_moved e (omega arith) y)
