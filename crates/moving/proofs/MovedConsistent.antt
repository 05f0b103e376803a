-- The target is consistent, and could be moved back.
use Prim.Native.Nat.{ℕ, ◌≤◌, ◌<◌}
use mathlib.Core.Path.{◌≡◌, refl, sym, ap, subst, ◌∙◌}
use mathlib.Core.List.{List}
use mathlib.Core.Logic.{◌⊎◌, inl, inr, ◌↔◌}
use native.Mathlib.Omega.{arith}
use native.Mathlib.Decide.{ℕ_discrete}
use Rattle.pack.specs.declared.Geometry.{Geometry}
use Rattle.pack.specs.declared.Entry.{Entry}
use Rattle.pack.specs.Form.{most_blocks_of, most_contents_of}
use Rattle.pack.specs.Geometry.{geometry_of, slots}
use Rattle.pack.specs.File.{next_of, chain, last_of, blocks_of, count}
use Rattle.pack.specs.Entry.{entry_word, entry_of, Empty, Contiguous, Linked, Used, RightEntry}
use Rattle.pack.specs.Key.{key_in, SameKey}
use Rattle.pack.specs.Map.{map_bit}
use Rattle.pack.specs.Consistent.{Consistent}
use Rattle.frame.proofs.FileChainWays.{first_in}
use Rattle.frame.proofs.FramedStays.{Rules, consistent_of, differ_at, held_at}
use Rattle.moving.specs.declared.Way.{Way}
use Rattle.moving.specs.Ways.{back, from_form, to_form, moved, renumbered}
use Rattle.moving.specs.declared.Way.TheVariants.{Up, Down}
use Rattle.moving.specs.Moving.{Movable}
use Rattle.moving.specs.Moved.{moved_measures, moved_entry, Moved, Moves}
use Rattle.moving.proofs.WayNumbers.{moved_by, moved_most, moved_less, moved_to, moved_again, renumbered_none, renumbered_some}
use Rattle.moving.proofs.ChainMapped.{after_mapped, last_mapped}
use Rattle.moving.proofs.MovedMeasures.{stated_contents, bodies_high, source_sized, source_blocks, source_contents, geometry_moved, header_moved, listed_moved}
use Rattle.moving.proofs.SourceNumbers.{right_source}
use Rattle.moving.proofs.MovedFiles.{word_there, entry_moved, steps_moved, count_moved, held_moved}

-- the forms of the way back
pub form_there : (way : Way) → to_form way ≡ from_form (back way)
form_there Up = refl
form_there Down = refl

pub form_back : (way : Way) → from_form way ≡ to_form (back way)
form_back Up = refl
form_back Down = refl

module _ {way : Way} {src dst : List ℕ} {g : Geometry} (stated : g ≡ geometry_of src) (movable : Movable way src) (m : Moved way src dst g) where
  module _ (e : ℕ) (within : e < slots g) where
    pub empty_moved : Empty src g e → Empty dst (moved_measures way g) e
    empty_moved empty = record { zero = λ i small. word_there way dst g e i ∙ by i small (ℕ_discrete i 6) (ℕ_discrete i 8) }
      where
        none : (i : ℕ) → i < 16 → renumbered way (entry_word src g e i) ≡ 0
        none i small = ap (renumbered way) (empty.zero i small) ∙ renumbered_none way

        by : (i : ℕ) → i < 16 → Dec (i ≡ 6) → Dec (i ≡ 8) → entry_word dst g e i ≡ 0
        by i small (yes is) d = subst (λ (j : ℕ). entry_word dst g e j ≡ 0) (sym is) (m.first e within ∙ none 6 (omega arith))
        by i small (no six) (yes is) = subst (λ (j : ℕ). entry_word dst g e j ≡ 0) (sym is) (m.last e within ∙ none 8 (omega arith))
        by i small (no six) (no eight) = m.entries e within i small six eight ∙ empty.zero i small

    of_kind : (kind : ℕ) → (entry_of src g e).kind ≡ kind → (b : ℕ) → 0 < count b (chain (next_of src g kind) (entry_of src g e).length (entry_of src g e).first.0)
        → next_of dst (moved_measures way g) kind (renumbered way b) ≡ renumbered way (next_of src g kind b)
    unfolding blocks_of
    of_kind kind is b =
        subst (λ (k : ℕ). 0 < count b (chain (next_of src g k) (entry_of src g e).length (entry_of src g e).first.0)
        → next_of dst (moved_measures way g) k (renumbered way b) ≡ renumbered way (next_of src g k b)) is (steps_moved stated movable m e within b)

    -- the first block of a file that has one
    first_body : Used src g e (entry_of src g e) → 0 < (entry_of src g e).length → 1 < (entry_of src g e).first.0
    unfolding blocks_of
    first_body used some = omega (arith, bodies_high stated movable, (used.bodies (entry_of src g e).first.0 (first_in _ _ _ some)).0)

    kind_moved : Used src g e (entry_of src g e) → Contiguous (entry_of src g e) ⊎ Linked src g (entry_of src g e)
        → Contiguous (moved_entry way (entry_of src g e)) ⊎ Linked dst (moved_measures way g) (moved_entry way (entry_of src g e))
    kind_moved used (inl contiguous) =
        let low : 1 < (entry_of src g e).first.0 = first_body used (omega (arith, contiguous.length)) in
        inl
        (record {
          kind = contiguous.kind;
          length = contiguous.length;
          last =
              omega (
                arith,
                contiguous.last,
                contiguous.length,
                renumbered_some way (entry_of src g e).first.0 (omega arith),
                renumbered_some way (entry_of src g e).last.0 (omega (arith, contiguous.last, contiguous.length)),
                moved_by way (entry_of src g e).first.0 (omega arith),
                moved_by way (entry_of src g e).last.0 (omega (arith, contiguous.last, contiguous.length)),
              );
          writer = contiguous.writer;
        })
    kind_moved used (inr linked) =
        inr
        (record {
          kind = linked.kind;
          end = after_mapped (renumbered way) _ _ _ _ (of_kind 2 linked.kind) ∙ (ap (renumbered way) linked.end ∙ renumbered_none way);
          last =
              ap (λ (n : ℕ). last_of (next_of dst (moved_measures way g) 2) n (entry_of src g e).length (renumbered way (entry_of src g e).first.0)) (sym (renumbered_none way))
              ∙ (last_mapped (renumbered way) _ _ 0 _ _ (of_kind 2 linked.kind) ∙ ap (renumbered way) linked.last);
          writer = linked.writer;
        })

    -- where a body of the target came from
    body_there : (y : ℕ) → (g.bodies.0 ≤ moved (back way) y) × (moved (back way) y < g.blocks) → (moved way g.bodies.0 ≤ y) × (y < moved way g.blocks)
    body_there y range =
        let high = bodies_high stated movable in
        let is = moved_to way (moved (back way) y) y (omega (arith, high, range.0)) refl in (
          omega (arith, is, moved_most way g.bodies.0 (moved (back way) y) (omega (arith, high)) range.0),
          omega (arith, is, moved_less way (moved (back way) y) g.blocks (omega (arith, high, range.0)) range.1),
        )

    right_by : RightEntry src g e → RightEntry dst (moved_measures way g) e
    right_by (inl empty) = inl (empty_moved empty)
    right_by (inr used) =
        inr
        (subst (Used dst (moved_measures way g) e) (sym (entry_moved stated movable m e within))
        (record {
          name = used.name;
          extension = used.extension;
          uic = listed_moved stated movable m (entry_of src g e).uic used.uic;
          protect = used.protect;
          kind = kind_moved used used.kind;
          rest = λ i low high.
              word_there way dst g e i ∙ (m.entries e within i high (λ is. omega (arith, is)) (λ is. omega (arith, is)) ∙ used.rest i low high);
          bodies = λ b some.
              body_there b
              (used.bodies (moved (back way) b)
              (omega
              (arith, some, count_moved stated movable m e within b, ap (λ (x : Entry). count b (blocks_of dst (moved_measures way g) x)) (entry_moved stated movable m e within))));
          opens = used.opens;
        }))

    pub right_moved : RightEntry dst (moved_measures way g) e
    right_moved = right_by (right_source stated movable e within)

  differ_moved : (e f : ℕ) → e < f → f < slots g → (Empty dst (moved_measures way g) e → ⊥)
      → SameKey (key_in (entry_of dst (moved_measures way g) e)) (key_in (entry_of dst (moved_measures way g) f)) → ⊥
  differ_moved e f less within used alike =
      let early : e < slots g = omega arith in
      differ_at src g stated movable.source.consistent e f less within (λ empty. used (empty_moved e early empty))
      (subst (λ (x : Entry). SameKey (key_in x) (key_in (moved_entry way (entry_of src g f)))) (entry_moved stated movable m e early)
      (subst (λ (x : Entry). SameKey (key_in (entry_of dst (moved_measures way g) e)) (key_in x)) (entry_moved stated movable m f within) alike))

  rules_moved : Rules dst (moved_measures way g)
  rules_moved =
      record {
        entries = right_moved;
        differ = differ_moved;
        once = λ b.
            omega (arith, held_moved stated movable m b, held_at src g (moved (back way) b) stated, movable.source.consistent.once (moved (back way) b));
        map =
            record {
              bit = λ there b within.
                  subst (λ (n : ℕ). (map_bit dst (moved_measures way g) b ≡ 1) ↔ ((b < moved way g.bodies.0) ⊎ (0 < n))) (sym (held_moved stated movable m b))
                  (m.map there b within);
            };
      }

  pub consistent_moved : Consistent dst
  consistent_moved = consistent_of dst (moved_measures way g) (geometry_moved stated movable m) (header_moved stated movable m) rules_moved

  pub movable_back : Movable (back way) dst
  movable_back =
      let again = moved_again way g.blocks (omega (arith, bodies_high stated movable, (source_sized stated movable).bodies)) in
      let right = movable.source.consistent.header.measured in
      record {
        source = record { consistent = consistent_moved; form = m.form ∙ form_there way };
        blocks_least = omega (arith, ap (moved (back way)) m.blocks, again, source_blocks stated movable, right.blocks_least);
        blocks_most =
            omega (arith, ap (moved (back way)) m.blocks, again, source_blocks stated movable, right.blocks_most, ap most_blocks_of (movable.source.form ∙ form_back way));
        contents_most =
            omega (
              arith,
              right.contents_most,
              ap most_contents_of (movable.source.form ∙ form_back way),
              ap (λ (h : Geometry). h.contents) (geometry_moved stated movable m),
              source_contents stated movable,
              stated_contents dst,
            );
      }

-- as it is asked: of the measures that the source states
pub moves_consistent : (way : Way) (src dst : List ℕ) → Movable way src → Moves way src dst → Consistent dst
moves_consistent way src dst movable m = consistent_moved refl movable m
