-- The steps of a walk along a linked file: each link that was read is written where its block is in the target.
use Prim.Native.Nat.{ℕ, ◌+◌, ◌*◌, ◌≤◌, ◌<◌}
use mathlib.Core.Path.{◌≡◌, refl, sym, ap, subst, ◌∙◌}
use mathlib.Core.List.{List}
use native.Mathlib.Omega.{arith}
use native.Mathlib.Nat.{mul-le-mul}
use lib.ListN.{length}
use Rattle.words.specs.Word.{set_word}
use Rattle.pack.specs.declared.Geometry.{Geometry}
use Rattle.pack.specs.Geometry.{block_words, block_at}
use Rattle.pack.specs.GeometrySized.{Sized}
use Rattle.pack.specs.File.{link_of, next_of, after, count}
use Rattle.pack.specs.Entry.{entry_of, blocks_at}
use Rattle.pack.proofs.GeometryRoom.{block_room}
use Rattle.pack.proofs.ConsistentHeld.{right_bodies}
use Rattle.frame.proofs.FileChainWays.{next_linked, after_append}
use Rattle.moving.specs.declared.Way.{Way}
use Rattle.moving.specs.Ways.{moved, renumbered}
use Rattle.moving.specs.Moved.{OfLinked}
use Rattle.moving.specs.MovedParts.{Partly, Walked}
use Rattle.moving.specs.LinkWalk.{LinkedEntry, LinkWalk}
use Rattle.moving.proofs.WayNumbers.{moved_less}
use Rattle.moving.proofs.MovedMeasures.{bodies_high, source_sized}
use Rattle.moving.proofs.SourceNumbers.{right_source, link_number, number_small, blocks_small}
use Rattle.moving.proofs.MovedPartsSteps.{partly_same, partly_link}
use Rattle.moving.proofs.MovedPartsWalked.{walked_step, walked_file, on_chain}

module _ {way : Way} {src now : List ℕ} {g : Geometry} {e first size : ℕ} where
  pub walk_start : {at passed : ℕ} → LinkedEntry way src g e first size → Partly way src now g e (Walked src g e 0) → passed ≡ 0 → at ≡ first
      → LinkWalk way src now g e first size passed at
  unfolding after
  walk_start entry partly none is =
      record {
        entry = entry;
        before = omega arith;
        stands = is ∙ ap (λ (k : ℕ). after (next_of src g 2) k first) (sym none);
        partly = subst (λ (k : ℕ). Partly way src now g e (Walked src g e k)) (sym none) partly;
      }

  module _ {passed at : ℕ} (walk : LinkWalk way src now g e first size passed at) where
    pub walk_sized : Sized src g
    walk_sized = source_sized walk.entry.source.stated walk.entry.source.movable

    high : 1 < g.bodies.0
    high = bodies_high walk.entry.source.stated walk.entry.source.movable

    pub walk_end : size ≤ passed → Partly way src now g e (Walked src g (e + 1) 0)
    walk_end none =
        let whole : passed ≡ (entry_of src g e).length = omega (arith, walk.before, walk.entry.count) in
        partly_same (λ b. walked_file src g b e) (subst (λ (k : ℕ). Partly way src now g e (Walked src g e k)) whole walk.partly)

    module _ (more : passed < size) where
      here : after (next_of src g 2) passed (entry_of src g e).first.0 ≡ at
      here = ap (after (next_of src g 2) passed) walk.entry.first ∙ sym walk.stands

      has : 0 < count at (blocks_at src g e)
      has = on_chain src g at e 2 walk.entry.kind passed (omega (arith, more, walk.entry.count)) here

      pub walk_body : (g.bodies.0 ≤ at) × (at < g.blocks)
      walk_body = right_bodies src g e at (right_source walk.entry.source.stated walk.entry.source.movable e walk.entry.within) has

      pub walk_number : (0 < at) × (at < 65536)
      walk_number = (omega (arith, high, walk_body.0), omega (arith, walk_body.1, walk_sized.most))

      beneath : moved way at < moved way g.blocks
      beneath = moved_less way at g.blocks (omega (arith, walk_number.0)) walk_body.1

      pub walk_fits : {place words : ℕ} → place ≡ moved way at → words ≡ block_words g → place * words ≤ 4096 * 256
      walk_fits {place} {words} is long =
          let few : place ≤ 4096 = omega (arith, is, beneath, blocks_small walk.entry.source.stated walk.entry.source.movable) in
          let short : words ≤ 256 = omega (arith, long, walk_sized.few) in
          mul-le-mul few short

      walk_place : {place words : ℕ} → place ≡ moved way at → words ≡ block_words g → place * words ≡ block_at g (moved way at)
      walk_place is long = rw (is, long)

      pub walk_room : {place words : ℕ} → place ≡ moved way at → words ≡ block_words g → 2 * (place * words) + 1 < length now
      walk_room is long = omega (arith, walk_place is long, walk.partly.long, walk_sized.some, block_room g.segments.0 beneath)

      link : {next : ℕ} → next ≡ next_of src g 2 at → next ≡ link_of src g at
      link next = next ∙ next_linked src g 2 at refl

      pub walk_small : {next number : ℕ} → next ≡ next_of src g 2 at → number ≡ renumbered way next → number < 65536
      walk_small next is =
          let linked : OfLinked src g at = record { entry = e; within = walk.entry.within; kind = walk.entry.kind; has = has } in
          let source = walk.entry.source in
          let small = number_small source.stated source.movable (link_of src g at) (link_number source.stated source.movable at linked) in
          omega (arith, small, is, ap (renumbered way) (link next))

      walk_step : {next place number words : ℕ} → next ≡ next_of src g 2 at → place ≡ moved way at → number ≡ renumbered way next → words ≡ block_words g
          → LinkWalk way src (set_word now (place * words) number) g e first size (passed + 1) next
      unfolding after
      walk_step {next} {place} {number} {words} goes is renumbers long =
          record {
            entry = walk.entry;
            before = omega arith;
            stands = goes ∙ (ap (next_of src g 2) walk.stands ∙ sym (after_append (next_of src g 2) passed 1 first));
            partly =
                rw (walk_place is long, renumbers, link goes)
                (partly_same (λ b. walked_step src g b e passed at walk.entry.kind (sym here))
                (partly_link walk.entry.source.stated walk.entry.source.movable walk.partly at walk_body.0 walk_body.1));
          }

      pub walk_again : {next place number words : ℕ} {now' : List ℕ} → now' ≡ set_word now (place * words) number → next ≡ next_of src g 2 at → place ≡ moved way at
          → number ≡ renumbered way next → words ≡ block_words g → LinkWalk way src now' g e first size (passed + 1) next
      walk_again writes goes is renumbers long = rw writes (walk_step goes is renumbers long)
