-- The measures of the target and its block 0.
use Prim.Native.Nat.{ℕ, ◌+◌, ◌*◌, ◌≤◌, ◌<◌}
use mathlib.Core.Path.{◌≡◌, refl, sym, ap, ◌∙◌}
use mathlib.Core.List.{List}
use mathlib.Core.Bool.{Bool, true, false, cond}
use native.Mathlib.Omega.{arith}
use lib.Dec.{eqb}
use lib.ListN.{length}
use Rattle.words.specs.Word.{word_at}
use Rattle.pack.specs.declared.Geometry.{Geometry}
use Rattle.pack.specs.Form.{segments_of, most_blocks_of, most_contents_of, most_uics_of, bodies_of}
use Rattle.pack.specs.Geometry.{geometry_of, block_words, block_bytes, segment_bytes}
use Rattle.pack.specs.GeometrySized.{Sized}
use Rattle.pack.specs.Header.{uic_count, Listed, Measured, RightHeader}
use Rattle.pack.specs.Consistent.{Consistent}
use Rattle.pack.proofs.FormBounds.{document_segments, document_uics, mapped_segments, mapped_uics, uics_fit}
use Rattle.pack.proofs.HeaderRules.{header_sized}
use Rattle.moving.specs.declared.Way.{Way}
use Rattle.moving.specs.Ways.{from_form, to_form, moved}
use Rattle.moving.specs.declared.Way.TheVariants.{Up, Down}
use Rattle.moving.specs.Moving.{RightSource, Movable}
use Rattle.moving.specs.Moved.{moved_measures, Moved}
use Rattle.moving.proofs.WayNumbers.{moved_less}

-- the numbers of the two forms
pub same_segments : (way : Way) → segments_of (to_form way) ≡ segments_of (from_form way)
same_segments Up = mapped_segments ∙ sym document_segments
same_segments Down = document_segments ∙ sym mapped_segments

pub four_segments : (way : Way) → segments_of (from_form way) ≡ 4
four_segments Up = document_segments
four_segments Down = mapped_segments

moved_bodies : (way : Way) (contents : ℕ) → bodies_of (to_form way) contents ≡ moved way (bodies_of (from_form way) contents)
unfolding bodies_of moved
moved_bodies Up contents = omega arith
moved_bodies Down contents = omega arith

-- at most one block, the map, lies between the contents and the bodies
bodies_near : (form contents : ℕ) → (bodies_of form contents ≤ contents + 2) × (contents < bodies_of form contents)
unfolding bodies_of
bodies_near form contents = by (eqb form 2)
  where
    by : (a : Bool) → (contents + cond a 2 1 ≤ contents + 2) × (contents < contents + cond a 2 1)
    by true = (omega arith, omega arith)
    by false = (omega arith, omega arith)

same_uics : (way : Way) → most_uics_of (to_form way) ≡ most_uics_of (from_form way)
same_uics Up = mapped_uics ∙ sym document_uics
same_uics Down = document_uics ∙ sym mapped_uics

pub stated_segments_law : (img : List ℕ) → (geometry_of img).segments.0 ≡ segments_of (word_at img 0)
unfolding geometry_of
stated_segments_law img = refl

pub stated_blocks : (img : List ℕ) → (geometry_of img).blocks ≡ word_at img 1
unfolding geometry_of
stated_blocks img = refl

pub stated_contents : (img : List ℕ) → (geometry_of img).contents ≡ word_at img 2
unfolding geometry_of
stated_contents img = refl

stated_bodies : (img : List ℕ) → (geometry_of img).bodies.0 ≡ bodies_of (word_at img 0) (word_at img 2)
unfolding geometry_of
stated_bodies img = refl

pub geometry_is : (img : List ℕ) (g : Geometry) → g.segments.0 ≡ segments_of (word_at img 0) → g.blocks ≡ word_at img 1 → g.contents ≡ word_at img 2
    → g.bodies.0 ≡ bodies_of (word_at img 0) (word_at img 2) → g ≡ geometry_of img
unfolding geometry_of
geometry_is img g a b c d = λ j. record { segments = record { 0 = a j }; blocks = b j; contents = c j; bodies = record { 0 = d j } }

-- what the measures of a source are
module _ {way : Way} {src : List ℕ} {g : Geometry} (stated : g ≡ geometry_of src) (movable : Movable way src) where
  pub source_segments : g.segments.0 ≡ segments_of (from_form way)
  source_segments = ap (λ (h : Geometry). h.segments.0) stated ∙ (stated_segments_law src ∙ ap segments_of movable.source.form)

  pub source_four : g.segments.0 ≡ 4
  source_four = source_segments ∙ four_segments way

  pub source_blocks : g.blocks ≡ word_at src 1
  source_blocks = ap (λ (h : Geometry). h.blocks) stated ∙ stated_blocks src

  pub source_contents : g.contents ≡ word_at src 2
  source_contents = ap (λ (h : Geometry). h.contents) stated ∙ stated_contents src

  pub source_bodies : g.bodies.0 ≡ bodies_of (from_form way) g.contents
  source_bodies =
      ap (λ (h : Geometry). h.bodies.0) stated
      ∙ (stated_bodies src ∙ (ap (λ (f : ℕ). bodies_of f (word_at src 2)) movable.source.form ∙ ap (bodies_of (from_form way)) (sym source_contents)))

  pub source_sized : Sized src g
  source_sized = rw stated (header_sized src movable.source.consistent.header)

  -- there is a block of contents, so that no body is block 0 or 1
  pub bodies_high : 1 < g.bodies.0
  bodies_high = omega (arith, source_sized.contents, source_contents, movable.source.consistent.header.measured.contents_least)

  pub target_bodies : (moved way g.bodies.0 ≤ g.contents + 2) × (g.contents < moved way g.bodies.0)
  target_bodies =
      let is = ap (moved way) source_bodies ∙ sym (moved_bodies way g.contents) in
      let near = bodies_near (to_form way) g.contents in (omega (arith, is, near.0), omega (arith, is, near.1))

  header_room : 4 + uic_count src ≤ block_words g
  header_room =
      omega (
        arith,
        uics_fit (word_at src 0) (uic_count src) movable.source.consistent.header.measured.known
            movable.source.consistent.header.measured.uics_most,
        ap segments_of movable.source.form,
        source_segments,
      )

  -- a target of the right size is measured as a pack of the other form
  pub measures_there : {long uics : ℕ} → long ≡ moved way g.blocks * block_bytes g → uics ≤ most_uics_of (to_form way)
      → Measured long (to_form way) (moved way g.blocks) (word_at src 2) uics
  measures_there size uics =
      let room = moved_less way g.bodies.0 g.blocks (omega (arith, bodies_high)) source_sized.bodies in
      record {
        known = omega (arith, same_segments way, four_segments way);
        blocks_least = omega (arith, movable.blocks_least, ap (moved way) source_blocks);
        blocks_most = omega (arith, movable.blocks_most, ap (moved way) source_blocks);
        contents_least = movable.source.consistent.header.measured.contents_least;
        contents_most = movable.contents_most;
        room = omega (arith, room, moved_bodies way (word_at src 2), ap (λ (c : ℕ). moved way (bodies_of (from_form way) c)) source_contents, ap (moved way) source_bodies);
        uics_most = uics;
        size = size ∙ ap (λ (s : ℕ). moved way g.blocks * segment_bytes s) (source_segments ∙ sym (same_segments way));
      }

  module _ {dst : List ℕ} (m : Moved way src dst g) where
    header_word : (w : ℕ) → 2 ≤ w → w < 4 + uic_count src → word_at dst w ≡ word_at src w
    header_word w low high = m.header w low (omega (arith, header_room))

    pub geometry_moved : moved_measures way g ≡ geometry_of dst
    geometry_moved =
        geometry_is dst (moved_measures way g) (source_segments ∙ (sym (same_segments way) ∙ ap segments_of (sym m.form))) (sym m.blocks)
        (source_contents ∙ sym (header_word 2 (omega arith) (omega arith)))
        (ap (moved way) source_bodies
        ∙ (sym (moved_bodies way g.contents)
        ∙ (ap (λ (f : ℕ). bodies_of f g.contents) (sym m.form) ∙ ap (bodies_of (word_at dst 0)) (source_contents ∙ sym (header_word 2 (omega arith) (omega arith))))))

    uic_count_law : uic_count dst ≡ uic_count src
    uic_count_law = header_word 3 (omega arith) (omega arith)

    pub listed_moved : (uic : ℕ) → Listed src uic → Listed dst uic
    listed_moved uic listed =
        record { at = listed.at; within = omega (arith, listed.within, uic_count_law); is = header_word (4 + listed.at) (omega arith) (omega (arith, listed.within)) ∙ listed.is }

    measured_moved : Measured (length dst) (word_at dst 0) (word_at dst 1) (word_at dst 2) (uic_count dst)
    measured_moved =
        rw (m.form, m.blocks, header_word 2 (omega arith) (omega arith), uic_count_law)
        (measures_there m.long (omega (arith, movable.source.consistent.header.measured.uics_most, same_uics way, ap most_uics_of movable.source.form)))

    pub header_moved : RightHeader dst
    header_moved =
        let right = movable.source.consistent.header in
        let here = ap (λ (h : Geometry). h.segments.0) geometry_moved in
        let there = ap (λ (h : Geometry). h.segments.0) stated in
        record {
          measured = measured_moved;
          uics =
              record {
                some = λ w low high is. right.uics.some w low (omega (arith, uic_count_law)) (sym (header_word w (omega arith) (omega (arith, uic_count_law))) ∙ is);
                apart = λ v w low less high same.
                    right.uics.apart v w low less (omega (arith, uic_count_law))
                    (sym (header_word v (omega arith) (omega (arith, uic_count_law))) ∙ same ∙ header_word w (omega arith) (omega (arith, uic_count_law)));
              };
          rest = λ w low high. m.header w (omega (arith, low)) (omega (arith, high, here)) ∙ right.rest w (omega (arith, uic_count_law)) (omega (arith, high, here, there));
        }

-- a block of either form has 512 bytes
pub right_bytes : {way : Way} {src : List ℕ} → RightSource way src → block_bytes (geometry_of src) ≡ 512
right_bytes {way} {src} right = omega (arith, stated_segments_law src, ap segments_of right.form, four_segments way)

-- on the way up no source is too large: 41 is about the way down
pub movable_up : (src : List ℕ) → Consistent src → word_at src 0 ≡ 1 → Movable Up src
unfolding moved most_blocks_of most_contents_of
movable_up src consistent form =
    let right = consistent.header.measured in
    record {
      source = record { consistent = consistent; form = form };
      blocks_least = omega (arith, right.blocks_least);
      blocks_most = omega (arith, right.blocks_most, ap most_blocks_of form);
      contents_most = omega (arith, right.contents_most, ap most_contents_of form);
    }
