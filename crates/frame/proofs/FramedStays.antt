-- What stays of a consistent image in which named entries and written blocks may have changed.
use Prim.Native.Nat.{ℕ, ◌+◌, ◌*◌, ◌/◌, ◌%◌, ◌^◌, ◌≤◌, ◌<◌}
use mathlib.Core.Path.{◌≡◌, refl, sym, ap, subst, ◌∙◌}
use mathlib.Core.List.{List}
use mathlib.Core.Logic.{◌⊎◌, inl, inr, ◌↔◌}
use native.Mathlib.Omega.{arith}
use lib.ListN.{length, get_or}
use Rattle.words.specs.Word.{word_at}
use Rattle.pack.specs.declared.Entry.{Entry}
use Rattle.pack.specs.declared.Geometry.{Geometry}
use Rattle.pack.specs.Form.{segments_of, bodies_of}
use Rattle.pack.specs.Geometry.{geometry_of, block_words, block_bytes, slots}
use Rattle.pack.specs.Header.{uic_count, uic_at, Listed, Measured, RightHeader}
use Rattle.pack.specs.File.{link_of, count}
use Rattle.pack.specs.Entry.{entry_word, entry_of, blocks_at, Empty, RightEntry}
use Rattle.pack.specs.Key.{key_in, SameKey}
use Rattle.pack.specs.Map.{HasMap, map_bits, map_bit}
use Rattle.pack.specs.Consistent.{held_in, held, MapAgrees, Consistent}
use Rattle.pack.specs.MapSays.{MapSays, marking}
use Rattle.pack.proofs.FormBounds.{uics_fit, contents_before}
use Rattle.frame.specs.Framed.{Kept}
use Rattle.frame.specs.Framing.{Framed}
use Rattle.frame.proofs.FramedCompose.{header_kept, entries_kept, block_kept, block_word_kept}
use Rattle.pack.proofs.ConsistentHeld.{right_bodies, outside_free, map_iff}
use Rattle.frame.proofs.EntrySame.{link_same, entry_same, empty_same, blocks_same, right_same}

-- the measures that an image states are those that its header states
pub geometry_same : (img img' : List ℕ) → ((w : ℕ) → w < 3 → word_at img' w ≡ word_at img w) → geometry_of img' ≡ geometry_of img
unfolding geometry_of
geometry_same img img' words =
    λ j. record {
      segments = record { 0 = segments_of (words 0 (omega arith) j) };
      blocks = words 1 (omega arith) j;
      contents = words 2 (omega arith) j;
      bodies = record { 0 = bodies_of (words 0 (omega arith) j) (words 2 (omega arith) j) };
    }

stated_segments_law : (img : List ℕ) → (geometry_of img).segments.0 ≡ segments_of (word_at img 0)
unfolding geometry_of
stated_segments_law img = refl

pub header_segments : (img : List ℕ) (g : Geometry) → g ≡ geometry_of img → RightHeader img → 0 < g.segments.0
header_segments img g stated right = omega (arith, right.measured.known, stated_segments_law img, ap (λ (h : Geometry). h.segments.0) stated)

pub bodies_behind : (img : List ℕ) (g : Geometry) → g ≡ geometry_of img → g.contents < g.bodies.0
unfolding geometry_of
bodies_behind img g stated = subst (λ (h : Geometry). h.contents < h.bodies.0) (sym stated) (contents_before (word_at img 0) (word_at img 2))

-- the header with its list of UICs is within block 0
header_room : (img : List ℕ) (g : Geometry) → g ≡ geometry_of img → RightHeader img → 4 + uic_count img ≤ block_words g
header_room img g stated right =
    omega
    (arith, uics_fit (word_at img 0) (uic_count img) right.measured.known right.measured.uics_most, stated_segments_law img, ap (λ (h : Geometry). h.segments.0) stated)

listed_same : (img img' : List ℕ) (uic : ℕ) → uic_count img' ≡ uic_count img → ((i : ℕ) → i < uic_count img → uic_at img' i ≡ uic_at img i) → Listed img uic → Listed img' uic
listed_same img img' uic count-is words listed =
    record { at = listed.at; within = omega (arith, listed.within, count-is); is = words listed.at listed.within ∙ listed.is }

-- the rules at measures that are those of the image
pub record Rules (img : List ℕ) (g : Geometry) : Type 0 where
  pub entries : (e : ℕ) → e < slots g → RightEntry img g e
  pub differ : (e f : ℕ) → e < f → f < slots g → (Empty img g e → ⊥) → SameKey (key_in (entry_of img g e)) (key_in (entry_of img g f)) → ⊥
  pub once : (b : ℕ) → held_in img g b ≤ 1
  pub map : MapAgrees img g

rules_of : (img : List ℕ) (g : Geometry) → g ≡ geometry_of img → Consistent img → Rules img g
unfolding held
rules_of img g stated consistent =
    subst (Rules img) (sym stated) (record { entries = consistent.entries; differ = consistent.differ; once = consistent.once; map = consistent.map })

pub consistent_of : (img : List ℕ) (g : Geometry) → g ≡ geometry_of img → RightHeader img → Rules img g → Consistent img
unfolding held
consistent_of img g stated header rules =
    let here : Rules img (geometry_of img) = subst (Rules img) stated rules in
    record { header = header; entries = here.entries; differ = here.differ; once = here.once; map = here.map }

pub held_at : (img : List ℕ) (g : Geometry) (b : ℕ) → g ≡ geometry_of img → held img b ≡ held_in img g b
unfolding held
held_at img g b stated = ap (λ (h : Geometry). held_in img h b) (sym stated)

-- a block of the system is in no file
pub system_unheld : (img : List ℕ) (g : Geometry) → g ≡ geometry_of img → Consistent img → (b : ℕ) → b < g.bodies.0 → held img b ≡ 0
system_unheld img g stated consistent b own =
    held_at img g b stated ∙ outside_free img g (rules_of img g stated consistent).entries b (λ body. omega (arith, own, body.0))

-- the map, where bodies alone are written, has the bits that it had
pub says_kept : {Named Written : ℕ → Type 0} {img img' : List ℕ} {g : Geometry} {bit : ℕ → ℕ} → Kept Named Written img img' g
    → ((b : ℕ) → Written b → g.bodies.0 ≤ b) → MapSays img g bit → MapSays img' g bit
unfolding map_bit
says_kept {Named} {Written} {img} {img'} {g} {bit} kept bodies says = record { is = λ there b within. same there b within ∙ says.is there b within }
  where
    same : HasMap g → (b : ℕ) → b < map_bits g → map_bit img' g b ≡ map_bit img g b
    same there b within =
        ap (λ (word : ℕ). (word / 2 ^ (b % 16)) % 2)
        (block_word_kept kept (g.contents + 1) (omega arith) (λ written. omega (arith, there, bodies (g.contents + 1) written)) _ (omega arith, omega (arith, within)))

-- an entry of a consistent image is right, and two in use are not alike
pub entries_at : (img : List ℕ) (g : Geometry) → g ≡ geometry_of img → Consistent img → (e : ℕ) → e < slots g → RightEntry img g e
entries_at img g stated consistent = (rules_of img g stated consistent).entries

pub differ_at : (img : List ℕ) (g : Geometry) → g ≡ geometry_of img → Consistent img
    → (e f : ℕ) → e < f → f < slots g → (Empty img g e → ⊥) → SameKey (key_in (entry_of img g e)) (key_in (entry_of img g f)) → ⊥
differ_at img g stated consistent = (rules_of img g stated consistent).differ

module _
    {Named Written : ℕ → Type 0}
    {img img' : List ℕ}
    {g : Geometry}
    (stated : g ≡ geometry_of img)
    (consistent : Consistent img)
    (framed : Framed Named Written img img' g) where
  some_segments : 0 < g.segments.0
  some_segments = header_segments img g stated consistent.header

  header_word : (w : ℕ) → w < 4 + uic_count img → word_at img' w ≡ word_at img w
  header_word w within = header_kept framed.kept w (omega (arith, header_room img g stated consistent.header))

  pub geometry_framed : geometry_of img' ≡ geometry_of img
  geometry_framed = geometry_same img img' (λ w within. header_word w (omega arith))

  pub stated_framed : g ≡ geometry_of img'
  stated_framed = stated ∙ sym geometry_framed

  uic_count_law : uic_count img' ≡ uic_count img
  uic_count_law = header_word 3 (omega arith)

  uic_word_law : (i : ℕ) → i < uic_count img → uic_at img' i ≡ uic_at img i
  uic_word_law i within = header_word (4 + i) (omega arith)

  -- a word of the list of UICs
  list_word : (w : ℕ) → 4 ≤ w → w < 4 + uic_count img' → word_at img' w ≡ word_at img w
  list_word w low high = header_word w (omega (arith, uic_count_law))

  measured_framed : Measured (length img') (word_at img' 0) (word_at img' 1) (word_at img' 2) (uic_count img')
  measured_framed =
      rw (framed.kept.long, header_word 0 (omega arith), header_word 1 (omega arith), header_word 2 (omega arith), uic_count_law) consistent.header.measured

  pub header_framed : RightHeader img'
  header_framed =
      let right = consistent.header in
      let segments = ap (λ (h : Geometry). h.segments.0) geometry_framed in
      let segments-at = ap (λ (h : Geometry). h.segments.0) stated in
      record {
        measured = measured_framed;
        uics =
            record {
              some = λ w low high is. right.uics.some w low (omega (arith, uic_count_law)) (sym (list_word w low high) ∙ is);
              apart = λ v w low less high same.
                  right.uics.apart v w low less (omega (arith, uic_count_law)) (sym (list_word v low (omega arith)) ∙ same ∙ list_word w (omega arith) high);
            };
        rest = λ w low high.
            header_kept framed.kept w (omega (arith, high, segments, segments-at)) ∙ right.rest w (omega (arith, uic_count_law)) (omega (arith, high, segments));
      }

  pub listed_framed : (uic : ℕ) → Listed img uic ↔ Listed img' uic
  listed_framed uic = (
    listed_same img img' uic uic_count_law uic_word_law,
    listed_same img' img uic (sym uic_count_law) (λ i within. sym (uic_word_law i (omega (arith, within, uic_count_law)))),
  )

  -- an entry that is not named
  module _ (e : ℕ) (within : e < slots g) (other : Named e → ⊥) where
    words : (i : ℕ) → i < 16 → entry_word img' g e i ≡ entry_word img g e i
    words = entries_kept framed.kept e within other

    pub entry_framed : entry_of img' g e ≡ entry_of img g e
    entry_framed = entry_same img img' g e words

    pub empty_framed : Empty img g e ↔ Empty img' g e
    empty_framed = (empty_same img img' g e words, empty_same img' img g e (λ i small. sym (words i small)))

    -- the bytes of its blocks
    pub bytes_framed : (b : ℕ) → 0 < count b (blocks_at img g e) → (i : ℕ) → i < block_bytes g → get_or img' (b * block_bytes g + i) 0 ≡ get_or img (b * block_bytes g + i) 0
    bytes_framed b some =
        let range = right_bodies img g e b (entries_at img g stated consistent e within) some in
        block_kept framed.kept b (omega (arith, range.0, bodies_behind img g stated)) (λ written. omega (arith, some, framed.apart b written e within other))

    links : (b : ℕ) → 0 < count b (blocks_at img g e) → link_of img' g b ≡ link_of img g b
    links b some = link_same img img' g b some_segments (bytes_framed b some)

    pub blocks_framed : blocks_at img' g e ≡ blocks_at img g e
    blocks_framed = blocks_same img img' g e words links

    pub right_framed : RightEntry img' g e
    right_framed = right_same img img' g e words links (λ uic. (listed_framed uic).0) (entries_at img g stated consistent e within)

  -- the whole image, from what is asked of the named entries and of what is held
  module _
      (named : (e : ℕ) → Dec (Named e))
      (right : (e : ℕ) → e < slots g → Named e → RightEntry img' g e)
      (differ : (e f : ℕ) → e < f → f < slots g → Named e ⊎ Named f → (Empty img' g e → ⊥) → SameKey (key_in (entry_of img' g e)) (key_in (entry_of img' g f)) → ⊥)
      (once : (b : ℕ) → held img' b ≤ 1)
      (map : MapSays img' g (marking img' g)) where
    each_right : (e : ℕ) → e < slots g → RightEntry img' g e
    each_right e within = by (named e)
      where
        by : Dec (Named e) → RightEntry img' g e
        by (yes is) = right e within is
        by (no other) = right_framed e within other

    each_differs : (e f : ℕ) → e < f → f < slots g → (Empty img' g e → ⊥) → SameKey (key_in (entry_of img' g e)) (key_in (entry_of img' g f)) → ⊥
    each_differs e f less within used alike = by (named e) (named f)
      where
        by : Dec (Named e) → Dec (Named f) → ⊥
        by (yes is) f-named = differ e f less within (inl is) used alike
        by (no other) (yes is) = differ e f less within (inr is) used alike
        by (no other) (no other₂) =
            differ_at img g stated consistent e f less within (λ empty. used ((empty_framed e (omega arith) other).0 empty))
            (subst (λ x. SameKey (key_in x) (key_in (entry_of img g f))) (entry_framed e (omega arith) other)
            (subst (λ (x : Entry). SameKey (key_in (entry_of img' g e)) (key_in x)) (entry_framed f within other₂) alike))

    each_once : (b : ℕ) → held_in img' g b ≤ 1
    each_once b = omega (arith, once b, held_at img' g b stated_framed)

    pub consistent_framed : Consistent img'
    consistent_framed =
        consistent_of img' g stated_framed header_framed
        (record { entries = each_right; differ = each_differs; once = each_once; map = (map_iff img' g each_right each_once).1 map })
