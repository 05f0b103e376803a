-- The papers' numbers follow from those of each form (crates/pack/proofs/FormBounds.antt), and nothing else outside `Form` has them.
use Prim.Native.Nat.{ℕ, ◌+◌, ◌*◌, ◌-◌, ◌/◌, ◌%◌, ◌^◌, ◌≤◌, ◌<◌}
use mathlib.Core.Path.{◌≡◌, refl, sym, ap, ◌∙◌}
use mathlib.Core.Bool.{Bool, cond}
use mathlib.Core.Logic.{◌⊎◌, inl, inr, ◌↔◌}
use mathlib.Core.List.{List}
use native.Mathlib.Omega.{arith}
use native.Mathlib.Nat.{mul_comm}
use native.Mathlib.Decide.{ℕ_discrete, dec_lt}
use lib.Dec.{eqb}
use lib.ListN.{length}
use borrow.Author.Tests.{eq-eqb, ne_eqb}
use Rattle.words.specs.Word.{word_at}
use Rattle.pack.specs.Form.{segments_of, most_blocks_of, most_contents_of, most_uics_of, bodies_of}
use Rattle.pack.specs.Geometry.{segment_bytes, geometry_of}
use Rattle.pack.specs.Header.{Measured}
use Rattle.pack.specs.Map.{HasMap, map_at, map_bit}
use Rattle.pack.specs.Consistent.{held_in, held, Consistent}
use Rattle.pack.specs.Owner.{FreeBlock}
use Rattle.pack.proofs.HeaderRules.{header_sized}
use Rattle.pack.proofs.ConsistentHeld.{beyond_free}
use Rattle.pack.proofs.FormBounds.{Known, form_1, form_2, form_3, form_known, document_segments, mapped_segments, mapped_bodies, disk_segments}
use Rattle.creation.proofs.AllocBlocks.{blocks_rounded}
use Rattle.promises.specs.Measures.{HeaderNumbers, DocumentHeader, header_1, header_2, header_3, BlockNumbers, BlocksOf, blocks_1, blocks_2, blocks_3}
use Rattle.promises.specs.Measures.{SystemBlocks, system_1, system_2, system_3, bit_in_map, DocumentMeasures}

-- block 0's measures, and Format's, are right exactly if they keep the papers' numbers
module _ {long form n c u : ℕ} (bytes system : ℕ) (is : bytes ≡ segment_bytes (segments_of form)) (own : c + system ≡ bodies_of form c) where
  numbers : Measured long form n c u → HeaderNumbers bytes system (most_blocks_of form) (most_contents_of form) (most_uics_of form) long n c u
  numbers m =
      record {
        blocks_least = m.blocks_least;
        blocks_most = m.blocks_most;
        contents_least = m.contents_least;
        contents_most = m.contents_most;
        room = omega (arith, m.room, own);
        uics_most = m.uics_most;
        size = m.size ∙ rw (← is) (mul_comm n bytes);
      }

  measured : 0 < segments_of form → HeaderNumbers bytes system (most_blocks_of form) (most_contents_of form) (most_uics_of form) long n c u → Measured long form n c u
  measured known h =
      record {
        known = known;
        blocks_least = h.blocks_least;
        blocks_most = h.blocks_most;
        contents_least = h.contents_least;
        contents_most = h.contents_most;
        room = omega (arith, h.room, own);
        uics_most = h.uics_most;
        size = h.size ∙ rw (← is) (mul_comm bytes n);
      }

module _ (long n c u : ℕ) where
  to_numbers : (form : ℕ) → Known form → Measured long form n c u → DocumentHeader long form n c u
  unfolding segments_of most_blocks_of most_contents_of most_uics_of bodies_of
  to_numbers form form_1 m = header_1 (numbers 512 1 refl refl m)
  to_numbers form form_2 m = header_2 (numbers 512 2 refl refl m)
  to_numbers form form_3 m = header_3 (numbers 128 1 refl refl m)

  from_numbers : (form : ℕ) → DocumentHeader long form n c u → Measured long form n c u
  unfolding segments_of most_blocks_of most_contents_of most_uics_of bodies_of
  from_numbers form (header_1 h) = measured 512 1 refl refl (omega arith) h
  from_numbers form (header_2 h) = measured 512 2 refl refl (omega arith) h
  from_numbers form (header_3 h) = measured 128 1 refl refl (omega arith) h

pub document_header : (long form n c u : ℕ) → Measured long form n c u ↔ DocumentHeader long form n c u
document_header long form n c u = (λ m. to_numbers long n c u form (form_known form m.known) m, from_numbers long n c u form)

-- the measures of a consistent image
module _ {img : List ℕ} (right : Consistent img) where
  blocks_by : (segments : ℕ) → segments_of (word_at img 0) ≡ segments
      → BlockNumbers (64 * segments) (128 * segments) (4 * segments) (128 * segments - 2) (λ n. (n + (segments - 1)) / segments) img
  unfolding geometry_of
  blocks_by segments is =
      record {
        block_words_is = rw is;
        block_bytes_is = rw is;
        block_at_is = λ b. rw is (mul_comm b (64 * segments));
        block_start_is = λ b. rw is (mul_comm b (128 * segments));
        entries = rw is (mul_comm (word_at img 2) (4 * segments));
        entry_at_is = λ e. rw is;
        payload_bytes_is = rw is;
        payload_start_is = λ b. rw is (ap (λ (at : ℕ). at + 2) (mul_comm b (128 * segments)));
        rounding = λ n. blocks_rounded (geometry_of img) n right.header.measured.known ∙ rw is;
      }

  -- by one segment nothing is rounded
  unrounded : BlockNumbers 64 128 4 126 (λ n. (n + 0) / 1) img → BlockNumbers 64 128 4 126 (λ n. n) img
  unrounded b =
      record {
        block_words_is = b.block_words_is;
        block_bytes_is = b.block_bytes_is;
        block_at_is = b.block_at_is;
        block_start_is = b.block_start_is;
        entries = b.entries;
        entry_at_is = b.entry_at_is;
        payload_bytes_is = b.payload_bytes_is;
        payload_start_is = b.payload_start_is;
        rounding = λ n. b.rounding n ∙ omega arith;
      }

  blocks_in : (form : ℕ) → Known form → word_at img 0 ≡ form → BlocksOf img form
  blocks_in form form_1 is = blocks_1 (blocks_by 4 (ap segments_of is ∙ document_segments))
  blocks_in form form_2 is = blocks_2 (blocks_by 4 (ap segments_of is ∙ mapped_segments))
  blocks_in form form_3 is = blocks_3 (unrounded (blocks_by 1 (ap segments_of is ∙ disk_segments)))

  system_in : (form c : ℕ) → Known form → SystemBlocks c form (bodies_of form c)
  unfolding bodies_of
  system_in form c form_1 = system_1
  system_in form c form_2 = system_2
  system_in form c form_3 = system_3

  pub document_measures : DocumentMeasures img
  unfolding geometry_of
  document_measures =
      record {
        header = (document_header (length img) (word_at img 0) (word_at img 1) (word_at img 2) (word_at img 3)).0 right.header.measured;
        blocks_of = blocks_in (word_at img 0) (form_known (word_at img 0) right.header.measured.known) refl;
        blocks = refl;
        contents = refl;
        bodies = system_in (word_at img 0) (word_at img 2) (form_known (word_at img 0) right.header.measured.known);
      }

  -- in form 2 the map, in the paper's numbers; no other form has one
  pub map_words : word_at img 0 ≡ 2 → (b : ℕ) → b < 4096
      → (bit_in_map img b ≡ 1) ↔ ((b < word_at img 2 + 2) ⊎ (0 < held img b))
  unfolding geometry_of map_bit held
  map_words form b within =
      let segments : (geometry_of img).segments.0 ≡ 4 = ap segments_of form ∙ mapped_segments in
      let bodies : (geometry_of img).bodies.0 ≡ word_at img 2 + 2 = ap (λ (f : ℕ). bodies_of f (word_at img 2)) form ∙ mapped_bodies (word_at img 2) in
      let place : map_at (geometry_of img) + b / 16 ≡ 256 * (word_at img 2 + 1) + b / 16 =
      ap (λ (s : ℕ). (word_at img 2 + 1) * (64 * s) + b / 16) segments ∙ omega arith in
      let bit : map_bit img (geometry_of img) b ≡ (word_at img (256 * (word_at img 2 + 1) + b / 16) / 2 ^ (b % 16)) % 2 =
      ap (λ (w : ℕ). (word_at img w / 2 ^ (b % 16)) % 2) place in
      let agrees = right.map.bit (omega (arith, bodies)) b (omega (arith, segments, within)) in
      (λ is. first bodies (agrees.0 (bit ∙ is)), λ some. sym bit ∙ agrees.1 (back bodies some))
    where
      first : (geometry_of img).bodies.0 ≡ word_at img 2 + 2 → (b < (geometry_of img).bodies.0) ⊎ (0 < held_in img (geometry_of img) b)
          → (b < word_at img 2 + 2) ⊎ (0 < held_in img (geometry_of img) b)
      first bodies (inl own) = inl (omega (arith, own, bodies))
      first bodies (inr some) = inr some

      back : (geometry_of img).bodies.0 ≡ word_at img 2 + 2 → (b < word_at img 2 + 2) ⊎ (0 < held_in img (geometry_of img) b)
          → (b < (geometry_of img).bodies.0) ⊎ (0 < held_in img (geometry_of img) b)
      back bodies (inl own) = inl (omega (arith, own, bodies))
      back bodies (inr some) = inr some

  bit_small : (b : ℕ) → bit_in_map img b ≤ 1
  bit_small b = omega arith

  mapped_system : word_at img 0 ≡ 2 → (geometry_of img).bodies.0 ≡ word_at img 2 + 2
  unfolding geometry_of
  mapped_system form = ap (λ (f : ℕ). bodies_of f (word_at img 2)) form ∙ mapped_bodies (word_at img 2)

  -- "0 .. for b from n up"
  pub map_beyond : word_at img 0 ≡ 2 → (b : ℕ) → word_at img 1 ≤ b → b < 4096 → bit_in_map img b ≡ 0
  unfolding held geometry_of
  map_beyond form b past within = by (ℕ_discrete (bit_in_map img b) 1)
    where
      nothing : (b < word_at img 2 + 2) ⊎ (0 < held img b) → ⊥
      nothing (inl own) = omega (arith, own, past, right.header.measured.room, mapped_system form)
      nothing (inr some) = omega (arith, some, beyond_free img (geometry_of img) right.entries b past)

      by : Dec (bit_in_map img b ≡ 1) → bit_in_map img b ≡ 0
      by (yes is) = absurd (nothing ((map_words form b within).0 is))
      by (no not) = omega (arith, not, bit_small b)

  -- a block is free exactly if its bit is 0
  pub map_free : word_at img 0 ≡ 2 → (b : ℕ) → b < word_at img 1 → FreeBlock img b ↔ (bit_in_map img b ≡ 0)
  unfolding geometry_of
  map_free form b below = (zero, free)
    where
      within : b < 4096
      within = omega (arith, below, (header_sized img right.header).most)

      zero : FreeBlock img b → bit_in_map img b ≡ 0
      zero f = by (ℕ_discrete (bit_in_map img b) 1)
        where
          nothing : (b < word_at img 2 + 2) ⊎ (0 < held img b) → ⊥
          nothing (inl own) = omega (arith, own, f.body, mapped_system form)
          nothing (inr some) = omega (arith, some, f.nobody)

          by : Dec (bit_in_map img b ≡ 1) → bit_in_map img b ≡ 0
          by (yes is) = absurd (nothing ((map_words form b within).0 is))
          by (no not) = omega (arith, not, bit_small b)

      one_not : (b < word_at img 2 + 2) ⊎ (0 < held img b) → bit_in_map img b ≡ 0 → ⊥
      one_not some is = omega (arith, is, (map_words form b within).1 some)

      free : bit_in_map img b ≡ 0 → FreeBlock img b
      free is = by (dec_lt b (word_at img 2 + 2)) (dec_lt 0 (held img b))
        where
          by : Dec (b < word_at img 2 + 2) → Dec (0 < held img b) → FreeBlock img b
          by (yes own) other = absurd (one_not (inl own) is)
          by (no above) (yes some) = absurd (one_not (inr some) is)
          by (no above) (no none) = record { body = omega (arith, above, mapped_system form); below = below; nobody = omega (arith, none) }

-- of any image, consistent or not: where `HasMap` is asked, the image is of form 2
pub map_form : (img : List ℕ) → HasMap (geometry_of img) ↔ (word_at img 0 ≡ 2)
unfolding geometry_of bodies_of
map_form img = (λ there. by there (ℕ_discrete (word_at img 0) 2), λ is. rw (eq-eqb (word_at img 0) 2 is) (omega arith))
  where
    by : word_at img 2 + 1 < word_at img 2 + cond (eqb (word_at img 0) 2) 2 1 → Dec (word_at img 0 ≡ 2) → word_at img 0 ≡ 2
    by less (yes is) = is
    by less (no other) = absurd (omega (arith, less, ap (λ (t : Bool). word_at img 2 + cond t 2 1) (ne_eqb (word_at img 0) 2 other)))
