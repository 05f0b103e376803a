-- A formatted image byte by byte: its length, its words before the map and the bodies, the map, and the bodies as they were.
use Prim.Native.Nat.{ℕ, ◌+◌, ◌*◌, ◌-◌, ◌/◌, ◌%◌, ◌^◌, ◌≤◌, ◌<◌}
use mathlib.Core.Path.{◌≡◌, refl, sym, ap, ◌∙◌}
use mathlib.Core.List.{List, ◌++◌, append_assoc}
use native.Mathlib.Omega.{arith}
use native.Mathlib.Decide.{dec_lt}
use native.Mathlib.Nat.{zero-div}
use lib.Dec.{ltb}
use lib.ListN.{length, drop, replicate, length-append, length-drop, length-replicate}
use lib.Seq.{ext_get_or, get_or-drop, drop_at}
use borrow.Author.Tests.{lt-ltb, le-ltb}
use Rattle.words.specs.Word.{word_at, bytes_of}
use Rattle.words.proofs.WordSlices.{word_before, word_behind, word_cleared}
use Rattle.pack.specs.declared.Geometry.{Geometry}
use Rattle.pack.specs.GeometrySized.{Sized}
use Rattle.pack.specs.Form.{segments_of, bodies_of}
use Rattle.pack.specs.Geometry.{segment_bytes}
use Rattle.pack.specs.File.{one, count}
use Rattle.pack.specs.Map.{HasMap, map_at, map_bit}
use Rattle.pack.specs.MapSays.{MapSays}
use Rattle.pack.proofs.GeometryRoom.{block_room}
use Rattle.pack.proofs.MapSays.{says_set}
use Rattle.frame.specs.Framed.{ChangesOnly, InBlock}
use Rattle.frame.proofs.ChangesWritten.{word_kept}
use Rattle.frame.proofs.FramedMap.{changes_bits}
use Rattle.room.specs.Room.{run_from}
use Rattle.room.proofs.MapMarking.{run_has, run_inside}
use Rattle.creation.specs.Formattable.{uics_in, Formattable}
use Rattle.creation.specs.Format.{system_bytes, measures_of, empty_pack, formatted}
use Rattle.creation.proofs.FormatMeasures.{system_room, uics_whole, header_room, header_inside, measures_sized}

-- before anything is marked on the map
module _ (image : List ℕ) (form blocks contents : ℕ) (uics : List ℕ) where
  abbrev blank : List ℕ
  blank = empty_pack image form blocks contents uics

  -- the four words before the UICs
  abbrev header : List ℕ
  header = bytes_of form ++ (bytes_of blocks ++ (bytes_of contents ++ bytes_of (uics_in uics)))

  -- what stands behind the UICs
  abbrev cleared : List ℕ
  cleared = replicate (system_bytes form contents - (8 + length uics)) 0

  abbrev bodies : List ℕ
  bodies = drop (system_bytes form contents) image

  blank_form : word_at blank 0 ≡ form
  unfolding empty_pack word_at
  blank_form = omega arith

  blank_blocks : word_at blank 1 ≡ blocks
  unfolding empty_pack word_at
  blank_blocks = omega arith

  blank_contents : word_at blank 2 ≡ contents
  unfolding empty_pack word_at
  blank_contents = omega arith

  blank_count : word_at blank 3 ≡ uics_in uics
  unfolding empty_pack word_at
  blank_count = omega arith

  module _ (f : Formattable (length image) form blocks contents uics) where
    system_length : length (header ++ (uics ++ cleared)) ≡ system_bytes form contents
    system_length =
        omega (
          arith,
          length-append header (uics ++ cleared),
          length-append uics cleared,
          length-replicate {A = ℕ} (system_bytes form contents - (8 + length uics)) 0,
          header_inside f,
        )

    system_bodies : blank ≡ (header ++ (uics ++ cleared)) ++ bodies
    unfolding empty_pack
    system_bodies = sym (append_assoc header (uics ++ cleared) bodies ∙ ap (λ (l : List ℕ). header ++ l) (append_assoc uics cleared bodies))

    blank_length : length blank ≡ length image
    blank_length =
        ap length system_bodies ∙ length-append (header ++ (uics ++ cleared)) bodies
        ∙ omega (arith, system_length, length-drop (system_bytes form contents) image, system_room f)

    blank_bodies : drop (system_bytes form contents) blank ≡ drop (system_bytes form contents) image
    blank_bodies =
        ap (drop (system_bytes form contents)) system_bodies ∙ drop_at (header ++ (uics ++ cleared)) bodies (system_bytes form contents) system_length

    blank_uic : (i : ℕ) → i < uics_in uics → word_at blank (4 + i) ≡ word_at uics i
    unfolding empty_pack
    blank_uic i inside =
        word_behind header (uics ++ (cleared ++ bodies)) 4 i refl ∙ word_before uics (cleared ++ bodies) i (omega (arith, uics_whole f))

    blank_rest : (w : ℕ) → 4 + uics_in uics ≤ w → 2 * w < system_bytes form contents → word_at blank w ≡ 0
    unfolding empty_pack
    blank_rest w low high =
        let place : w ≡ 4 + (uics_in uics + (w - (4 + uics_in uics))) = omega arith in
        let inside : 2 * (w - (4 + uics_in uics)) + 1 < length cleared =
        omega (arith, uics_whole f, length-replicate {A = ℕ} (system_bytes form contents - (8 + length uics)) 0) in
        ap (word_at blank) place
        ∙ word_behind header (uics ++ (cleared ++ bodies)) 4 (uics_in uics + (w - (4 + uics_in uics))) refl
        ∙ word_behind uics (cleared ++ bodies) (uics_in uics) (w - (4 + uics_in uics)) (uics_whole f)
        ∙ word_before cleared bodies (w - (4 + uics_in uics)) inside
        ∙ word_cleared (system_bytes form contents - (8 + length uics)) (w - (4 + uics_in uics))

    -- no bit of the map is 1 yet
    blank_map : MapSays blank (measures_of form blocks contents) (λ b. 0)
    unfolding map_bit
    blank_map =
        record {
          is = λ there b within.
              ap (λ (word : ℕ). (word / 2 ^ (b % 16)) % 2)
              (blank_rest (map_at (measures_of form blocks contents) + b / 16) (omega (arith, header_room f, uics_whole f))
              (omega (arith, within, block_room (segments_of form) there)))
              ∙ ap (λ (n : ℕ). n % 2) (zero-div (2 ^ (b % 16)));
        }

-- and then
module _ (image : List ℕ) (form blocks contents : ℕ) (uics : List ℕ) (f : Formattable (length image) form blocks contents uics) where
  abbrev result : List ℕ
  result = formatted image form blocks contents uics

  abbrev before : List ℕ
  before = empty_pack image form blocks contents uics

  abbrev measures : Geometry
  measures = measures_of form blocks contents

  before_sized : Sized before measures
  before_sized = measures_sized f (blank_length image form blocks contents uics f)

  -- the blocks of the system are blocks of the pack
  system_below : (b : ℕ) → 0 < count b (run_from 0 (bodies_of form contents)) → b < blocks
  system_below b some = omega (arith, (run_inside 0 (bodies_of form contents) b some).1, f.measured.room)

  -- no word is marked but those of the map
  map_changes : ChangesOnly (λ w. HasMap measures × InBlock measures (contents + 1) w) before result
  unfolding formatted
  map_changes =
      changes_bits (run_from 0 (bodies_of form contents)) before measures 1
      (λ b some there. (there, (omega arith, omega (arith, system_below b some, before_sized.map))))

  pub formatted_length : length result ≡ length image
  formatted_length = map_changes.long ∙ blank_length image form blocks contents uics f

  -- "bodies untouched"
  pub formatted_bodies : drop (system_bytes form contents) result ≡ drop (system_bytes form contents) image
  formatted_bodies =
      ext_get_or 0 (drop (system_bytes form contents) result) (drop (system_bytes form contents) before)
      (omega (arith, length-drop (system_bytes form contents) result, length-drop (system_bytes form contents) before, map_changes.long))
      (λ i inside.
      get_or-drop (system_bytes form contents) result i 0
      ∙ (map_changes.bytes (system_bytes form contents + i) (λ on. omega (arith, on.1.1, block_room (segments_of form) on.0))
      ∙ sym (get_or-drop (system_bytes form contents) before i 0)))
      ∙ blank_bodies image form blocks contents uics f

  -- a word of block 0 or of the contents
  word_before_map : (w : ℕ) → 2 * w < (contents + 1) * segment_bytes (segments_of form) → word_at result w ≡ word_at before w
  word_before_map w inside = word_kept map_changes w (λ on. omega (arith, inside, on.1.0))

  word_header : (w : ℕ) → w < 4 + uics_in uics → word_at result w ≡ word_at before w
  word_header w inside = word_before_map w (omega (arith, header_room f, uics_whole f))

  pub word_form : word_at result 0 ≡ form
  word_form = word_header 0 (omega arith) ∙ blank_form image form blocks contents uics

  pub word_blocks : word_at result 1 ≡ blocks
  word_blocks = word_header 1 (omega arith) ∙ blank_blocks image form blocks contents uics

  pub word_contents : word_at result 2 ≡ contents
  word_contents = word_header 2 (omega arith) ∙ blank_contents image form blocks contents uics

  pub word_count : word_at result 3 ≡ uics_in uics
  word_count = word_header 3 (omega arith) ∙ blank_count image form blocks contents uics

  pub word_uic : (i : ℕ) → i < uics_in uics → word_at result (4 + i) ≡ word_at uics i
  word_uic i inside = word_header (4 + i) (omega arith) ∙ blank_uic image form blocks contents uics f i inside

  -- "the rest 0", and no entry in use
  pub word_rest : (w : ℕ) → 4 + uics_in uics ≤ w → 2 * w < (contents + 1) * segment_bytes (segments_of form) → word_at result w ≡ 0
  word_rest w low high =
      word_before_map w high
      ∙ blank_rest image form blocks contents uics f w low (omega (arith, high, block_room (segments_of form) before_sized.contents))

  -- "1 if system or held, 0 otherwise"
  pub formatted_map : MapSays result measures (λ b. one (ltb b (bodies_of form contents)))
  unfolding formatted
  formatted_map =
      says_set 1 (omega arith) before_sized (blank_map image form blocks contents uics f) (run_from 0 (bodies_of form contents)) system_below
      (λ b some. ap one (lt-ltb b (bodies_of form contents) (omega (arith, (run_inside 0 (bodies_of form contents) b some).1))))
      (λ b none. ap one (le-ltb b (bodies_of form contents) (above b none)))
    where
      above : (b : ℕ) → count b (run_from 0 (bodies_of form contents)) ≡ 0 → bodies_of form contents ≤ b
      above b none =
          elim (dec_lt b (bodies_of form contents)) [
            | yes own ↦ absurd (omega (arith, none, run_has 0 (bodies_of form contents) b (omega arith, omega (arith, own))))
            | no not ↦ omega (arith, not)
          ]
