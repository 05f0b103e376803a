-- A formatted image is an empty pack: it is consistent, every block before the bodies is the system's and alone marked on the map, every body is free and
-- holds what it held.
use Prim.Native.Nat.{ℕ, ◌+◌, ◌*◌, ◌-◌, ◌≤◌, ◌<◌}
use mathlib.Core.Path.{◌≡◌, sym, ap, subst, ◌∙◌}
use mathlib.Core.Bool.{true}
use mathlib.Core.List.{List}
use mathlib.Core.Logic.{inl}
use native.Mathlib.Omega.{arith}
use lib.ListN.{length, drop}
use borrow.Author.Tests.{lt-ltb, le-ltb}
use Rattle.words.specs.Word.{word_at}
use Rattle.pack.specs.declared.Geometry.{Geometry}
use Rattle.pack.specs.declared.Owner.TheVariants.{System, Free}
use Rattle.pack.specs.Form.{segments_of, bodies_of}
use Rattle.pack.specs.Geometry.{geometry_of, slots}
use Rattle.pack.specs.Header.{RightHeader}
use Rattle.pack.specs.HeaderTest.{distinct, zeros, header_test}
use Rattle.pack.specs.Entry.{entry_word, blocks_at, Empty}
use Rattle.pack.specs.File.{one, count}
use Rattle.pack.specs.Map.{HasMap, map_bits, map_bit}
use Rattle.pack.specs.Consistent.{held_in, held, MapAgrees, Consistent}
use Rattle.pack.specs.MapSays.{MapSays, marking}
use Rattle.pack.specs.Owner.{owner_of, FreeBlock}
use Rattle.answers.proofs.RefusalsTests.{and_both}
use Rattle.pack.proofs.HeaderTestWhole.{header_is}
use Rattle.pack.proofs.HeaderTestWords.{is_distinct, zeros_all}
use Rattle.pack.proofs.ConsistentTotal.{total_same, total_each}
use Rattle.pack.proofs.ConsistentHeld.{map_iff}
use Rattle.pack.proofs.MapSays.{says_same}
use Rattle.frame.proofs.FramedStays.{held_at}
use Rattle.owners.proofs.EntryBlocks.{empty_reaches}
use Rattle.owners.proofs.OneOwner.{owner_free, owner_system}
use Rattle.pack.proofs.HeaderTestMeasures.{is_measured}
use Rattle.creation.specs.FormatRows.{format_test}
use Rattle.creation.specs.Formattable.{uics_in, Formattable}
use Rattle.creation.specs.Format.{system_bytes, measures_of, formatted}
use Rattle.creation.proofs.FormatMeasures.{uics_whole, header_room}
use Rattle.creation.proofs.FormatBytes.{formatted_length, formatted_bodies, word_form, word_blocks, word_contents, word_count, word_uic, word_rest, formatted_map}
use Rattle.creation.proofs.FormatRows.{test_formattable}

-- an image without a file reaches no block
no_file : (img : List ℕ) (g : Geometry) → ((e : ℕ) → e < slots g → Empty img g e) → (b : ℕ) → held_in img g b ≡ 0
no_file img g empty b =
    total_same (λ e. count b (blocks_at img g e)) (λ e. 0) 0 (slots g) (λ e low high. empty_reaches img g b e (empty e (omega arith)))
    ∙ (total_each 0 0 (slots g) ∙ omega arith)

module _ (image : List ℕ) (form blocks contents : ℕ) (uics : List ℕ) where
  abbrev result : List ℕ
  result = formatted image form blocks contents uics

  -- the measures that Format was asked for
  abbrev measures : Geometry
  measures = measures_of form blocks contents

  module _ (holds : format_test (length image) form blocks contents uics ≡ true) where
    formattable : Formattable (length image) form blocks contents uics
    formattable = test_formattable (length image) form blocks contents uics holds

    pub format_geometry : geometry_of (formatted image form blocks contents uics) ≡ measures_of form blocks contents
    unfolding geometry_of
    format_geometry =
        rw (
          word_form image form blocks contents uics formattable,
          word_blocks image form blocks contents uics formattable,
          word_contents image form blocks contents uics formattable,
        )

    uics_distinct : distinct result 4 (uics_in uics) ≡ true
    uics_distinct =
        is_distinct result 4 (uics_in uics) (record {
          some = λ w low high is. formattable.distinct.some (w - 4) (omega arith) (omega arith) (sym (uic w low high) ∙ is);
          apart = λ v w low less high same.
              formattable.distinct.apart (v - 4) (w - 4) (omega arith) (omega arith) (omega arith) (sym (uic v low (omega arith)) ∙ (same ∙ uic w (omega arith) high));
        })
      where
        uic : (w : ℕ) → 4 ≤ w → w < 4 + uics_in uics → word_at result w ≡ word_at uics (w - 4)
        uic w low high =
            let place : w ≡ 4 + (w - 4) = omega arith in
            ap (word_at result) place ∙ word_uic image form blocks contents uics formattable (w - 4) (omega arith)

    rest_zero : zeros result (4 + uics_in uics) (64 * segments_of form - (4 + uics_in uics)) ≡ true
    rest_zero =
        zeros_all result (4 + uics_in uics) (64 * segments_of form - (4 + uics_in uics))
        (λ w low high. word_rest image form blocks contents uics formattable w low
        (omega (arith, header_room formattable, uics_whole formattable)))

    header_right : RightHeader result
    unfolding header_test geometry_of
    header_right =
        header_is result
        (rw (
          formatted_length image form blocks contents uics formattable,
          word_form image form blocks contents uics formattable,
          word_blocks image form blocks contents uics formattable,
          word_contents image form blocks contents uics formattable,
          word_count image form blocks contents uics formattable,
        )
        (and_both (is_measured (length image) form blocks contents (uics_in uics) formattable.measured) (and_both uics_distinct rest_zero)))

    entry_empty : (e : ℕ) → e < slots measures → Empty result measures e
    unfolding entry_word
    entry_empty e inside =
        record {
          zero = λ i small. word_rest image form blocks contents uics formattable (64 * segments_of form + 16 * e + i)
              (omega (arith, header_room formattable, uics_whole formattable)) (omega (arith, inside, small));
        }

    all_empty : (e : ℕ) → e < slots (geometry_of result) → Empty result (geometry_of result) e
    all_empty = subst (λ (g : Geometry). (e : ℕ) → e < slots g → Empty result g e) (sym format_geometry) entry_empty

    none_held : (b : ℕ) → held_in result measures b ≡ 0
    none_held = no_file result measures entry_empty

    unheld : (b : ℕ) → held result b ≡ 0
    unheld b = held_at result measures b (sym format_geometry) ∙ none_held b

    -- a bit for each block of the system, and for no other
    marked : MapSays result measures (marking result measures)
    unfolding marking
    marked = says_same (formatted_map image form blocks contents uics formattable) (λ b. omega (arith, none_held b))

    agrees : MapAgrees result measures
    agrees = (map_iff result measures (λ e inside. inl (entry_empty e inside)) (λ b. omega (arith, none_held b))).1 marked

    pub format_consistent : Consistent (formatted image form blocks contents uics)
    format_consistent =
        record {
          header = header_right;
          entries = λ e inside. inl (all_empty e inside);
          differ = λ e f order inside used same. used (all_empty e (omega arith));
          once = λ b. omega (arith, unheld b);
          map = subst (MapAgrees result) (sym format_geometry) agrees;
        }

    -- 02 §7: "1 if system or held, 0 otherwise and for b from n up"
    pub format_map : HasMap (measures_of form blocks contents) → (b : ℕ) → b < map_bits (measures_of form blocks contents)
        → (b < bodies_of form contents → map_bit (formatted image form blocks contents uics) (measures_of form blocks contents) b ≡ 1)
        × (bodies_of form contents ≤ b → map_bit (formatted image form blocks contents uics) (measures_of form blocks contents) b ≡ 0)
    format_map there b within =
        let bit = (formatted_map image form blocks contents uics formattable).is there b within in
        (λ own. bit ∙ ap one (lt-ltb b (bodies_of form contents) own), λ from. bit ∙ ap one (le-ltb b (bodies_of form contents) from))

    pub format_free : (b : ℕ) → bodies_of form contents ≤ b → b < blocks
        → FreeBlock (formatted image form blocks contents uics) b × (owner_of (formatted image form blocks contents uics) b ≡ Free)
    format_free b low high =
        let body : (geometry_of result).bodies.0 ≤ b = rw format_geometry low in
        (record { body = body; below = rw format_geometry high; nobody = unheld b }, (owner_free format_consistent b).1 (body, unheld b))

    pub format_system : (b : ℕ) → b < bodies_of form contents → owner_of (formatted image form blocks contents uics) b ≡ System
    format_system b below = (owner_system format_consistent b).1 (rw format_geometry below)

    -- "bodies untouched": the bytes from the first body on
    pub format_bodies : drop (system_bytes form contents) (formatted image form blocks contents uics) ≡ drop (system_bytes form contents) image
    format_bodies = formatted_bodies image form blocks contents uics formattable
