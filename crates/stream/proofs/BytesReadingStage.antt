-- The stage of a request that reads bytes: its place in the table, what it comes to in each case, and the bytes that stand behind the position.
use Prim.Native.Nat.{ℕ, ◌*◌, ◌-◌, ◌≤◌, ◌<◌}
use mathlib.Core.Path.{◌≡◌, refl, sym, ap, ◌∙◌}
use mathlib.Core.Bool.{Bool, true}
use mathlib.Core.List.{List, [], ◌∷◌}
use native.Mathlib.Nat.{mul-le-mul}
use native.Mathlib.Omega.{arith}
use lib.Dec.{eqb, ltb}
use lib.ListN.{length, drop, length-drop}
use borrow.Author.Tests.{lt-ltb, le-ltb, ltb-false}
use Rattle.answers.specs.Refusals.{row, first_of, table_order, in_order}
use Rattle.answers.proofs.Refusals.{refuse, pass, clear, none_given}
use Rattle.pack.specs.declared.Geometry.{Geometry}
use Rattle.pack.specs.declared.Entry.{Entry}
use Rattle.pack.specs.declared.Key.{Key}
use Rattle.pack.specs.Geometry.{geometry_of, segment_bytes, payload_bytes}
use Rattle.pack.specs.GeometrySized.{most_segments, Sized}
use Rattle.pack.specs.File.{blocks_of, count}
use Rattle.asking.specs.declared.Right.TheVariants.{Read}
use Rattle.asking.specs.AskedStage.{Refused}
use Rattle.asking.specs.Outcome.{Outcome, zeroed, settled}
use Rattle.asking.specs.AskedStage.{file_rows}
use Rattle.asking.specs.Asked.{entry_no, file_of}
use Rattle.asking.specs.Access.{access_rows}
use Rattle.asking.specs.AccessStage.{accessed_of}
use Rattle.asking.proofs.AccessStage.{Reached, reached_clear, outcome_unreached, outcome_stopped, outcome_passed}
use Rattle.bodies.specs.Payloads.{payloads_of}
use Rattle.stream.specs.Spot.{most_bytes}
use Rattle.stream.specs.BytesReading.{bytes_behind}
use Rattle.stream.specs.BytesReadingRows.{reading_rows}
use Rattle.stream.proofs.SpotSteps.{linked_length}
use Rattle.stream.proofs.SpotAsked.{asked_counted, asked_locate}

-- "44 for a position beyond the payloads", of a file that was found
module _ {g h : Geometry} (measures : h ≡ g) {x y : Entry} (own : x ≡ y) where
  same_size : y.length * payload_bytes h ≡ x.length * payload_bytes g
  same_size = rw (own, measures)

  position_beyond : (position : ℕ) → x.length * payload_bytes g < position → first_of (row (ltb (y.length * payload_bytes h) position) 0o44 ∷ []) ≡ 0o44
  position_beyond position over = refuse [] (lt-ltb (y.length * payload_bytes h) position (omega (arith, same_size)))

  position_within : (position : ℕ) → position ≤ x.length * payload_bytes g → first_of (row (ltb (y.length * payload_bytes h) position) 0o44 ∷ []) ≡ 0
  position_within position inside = pass 0o44 [] (le-ltb (y.length * payload_bytes h) position (omega (arith, same_size))) ∙ clear

within_position : (size position : ℕ) → first_of (row (ltb size position) 0o44 ∷ []) ≡ 0 → position ≤ size
within_position size position none = ltb-false size position (none_given (ltb size position) 0o44 [] (λ is. omega (arith, is)) none).0

module _ (img : List ℕ) (key : Key) (caller : ℕ) (wrong : Bool) (position : ℕ) where
  -- 40, 15, 41, 2, 6, 43, 45 and 44 stand in the order of the table
  pub reading_ordered : in_order table_order 0 (reading_rows img key caller wrong position) ≡ true
  unfolding file_rows access_rows
  reading_ordered = refl

  -- where no row is given, the file is there and open as needed, and the position is not beyond its payloads
  pub reading_clear : first_of (reading_rows img key caller wrong position) ≡ 0
      → Reached img key wrong caller Read 1 (λ y. eqb y.readers 0) (geometry_of img) (entry_no img key) (file_of img key)
      × (position ≤ (file_of img key).length * payload_bytes (geometry_of img))
  reading_clear none =
      let r = reached_clear img key wrong caller Read 1 (λ y. eqb y.readers 0) _ none in
      (r.0, within_position _ position r.1)

  -- what the stage refused, the request refuses
  pub reading_unasked : (buffer : List ℕ) (effect : Outcome) {code : ℕ} → accessed_of img key wrong caller Read 1 (λ x. eqb x.readers 0) ≡ Refused code
      → settled (reading_rows img key caller wrong position) img buffer effect
      ≡ record { code = code; numbers = zeroed effect.numbers; image = img; buffer = buffer }
  reading_unasked buffer effect told = outcome_unreached img key wrong caller Read 1 (λ x. eqb x.readers 0) _ buffer effect told

-- a file that passed the stage
module _ {img : List ℕ} {key : Key} {wrong : Bool} {caller : ℕ} {g : Geometry} {e : ℕ} {x : Entry}
    (reached : Reached img key wrong caller Read 1 (λ y. eqb y.readers 0) g e x) where
  -- what `bytes_in` asks: no file has more bytes than can be counted
  pub reading_counted : (0 < g.segments.0) × (g.segments.0 ≤ most_segments) × (x.length < 65536)
  reading_counted = asked_counted reached.file

  pub few_bytes : x.length * payload_bytes g ≤ most_bytes
  few_bytes =
      let few : x.length ≤ 65536 = omega (arith, reading_counted) in
      let small : payload_bytes g ≤ segment_bytes most_segments = omega (arith, reading_counted) in
      mul-le-mul few small

  module _ (position : ℕ) where
    -- the bytes behind the position, by the measures and the entry that the code has
    bytes_read : drop position (payloads_of img g (blocks_of img g x)) ≡ bytes_behind img key position
    bytes_read =
        ap (λ (h : Geometry). drop position (payloads_of img h (blocks_of img h x))) (sym reached.file.measures)
        ∙ ap (λ (y : Entry). drop position (payloads_of img (geometry_of img) (blocks_of img (geometry_of img) y))) reached.entry

    pub bytes_left : length (bytes_behind img key position) ≡ x.length * payload_bytes g - position
    bytes_left =
        let located = asked_locate reached.file reached.access.kind 0 (omega arith) in
        ap length (sym bytes_read)
        ∙ length-drop position (payloads_of img g (blocks_of img g x))
        ∙ ap (λ (n : ℕ). n - position) (linked_length x located.0 located.1.0)

    pub reading_beyond : x.length * payload_bytes g < position → (buffer : List ℕ) (effect : Outcome)
        → settled (reading_rows img key caller wrong position) img buffer effect
        ≡ record { code = 0o44; numbers = zeroed effect.numbers; image = img; buffer = buffer }
    reading_beyond over buffer effect =
        outcome_stopped img key wrong caller Read 1 (λ y. eqb y.readers 0) _ buffer effect reached
        (position_beyond reached.file.measures reached.entry position over) (λ zero. omega (arith, zero))

    module _ (inside : position ≤ x.length * payload_bytes g) where
      pub reading_given : (buffer : List ℕ) (effect : Outcome)
          → settled (reading_rows img key caller wrong position) img buffer effect
          ≡ record { code = 0; numbers = effect.numbers; image = effect.image; buffer = effect.buffer }
      reading_given buffer effect =
          outcome_passed img key wrong caller Read 1 (λ y. eqb y.readers 0) _ buffer effect reached
          (position_within reached.file.measures reached.entry position inside)

      -- what `locate` asks
      pub reading_located : Sized img g
          × (((z : ℕ) → 0 < count z (blocks_of img g x) → z < g.blocks)
          × ((x.kind ≡ 2) × (position ≤ x.length * payload_bytes g)))
      reading_located = asked_locate reached.file reached.access.kind position inside

    -- what is still to be read from there on
    module _ (here : List ℕ) (stands : here ≡ drop position (payloads_of img g (blocks_of img g x))) where
      pub bytes_here : here ≡ bytes_behind img key position
      bytes_here = stands ∙ bytes_read

      pub bytes_few : length (here) ≤ most_bytes
      bytes_few = omega (arith, ap (λ (s : List ℕ). length s) bytes_here, bytes_left, few_bytes)
