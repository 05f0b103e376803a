-- Bytes laid one after another: what a byte asks for is there, what is left comes to the same, and where nothing is left all is done.
use Prim.Native.Nat.{ℕ, ◌+◌, ◌≤◌, ◌<◌}
use mathlib.Core.Path.{◌≡◌, refl, sym, ap, subst, ◌∙◌}
use mathlib.Core.Bool.{Bool, false}
use mathlib.Core.List.{List, [], ◌∷◌}
use native.Mathlib.Omega.{arith}
use lib.ListN.{length, set, length-set}
use Rattle.answers.specs.Refusals.{first_of}
use Rattle.pack.specs.declared.Geometry.{Geometry}
use Rattle.pack.specs.declared.BlockNo.{BlockNo}
use Rattle.pack.specs.declared.Entry.{Entry}
use Rattle.pack.specs.declared.Key.{Key}
use Rattle.pack.specs.Geometry.{payload_bytes}
use Rattle.pack.specs.Entry.{entry_of}
use Rattle.consistency.specs.Mapped.{Mapped, MappedIf}
use Rattle.consistency.proofs.ConsistentTestIff.{consistent_iff}
use Rattle.asking.specs.Asked.{file_of}
use Rattle.asking.proofs.AskedStage.{Given}
use Rattle.room.specs.RoomMap.{Says, NoneFrom}
use Rattle.room.proofs.RoomMapRun.{none_above}
use Rattle.adding.specs.LinkedAddRows.{linked_add_rows}
use Rattle.adding.specs.LinkedAdd.{added_block, enlarged_by, linked_add}
use Rattle.adding.specs.LinkedAddStage.{Ready}
use Rattle.adding.proofs.LinkedAddStage.{Admitted, admitted, linked_add_clear}
use Rattle.adding.proofs.LinkedAddEffect.{linked_add_image}
use Rattle.adding.proofs.LinkedAddAgain.{again_accepted, again_measures, again_number, again_clear}
use Rattle.stream.specs.declared.Filling.{Filling}
use Rattle.stream.specs.Gather.{Gathered, gather_all, gathered}
use Rattle.stream.specs.AddedAll.{added_all}
use Rattle.stream.specs.Filling.{Layable, LaidByte, Writing, Written, written}
use Rattle.stream.specs.Filling.LaidByte.{within, full}
use Rattle.stream.proofs.GatherCompose.{behind, gathered_within, gathered_full}

-- the stage of adding gave the file, with room for as many blocks as will be full
pub writing_start : {img map gather : List ℕ} {key : Key} {caller : ℕ} {g : Geometry} {e : ℕ} {x : Entry} (wrong : Bool) (needed filled : ℕ) (bytes : List ℕ)
    → Given (linked_add_rows img key caller wrong needed) img key g e x → needed ≡ length (gathered (payload_bytes g) gather filled bytes).full
    → filled < payload_bytes g → length gather ≡ payload_bytes g → MappedIf map img
    → Writing key caller img map g e gather (record { filled = filled; from = record { 0 = g.blocks } }) bytes
writing_start {img} {map} {gather} {key} {caller} {g} wrong needed filled bytes given counted room whole mapped =
    let r = (linked_add_clear img key caller wrong needed given.clear).0 in
    let held_on : Mapped map img = mapped ((consistent_iff img).1 r.file.right) in
    record {
      clear =
          ap (λ (n : ℕ). first_of (linked_add_rows img key caller false n)) (sym counted)
          ∙ ap (λ (w : Bool). first_of (linked_add_rows img key caller w needed)) (sym r.file.argument) ∙ given.clear;
      measures = given.measures;
      number = given.number;
      room = room;
      whole = whole;
      long = omega (arith, held_on.enough, ap (λ (h : Geometry). h.blocks) given.measures);
      says = held_on.says;
      above = none_above;
    }

pub written_end : (key : Key) (caller size : ℕ) (img gather : List ℕ) (filled : ℕ)
    → written key caller size img gather filled [] ≡ record { image = img; buffer = gather; filled = filled }
unfolding written gather_all added_all
written_end key caller size img gather filled = refl

-- one byte: whether the buffer has room behind it
module _ {img map : List ℕ} {g : Geometry} {e : ℕ} {gather : List ℕ} {at : Filling} {byte : ℕ} (layable : Layable img map g e gather at byte) where
  pub laid_within : at.filled + 1 < length (set gather at.filled byte)
      → LaidByte img map g e at (set gather at.filled byte) img map (record { filled = at.filled + 1; from = at.from })
  laid_within short = within (λ is. omega arith)

  module _ (end : length (set gather at.filled byte) ≤ at.filled + 1) where
    pub laid_full : {img' map' : List ℕ} {b : BlockNo} → b.0 ≡ added_block img
        → img' ≡ enlarged_by img g e (entry_of img g e) (added_block img) (set gather at.filled byte) → length map' ≡ length map → Says map' img'
        → NoneFrom map' g b.0 → LaidByte img map g e at (set gather at.filled byte) img' map' (record { filled = 0; from = b })
    laid_full block image long says above = full (omega (arith, layable.room, length-set gather at.filled byte)) block image long says above

module _ {key : Key} {caller : ℕ} {img map : List ℕ} {g : Geometry} {e : ℕ} {gather : List ℕ} {at : Filling} {byte : ℕ} {rest : List ℕ}
    (writing : Writing key caller img map g e gather at (byte ∷ rest)) where
  long_laid : length (set gather at.filled byte) ≡ payload_bytes g
  long_laid = length-set gather at.filled byte ∙ writing.whole

  -- the byte fills the buffer: one of the blocks that are free is for it
  module _ (is : at.filled + 1 ≡ length gather) where
    abbrev due : Gathered
    due = gathered (payload_bytes g) (set gather at.filled byte) 0 rest

    gathered_now : gathered (payload_bytes g) gather at.filled (byte ∷ rest) ≡ behind (set gather at.filled byte ∷ []) due
    gathered_now = gathered_full (payload_bytes g) gather at.filled byte rest (is ∙ writing.whole)

    clear_now : first_of (linked_add_rows img key caller false (length due.full + 1)) ≡ 0
    clear_now =
        let counted : length due.full + 1 ≡ length (gathered (payload_bytes g) gather at.filled (byte ∷ rest)).full =
        omega (arith, ap (λ (h : Gathered). length h.full) gathered_now) in
        ap (λ (n : ℕ). first_of (linked_add_rows img key caller false n)) counted ∙ writing.clear

    ready_now : Ready img map g e (set gather at.filled byte)
    unfolding file_of
    ready_now =
        let a : Admitted img key false = admitted img key caller false (length due.full + 1) (omega arith) clear_now in
        record {
          right = a.file.right;
          measures = writing.measures;
          entry = rw (← writing.measures, ← writing.number) a.file.inside;
          linked = rw (← writing.measures, ← writing.number) a.linked;
          whole = long_laid;
          free = a.more;
          long = writing.long;
          says = writing.says;
        }

    success : (linked_add img key caller (set gather at.filled byte)).code ≡ 0
    success =
        again_accepted img key caller (set gather at.filled byte) (length due.full + 1) (omega arith) clear_now
        (long_laid ∙ ap payload_bytes (sym writing.measures))

    image_now : enlarged_by img g e (entry_of img g e) (added_block img) (set gather at.filled byte) ≡ (linked_add img key caller (set gather at.filled byte)).image
    image_now = rw (← writing.measures, ← writing.number) (sym (linked_add_image img key caller (set gather at.filled byte) success))

  pub writing_layable : Layable img map g e gather at byte
  writing_layable = record { room = omega (arith, writing.room, writing.whole); ready = λ is. (ready_now is, writing.above) }

  abbrev came : List ℕ → Gathered → Written
  came start h = record { image = added_all start key caller h.full; buffer = h.buffer; filled = h.filled }

  next_within : (at.filled + 1 ≡ length gather → ⊥)
      → Writing key caller img map g e (set gather at.filled byte) (record { filled = at.filled + 1; from = at.from }) rest
      × (written key caller (payload_bytes g) img gather at.filled (byte ∷ rest)
      ≡ written key caller (payload_bytes g) img (set gather at.filled byte) (at.filled + 1) rest)
  unfolding written
  next_within other =
      let same = gathered_within (payload_bytes g) gather at.filled byte rest (λ is. other (is ∙ sym writing.whole)) in (
        record {
          clear = ap (λ (h : Gathered). first_of (linked_add_rows img key caller false (length h.full))) (sym same) ∙ writing.clear;
          measures = writing.measures;
          number = writing.number;
          room = omega (arith, writing.room, writing.whole, other);
          whole = long_laid;
          long = writing.long;
          says = writing.says;
          above = writing.above;
        },
        ap (came img) same,
      )

  next_full : (is : at.filled + 1 ≡ length gather) {map' : List ℕ} {b : BlockNo} → length map' ≡ length map
      → Says map' (linked_add img key caller (set gather at.filled byte)).image → NoneFrom map' g b.0
      → Writing key caller (linked_add img key caller (set gather at.filled byte)).image map' g e (set gather at.filled byte) (record { filled = 0; from = b }) rest
      × (written key caller (payload_bytes g) img gather at.filled (byte ∷ rest)
      ≡ written key caller (payload_bytes g) (linked_add img key caller (set gather at.filled byte)).image (set gather at.filled byte) 0 rest)
  unfolding written added_all
  next_full is long says above = (
    record {
      clear = again_clear img key caller (set gather at.filled byte) (success is) (length (due is).full) (clear_now is);
      measures = again_measures img key caller (set gather at.filled byte) (success is) ∙ writing.measures;
      number = again_number img key caller (set gather at.filled byte) (success is) ∙ writing.number;
      room = omega (arith, writing.room);
      whole = long_laid;
      long = subst (λ (n : ℕ). g.blocks ≤ n) (sym long) writing.long;
      says = says;
      above = above;
    },
    ap (came img) (gathered_now is),
  )

  -- what a byte laid leaves
  pub writing_next : {gather' img' map' : List ℕ} {r : Filling} → gather' ≡ set gather at.filled byte → LaidByte img map g e at gather' img' map' r
      → Writing key caller img' map' g e gather' r rest
      × (written key caller (payload_bytes g) img gather at.filled (byte ∷ rest) ≡ written key caller (payload_bytes g) img' gather' r.filled rest)
  writing_next laid (within other) = rw laid (next_within (λ is. other (is ∙ sym (ap length laid ∙ length-set gather at.filled byte))))
  writing_next {map'} laid (full {b} is block image long says above) =
      let filled : at.filled + 1 ≡ length gather = is ∙ ap length laid ∙ length-set gather at.filled byte in
      let now = image ∙ ap (enlarged_by img g e (entry_of img g e) (added_block img)) laid ∙ image_now filled in
      rw (laid, now) (next_full filled long (subst (Says map') now says) above)
