-- Bytes gathered on their way into a file, and the full blocks added: what that counts on, what it leaves, and that bytes behind bytes are one.
use Prim.Native.Nat.{ℕ, ◌+◌, ◌<◌}
use mathlib.Core.Path.{◌≡◌, refl, sym, ap, ◌∙◌}
use mathlib.Core.Bool.{false}
use mathlib.Core.List.{List, [], ◌∷◌, ◌++◌, append_assoc, flatten}
use native.Mathlib.Nat.{zero-add}
use native.Mathlib.Omega.{arith}
use lib.ListN.{length, take, length-append}
use Rattle.answers.specs.Refusals.{first_of}
use Rattle.pack.specs.declared.Geometry.{Geometry}
use Rattle.pack.specs.declared.Key.{Key}
use Rattle.pack.specs.Geometry.{geometry_of, payload_bytes}
use Rattle.pack.specs.Entry.{entry_of}
use Rattle.asking.specs.Asked.{entry_no, file_of}
use Rattle.adding.specs.LinkedAddRows.{linked_add_rows}
use Rattle.adding.specs.LinkedAdd.{linked_add}
use Rattle.adding.proofs.LinkedAddStage.{linked_add_clear, clear_add}
use Rattle.adding.proofs.LinkedAddAgain.{again_clear}
use Rattle.stream.specs.Gather.{Gathered, gather_all, gathered}
use Rattle.stream.specs.AddedAll.{added_all, EachAdded}
use Rattle.stream.specs.AddedAll.EachAdded.{none, also}
use Rattle.stream.proofs.Gather.{gathered_holds, gathered_bytes}
use Rattle.stream.proofs.GatherCompose.{gather_compose}
use Rattle.stream.proofs.AddedAll.{added_accepted, added_append, added_measures, added_number, added_words, added_payloads}
use Rattle.promises.specs.BytesAgain.{payloads_in}

module _ (key : Key) (caller : ℕ) where
  each_append : (img : List ℕ) (s t : List (List ℕ)) → EachAdded key caller img s → EachAdded key caller (added_all img key caller s) t → EachAdded key caller img (s ++ t)
  unfolding added_all
  each_append img [] t none rest = rest
  each_append img (payload ∷ s) t (also success more) rest = also success (each_append (linked_add img key caller payload).image s t more rest)

  -- the blocks that are needed behind those added are free still
  added_clear : (img : List ℕ) (payloads : List (List ℕ)) (more : ℕ) → EachAdded key caller img payloads
      → first_of (linked_add_rows img key caller false (length payloads + more)) ≡ 0 → first_of (linked_add_rows (added_all img key caller payloads) key caller false more) ≡ 0
  unfolding added_all
  added_clear img [] more none passed = ap (λ (n : ℕ). first_of (linked_add_rows img key caller false n)) (sym (zero-add more)) ∙ passed
  added_clear img (payload ∷ rest) more (also success each) passed =
      let one_fewer : length rest + more + 1 ≡ length (payload ∷ rest) + more = omega arith in
      added_clear (linked_add img key caller payload).image rest more each
      (again_clear img key caller payload success (length rest + more) (ap (λ (n : ℕ). first_of (linked_add_rows img key caller false n)) one_fewer ∙ passed))

-- the blocks that become full in two parts
needed : (size : ℕ) (gather : List ℕ) (filled : ℕ) (s t : List ℕ)
    → length (gathered size gather filled (s ++ t)).full
    ≡ length (gathered size gather filled s).full
    + length (gathered size (gathered size gather filled s).buffer (gathered size gather filled s).filled t).full
needed size gather filled s t =
    let one = gathered size gather filled s in
    ap (λ (h : Gathered). length h.full) (gather_compose size gather filled s t) ∙ length-append one.full (gathered size one.buffer one.filled t).full

-- nothing speaks against bytes that are gathered: the file is open for adding, and as many blocks are free as become full
pub record Clear (key : Key) (caller : ℕ) (g : Geometry) (img gather : List ℕ) (filled : ℕ) (bytes : List ℕ) : Type 0 where
  pub measures : geometry_of img ≡ g
  pub rows : first_of (linked_add_rows img key caller false (length (gathered (payload_bytes g) gather filled bytes).full)) ≡ 0
  pub whole : length gather ≡ payload_bytes g
  pub room : filled < payload_bytes g

-- the bytes gathered, and the full blocks added, none of them refused
pub record BytesAdded (key : Key) (caller : ℕ) (g : Geometry) (img gather : List ℕ) (filled : ℕ) (bytes img' gather' : List ℕ) (filled' : ℕ) : Type 0 where
  pub each : EachAdded key caller img (gathered (payload_bytes g) gather filled bytes).full
  pub image : img' ≡ added_all img key caller (gathered (payload_bytes g) gather filled bytes).full
  pub buffer : gather' ≡ (gathered (payload_bytes g) gather filled bytes).buffer
  pub next : filled' ≡ (gathered (payload_bytes g) gather filled bytes).filled

pub laid_measures : {key : Key} {caller : ℕ} {g : Geometry} {img gather bytes img₁ gather₁ : List ℕ} {filled filled₁ : ℕ}
    → BytesAdded key caller g img gather filled bytes img₁ gather₁ filled₁ → geometry_of img ≡ g → geometry_of img₁ ≡ g
laid_measures {key} {caller} {g} {img} {gather} {bytes} {img₁} {gather₁} {filled} l measures =
    rw l.image (added_measures key caller img (gathered (payload_bytes g) gather filled bytes).full l.each ∙ measures)

module _ {key : Key} {caller : ℕ} {g : Geometry} {img gather : List ℕ} {filled : ℕ} where
  pub clear_each : {bytes : List ℕ} → Clear key caller g img gather filled bytes → EachAdded key caller img (gathered (payload_bytes g) gather filled bytes).full
  clear_each {bytes} c =
      added_accepted key caller img (gathered (payload_bytes g) gather filled bytes).full c.rows
      (rw c.measures (gathered_holds (payload_bytes g) gather filled c.room c.whole bytes).whole)

  pub laid_nothing : BytesAdded key caller g img gather filled [] img gather filled
  unfolding gather_all added_all
  laid_nothing = record { each = none; image = refl; buffer = refl; next = refl }

  -- in two parts
  module _ (s t : List ℕ) where
    pub clear_front : Clear key caller g img gather filled (s ++ t) → Clear key caller g img gather filled s
    clear_front c =
        let r = linked_add_clear img key caller false _ c.rows in
        record {
          measures = c.measures;
          rows = clear_add img key caller false _ r.0 (omega (arith, r.1, needed (payload_bytes g) gather filled s t));
          whole = c.whole;
          room = c.room;
        }

    module _ {img₁ gather₁ : List ℕ} {filled₁ : ℕ} (l : BytesAdded key caller g img gather filled s img₁ gather₁ filled₁) where
      pub clear_behind : Clear key caller g img gather filled (s ++ t) → Clear key caller g img₁ gather₁ filled₁ t
      clear_behind c =
          let at = gathered_holds (payload_bytes g) gather filled c.room c.whole s in
          record {
            measures = laid_measures l c.measures;
            rows = rw (l.image, l.buffer, l.next) (added_clear key caller img (gathered (payload_bytes g) gather filled s).full _ l.each
                (ap (λ (n : ℕ). first_of (linked_add_rows img key caller false n)) (sym (needed (payload_bytes g) gather filled s t)) ∙ c.rows));
            whole = rw l.buffer at.long;
            room = rw l.next at.room;
          }

      pub laid_compose : {img₂ gather₂ : List ℕ} {filled₂ : ℕ} → BytesAdded key caller g img₁ gather₁ filled₁ t img₂ gather₂ filled₂
          → BytesAdded key caller g img gather filled (s ++ t) img₂ gather₂ filled₂
      laid_compose m =
          let both = gather_compose (payload_bytes g) gather filled s t in
          let more = rw (l.image, l.buffer, l.next) at m.each in
          let image = rw (l.image, l.buffer, l.next) at m.image in
          let buffer = rw (l.buffer, l.next) at m.buffer in
          let next = rw (l.buffer, l.next) at m.next in
          record {
            each = rw both (each_append key caller img (gathered (payload_bytes g) gather filled s).full _ l.each more);
            image = image ∙ sym (added_append key caller img (gathered (payload_bytes g) gather filled s).full _) ∙ rw both;
            buffer = buffer ∙ rw both;
            next = next ∙ rw both;
          }

-- the payloads of the file afterwards: those before, then what the buffer held, and the bytes
module _ {key : Key} {caller : ℕ} {g : Geometry} {img gather bytes img₁ gather₁ : List ℕ} {filled filled₁ : ℕ}
    (l : BytesAdded key caller g img gather filled bytes img₁ gather₁ filled₁) (measures : geometry_of img ≡ g) where
  pub laid_payloads : filled < payload_bytes g → length gather ≡ payload_bytes g
      → payloads_in img₁ key ++ take filled₁ gather₁ ≡ payloads_in img key ++ (take filled gather ++ bytes)
  unfolding file_of
  laid_payloads room whole =
      let full = (gathered (payload_bytes g) gather filled bytes).full in
      let added : payloads_in img₁ key ≡ payloads_in img key ++ flatten full =
      rw (laid_measures l measures, measures, l.image, added_number key caller img full l.each) (added_payloads key caller g (entry_no img key) img full l.each measures refl) in
      ap (λ (s : List ℕ). s ++ take filled₁ gather₁) added
      ∙ append_assoc (payloads_in img key) (flatten full) (take filled₁ gather₁)
      ∙ ap (λ (s : List ℕ). payloads_in img key ++ s) (rw (l.buffer, l.next) (gathered_bytes (payload_bytes g) gather filled room whole bytes))

  pub laid_writer : (file_of img₁ key).writer ≡ (file_of img key).writer
  unfolding file_of entry_of
  laid_writer =
      let full = (gathered (payload_bytes g) gather filled bytes).full in
      rw (laid_measures l measures, measures, l.image, added_number key caller img full l.each)
      (added_words key caller g (entry_no img key) img full l.each measures refl 9 (omega arith) (λ is. omega (arith, is)) (λ is. omega (arith, is)) (λ is. omega (arith, is)))
