-- What BLOCK output leaves: the bytes of its block and no others change, and with them no file but its own, and no owner; no block is taken or given up.
use Prim.Native.Nat.{ℕ, ◌+◌, ◌≤◌, ◌<◌}
use mathlib.Core.Path.{◌≡◌, refl, sym, ap, subst, ◌∙◌}
use mathlib.Core.Bool.{Bool, not}
use mathlib.Core.List.{List, [], ◌∷◌}
use mathlib.Core.Logic.{inl, inr}
use native.Mathlib.Omega.{arith}
use native.Mathlib.Decide.{ℕ_discrete}
use lib.Dec.{eqb, leb}
use lib.ListN.{length, get_or}
use Rattle.answers.specs.Refusals.{row, first_of}
use Rattle.pack.specs.declared.Geometry.{Geometry}
use Rattle.pack.specs.declared.Entry.{Entry}
use Rattle.pack.specs.declared.Key.{Key}
use Rattle.pack.specs.Geometry.{geometry_of, block_bytes, slots}
use Rattle.pack.specs.File.{count, blocks_of}
use Rattle.pack.specs.Entry.{entry_word, entry_of, blocks_at, Used}
use Rattle.pack.specs.Consistent.{Consistent}
use Rattle.pack.specs.Key.{key_in, SameKey}
use Rattle.pack.specs.Untouched.{Untouched}
use Rattle.pack.specs.Owner.{place_from, owner_of}
use Rattle.frame.specs.Framed.{Only, Never, Kept}
use Rattle.frame.specs.Framed.Within.{block}
use Rattle.frame.specs.Framing.{Framed}
use Rattle.frame.specs.Framing.Distinct.{known}
use Rattle.frame.specs.Described.{Described, Description}
use Rattle.frame.proofs.FramedStays.{geometry_framed, listed_framed}
use Rattle.frame.proofs.FramedCompose.{entry_kept, entries_kept}
use Rattle.frame.proofs.FramedHeld.{framed_one}
use Rattle.frame.proofs.Described.{next_extent, used_description, described_blocks, consistent_described}
use Rattle.frame.proofs.UntouchedFramed.{untouched_refl, untouched_framed}
use Rattle.frame.proofs.OwnerFramed.{owner_framed}
use Rattle.frame.proofs.ChangesWritten.{Outside, replaced_other, replaced_inside, changes_part}
use Rattle.asking.specs.declared.Right.TheVariants.{Write}
use Rattle.asking.specs.Outcome.{Outcome, settled}
use Rattle.asking.specs.Asked.{entry_no, file_of}
use Rattle.asking.proofs.Outcome.{settled_success}
use Rattle.asking.proofs.AccessRows.{Accessed}
use Rattle.asking.proofs.AccessStage.{Reached, reached_clear}
use Rattle.pack.proofs.KeySame.{key_single}
use Rattle.bodies.specs.BlockBytes.{with_part, block_start}
use Rattle.bodies.specs.BufferSizes.{wrong_block}
use Rattle.bodies.proofs.BlockBytes.{room_of}
use Rattle.bodies.proofs.BufferSizes.{block_fits}
use Rattle.transfer.specs.BlockRows.{block_out_rows}
use Rattle.transfer.specs.Block.{block_at_place, block_out}
use Rattle.transfer.proofs.BlockStage.{BlockAsked, block_asked, within_place}
use Rattle.transfer.proofs.BlockOut.{block_out_refused}

-- the image with a block of a contiguous file written
abbrev pub block_written : List ℕ → Geometry → Entry → ℕ → List ℕ → List ℕ
block_written img g x place buffer = with_part img (block_start g (block_at_place x place)) buffer

module _ {img : List ℕ} {key : Key} {wrong : Bool} {g : Geometry} {e : ℕ} {x : Entry} {place : ℕ} (asked : BlockAsked img key wrong g e x place)
    (buffer : List ℕ) (fits : length buffer ≡ block_bytes g) where
  within : block_start g (block_at_place x place) + length buffer ≤ length img
  within = omega (arith, fits, (room_of img g (block_at_place x place) asked.sized asked.below).inside)

  pub written_kept : {Named : ℕ → Type 0} → Kept Named (Only (block_at_place x place)) img (block_written img g x place buffer) g
  written_kept =
      changes_part img buffer (block_start g (block_at_place x place)) within
      (λ w low high. block (block_at_place x place) refl (omega (arith, asked.sized.contents, asked.body)) (omega arith, omega (arith, high, fits)))

  pub written_framed : Framed (Only e) (Only (block_at_place x place)) img (block_written img g x place buffer) g
  written_framed =
      framed_one (sym asked.file.measures) asked.file.right written_kept asked.file.inside
      (λ b is. inl (subst (λ (y : Entry). 0 < count b (blocks_of img g y)) asked.file.entry (rw is asked.held)))

  words_same : (i : ℕ) → i < 16 → entry_word (block_written img g x place buffer) g e i ≡ entry_word img g e i
  words_same = entries_kept (written_kept {Named = Never}) e asked.file.inside (λ never. never)

  pub entry_written : (i : ℕ) → i < slots g → entry_of (block_written img g x place buffer) g i ≡ entry_of img g i
  entry_written i inside = entry_kept (written_kept {Named = Never}) i inside (λ never. never)

  written_described : Described img (block_written img g x place buffer) g e
  written_described =
      record {
        file = λ i low high. words_same i (omega arith);
        rest = λ i low high. words_same i high;
        next = λ b some. next_extent img (block_written img g x place buffer) g (entry_of img g e).kind b
            (sym (ap (λ (y : Entry). y.kind) asked.file.entry) ∙ asked.contiguous.kind);
      }

  written_says : Description (block_written img g x place buffer) (entry_of (block_written img g x place buffer) g e)
  written_says =
      let says = used_description img g e x asked.used in
      subst (Description (block_written img g x place buffer))
      (asked.file.entry ∙ sym (entry_written e asked.file.inside))
      (record {
        name = says.name;
        extension = says.extension;
        uic = (listed_framed (sym asked.file.measures) asked.file.right written_framed x.uic).0 says.uic;
        protect = says.protect;
        contiguous = says.contiguous;
        linked = says.linked;
        opens = says.opens;
      })

  pub written_consistent : Consistent (block_written img g x place buffer)
  written_consistent =
      let same = entry_written e asked.file.inside in
      consistent_described (sym asked.file.measures) asked.file.right written_framed asked.file.inside
      (subst (Used img g e) asked.file.entry asked.used) written_described written_says
      (known
      (record {
        name1 = ap (λ (y : Entry). y.name1) same;
        name2 = ap (λ (y : Entry). y.name2) same;
        extension = ap (λ (y : Entry). y.extension) same;
        uic = ap (λ (y : Entry). y.uic) same;
      }))
      (λ b is. omega (arith, is, asked.body))

  pub written_measures : geometry_of (block_written img g x place buffer) ≡ geometry_of img
  written_measures = geometry_framed (sym asked.file.measures) asked.file.right written_framed

  pub written_untouched : (other : Key) → (other ≡ key → ⊥) → Untouched other img (block_written img g x place buffer)
  written_untouched other apart =
      untouched_framed (sym asked.file.measures) asked.file.right written_framed other
      (λ i inside is used keyed. apart (key_single asked.file.keyed (subst (λ (x : Entry). SameKey (key_in x) other) (ap (entry_of img g) is ∙ sym asked.file.entry) keyed)))

  pub written_owner : (b : ℕ) → owner_of (block_written img g x place buffer) b ≡ owner_of img b
  written_owner b =
      owner_framed (sym asked.file.measures) asked.file.right written_framed (λ i. ℕ_discrete i e) b
      (λ i inside is. ap (place_from b 0) (subst (λ (j : ℕ). blocks_at (block_written img g x place buffer) g j ≡ blocks_at img g j) (sym is) (described_blocks written_described)))

  pub written_outside : (k : ℕ) → Outside (block_start g (block_at_place x place)) (block_bytes g) k
      → get_or (block_written img g x place buffer) k 0 ≡ get_or img k 0
  written_outside k (inl low) = replaced_other img buffer (block_start g (block_at_place x place)) within k (inl low)
  written_outside k (inr high) = replaced_other img buffer (block_start g (block_at_place x place)) within k (inr (omega (arith, high, fits)))

  pub written_inside : (k : ℕ) → k < block_bytes g → get_or (block_written img g x place buffer) (block_start g (block_at_place x place) + k) 0 ≡ get_or buffer k 0
  written_inside k inside = replaced_inside img buffer (block_start g (block_at_place x place)) within k (omega (arith, fits))

-- the same over the outcome: on success that image, on a refusal the old one
module _ (img : List ℕ) (key : Key) (caller place : ℕ) (buffer : List ℕ) where
  module _ (success : (block_out img key caller place buffer).code ≡ 0) where
    no_row : first_of (block_out_rows img key caller place buffer) ≡ 0
    unfolding block_out settled
    no_row = success

    output_clear : Reached img key (wrong_block img buffer) caller Write 2 (λ x. not (eqb x.writer 1)) (geometry_of img) (entry_no img key) (file_of img key)
        × (first_of (row (leb (file_of img key).length place) 0o44 ∷ []) ≡ 0)
    unfolding block_out_rows
    output_clear = reached_clear img key (wrong_block img buffer) caller Write 2 (λ x. not (eqb x.writer 1)) _ no_row

    pub block_out_access : Accessed (file_of img key) caller Write 2 (not (eqb (file_of img key).writer 1))
    block_out_access = output_clear.0.access

    pub block_out_within : place < (file_of img key).length
    block_out_within = within_place (file_of img key).length place output_clear.1

    pub block_out_asked : BlockAsked img key (wrong_block img buffer) (geometry_of img) (entry_no img key) (file_of img key) place
    block_out_asked = block_asked output_clear.0 block_out_within

    pub block_out_fits : length buffer ≡ block_bytes (geometry_of img)
    block_out_fits = block_fits img buffer (geometry_of img) block_out_asked.file.argument refl

    pub block_out_image : (block_out img key caller place buffer).image ≡ block_written img (geometry_of img) (file_of img key) place buffer
    unfolding block_out
    block_out_image = ap (λ (r : Outcome). r.image) (settled_success (block_out_rows img key caller place buffer) img buffer _ no_row)

    -- "and changes the 512 bytes of the image, starting at that block": these are the buffer's
    pub block_out_inside : (k : ℕ) → k < block_bytes (geometry_of img)
        → get_or (block_out img key caller place buffer).image (block_start (geometry_of img) (block_at_place (file_of img key) place) + k) 0 ≡ get_or buffer k 0
    block_out_inside k inside = rw block_out_image (written_inside block_out_asked buffer block_out_fits k inside)

  by_code : (P : List ℕ → Type 0) → P img → ((block_out img key caller place buffer).code ≡ 0 → P (block_written img (geometry_of img) (file_of img key) place buffer))
      → P (block_out img key caller place buffer).image
  by_code P before after = by (ℕ_discrete (block_out img key caller place buffer).code 0)
    where
      by : Dec ((block_out img key caller place buffer).code ≡ 0) → P (block_out img key caller place buffer).image
      by (yes success) = subst P (sym (block_out_image success)) (after success)
      by (no refused) = subst P (sym (block_out_refused img key caller place buffer refused).same_image) before

  pub block_out_consistent : Consistent img → Consistent (block_out img key caller place buffer).image
  block_out_consistent consistent = by_code Consistent consistent (λ success. written_consistent (block_out_asked success) buffer (block_out_fits success))

  pub block_out_untouched : (other : Key) → (other ≡ key → ⊥) → Untouched other img (block_out img key caller place buffer).image
  block_out_untouched other apart = by_code (Untouched other img) (untouched_refl other img) (λ success. written_untouched (block_out_asked success) buffer (block_out_fits success) other apart)

  pub block_out_owner : (b : ℕ) → owner_of (block_out img key caller place buffer).image b ≡ owner_of img b
  block_out_owner b = by_code (λ (after : List ℕ). owner_of after b ≡ owner_of img b) refl (λ success. written_owner (block_out_asked success) buffer (block_out_fits success) b)

  -- no other byte changes
  pub block_out_outside : (k : ℕ) → Outside (block_start (geometry_of img) (block_at_place (file_of img key) place)) (block_bytes (geometry_of img)) k
      → get_or (block_out img key caller place buffer).image k 0 ≡ get_or img k 0
  block_out_outside k outside = by_code (λ (after : List ℕ). get_or after k 0 ≡ get_or img k 0) refl (λ success. written_outside (block_out_asked success) buffer
      (block_out_fits success) k outside)
