-- A call that writes bytes through a gather buffer, and the ending call: that nothing speaks against it, and what it leaves.
use Prim.Native.Nat.{ℕ, ◌+◌, ◌-◌, ◌%◌, ◌<◌}
use mathlib.Core.Path.{◌≡◌, refl, sym, ap, ◌∙◌}
use mathlib.Core.Bool.{Bool, true, false, cond}
use mathlib.Core.List.{List, []}
use native.Mathlib.Omega.{arith}
use native.Mathlib.Nat.{mod-eq_of_lt, mod_self}
use lib.Dec.{eqb}
use lib.ListN.{length, replicate, length-replicate}
use borrow.Author.Tests.{eq-eqb, eqb-true, lt-leb}
use Rattle.answers.specs.Refusals.{first_of}
use Rattle.pack.specs.declared.Geometry.{Geometry}
use Rattle.pack.specs.declared.Key.{Key}
use Rattle.pack.specs.Geometry.{geometry_of, payload_bytes}
use Rattle.asking.specs.Outcome.{Outcome}
use Rattle.asking.proofs.Outcome.{settled_success}
use Rattle.adding.specs.LinkedAddRows.{linked_add_rows}
use Rattle.adding.proofs.LinkedAddStage.{linked_add_clear}
use Rattle.stream.specs.AddedAll.{added_all}
use Rattle.stream.proofs.Gather.{gathered_filled}
use Rattle.stream.specs.BytesWriting.{gathered_in, bytes_written}
use Rattle.lines.specs.LineWriting.{nuls_for, line_end}
use Rattle.stream.proofs.BytesWritingAnswers.{write_fitting}
use Rattle.stream.proofs.BytesWritingEffect.{write_code}
use Rattle.promises.proofs.BytesAgainLaid.{Clear, BytesAdded, clear_each}

-- every request that writes bytes
module _ (img : List ℕ) (key : Key) (caller : ℕ) (wrong : Bool) (gather : List ℕ) (filled : ℕ) (put numbers : List ℕ) where
  abbrev full : List (List ℕ)
  full = (gathered_in img gather filled put).full

  abbrev pub done : Outcome
  done = record { code = 0; numbers = numbers; image = added_all img key caller full; buffer = (gathered_in img gather filled put).buffer }

  pub bytes_clear : (bytes_written img key caller wrong gather filled put numbers).code ≡ 0 → Clear key caller (geometry_of img) img gather filled put × (wrong ≡ false)
  bytes_clear success =
      let passed = sym (write_code img key caller wrong gather filled put numbers) ∙ success in
      let fits = write_fitting img key caller wrong gather filled put passed in
      let argument = (linked_add_clear img key caller _ _ passed).0.file.argument in (
        record {
          measures = refl;
          rows = ap (λ (w : Bool). first_of (linked_add_rows img key caller w (length full))) (sym argument) ∙ passed;
          whole = fits.whole;
          room = fits.room;
        },
        fits.other,
      )

  pub clear_bytes : Clear key caller (geometry_of img) img gather filled put → wrong ≡ false → bytes_written img key caller wrong gather filled put numbers ≡ done
  unfolding bytes_written
  clear_bytes c right = settled_success _ img gather _ (rw (eq-eqb _ _ c.whole, lt-leb _ _ c.room, right) c.rows)

  pub bytes_done : (bytes_written img key caller wrong gather filled put numbers).code ≡ 0 → bytes_written img key caller wrong gather filled put numbers ≡ done
  bytes_done success = let c = bytes_clear success in clear_bytes c.0 c.1

  -- what a call with code 0 leaves, at the pack's measures
  pub bytes_laid : {g : Geometry} → geometry_of img ≡ g → {told img₁ gather₁ : List ℕ} {filled₁ : ℕ}
      → bytes_written img key caller wrong gather filled put numbers ≡ record { code = 0; numbers = told; image = img₁; buffer = gather₁ }
      → filled₁ ≡ (gathered_in img gather filled put).filled → BytesAdded key caller g img gather filled put img₁ gather₁ filled₁
  bytes_laid measures is next =
      let success = ap (λ (o : Outcome). o.code) is in
      let same = sym is ∙ bytes_done success in
      rw (← measures)
      (record {
        each = clear_each (bytes_clear success).0;
        image = ap (λ (o : Outcome). o.image) same;
        buffer = ap (λ (o : Outcome). o.buffer) same;
        next = next;
      })

-- the NULs of the ending call
abbrev pub nuls_to : ℕ → ℕ → List ℕ
nuls_to size filled = replicate (cond (eqb filled 0) 0 (size - filled)) 0

-- they fill the last block
nuls_fill : (size filled : ℕ) → filled < size → (filled + length (nuls_to size filled)) % size ≡ 0
nuls_fill size filled room = rw (length-replicate {A = ℕ} (cond (eqb filled 0) 0 (size - filled)) 0) (by (eqb filled 0) refl)
  where
    by : (none : Bool) → eqb filled 0 ≡ none → (filled + cond none 0 (size - filled)) % size ≡ 0
    by true is = let zero : filled + 0 ≡ 0 = omega (arith, eqb-true filled 0 is) in rw zero (mod-eq_of_lt (omega (arith, room)))
    by false is = let all : filled + (size - filled) ≡ size = omega (arith, room) in rw all (mod_self size)

module _ (img : List ℕ) (key : Key) (caller : ℕ) (gather : List ℕ) (filled : ℕ) where
  pub end_clear : (line_end img key caller gather filled).code ≡ 0 → Clear key caller (geometry_of img) img gather filled (nuls_for img filled)
  unfolding line_end
  end_clear success = (bytes_clear img key caller false gather filled (nuls_for img filled) [] success).0

  end_outcome : (line_end img key caller gather filled).code ≡ 0 → line_end img key caller gather filled ≡ done img key caller false gather filled (nuls_for img filled) []
  unfolding line_end
  end_outcome = bytes_done img key caller false gather filled (nuls_for img filled) []

module _ {img : List ℕ} {key : Key} {caller : ℕ} {gather : List ℕ} {filled : ℕ} {g : Geometry} where
  pub end_laid : geometry_of img ≡ g → (line_end img key caller gather filled).code ≡ 0
      → BytesAdded key caller g img gather filled (nuls_to (payload_bytes g) filled)
      (line_end img key caller gather filled).image (line_end img key caller gather filled).buffer 0
  end_laid measures success =
      let c = end_clear img key caller gather filled success in
      let is = end_outcome img key caller gather filled success in
      rw (← measures)
      (record {
        each = clear_each c;
        image = ap (λ (o : Outcome). o.image) is;
        buffer = ap (λ (o : Outcome). o.buffer) is;
        next = sym (gathered_filled (payload_bytes (geometry_of img)) gather filled c.room c.whole (nuls_for img filled)
            ∙ nuls_fill (payload_bytes (geometry_of img)) filled c.room);
      })

  pub clear_ending : Clear key caller g img gather filled (nuls_to (payload_bytes g) filled) → (line_end img key caller gather filled).code ≡ 0
  unfolding line_end
  clear_ending c = ap (λ (o : Outcome). o.code) (clear_bytes img key caller false gather filled (nuls_for img filled) [] (rw c.measures c) refl)
