-- For the loops that will read: NULs passed one by one; the data laid and added part by part; and the buffer and the count that a reading leaves.
use Prim.Native.Nat.{ℕ, suc, ◌≤◌, ◌<◌, min}
use mathlib.Core.Path.{◌≡◌, refl, sym}
use mathlib.Core.List.{List, ◌∷◌, ◌++◌}
use native.Mathlib.Omega.{arith}
use lib.ListN.{length, take, drop, get_or, length-take}
use lib.Seq.{take_all, drop-cons}
use borrow.Author.Tests.{eq-eqb, ne_eqb}
use Rattle.lines.specs.declared.LineMode.{LineMode}
use Rattle.lines.specs.LineSteps.{laid_all}
use Rattle.lines.proofs.LineStepsLaid.{laid_front, laid_all_law}
use Rattle.binary.specs.BinaryRead.{BinaryFound, nuls_before, line_from, data_found}
use Rattle.binary.specs.BinaryCases.{Kind, GoesOn, surplus_over, held, ends_before, DataCase, buffer_full, line_read, data_ended}
use Rattle.binary.specs.Fetching.{limit_of}
use Rattle.binary.proofs.BinaryCases.{data_case}

-- a NUL more is passed, and any other byte is where the line begins
module _ (s : List ℕ) (i : ℕ) (there : i < length s) where
  pub nul_passed : get_or s i 0 ≡ 0 → (nuls_before (drop i s) ≡ suc (nuls_before (drop (suc i) s))) × (line_from (drop i s) ≡ line_from (drop (suc i) s))
  nul_passed is = rw (drop-cons s i 0 there) (nuls_more (get_or s i 0) (drop (suc i) s) is, line_more (get_or s i 0) (drop (suc i) s) is)
    where
      nuls_more : (x : ℕ) (t : List ℕ) → x ≡ 0 → nuls_before (x ∷ t) ≡ suc (nuls_before t)
      nuls_more x t is = (unfold nuls_before in rw (eq-eqb x 0 is))

      line_more : (x : ℕ) (t : List ℕ) → x ≡ 0 → drop (nuls_before (x ∷ t)) (x ∷ t) ≡ drop (nuls_before t) t
      line_more x t is = rw (nuls_more x t is)

  pub line_begins : (get_or s i 0 ≡ 0 → ⊥) → (nuls_before (drop i s) ≡ 0) × (line_from (drop i s) ≡ drop i s)
  line_begins other = rw (drop-cons s i 0 there) (none (get_or s i 0) (drop (suc i) s) other, here (get_or s i 0) (drop (suc i) s) other)
    where
      none : (x : ℕ) (t : List ℕ) → (x ≡ 0 → ⊥) → nuls_before (x ∷ t) ≡ 0
      none x t other = (unfold nuls_before in rw (ne_eqb x 0 other))

      here : (x : ℕ) (t : List ℕ) → (x ≡ 0 → ⊥) → drop (nuls_before (x ∷ t)) (x ∷ t) ≡ x ∷ t
      here x t other = rw (none x t other)

module _ (most to_come sum : ℕ) (s : List ℕ) where
  -- where a reading goes on to the end of the data, the limit is none
  limit_all : {mode : LineMode} → GoesOn most to_come s mode → to_come < length s → limit_of mode most to_come ≡ to_come
  limit_all surplus_over all = refl
  limit_all (held fits) all = omega arith
  limit_all (ends_before few) all = omega arith

  limit_end : {mode : LineMode} → GoesOn most to_come s mode → length s ≤ to_come → length s ≤ limit_of mode most to_come
  limit_end surplus_over few = few
  limit_end (held fits) few = omega arith
  limit_end (ends_before less) few = omega arith

  -- the buffer behind a reading, in either mode: so many bytes laid one after another
  buffer_case : {mode : LineMode} {kind : Kind} {f : BinaryFound} (buffer : List ℕ) → length buffer ≡ most → 0 < most → DataCase most to_come sum s mode kind f
      → f.laid ++ drop (length f.laid) buffer ≡ laid_all most buffer 0 (take (limit_of mode most to_come) s)
  buffer_case buffer long some (buffer_full less full) =
      let limit : min to_come most ≡ most = omega arith in
      rw limit (sym (laid_front most buffer long (take most s) (omega (arith, length-take most s))))
  buffer_case buffer long some (line_read on all) = rw (limit_all on all) (sym (laid_all_law most buffer long (take to_come s) some))
  buffer_case {mode} buffer long some (data_ended on few) =
      rw (take_all (limit_of mode most to_come) s (limit_end on few)) (sym (laid_all_law most buffer long s some))

  pub data_buffer : (mode : LineMode) (buffer : List ℕ) → length buffer ≡ most → 0 < most
      → (data_found mode most to_come sum s).laid ++ drop (length (data_found mode most to_come sum s).laid) buffer
      ≡ laid_all most buffer 0 (take (limit_of mode most to_come) s)
  data_buffer mode buffer long some = buffer_case buffer long some (data_case most to_come sum s mode)

  count_case : {mode : LineMode} {kind : Kind} {f : BinaryFound} → DataCase most to_come sum s mode kind f → f.count ≡ min (limit_of mode most to_come) (length s)
  count_case (buffer_full less full) = omega arith
  count_case (line_read on all) = omega (arith, limit_all on all)
  count_case (data_ended on few) = omega (arith, limit_end on few)

  pub data_count : (mode : LineMode) → (data_found mode most to_come sum s).count ≡ min (limit_of mode most to_come) (length s)
  data_count mode = count_case (data_case most to_come sum s mode)
