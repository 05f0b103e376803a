-- What is laid and counted keeps within the buffer, and what is given back can be passed in again.
use Prim.Native.Nat.{ℕ, ◌+◌, ◌≤◌, ◌<◌, min}
use mathlib.Core.Path.{◌≡◌, refl}
use mathlib.Core.Bool.{Bool, true, false}
use mathlib.Core.List.{List}
use native.Mathlib.Omega.{arith}
use lib.ListN.{length, take, drop, length-take}
use borrow.Author.Tests.{le-leb}
use Rattle.lines.specs.declared.LineMode.{LineMode}
use Rattle.lines.specs.declared.LineMode.TheVariants.{Normal, Special}
use Rattle.lines.specs.LineRead.{overlaid, status_bit}
use Rattle.lines.proofs.LineReadProgress.{overlaid_length}
use Rattle.binary.specs.BinaryRead.{BinaryFound, line_from, is_short, is_sum_wrong, stopped, binary_found}
use Rattle.binary.specs.BinaryCases.{Kind, held, ends_before, DataCase, buffer_full, line_read, data_ended, BinaryCase, header_cut, header_wrong, new_line, going_on}
use Rattle.binary.proofs.BinaryCases.{on_is, binary_case}
use Rattle.binary.proofs.BinaryProgress.{header_facts}

pub overlaid_held : (most : ℕ) (line : List ℕ) → length line ≤ most → overlaid most line ≡ line
overlaid_held most line fits = rw (le-leb (length line) most fits)

module _ (most to_come sum : ℕ) (s : List ℕ) where
  data_laid : {mode : LineMode} {kind : Kind} {f : BinaryFound} → 0 < most → DataCase most to_come sum s mode kind f → length f.laid ≡ min most f.count
  data_laid some (buffer_full less full) = omega (arith, length-take most s)
  data_laid some (line_read on all) = omega (arith, overlaid_length most (take to_come s) some, length-take to_come s)
  data_laid some (data_ended on few) = overlaid_length most s some

  data_count : {mode : LineMode} {kind : Kind} {f : BinaryFound} → DataCase most to_come sum s mode kind f → f.count ≤ to_come
  data_count (buffer_full less full) = omega arith
  data_count (line_read on all) = omega arith
  data_count (data_ended on few) = few

  -- special mode lays all that it counts
  special_fits : {kind : Kind} {f : BinaryFound} → DataCase most to_come sum s Special kind f → f.count ≤ most
  special_fits (buffer_full less full) = omega arith
  special_fits (line_read (held fits) all) = fits
  special_fits (line_read (ends_before few) all) = omega arith
  special_fits (data_ended (held fits) few) = omega arith
  special_fits (data_ended (ends_before less) few) = omega arith

  whole_bits : (b w : Bool) → b ≡ false → status_bit b 1 + status_bit w 2 ≡ 1 → ⊥
  whole_bits b true is one = omega (arith, rw is at one)
  whole_bits b false is one = omega (arith, rw is at one)

  end_bits : (b : Bool) → b ≡ false → status_bit b 1 + 64 ≡ 1 → ⊥
  end_bits b is one = omega (arith, rw is at one)

  -- in special mode, bit 0 is the buffer full and more to come
  pub data_stopped : {kind : Kind} {f : BinaryFound} → DataCase most to_come sum s Special kind f → f.status ≡ 1
      → (most < to_come) × (most ≤ length s) × (f ≡ stopped most to_come sum s)
  data_stopped (buffer_full less full) one = (less, full, refl)
  data_stopped (line_read on all) one = absurd (whole_bits (is_short most to_come s) (is_sum_wrong to_come sum s) (on_is most to_come s on) one)
  data_stopped (data_ended on few) one = absurd (end_bits (is_short most to_come s) (on_is most to_come s on) one)

  data_none : {kind : Kind} {f : BinaryFound} → DataCase most to_come sum s Special kind f → (f.status ≡ 1 → ⊥) → (f.to_come ≡ 0) × (f.sum ≡ 0)
  data_none (buffer_full less full) other = absurd (other refl)
  data_none (line_read on all) other = (refl, refl)
  data_none (data_ended on few) other = (refl, refl)

  normal_none : {kind : Kind} {f : BinaryFound} → DataCase most to_come sum s Normal kind f → (f.to_come ≡ 0) × (f.sum ≡ 0)
  normal_none (line_read on all) = (refl, refl)
  normal_none (data_ended on few) = (refl, refl)

  data_given : {kind : Kind} {f : BinaryFound} → 0 < most → to_come ≤ 512 → DataCase most to_come sum s Special kind f → f.status ≡ 1
      → (0 < f.to_come) × (f.to_come ≤ 511) × (f.sum ≤ 255)
  data_given some within (buffer_full less full) one = (omega arith, omega arith, omega arith)
  data_given some within (line_read on all) one = absurd (whole_bits (is_short most to_come s) (is_sum_wrong to_come sum s) (on_is most to_come s on) one)
  data_given some within (data_ended on few) one = absurd (end_bits (is_short most to_come s) (on_is most to_come s on) one)

-- as many bytes are laid as are counted, or as the buffer has
pub laid_length : (mode : LineMode) (most to_come sum : ℕ) (s : List ℕ) → 0 < most
    → length (binary_found mode most to_come sum s).laid ≡ min most (binary_found mode most to_come sum s).count
laid_length mode most to_come sum s some = by (binary_case mode most to_come sum s)
  where
    by : {n : ℕ} {kind : Kind} {f : BinaryFound} → BinaryCase mode most sum s n kind f → length f.laid ≡ min most f.count
    by (header_cut is) = omega arith
    by (header_wrong is) = omega arith
    by (new_line many is c) = data_laid most many _ (drop 4 (line_from s)) some c
    by (going_on {to_come = n} more c) = data_laid most n sum s some c

-- at most 512 data bytes
pub count_most : (mode : LineMode) (most to_come sum : ℕ) (s : List ℕ) → to_come ≤ 512 → (binary_found mode most to_come sum s).count ≤ 512
count_most mode most to_come sum s within = by within (binary_case mode most to_come sum s)
  where
    by : {n : ℕ} {kind : Kind} {f : BinaryFound} → n ≤ 512 → BinaryCase mode most sum s n kind f → f.count ≤ 512
    by within (header_cut is) = omega arith
    by within (header_wrong is) = omega arith
    by within (new_line many is c) = omega (arith, data_count most many _ (drop 4 (line_from s)) c, (header_facts (line_from s) many is).1)
    by within (going_on {to_come = n} more c) = omega (arith, data_count most n sum s c)

module _ (most to_come sum : ℕ) (s : List ℕ) where
  pub special_count : (binary_found Special most to_come sum s).count ≤ most
  special_count = by (binary_case Special most to_come sum s)
    where
      by : {n : ℕ} {kind : Kind} {f : BinaryFound} → BinaryCase Special most sum s n kind f → f.count ≤ most
      by (header_cut is) = omega arith
      by (header_wrong is) = omega arith
      by (new_line many is c) = special_fits most many _ (drop 4 (line_from s)) c
      by (going_on {to_come = n} more c) = special_fits most n sum s c

  -- what a special read that stopped gives back may be passed in again: to come 1 to 511, a sum of at most 255
  pub special_given : 0 < most → to_come ≤ 512 → (binary_found Special most to_come sum s).status ≡ 1
      → (0 < (binary_found Special most to_come sum s).to_come) × ((binary_found Special most to_come sum s).to_come ≤ 511)
      × ((binary_found Special most to_come sum s).sum ≤ 255)
  special_given some within one = by within (binary_case Special most to_come sum s) one
    where
      by : {n : ℕ} {kind : Kind} {f : BinaryFound} → n ≤ 512 → BinaryCase Special most sum s n kind f → f.status ≡ 1
          → (0 < f.to_come) × (f.to_come ≤ 511) × (f.sum ≤ 255)
      by within (header_cut is) one = absurd (omega arith)
      by within (header_wrong is) one = absurd (omega arith)
      by within (new_line many is c) one = data_given most many _ (drop 4 (line_from s)) some (header_facts (line_from s) many is).1 c one
      by within (going_on {to_come = n} more c) one = data_given most n sum s some within c one

  -- every other answer has 0 and 0
  pub special_given_none : ((binary_found Special most to_come sum s).status ≡ 1 → ⊥)
      → ((binary_found Special most to_come sum s).to_come ≡ 0) × ((binary_found Special most to_come sum s).sum ≡ 0)
  special_given_none other = by (binary_case Special most to_come sum s) other
    where
      by : {n : ℕ} {kind : Kind} {f : BinaryFound} → BinaryCase Special most sum s n kind f → (f.status ≡ 1 → ⊥) → (f.to_come ≡ 0) × (f.sum ≡ 0)
      by (header_cut is) other = (refl, refl)
      by (header_wrong is) other = (refl, refl)
      by (new_line many is c) other = data_none most many _ (drop 4 (line_from s)) c other
      by (going_on {to_come = n} more c) other = data_none most n sum s c other

  pub normal_given_none : ((binary_found Normal most to_come sum s).to_come ≡ 0) × ((binary_found Normal most to_come sum s).sum ≡ 0)
  normal_given_none = by (binary_case Normal most to_come sum s)
    where
      by : {n : ℕ} {kind : Kind} {f : BinaryFound} → BinaryCase Normal most sum s n kind f → (f.to_come ≡ 0) × (f.sum ≡ 0)
      by (header_cut is) = (refl, refl)
      by (header_wrong is) = (refl, refl)
      by (new_line many is c) = normal_none most many _ (drop 4 (line_from s)) c
      by (going_on {to_come = n} more c) = normal_none most n sum s c
