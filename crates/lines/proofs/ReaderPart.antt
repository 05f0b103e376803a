-- A line read on through a part, byte by byte, as the loop over the part has it: one law for each role of a character, and for the end of the part.
use Prim.Native.Nat.{ℕ, ◌+◌, ◌-◌, ◌≤◌, ◌<◌, min}
use mathlib.Core.Path.{◌≡◌, sym, subst, ◌∙◌}
use mathlib.Core.Bool.{Bool, true, false, ◌&&◌}
use mathlib.Core.List.{List}
use native.Mathlib.Nat.{add-zero}
use native.Mathlib.Omega.{arith}
use lib.Dec.{leb, ltb}
use lib.ListN.{length, get_or, set, length-set}
use Rattle.lines.specs.declared.LineMode.{LineMode}
use Rattle.lines.specs.declared.line_read.Role.{Role}
use Rattle.lines.specs.declared.line_read.Role.TheVariants.{Discarded, Terminator, Plain}
use Rattle.lines.specs.TextBytes.{seven_bits, is_discarded, is_terminator}
use Rattle.lines.specs.LineRead.{status_bit}
use Rattle.lines.specs.LineSteps.{LineState, is_special, read_from}
use Rattle.lines.specs.Reader.{IsRole, PartReading}
use Rattle.lines.proofs.ReaderRole.{role_discarded, role_terminator, role_plain}
use Rattle.lines.proofs.LineSteps.{part_end, from_discarded, from_terminator, from_full, from_plain}

pub part_start : {mode : LineMode} {most count passed : ℕ} {part buffer : List ℕ} → length buffer ≡ most
    → PartReading mode most count passed part (read_from mode most buffer count passed part) buffer count 0
part_start {passed} long = record { long = long; within = omega arith; few = omega arith; same = rw (add-zero passed) }

module _ {mode : LineMode} {most count₀ passed : ℕ} {part : List ℕ} {whole : LineState} {buffer : List ℕ} {count i : ℕ}
    (reading : PartReading mode most count₀ passed part whole buffer count i) where
  pub part_over : length part ≤ i → record { buffer = buffer; count = count; status = 0; passed = passed + length part; ended = false } ≡ whole
  part_over over =
      let all : length part ≡ i = omega (arith, over, reading.within) in
      rw all (sym (reading.same ∙ part_end mode most buffer count (passed + i) part i over))

  module _ (inside : i < length part) {role : Role} (is : IsRole (seven_bits (get_or part i 0)) role) where
    pub part_discarded : role ≡ Discarded → {buffer' : List ℕ} {count' : ℕ} → buffer' ≡ buffer → count' ≡ count
        → PartReading mode most count₀ passed part whole buffer' count' (i + 1)
    part_discarded told as_before same =
        let d = role_discarded (subst (IsRole (seven_bits (get_or part i 0))) told is) in
        let one_more : passed + (i + 1) ≡ passed + i + 1 = omega arith in
        rw (as_before, same)
        (record {
          long = reading.long;
          within = omega arith;
          few = omega (arith, reading.few);
          same = rw one_more (reading.same ∙ from_discarded mode most buffer count (passed + i) part i inside d);
        })

    module _ {place : ℕ} (placed : place ≡ min count (most - 1)) where
      pub part_terminator : role ≡ Terminator → {status : ℕ} → status ≡ status_bit (ltb most (count + 1)) 1
          → record { buffer = set buffer place (seven_bits (get_or part i 0)); count = count + 1; status = status; passed = passed + i + 1; ended = true } ≡ whole
      part_terminator told bit =
          let r = role_terminator (subst (IsRole (seven_bits (get_or part i 0))) told is) in
          rw bit (sym (reading.same ∙ from_terminator mode most buffer count (passed + i) part i inside place placed r.0 r.1))

      module _ (told : role ≡ Plain) {special : Bool} (says : special ≡ is_special mode) where
        as_plain : (is_discarded (seven_bits (get_or part i 0)) ≡ false) × (is_terminator (seven_bits (get_or part i 0)) ≡ false)
        as_plain = role_plain (subst (IsRole (seven_bits (get_or part i 0))) told is)

        pub part_full : (special && leb most (count + 1)) ≡ true
            → record { buffer = set buffer place (seven_bits (get_or part i 0)); count = count + 1; status = 1; passed = passed + i + 1; ended = true } ≡ whole
        part_full f =
            sym (reading.same
            ∙ from_full mode most buffer count (passed + i) part i inside place placed as_plain.0 as_plain.1 (rw (sym says) f))

        pub part_plain : (special && leb most (count + 1)) ≡ false
            → {buffer' : List ℕ} {count' : ℕ} → buffer' ≡ set buffer place (seven_bits (get_or part i 0)) → count' ≡ count + 1
            → PartReading mode most count₀ passed part whole buffer' count' (i + 1)
        part_plain f laid one =
            let one_more : passed + (i + 1) ≡ passed + i + 1 = omega arith in
            rw (laid, one)
            (record {
              long = length-set buffer place (seven_bits (get_or part i 0)) ∙ reading.long;
              within = omega arith;
              few = omega (arith, reading.few);
              same =
                  rw one_more (reading.same
                  ∙ from_plain mode most buffer count (passed + i) part i inside place placed as_plain.0 as_plain.1 (rw (sym says) f));
            })
