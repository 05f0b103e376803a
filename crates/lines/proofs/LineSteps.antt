-- A line read byte by byte, as a loop reads it: one law for each kind of byte, for the end of a part, and for two parts.
use Prim.Native.Nat.{ℕ, suc, ◌+◌, ◌-◌, ◌≤◌, ◌<◌, min}
use mathlib.Core.Path.{◌≡◌, refl}
use mathlib.Core.Bool.{Bool, true, false, ◌&&◌}
use mathlib.Core.List.{List, [], ◌∷◌, ◌++◌}
use native.Mathlib.Numerals.{add-one}
use lib.Dec.{leb, ltb}
use lib.ListN.{length, drop, get_or, set, drop_of_length-le}
use lib.Seq.{drop-cons}
use Rattle.lines.specs.declared.LineMode.{LineMode}
use Rattle.lines.specs.TextBytes.{seven_bits, is_discarded, is_terminator}
use Rattle.lines.specs.LineRead.{status_bit}
use Rattle.lines.specs.LineSteps.{is_special, laid_over, read_from, read_on_from, at_end}
use Rattle.lines.proofs.TextBytes.{ByteKind, discarded, ends, plain, kind_of}

-- of the first byte
module _ (mode : LineMode) (most : ℕ) (buffer : List ℕ) (count passed x : ℕ) (s : List ℕ) where
  pub first_discarded : is_discarded (seven_bits x) ≡ true → read_from mode most buffer count passed (x ∷ s) ≡ read_from mode most buffer count (passed + 1) s
  unfolding read_from
  first_discarded d = rw d

  pub first_ends : is_discarded (seven_bits x) ≡ false → is_terminator (seven_bits x) ≡ true
      → read_from mode most buffer count passed (x ∷ s)
      ≡ record { buffer = laid_over most buffer count (seven_bits x); count = count + 1; status = status_bit (ltb most (count + 1)) 1; passed = passed + 1; ended = true }
  unfolding read_from
  first_ends d t = rw (d, t)

  module _ (d : is_discarded (seven_bits x) ≡ false) (t : is_terminator (seven_bits x) ≡ false) where
    pub first_full : (is_special mode && leb most (count + 1)) ≡ true
        → read_from mode most buffer count passed (x ∷ s)
        ≡ record { buffer = laid_over most buffer count (seven_bits x); count = count + 1; status = 1; passed = passed + 1; ended = true }
    unfolding read_from
    first_full f = rw (d, t, f)

    pub first_plain : (is_special mode && leb most (count + 1)) ≡ false
        → read_from mode most buffer count passed (x ∷ s) ≡ read_from mode most (laid_over most buffer count (seven_bits x)) (count + 1) (passed + 1) s
    unfolding read_from
    first_plain f = rw (d, t, f)

-- of two parts
pub read_parts : (mode : LineMode) (most : ℕ) (buffer : List ℕ) (count passed : ℕ) (s t : List ℕ)
    → read_from mode most buffer count passed (s ++ t) ≡ read_on_from mode most (read_from mode most buffer count passed s) t
unfolding read_on_from
read_parts mode most buffer count passed [] t = (unfold read_from in refl)
read_parts mode most buffer count passed (x ∷ s) t =
    by
    (kind_of x)
    (is_special mode && leb most (count + 1))
    refl
    (read_parts mode most buffer count (passed + 1) s t)
    (read_parts mode most (laid_over most buffer count (seven_bits x)) (count + 1) (passed + 1) s t)
  where
    Parts : List ℕ → ℕ → ℕ → List ℕ → Type 0
    Parts b c p l = read_from mode most b c p (l ++ t) ≡ read_on_from mode most (read_from mode most b c p l) t

    by : ByteKind x → (full : Bool) → (is_special mode && leb most (count + 1)) ≡ full → Parts buffer count (passed + 1) s
        → Parts (laid_over most buffer count (seven_bits x)) (count + 1) (passed + 1) s → Parts buffer count passed (x ∷ s)
    by (discarded d e) full f passing laying =
        rw (first_discarded mode most buffer count passed x (s ++ t) d, first_discarded mode most buffer count passed x s d) passing
    by (ends d e) full f passing laying =
        rw (first_ends mode most buffer count passed x (s ++ t) d e, first_ends mode most buffer count passed x s d e)
    by (plain d e) true f passing laying =
        rw (first_full mode most buffer count passed x (s ++ t) d e f, first_full mode most buffer count passed x s d e f)
    by (plain d e) false f passing laying =
        rw (first_plain mode most buffer count passed x (s ++ t) d e f, first_plain mode most buffer count passed x s d e f) laying

-- behind a part, and at the end of the file: a line that has ended stays as it is
module _ (most : ℕ) (buffer : List ℕ) (count status passed : ℕ) where
  pub part_ended : (mode : LineMode) (s : List ℕ)
      → read_on_from mode most (record { buffer = buffer; count = count; status = status; passed = passed; ended = true }) s
      ≡ record { buffer = buffer; count = count; status = status; passed = passed; ended = true }
  unfolding read_on_from
  part_ended mode s = refl

  pub part_unended : (mode : LineMode) (s : List ℕ)
      → read_on_from mode most (record { buffer = buffer; count = count; status = status; passed = passed; ended = false }) s
      ≡ read_from mode most buffer count passed s
  unfolding read_on_from
  part_unended mode s = refl

  pub file_ended : at_end most (record { buffer = buffer; count = count; status = status; passed = passed; ended = true })
      ≡ record { buffer = buffer; count = count; status = status; passed = passed; ended = true }
  unfolding at_end
  file_ended = refl

  pub file_unended : at_end most (record { buffer = buffer; count = count; status = status; passed = passed; ended = false })
      ≡ record { buffer = buffer; count = count; status = 64 + status_bit (leb most count) 1; passed = passed; ended = true }
  unfolding at_end
  file_unended = refl

-- at a place of a list, as a loop has it, with the place in the buffer as the code finds it
module _ (mode : LineMode) (most : ℕ) (buffer : List ℕ) (count passed : ℕ) (s : List ℕ) (i : ℕ) where
  pub part_end : length s ≤ i
      → read_from mode most buffer count passed (drop i s) ≡ record { buffer = buffer; count = count; status = 0; passed = passed; ended = false }
  unfolding read_from
  part_end end = rw (drop_of_length-le s end)

  module _ (inside : i < length s) where
    pub from_discarded : is_discarded (seven_bits (get_or s i 0)) ≡ true
        → read_from mode most buffer count passed (drop i s) ≡ read_from mode most buffer count (passed + 1) (drop (i + 1) s)
    from_discarded d = rw (drop-cons s i 0, add-one i) (first_discarded mode most buffer count passed (get_or s i 0) (drop (suc i) s) d)

    module _ (place : ℕ) (placed : place ≡ min count (most - 1)) (d : is_discarded (seven_bits (get_or s i 0)) ≡ false) where
      pub from_terminator : is_terminator (seven_bits (get_or s i 0)) ≡ true
          → read_from mode most buffer count passed (drop i s)
          ≡ record { buffer = set buffer place (seven_bits (get_or s i 0)); count = count + 1; status = status_bit (ltb most (count + 1)) 1; passed = passed + 1; ended = true }
      from_terminator t = rw (drop-cons s i 0, placed) (first_ends mode most buffer count passed (get_or s i 0) (drop (suc i) s) d t)

      module _ (t : is_terminator (seven_bits (get_or s i 0)) ≡ false) where
        pub from_full : (is_special mode && leb most (count + 1)) ≡ true
            → read_from mode most buffer count passed (drop i s)
            ≡ record { buffer = set buffer place (seven_bits (get_or s i 0)); count = count + 1; status = 1; passed = passed + 1; ended = true }
        from_full f = rw (drop-cons s i 0, placed) (first_full mode most buffer count passed (get_or s i 0) (drop (suc i) s) d t f)

        pub from_plain : (is_special mode && leb most (count + 1)) ≡ false
            → read_from mode most buffer count passed (drop i s)
            ≡ read_from mode most (set buffer place (seven_bits (get_or s i 0))) (count + 1) (passed + 1) (drop (i + 1) s)
        from_plain f = rw (drop-cons s i 0, add-one i, placed) (first_plain mode most buffer count passed (get_or s i 0) (drop (suc i) s) d t f)
