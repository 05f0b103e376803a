-- What is written reads back, in one part and in any parts, behind other lines and NULs; and one changed data byte is found.
use Prim.Native.Nat.{ℕ, zero, suc, ◌+◌, ◌/◌, ◌%◌, ◌≤◌, ◌<◌}
use mathlib.Core.Path.{◌≡◌, refl, sym, ap, ◌∙◌}
use mathlib.Core.List.{List, [], ◌∷◌, ◌++◌, append_assoc}
use native.Mathlib.Omega.{arith}
use lib.ListN.{length, drop, get_or, set, replicate, length-replicate, length-set, replicate-append-replicate}
use lib.Seq.{drop-append-add, drop-append_seam, drop-length, set-append_left}
use borrow.Author.Tests.{ne_eqb}
use Rattle.lines.specs.declared.LineMode.{LineMode}
use Rattle.lines.specs.declared.LineMode.TheVariants.{Normal, Special}
use Rattle.binary.specs.BinaryLine.{sum_of, header_bytes, header_and_data, sum_byte, binary_line}
use Rattle.binary.specs.BinaryRead.{BinaryFound, nuls_before, line_from, header_of, binary_found}
use Rattle.binary.specs.InParts.{InParts}
use Rattle.binary.specs.BinaryRoundTrip.{ReadBack, at_end, one_read, Stored, only_nuls, one_line, LinesFit, no_line, one_more, binary_lines}
use Rattle.binary.proofs.BinarySums.{sum_append, sum_set, line_length}
use Rattle.binary.proofs.InParts.{read_cut, parts_are_one}
use Rattle.binary.proofs.NormalLast.{normal_alike}
use Rattle.binary.proofs.StoredRead.{stored_read}

module _ (content : List ℕ) (few : length content ≤ 512) (nuls : ℕ) (rest : List ℕ) where
  -- the stored line, its last byte apart
  line_is : binary_line content ++ rest ≡ header_bytes (length content) ++ (content ++ (sum_byte (header_and_data content) ∷ rest))
  unfolding binary_line
  line_is = append_assoc (header_and_data content) (sum_byte (header_and_data content) ∷ []) rest ∙ append_assoc (header_bytes (length content)) content
      (sum_byte (header_and_data content) ∷ rest)

  head_sum : sum_of (header_and_data content) ≡ sum_of (header_bytes (length content)) + sum_of content
  head_sum = sum_append (header_bytes (length content)) content

  sum_right : (sum_of (header_bytes (length content)) + (sum_of content + sum_byte (header_and_data content))) % 256 ≡ 0
  sum_right = omega (arith, head_sum)

  -- "What is written reads back"
  pub written_read : (mode : LineMode) (most : ℕ) → length content ≤ most
      → binary_found mode most 0 0 (replicate nuls 0 ++ (binary_line content ++ rest))
      ≡ record { laid = content; count = length content; status = 0; passed = nuls + length (binary_line content); to_come = 0; sum = 0 }
  written_read mode most fits =
      let long : nuls + length (binary_line content) ≡ nuls + 4 + suc (length content) = omega (arith, line_length content) in
      rw (line_is, long, stored_read mode most nuls content (sum_byte (header_and_data content)) rest few fits, sum_right)

  -- in parts of any sizes
  pub written_in_parts : {mosts : ℕ → ℕ} {f : BinaryFound} → InParts mosts 0 0 (replicate nuls 0 ++ (binary_line content ++ rest)) f
      → f ≡ record { laid = content; count = length content; status = 0; passed = nuls + length (binary_line content); to_come = 0; sum = 0 }
  written_in_parts parts = parts_are_one 512 (omega arith) (omega arith) parts ∙ written_read Special 512 few

  pub written_left : drop (nuls + length (binary_line content)) (replicate nuls 0 ++ (binary_line content ++ rest)) ≡ rest
  written_left =
      ap (λ (k : ℕ). drop (k + length (binary_line content)) (replicate nuls 0 ++ (binary_line content ++ rest))) (sym (length-replicate {A = ℕ} nuls 0))
      ∙ drop-append-add (replicate nuls 0) (binary_line content ++ rest) (length (binary_line content))
      ∙ drop-append_seam (binary_line content) rest

  -- "a change to any one data byte sets bit 1"
  module _ (i y : ℕ) (there : i < length content) (byte : get_or content i 0 < 256) (byte' : y < 256) (other : y ≡ get_or content i 0 → ⊥) where
    changed_is : set (binary_line content) (4 + i) y ++ rest
        ≡ header_bytes (length (set content i y)) ++ (set content i y ++ (sum_byte (header_and_data content) ∷ rest))
    unfolding binary_line
    changed_is =
        let place : 4 + i ≡ suc (suc (suc (suc i))) = omega arith in
        rw (place, length-set content i y, set-append_left content (sum_byte (header_and_data content) ∷ []) i y there)
        (append_assoc (header_bytes (length content)) (set content i y ++ (sum_byte (header_and_data content) ∷ [])) rest
        ∙ ap (λ (t : List ℕ). header_bytes (length content) ++ t) (append_assoc (set content i y) (sum_byte (header_and_data content) ∷ []) rest))

    sum_not : (sum_of (header_bytes (length content)) + (sum_of (set content i y) + sum_byte (header_and_data content))) % 256 ≡ 0 → ⊥
    sum_not is = omega (arith, head_sum, sum_set content i y there, is, other)

    pub changed_read : (mode : LineMode) (most : ℕ) → length content ≤ most
        → binary_found mode most 0 0 (replicate nuls 0 ++ (set (binary_line content) (4 + i) y ++ rest))
        ≡ record { laid = set content i y; count = length content; status = 2; passed = nuls + length (binary_line content); to_come = 0; sum = 0 }
    changed_read mode most fits =
        let same = length-set content i y in
        let long : nuls + length (binary_line content) ≡ nuls + 4 + suc (length content) = omega (arith, line_length content) in
        let read =
        stored_read mode most nuls (set content i y) (sum_byte (header_and_data content)) rest (omega (arith, same)) (omega (arith, same)) in
        rw (changed_is, long, read, same, ne_eqb ((sum_of (header_bytes (length content)) + (sum_of (set content i y) + sum_byte (header_and_data content))) % 256) 0 sum_not)

    -- in normal mode whatever the buffer is: bit 1 is set, and no other but bit 0
    pub changed_normal : (most : ℕ) → (binary_found Normal most 0 0 (replicate nuls 0 ++ (set (binary_line content) (4 + i) y ++ rest))).status / 2 ≡ 1
    changed_normal most =
        (normal_alike most 512 0 0 (replicate nuls 0 ++ (set (binary_line content) (4 + i) y ++ rest)) (omega arith) (omega arith)).bits_same
        ∙ ap (λ (f : BinaryFound). f.status / 2) (changed_read Special 512 few)

-- NULs to the end
all_nuls : (k : ℕ) → nuls_before (replicate k 0) ≡ length (replicate {A = ℕ} k 0)
unfolding nuls_before
all_nuls zero = refl
all_nuls (suc k) = ap suc (all_nuls k)

nuls_end : (k : ℕ) → line_from (replicate k 0) ≡ []
nuls_end k = ap (λ (n : ℕ). drop n (replicate k 0)) (all_nuls k) ∙ drop-length (replicate k 0)

pub nuls_read : (mode : LineMode) (most k : ℕ)
    → binary_found mode most 0 0 (replicate k 0)
    ≡ record { laid = []; count = 0; status = 64; passed = length (replicate {A = ℕ} k 0); to_come = 0; sum = 0 }
nuls_read mode most k = read_cut mode most 0 (replicate k 0) (ap header_of (nuls_end k) ∙ (unfold header_of in refl))

-- so lines read back one after another
pub lines_read_back : (mode : LineMode) {s : List ℕ} {contents : List (List ℕ)} → Stored s contents → ReadBack mode s contents
lines_read_back mode (only_nuls k) = at_end (λ most. nuls_read mode most k)
lines_read_back mode (one_line {content = content} {s = s} {contents = contents} k few rest) =
    one_read {contents = contents} (k + length (binary_line content)) (written_read content few k s mode) (rw (written_left content few k s) (lines_read_back mode rest))

-- what is written and ended stands so in a file; and so do several of these, one behind another
pub lines_stored : {contents : List (List ℕ)} → LinesFit contents → (fill : ℕ) → Stored (binary_lines contents ++ replicate fill 0) contents
unfolding binary_lines
lines_stored no_line fill = only_nuls fill
lines_stored (one_more {content = content} {contents = contents} few rest) fill =
    rw (append_assoc (binary_line content) (binary_lines contents) (replicate fill 0)) (one_line 0 few (lines_stored rest fill))

nuls_stored : (k : ℕ) {t : List ℕ} {contents : List (List ℕ)} → Stored t contents → Stored (replicate k 0 ++ t) contents
nuls_stored k (only_nuls j) = rw (replicate-append-replicate {A = ℕ} k j 0) (only_nuls (k + j))
nuls_stored k (one_line {content = content} {s = s} j few rest) =
    rw (← append_assoc (replicate k 0) (replicate j 0) (binary_line content ++ s), replicate-append-replicate {A = ℕ} k j 0) (one_line (k + j) few rest)

pub stored_behind : {s t : List ℕ} {contents more : List (List ℕ)} → Stored s contents → Stored t more → Stored (s ++ t) (contents ++ more)
stored_behind (only_nuls k) later = nuls_stored k later
stored_behind {t = t} (one_line {content = content} {s = s} k few rest) later =
    rw (append_assoc (replicate k 0) (binary_line content ++ s) t, append_assoc (binary_line content) s t) (one_line k few (stored_behind rest later))
