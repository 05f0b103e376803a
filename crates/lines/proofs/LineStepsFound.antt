-- Reading byte by byte gives what the paper says of the whole: the buffer with what is laid in its front, the count, the status and the bytes passed.
use Prim.Native.Nat.{ℕ, zero, suc, ◌+◌, ◌-◌, ◌<◌}
use mathlib.Core.Path.{◌≡◌, refl, ◌∙◌}
use mathlib.Core.Bool.{Bool, true, false, cond}
use mathlib.Core.List.{List, [], ◌∷◌}
use native.Mathlib.Nat.{add-zero, zero-add}
use native.Mathlib.Omega.{arith}
use lib.Dec.{leb, ltb}
use lib.ListN.{length}
use borrow.Author.Tests.{lt-leb, le-leb, lt-ltb, le-ltb}
use Rattle.lines.specs.declared.LineMode.{LineMode}
use Rattle.lines.specs.declared.LineMode.TheVariants.{Normal, Special}
use Rattle.lines.specs.TextBytes.{seven_bits, kept_of, through, any_of}
use Rattle.lines.specs.LineRead.{LineFound, status_bit, line_passed, kept_line, is_terminated, overlaid, line_found}
use Rattle.lines.specs.LineSteps.{LineState, laid_over, laid_all, read_from, at_end, state_left}
use Rattle.lines.proofs.TextBytes.{ByteKind, discarded, ends, plain, kind_of}
use Rattle.lines.proofs.LineReadBytes.{behind_discarded, behind_plain, behind_end}
use Rattle.lines.proofs.LineReadCases.{ReadCase, whole, surplus, found_case}
use Rattle.lines.proofs.LineReadProgress.{found_empty, laid_most}
use Rattle.lines.proofs.LineReadFirst.{one_passed, one_laid, found_discarded, found_end, special_full, special_plain}
use Rattle.lines.proofs.LineSteps.{first_discarded, first_ends, first_full, first_plain}
use Rattle.lines.proofs.LineStepsLaid.{laid_front, laid_all_law}

-- the state in which a line ends that was found behind so many bytes
abbrev found_behind : ℕ → List ℕ → ℕ → ℕ → LineFound → LineState
found_behind most buffer count passed f =
    record { buffer = laid_all most buffer count f.laid; count = count + f.count; status = f.status; passed = passed + f.passed; ended = true }

module _ (most : ℕ) (buffer : List ℕ) (count passed : ℕ) (f : LineFound) where
  behind_passed : found_behind most buffer count (passed + 1) f ≡ found_behind most buffer count passed (one_passed f)
  behind_passed =
      let passes : passed + 1 + f.passed ≡ passed + suc f.passed = omega arith in
      rw passes

  behind_laid : (y : ℕ) → found_behind most (laid_over most buffer count y) (count + 1) (passed + 1) f ≡ found_behind most buffer count passed (one_laid y f)
  unfolding laid_all
  behind_laid y =
      let passes : passed + 1 + f.passed ≡ passed + suc f.passed = omega arith in
      let counts : count + 1 + f.count ≡ count + suc f.count = omega arith in
      rw (passes, counts)

special_steps : (most : ℕ) (s buffer : List ℕ) (count k passed : ℕ) → count + suc k ≡ most
    → at_end most (read_from Special most buffer count passed s) ≡ found_behind most buffer count passed (line_found Special (suc k) s)
unfolding laid_all read_from at_end
special_steps most [] buffer count k passed is =
    rw (found_empty Special (suc k) (omega arith), add-zero count, add-zero passed, lt-leb most count (omega arith))
special_steps most (x ∷ s) buffer count k passed is = by (kind_of x) k is (λ b c j p e. special_steps most s b c j p e)
  where
    by : ByteKind x → (j : ℕ) → count + suc j ≡ most
        → ((b : List ℕ) (c i p : ℕ) → c + suc i ≡ most → at_end most (read_from Special most b c p s) ≡ found_behind most b c p (line_found Special (suc i) s))
        → at_end most (read_from Special most buffer count passed (x ∷ s)) ≡ found_behind most buffer count passed (line_found Special (suc j) (x ∷ s))
    by (discarded d t) j is rest =
        rw (first_discarded Special most buffer count passed x s d, found_discarded x s Special (suc j) (omega arith) d t)
        (rest buffer count j (passed + 1) is ∙ behind_passed most buffer count passed (line_found Special (suc j) s))
    by (ends d t) j is rest =
        rw (first_ends Special most buffer count passed x s d t, found_end x s Special (suc j) (omega arith) d t, le-ltb most (count + 1) (omega arith))
    by (plain d t) zero is rest =
        rw (first_full Special most buffer count passed x s d t (le-leb most (count + 1) (omega arith)), special_full x s d t)
    by (plain d t) (suc j) is rest =
        rw (first_plain Special most buffer count passed x s d t (lt-leb most (count + 1) (omega arith)), special_plain x s d t j)
        (rest (laid_over most buffer count (seven_bits x)) (count + 1) j (passed + 1) (omega arith)
        ∙ behind_laid most buffer count passed (line_found Special (suc j) s) (seven_bits x))

-- normal mode reads the line to its end, whatever the count
normal_status : ℕ → ℕ → Bool → ℕ
normal_status most count terminated = cond terminated (status_bit (ltb most count) 1) (64 + status_bit (leb most count) 1)

abbrev normal_rest : ℕ → ℕ → List ℕ → LineFound
normal_rest most count s =
    record { laid = kept_line s; count = length (kept_line s); status = normal_status most (count + length (kept_line s)) (is_terminated s); passed = line_passed s }

normal_steps : (most : ℕ) (s buffer : List ℕ) (count passed : ℕ)
    → at_end most (read_from Normal most buffer count passed s) ≡ found_behind most buffer count passed (normal_rest most count s)
unfolding laid_all read_from at_end normal_status
normal_steps most [] buffer count passed = (unfold kept_of through any_of in rw (add-zero count, add-zero passed))
normal_steps most (x ∷ s) buffer count passed = by (kind_of x) (λ b c p. normal_steps most s b c p)
  where
    by : ByteKind x → ((b : List ℕ) (c p : ℕ) → at_end most (read_from Normal most b c p s) ≡ found_behind most b c p (normal_rest most c s))
        → at_end most (read_from Normal most buffer count passed (x ∷ s)) ≡ found_behind most buffer count passed (normal_rest most count (x ∷ s))
    by (discarded d t) rest =
        let b = behind_discarded x s d t in
        rw (first_discarded Normal most buffer count passed x s d, b.line_is, b.terminated_is, b.passed_is)
        (rest buffer count (passed + 1) ∙ behind_passed most buffer count passed (normal_rest most count s))
    by (ends d t) rest =
        let b = behind_end x s d t in
        rw (first_ends Normal most buffer count passed x s d t, b.line_is, b.terminated_is, b.passed_is)
    by (plain d t) rest =
        let b = behind_plain x s d t in
        let counts : count + suc (length (kept_line s)) ≡ count + 1 + length (kept_line s) = omega arith in
        let passes : passed + suc (line_passed s) ≡ passed + 1 + line_passed s = omega arith in
        rw (first_plain Normal most buffer count passed x s d t refl, b.line_is, b.terminated_is, b.passed_is, counts, passes)
        (rest (laid_over most buffer count (seven_bits x)) (count + 1) (passed + 1))

-- and that is all the line, as the paper has it
normal_found : (most : ℕ) (s : List ℕ) → 0 < most
    → line_found Normal most s
    ≡ record { laid = overlaid most (kept_line s); count = length (kept_line s); status = normal_status most (length (kept_line s)) (is_terminated s); passed = line_passed s }
unfolding normal_status
normal_found most s some = by (found_case Normal most s) (is_terminated s) refl
  where
    by : {f : LineFound} → ReadCase most s Normal f → (terminated : Bool) → is_terminated s ≡ terminated
        → f
        ≡ record { laid = overlaid most (kept_line s); count = length (kept_line s); status = normal_status most (length (kept_line s)) (is_terminated s); passed = line_passed s }
    by (whole short unended) true is = rw (is, le-leb (length (kept_line s)) most short, le-ltb most (length (kept_line s)) short)
    by (whole short unended) false is = rw (is, le-leb (length (kept_line s)) most short, lt-leb most (length (kept_line s)) (unended is))
    by (surplus long ended) true is = rw (is, lt-ltb most (length (kept_line s)) (ended is))
    by (surplus long ended) false is = rw (is, le-leb most (length (kept_line s)) long)

pub steps_found : (mode : LineMode) (most : ℕ) (buffer s : List ℕ) → length buffer ≡ most → 0 < most
    → at_end most (read_from mode most buffer 0 0 s) ≡ state_left buffer (line_found mode most s)
steps_found Normal most buffer s long some =
    normal_steps most s buffer 0 0
    ∙ rw (normal_found most s some, zero-add (length (kept_line s)), zero-add (line_passed s), laid_all_law most buffer long (kept_line s) some)
steps_found Special most buffer s long some =
    let f = line_found Special most s in
    let less : suc (most - 1) ≡ most = omega arith in
    special_steps most s buffer 0 (most - 1) 0 (omega arith)
    ∙ rw (less, zero-add f.count, zero-add f.passed, laid_front most buffer long f.laid (laid_most Special most s some))
