-- A line that is put reads back the same, whatever stands behind it, and a NUL in front is only passed; so lines read back one after another.
use Prim.Native.Nat.{ℕ, zero, suc, ◌+◌, ◌≤◌, ◌<◌}
use mathlib.Core.Path.{◌≡◌, refl, sym, ap, ◌∙◌}
use mathlib.Core.Bool.{Bool, true, false, cond, ◌||◌, true≢false, false≢true}
use mathlib.Core.List.{List, [], ◌∷◌, ◌++◌, append_assoc, append-nil, flatten}
use native.Mathlib.Nat.{zero-add, suc-add, add-zero}
use native.Mathlib.Omega.{arith}
use lib.Dec.{eqb}
use lib.ListN.{length, drop, replicate, length-append, length-replicate, replicate-append-replicate}
use lib.Seq.{drop-append-add}
use borrow.Author.Tests.{eqb-true, eqb-false}
use Rattle.lines.specs.declared.LineMode.{LineMode}
use Rattle.lines.specs.TextBytes.{seven_bits, is_discarded, is_terminator}
use Rattle.lines.specs.LineRead.{LineFound, line_passed, kept_line, is_terminated, whole_line, line_found}
use Rattle.lines.specs.LineWrite.{put_of, put_all}
use Rattle.lines.specs.LineRoundTrip.{PlainText, nothing, character, terminated, TextLines, no_line, one_more, ReadBack, at_end, one_read, nuls_after}
use Rattle.lines.proofs.LineReadBytes.{behind_discarded, behind_plain, behind_end}
use Rattle.lines.proofs.LineReadCases.{ReadCase, whole, surplus, stop, found_case}
use Rattle.lines.proofs.LineReadProgress.{found_empty}
use Rattle.lines.proofs.LineReadFirst.{one_passed, found_discarded}
use Rattle.lines.proofs.LineWrite.{put_append, put_alone}

-- a line with a terminator that the buffer holds
whole_found : (mode : LineMode) (most : ℕ) (s : List ℕ) → is_terminated s ≡ true → length (kept_line s) ≤ most → line_found mode most s ≡ whole_line s
whole_found mode most s ends fits = by (found_case mode most s)
  where
    by : {m : LineMode} {f : LineFound} → ReadCase most s m f → f ≡ whole_line s
    by (whole short unended) = refl
    by (surplus long ended) = absurd (omega (arith, ended ends))
    by (stop long ended) = absurd (omega (arith, ended ends))

-- what a plain text that is put adds to a line: all of it is passed, and the text itself is kept
record InFront (text s : List ℕ) : Type 0 where
  passed_is : line_passed (put_all text ++ s) ≡ length (put_all text) + line_passed s
  line_is : kept_line (put_all text ++ s) ≡ text ++ kept_line s
  terminated_is : is_terminated (put_all text ++ s) ≡ is_terminated s

tab_in_front : (text s : List ℕ) → InFront text s → InFront (9 ∷ text) s
unfolding put_all
tab_in_front text s i =
    let rubout = behind_discarded 127 (put_all text ++ s) refl refl in
    let tab = behind_plain 9 (127 ∷ (put_all text ++ s)) refl refl in
    record {
      passed_is = rw (tab.passed_is, rubout.passed_is, i.passed_is) (omega arith);
      line_is = rw (tab.line_is, rubout.line_is, i.line_is);
      terminated_is = rw (tab.terminated_is, rubout.terminated_is) i.terminated_is;
    }

alone_in_front : (x : ℕ) (text s : List ℕ) → put_of x ≡ x ∷ [] → seven_bits x ≡ x → is_discarded x ≡ false → is_terminator x ≡ false → InFront text s
    → InFront (x ∷ text) s
unfolding put_all
alone_in_front x text s alone same kept plain i =
    let b = behind_plain x (put_all text ++ s) (rw same kept) (rw same plain) in
    record {
      passed_is = rw (alone, b.passed_is, i.passed_is) (omega arith);
      line_is = rw (alone, b.line_is, i.line_is, same);
      terminated_is = rw (alone, b.terminated_is) i.terminated_is;
    }

plain_in_front : {text : List ℕ} → PlainText text → (s : List ℕ) → InFront text s
plain_in_front nothing s = (unfold put_all in record { passed_is = sym (zero-add (line_passed s)); line_is = refl; terminated_is = refl })
plain_in_front (character {x} {text} low kept plain rest) s = by (eqb x 9) refl (plain_in_front rest s)
  where
    feed : x ≡ 12 → ⊥
    feed is = true≢false (sym (ap (λ (y : ℕ). is_terminator y) is) ∙ plain)

    by : (tab : Bool) → eqb x 9 ≡ tab → InFront text s → InFront (x ∷ text) s
    by true is i = rw (eqb-true x 9 is) (tab_in_front text s i)
    by false is i = alone_in_front x text s (put_alone x (eqb-false x 9 is) feed) (omega arith) kept plain i

-- a terminator is a 7-bit character that is kept
terminator_kept : (t : ℕ) → is_terminator t ≡ true → (seven_bits t ≡ t) × (is_discarded t ≡ false)
terminator_kept t ends = by (eqb t 10) (eqb t 11) (eqb t 12) refl refl refl ends
  where
    by : (feed tab form : Bool) → eqb t 10 ≡ feed → eqb t 11 ≡ tab → eqb t 12 ≡ form → (feed || (tab || form)) ≡ true → (seven_bits t ≡ t) × (is_discarded t ≡ false)
    by true tab form l v f is = rw (eqb-true t 10 l) (refl, refl)
    by false true form l v f is = rw (eqb-true t 11 v) (refl, refl)
    by false false true l v f is = rw (eqb-true t 12 f) (refl, refl)
    by false false false l v f is = absurd (false≢true is)

put_terminator : (t : ℕ) → is_terminator t ≡ true → put_of t ≡ t ∷ replicate (nuls_after t) 0
put_terminator t ends = by (eqb t 12) refl
  where
    tab : t ≡ 9 → ⊥
    tab is = false≢true (sym (ap (λ (y : ℕ). is_terminator y) is) ∙ ends)

    by : (feed : Bool) → eqb t 12 ≡ feed → put_of t ≡ t ∷ replicate (cond feed 1 0) 0
    by true is = rw (eqb-true t 12 is)
    by false is = put_alone t tab (eqb-false t 12 is)

-- a line that is put, and anything behind it: the line is found, and what is left is the NUL after a FORM FEED, and what stood behind
module _ {text : List ℕ} (plain : PlainText text) (t : ℕ) (ends : is_terminator t ≡ true) (rest : List ℕ) where
  put_is : put_all (text ++ (t ∷ [])) ++ rest ≡ put_all text ++ (t ∷ (replicate (nuls_after t) 0 ++ rest))
  unfolding put_all
  put_is = rw (put_append text (t ∷ []), put_terminator t ends, append_assoc (put_all text), append-nil {A = ℕ} (replicate (nuls_after t) 0))

  pub line_read_back : (mode : LineMode) (most : ℕ) → length (text ++ (t ∷ [])) ≤ most
      → line_found mode most (put_all (text ++ (t ∷ [])) ++ rest)
      ≡ record { laid = text ++ (t ∷ []); count = length (text ++ (t ∷ [])); status = 0; passed = length (put_all text) + 1 }
  line_read_back mode most fits =
      let more = replicate (nuls_after t) 0 ++ rest in
      let kept = terminator_kept t ends in
      let b = behind_end t more (rw kept.0 kept.1) (rw kept.0 ends) in
      let i = plain_in_front plain (t ∷ more) in
      let line : kept_line (put_all text ++ (t ∷ more)) ≡ text ++ (t ∷ []) =
      i.line_is ∙ ap (λ (l : List ℕ). text ++ l) b.line_is ∙ ap (λ (y : ℕ). text ++ (y ∷ [])) kept.0 in
      let found = whole_found mode most (put_all text ++ (t ∷ more)) (i.terminated_is ∙ b.terminated_is) (rw line fits) in
      rw (put_is, found, line, i.terminated_is, b.terminated_is, i.passed_is, b.passed_is)

  -- so the bytes passed are those put for the line, but for that NUL
  pub line_passed_law : length (put_all text) + 1 + nuls_after t ≡ length (put_all (text ++ (t ∷ [])))
  unfolding put_all
  line_passed_law =
      rw (put_append text (t ∷ []), put_terminator t ends, append-nil {A = ℕ} (replicate (nuls_after t) 0)) (omega (
        arith,
        length-append (put_all text) (t ∷ replicate (nuls_after t) 0),
        length-replicate {A = ℕ} (nuls_after t) 0,
      ))

  pub line_left : drop (length (put_all text) + 1) (put_all (text ++ (t ∷ [])) ++ rest) ≡ replicate (nuls_after t) 0 ++ rest
  line_left = rw put_is (drop-append-add (put_all text) (t ∷ (replicate (nuls_after t) 0 ++ rest)) 1)

-- a NUL in front of a line is passed, and nothing else
pub nul_in_front : (mode : LineMode) (most : ℕ) (s : List ℕ) → 0 < most → line_found mode most (0 ∷ s) ≡ one_passed (line_found mode most s)
nul_in_front mode most s some = found_discarded 0 s mode most some refl refl

abbrev pub some_passed : ℕ → LineFound → LineFound
some_passed k f = record { laid = f.laid; count = f.count; status = f.status; passed = k + f.passed }

pub nuls_in_front : (k : ℕ) (mode : LineMode) (most : ℕ) (s : List ℕ) → 0 < most → line_found mode most (replicate k 0 ++ s) ≡ some_passed k (line_found mode most s)
nuls_in_front zero mode most s some = rw (zero-add (line_found mode most s).passed)
nuls_in_front (suc k) mode most s some =
    nul_in_front mode most (replicate k 0 ++ s) some ∙ ap one_passed (nuls_in_front k mode most s some) ∙ rw (suc-add k (line_found mode most s).passed)

only_nuls : (k : ℕ) (mode : LineMode) (most : ℕ) → 0 < most
    → line_found mode most (replicate k 0) ≡ record { laid = []; count = 0; status = 64; passed = length (replicate {A = ℕ} k 0) }
only_nuls k mode most some =
    ap (λ (s : List ℕ). line_found mode most s) (sym (append-nil (replicate k 0)))
    ∙ nuls_in_front k mode most [] some
    ∙ rw (found_empty mode most some, add-zero k, length-replicate {A = ℕ} k 0)

-- one line, the NUL of the line before in front
one_line : (mode : LineMode) {text : List ℕ} {lines : List (List ℕ)} (j t : ℕ) (rest : List ℕ) → PlainText text → is_terminator t ≡ true
    → ReadBack mode (replicate (nuls_after t) 0 ++ rest) lines → ReadBack mode (replicate j 0 ++ (put_all (text ++ (t ∷ [])) ++ rest)) ((text ++ (t ∷ [])) ∷ lines)
one_line mode {text} {lines} j t rest plain ends more = one_read {lines = lines} (j + (length (put_all text) + 1)) found (rw left more)
  where
    s : List ℕ
    s = put_all (text ++ (t ∷ [])) ++ rest

    found : (most : ℕ) → length (text ++ (t ∷ [])) ≤ most
        → line_found mode most (replicate j 0 ++ s)
        ≡ record { laid = text ++ (t ∷ []); count = length (text ++ (t ∷ [])); status = 0; passed = j + (length (put_all text) + 1) }
    found most fits =
        nuls_in_front j mode most s (omega (arith, length-append text (t ∷ []))) ∙ ap (some_passed j) (line_read_back plain t ends rest mode most fits)

    left : drop (j + (length (put_all text) + 1)) (replicate j 0 ++ s) ≡ replicate (nuls_after t) 0 ++ rest
    left =
        ap (λ (k : ℕ). drop (k + (length (put_all text) + 1)) (replicate j 0 ++ s)) (sym (length-replicate {A = ℕ} j 0))
        ∙ drop-append-add (replicate j 0) s (length (put_all text) + 1)
        ∙ line_left plain t ends rest

-- the lines of a text, one after another; NULs fill the last block
module _ (mode : LineMode) (fill : ℕ) where
  behind_nuls : {lines : List (List ℕ)} → TextLines lines → (j : ℕ)
      → ReadBack mode (replicate j 0 ++ (put_all (flatten lines) ++ replicate fill 0)) lines
  unfolding flatten
  behind_nuls no_line j =
      (unfold put_all in rw (replicate-append-replicate {A = ℕ} j fill 0) (at_end (λ most some. only_nuls (j + fill) mode most some)))
  behind_nuls (one_more {lines = lines} (terminated {text = text} t plain ends) rest) j =
      rw (put_append (text ++ (t ∷ [])) (flatten lines), append_assoc (put_all (text ++ (t ∷ []))))
      (one_line mode j t (put_all (flatten lines) ++ replicate fill 0) plain ends (behind_nuls rest (nuls_after t)))

  pub lines_read_back : {lines : List (List ℕ)} → TextLines lines → ReadBack mode (put_all (flatten lines) ++ replicate fill 0) lines
  lines_read_back all = behind_nuls all 0
