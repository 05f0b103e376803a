-- What a write takes of a text and puts for it: character by character, of two parts, and how long it is.
use Prim.Native.Nat.{ℕ, ◌+◌, ◌*◌, ◌-◌, ◌≤◌, ◌<◌}
use mathlib.Core.Path.{◌≡◌, refl, sym, ap, ◌∙◌}
use mathlib.Core.Bool.{Bool, true, false, not, cond, ◌&&◌, false≢true}
use mathlib.Core.List.{List, [], ◌∷◌, ◌++◌, append_assoc}
use native.Mathlib.Numerals.{add-one}
use native.Mathlib.Omega.{arith}
use lib.Dec.{eqb}
use lib.ListN.{length, take, drop, get_or, length-append, take-append-drop, get_or-eq_default}
use lib.Seq.{drop-cons, drop-drop, take-length, length-take-le, get_or-take}
use Rattle.lines.proofs.TextBytes.{through_most}
use borrow.Author.Tests.{ne_eqb}
use Rattle.lines.specs.declared.LineMode.{LineMode}
use Rattle.lines.specs.declared.LineMode.TheVariants.{Normal, Special}
use Rattle.lines.specs.TextBytes.{is_terminator, through}
use Rattle.lines.specs.LineRead.{status_bit}
use Rattle.lines.specs.LineSteps.{is_special}
use Rattle.lines.specs.LineWrite.{put_of, put_all, taken_of, written_status}

-- a character that is neither TAB nor FORM FEED is put alone
pub put_alone : (x : ℕ) → (x ≡ 9 → ⊥) → (x ≡ 12 → ⊥) → put_of x ≡ x ∷ []
put_alone x tab feed = rw (ne_eqb x 9 tab, ne_eqb x 12 feed)

pub put_above : (x : ℕ) → 12 < x → put_of x ≡ x ∷ []
put_above x above = put_alone x (λ is. omega (arith, is, above)) (λ is. omega (arith, is, above))

pub put_one : (x : ℕ) → (1 ≤ length (put_of x)) × (length (put_of x) ≤ 2)
put_one x = by (eqb x 9) (eqb x 12)
  where
    by : (tab feed : Bool) → (1 ≤ length (cond tab (9 ∷ (127 ∷ [])) (cond feed (12 ∷ (0 ∷ [])) (x ∷ []))))
        × (length (cond tab (9 ∷ (127 ∷ [])) (cond feed (12 ∷ (0 ∷ [])) (x ∷ []))) ≤ 2)
    by true feed = (omega arith, omega arith)
    by false true = (omega arith, omega arith)
    by false false = (omega arith, omega arith)

-- each character is put as one byte or two
pub put_bounds : (text : List ℕ) → (length text ≤ length (put_all text)) × (length (put_all text) ≤ 2 * length text)
unfolding put_all
put_bounds [] = (omega arith, omega arith)
put_bounds (x ∷ text) =
    let rest = put_bounds text in
    let one = put_one x in
    let both = length-append (put_of x) (put_all text) in
    (omega arith, omega arith)

pub put_append : (text more : List ℕ) → put_all (text ++ more) ≡ put_all text ++ put_all more
unfolding put_all
put_append [] more = refl
put_append (x ∷ text) more = rw (put_append text more) (sym (append_assoc (put_of x) (put_all text) (put_all more)))

-- at a place of the text, as a loop has it
pub put_next : (text : List ℕ) (i : ℕ) → i < length text → put_all (drop i text) ≡ put_of (get_or text i 0) ++ put_all (drop (i + 1) text)
unfolding put_all
put_next text i inside = rw (add-one i, drop-cons text i 0)

-- where as many bytes are put as there are characters, nothing is put after any
put_short : (x : ℕ) → length (put_of x) ≡ 1 → put_of x ≡ x ∷ []
put_short x short = by (eqb x 9) (eqb x 12) short
  where
    by : (tab feed : Bool) → length (cond tab (9 ∷ (127 ∷ [])) (cond feed (12 ∷ (0 ∷ [])) (x ∷ []))) ≡ 1
        → cond tab (9 ∷ (127 ∷ [])) (cond feed (12 ∷ (0 ∷ [])) (x ∷ [])) ≡ x ∷ []
    by true feed is = absurd (omega (arith, is))
    by false true is = absurd (omega (arith, is))
    by false false is = refl

pub put_same : (text : List ℕ) → length (put_all text) ≡ length text → put_all text ≡ text
unfolding put_all
put_same [] same = refl
put_same (x ∷ text) same =
    let one = put_one x in
    let rest = put_bounds text in
    let both = length-append (put_of x) (put_all text) in
    let short : length (put_of x) ≡ 1 = omega (arith, same) in
    let others : length (put_all text) ≡ length text = omega (arith, same) in
    rw (put_short x short, put_same text others)

-- what is taken, by the first character
pub taken_nothing : (mode : LineMode) → taken_of mode [] ≡ []
unfolding taken_of through
taken_nothing Normal = refl
taken_nothing Special = refl

pub taken_stop : (mode : LineMode) (x : ℕ) (text : List ℕ) → (is_special mode && is_terminator x) ≡ true → taken_of mode (x ∷ text) ≡ x ∷ []
unfolding taken_of through
taken_stop Normal x text stops = absurd (false≢true stops)
taken_stop Special x text stops = rw stops

pub taken_next : (mode : LineMode) (x : ℕ) (text : List ℕ) → (is_special mode && is_terminator x) ≡ false → taken_of mode (x ∷ text) ≡ x ∷ taken_of mode text
unfolding taken_of through
taken_next Normal x text goes = refl
taken_next Special x text goes = rw goes

-- it is the front of the text
pub taken_front : (mode : LineMode) (text : List ℕ)
    → (length (taken_of mode text) ≤ length text) × (taken_of mode text ≡ take (length (taken_of mode text)) text)
unfolding taken_of
taken_front Normal text = (omega arith, sym (take-length text))
taken_front Special text =
    let most = through_most is_terminator text in
    let long = length-take-le (through is_terminator text) text most in
    (rw long most, rw long)

-- the status, where nothing is taken, and by the last character taken
pub written_none : (taken : List ℕ) → length taken ≡ 0 → written_status taken ≡ 1
written_none taken none = rw (get_or-eq_default taken 0 {n = length taken - 1} (omega arith))

pub written_last : (mode : LineMode) (text : List ℕ) → 0 < length (taken_of mode text)
    → written_status (taken_of mode text) ≡ status_bit (not (is_terminator (get_or text (length (taken_of mode text) - 1) 0))) 1
written_last mode text some =
    let count = length (taken_of mode text) in
    let last : get_or (taken_of mode text) (count - 1) 0 ≡ get_or text (count - 1) 0 =
    ap (λ (l : List ℕ). get_or l (count - 1) 0) (taken_front mode text).1 ∙ get_or-take count text (count - 1) 0 (omega arith) in
    rw last

-- the status, by the code's test of the last character
module _ (taken : List ℕ) where
  pub status_none : length taken ≡ 0 → 1 ≡ written_status taken
  status_none none = sym (written_none taken none)

  module _ {ends : Bool} (is : ends ≡ is_terminator (get_or taken (length taken - 1) 0)) where
    pub status_ended : ends ≡ true → 0 ≡ written_status taken
    status_ended holds = rw (← is, holds)

    pub status_other : ends ≡ false → 1 ≡ written_status taken
    status_other fails = rw (← is, fails)
