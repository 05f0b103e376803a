-- The condensed line, character by character.
use Prim.Native.Nat.{ℕ, suc, ◌+◌, ◌≤◌, ◌<◌}
use mathlib.Core.Path.{◌≡◌, refl, sym, ap, ◌∙◌}
use mathlib.Core.List.{List, [], ◌∷◌, ◌++◌, append_assoc, append-nil}
use mathlib.Core.Bool.{Bool, true, false, cond}
use native.Mathlib.Numerals.{add-one}
use native.Mathlib.Omega.{arith}
use lib.ListN.{length, take, drop, get_or, set, drop_of_length-le}
use lib.Seq.{drop-cons, take-suc-set, length-take-le}
use Rattle.command.specs.Condensed.{is_dropped, condensed}
use Rattle.command.specs.Laid.{LaidOne, CondensedTo}

-- one character and the rest
by_character : (x : ℕ) (line : List ℕ) → condensed (x ∷ line) ≡ condensed (x ∷ []) ++ condensed line
unfolding condensed
by_character x line = by (is_dropped x)
  where
    by : (dropped : Bool) → cond dropped (condensed line) (x ∷ condensed line) ≡ cond dropped [] (x ∷ []) ++ condensed line
    by true = refl
    by false = refl

dropped_none : (x : ℕ) → is_dropped x ≡ true → condensed (x ∷ []) ≡ []
unfolding condensed
dropped_none x is = rw is

kept_one : (x : ℕ) → is_dropped x ≡ false → condensed (x ∷ []) ≡ x ∷ []
unfolding condensed
kept_one x is = rw is

-- one character dropped, or laid behind the others
pub keep_dropped : (characters : List ℕ) (count x : ℕ) → is_dropped x ≡ true → LaidOne characters characters count count x
keep_dropped characters count x is = record { few = omega arith; laid = rw (dropped_none x is, append-nil) }

pub keep_laid : (characters : List ℕ) (count x : ℕ) → count < length characters → is_dropped x ≡ false
    → LaidOne characters (set characters count x) count (count + 1) x
keep_laid characters count x inside is =
    record { few = omega arith; laid = rw (add-one, kept_one x is) (take-suc-set characters count x inside) }

-- what is laid when i characters are read, and then what the rest keeps, is the condensed line
pub record Laid (line characters : List ℕ) (count i : ℕ) : Type 0 where
  pub few : count ≤ i
  pub due : take count characters ++ condensed (drop i line) ≡ condensed line

pub laid_next : {line characters after : List ℕ} {count next i : ℕ} → i < length line → Laid line characters count i
    → LaidOne characters after count next (get_or line i 0) → Laid line after next (i + 1)
laid_next {line} {characters} {after} {count} {next} {i} inside laid kept =
    record {
      few = omega (arith, laid.few, kept.few);
      due =
          rw (kept.laid, add-one, append_assoc, ← (by_character (get_or line i 0) (drop (suc i) line)), ← (drop-cons line i 0 inside)) laid.due;
    }

all_laid : (line characters : List ℕ) (count i : ℕ) → length line ≤ i → Laid line characters count i → take count characters ≡ condensed line
unfolding condensed
all_laid line characters count i end laid =
    sym (append-nil (take count characters))
    ∙ ap (λ (l : List ℕ). take count characters ++ condensed l) (sym (drop_of_length-le line end))
    ∙ laid.due

pub laid_end : {line characters : List ℕ} {count i : ℕ} → length line ≤ i → count ≤ length characters → Laid line characters count i
    → CondensedTo line characters count
laid_end {line} {characters} {count} {i} end fits laid =
    let all = all_laid line characters count i end laid in
    record { long = sym (length-take-le count characters fits) ∙ ap (λ (l : List ℕ). length l) all; within = fits; laid = all }
