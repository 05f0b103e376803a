-- Pieces laid one behind the other: nothing, one character, and a piece behind another.
use Prim.Native.Nat.{ℕ, ◌+◌, ◌≤◌, ◌<◌}
use mathlib.Core.Path.{◌≡◌, ap, ◌∙◌, subst}
use mathlib.Core.List.{List, [], ◌∷◌, ◌++◌, append-nil, append_assoc}
use native.Mathlib.Omega.{arith}
use native.Mathlib.Numerals.{add-one}
use lib.ListN.{length, take, set, length-append, length-set}
use lib.Seq.{take-suc-set, length-take-le}
use Rattle.command_writing.specs.LaidText.{Laid, within, over, Puts}

pub puts_nothing : {line : List ℕ} {count : ℕ} → Puts line count line count []
puts_nothing = record { puts = λ text laid. rw append-nil laid }

pub puts_both : {before between after : List ℕ} {count middle next : ℕ} {first second : List ℕ} → Puts before count between middle first
    → Puts between middle after next second → Puts before count after next (first ++ second)
puts_both {first} {second} p q =
    record { puts = λ text laid. rw (← append_assoc text first second) (q.puts (text ++ first) (p.puts text laid)) }

-- the same piece under another name
pub puts_same : {before after : List ℕ} {count next : ℕ} {piece other : List ℕ} → piece ≡ other → Puts before count after next piece → Puts before count after next other
puts_same {before} {after} {count} {next} same p = subst (λ s. Puts before count after next s) same p

module _ (line : List ℕ) (count character : ℕ) where
  one_more : (text : List ℕ) → length line < length text → length line < length (text ++ (character ∷ []))
  one_more text long = omega (arith, length-append text (character ∷ []))

  pub put_inside : count < length line → Puts line count (set line count character) (count + 1) (character ∷ [])
  put_inside inside = record { puts = at }
    where
      at : (text : List ℕ) → Laid line count text → Laid (set line count character) (count + 1) (text ++ (character ∷ []))
      at text (within fits same) =
          within (omega (arith, length-set line count character))
          (ap (λ (n : ℕ). take n (set line count character)) (add-one count) ∙ take-suc-set line count character inside
          ∙ ap (λ (s : List ℕ). s ++ (character ∷ [])) same)
      at text (over behind long) = absurd (omega arith)

  pub put_behind : length line < count → Puts line count line count (character ∷ [])
  put_behind past = record { puts = at }
    where
      at : (text : List ℕ) → Laid line count text → Laid line count (text ++ (character ∷ []))
      at text (within fits same) = absurd (omega arith)
      at text (over behind long) = over behind (one_more text long)

  pub put_full : length line ≤ count → count ≤ length line → Puts line count line (count + 1) (character ∷ [])
  put_full full fits = record { puts = at }
    where
      at : (text : List ℕ) → Laid line count text → Laid line (count + 1) (text ++ (character ∷ []))
      at text (within fits same) =
          over (omega arith) (omega (arith, length-append text (character ∷ []), length-take-le count line fits, ap length same))
      at text (over behind long) = absurd (omega arith)

-- the whole line: the text is what is laid, or it is longer
pub laid_within : {line text : List ℕ} {count : ℕ} → Laid line count text → count ≤ length line → (take count line ≡ text) × (length text ≡ count)
laid_within {line} {text} {count} (within fits same) small = (same, omega (arith, length-take-le count line fits, ap length same))
laid_within (over behind long) small = absurd (omega arith)

pub laid_over_law : {line text : List ℕ} {count : ℕ} → Laid line count text → length line < count → length line < length text
laid_over_law (within fits same) large = absurd (omega arith)
laid_over_law (over behind long) large = long
