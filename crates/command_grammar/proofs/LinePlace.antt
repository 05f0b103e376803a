-- The place at which a line is refused: beginnings of lines, and that a line has one place only, and then no reading.
use Prim.Native.Nat.{ℕ, ◌≤◌, ◌<◌}
use mathlib.Core.Path.{◌≡◌, sym, ap, subst, ◌∙◌}
use mathlib.Core.Logic.{◌↔◌}
use mathlib.Core.List.{List, ◌++◌, append_assoc}
use native.Mathlib.Nat.{le_refl}
use native.Mathlib.Decide.{dec_lt}
use native.Mathlib.Omega.{arith}
use lib.ListN.{length, take, drop, take-append-drop}
use lib.Seq.{take-length, take-take}
use Rattle.command_grammar.specs.Parsed.{Parsed}
use Rattle.command_grammar.specs.Grammar.{Command}
use Rattle.command_grammar.specs.Reading.{Reading, Reads, reads}
use Rattle.command_grammar.specs.LinePlace.{Viable, Wrong, LinePlace}

-- a beginning of what begins a line begins a line
pub viable_shorter : (line : List ℕ) (shorter longer : ℕ) → shorter ≤ longer → Viable (take longer line) → Viable (take shorter line)
unfolding Viable
viable_shorter s p q l v =
    let e : take p s ++ drop p (take q s) ≡ take q s = rw (← (take-take p q s l)) (take-append-drop p (take q s)) in
    (drop p (take q s) ++ v.0, v.1, rw (← (append_assoc (take p s) (drop p (take q s)) v.0), e) v.2)

-- every beginning of a line of the grammar is viable
pub beginning_viable : (line : List ℕ) (said : Parsed) → Command line said → (count : ℕ) → Viable (take count line)
unfolding Viable
beginning_viable s r x n = (drop n s, r, rw (take-append-drop n s) x)

not_below : (line : List ℕ) (p q : ℕ) → LinePlace line p → LinePlace line q → p < q → ⊥
not_below line p q P R less = P.longest q (omega arith) R.within R.begins

-- the place is unique
pub place_one : (line : List ℕ) (p q : ℕ) → LinePlace line p → LinePlace line q → p ≡ q
place_one s p q P R = by (dec_lt p q) (dec_lt q p)
  where
    by : Dec (p < q) → Dec (q < p) → p ≡ q
    by (yes l) d = absurd (not_below s p q P R l)
    by (no a) (yes l) = absurd (not_below s q p R P l)
    by (no a) (no b) = omega arith

-- exactly the beginnings up to the place are viable
pub viable_iff : (line : List ℕ) (p : ℕ) → LinePlace line p → (count : ℕ) → count ≤ length line → Viable (take count line) ↔ count ≤ p
viable_iff line p P count within = (λ viable. by viable (dec_lt p count), λ few. viable_shorter line count p few P.begins)
  where
    by : Viable (take count line) → Dec (p < count) → count ≤ p
    by viable (yes more) = absurd (P.longest count (omega arith) within viable)
    by viable (no few) = omega arith

-- "or with its end if it only stops too soon"
pub end_iff : (line : List ℕ) (p : ℕ) → LinePlace line p → p ≡ length line ↔ Viable line
end_iff line p P = (
  λ end. subst Viable (ap (λ (n : ℕ). take n line) end ∙ take-length line) P.begins,
  λ viable. omega (arith, P.within, (viable_iff line p P (length line) (le_refl (length line))).0 (subst Viable (sym (take-length line)) viable)),
)

-- a line that has a reading is not wrong, and so has no place
pub read_right : (line : List ℕ) (reading : Reading) → Reads line reading → Wrong line → ⊥
unfolding Wrong
read_right line reading (reads {said} says bounded) wrong = wrong said says

pub not_read : (line : List ℕ) (place : ℕ) (reading : Reading) → LinePlace line place → Reads line reading → ⊥
not_read line place reading placed read = read_right line reading read placed.wrong
