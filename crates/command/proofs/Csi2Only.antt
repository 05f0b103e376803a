-- CSI2 has one answer, and leaves one buffer: its definition allows something for every line, and that is the only thing possible.
use Prim.Native.Nat.{ℕ, ◌≤◌, ◌<◌}
use mathlib.Core.Path.{◌≡◌, refl, sym, ap, ◌∙◌}
use mathlib.Core.Logic.{◌⊎◌, inl, inr}
use mathlib.Core.List.{List, ◌++◌}
use mathlib.Core.Option.{Option, none, some}
use native.Mathlib.Nat.{not-le_of_lt}
use native.Mathlib.Decide.{dec_lt}
use native.Mathlib.Omega.{arith}
use lib.ListN.{length, drop}
use Rattle.answers.proofs.RefusalsLadder.{Ladder, here, behind, End, end_single, ladder_single}
use Rattle.command_grammar.specs.Parsed.{Specification}
use Rattle.command_grammar.specs.Reading.{Reading, Reads, OverBound, side_of, specification_at}
use Rattle.command_grammar.specs.LinePlace.{LinePlace}
use Rattle.command_grammar.proofs.GrammarOne.{reads_one, over_not_read, over_right, read_large_or_placed}
use Rattle.command_grammar.proofs.LinePlace.{place_one, not_read}
use Rattle.command_parts.specs.Numbers.{numbers_of}
use Rattle.command_switches.specs.Encoded.{encoded}
use Rattle.command.specs.Condensed.{line_limit}
use Rattle.command.specs.Csi2.{refusal, asking_answer, FoundAt, Csi2Answered}
use Rattle.command.specs.Csi2 as Two
use Rattle.command.specs.declared.csi2.SpecificationAnswer.{SpecificationAnswer}
use Rattle.command.specs.Asking as A

module _ {line : List ℕ} {side k : ℕ} where
  -- one thing is found at a place
  found_one : {a b : Option Specification} → FoundAt line side k a → FoundAt line side k b → a ≡ b
  found_one x y =
      sym x.there ∙ ap (λ (r : Reading). specification_at k (side_of side r)) (reads_one line x.reading y.reading x.reads y.reads) ∙ y.there

  same_found : {v w : Specification} → FoundAt line side k (some v) → FoundAt line side k (some w) → v ≡ w
  same_found {v} {w} x y = let same = found_one x y in cc

  pub found_some : {v : Specification} → FoundAt line side k (some v) → FoundAt line side k none → ⊥
  found_some x y = let same = found_one x y in let z : ◌≡◌ {A = ℕ} 0 1 = cc in omega arith

  -- a line of which something is found has no place, and no number over its bound
  found_right : {found : Option Specification} → FoundAt line side k found → (place : ℕ) × LinePlace line place → ⊥
  found_right x at = not_read line at.0 x.reading at.1 x.reads

  pub found_bounded : {found : Option Specification} → FoundAt line side k found → OverBound line → ⊥
  found_bounded x over = over_not_read line x.reading over x.reads

  -- the specification that is found has room
  pub found_fits : {v w : Specification} {room : ℕ} → FoundAt line side k (some v) → length (encoded v.switches) ≤ room
      → FoundAt line side k (some w) → room < length (encoded w.switches) → ⊥
  found_fits x fits y few = omega (arith, fits, few, ap (λ (z : Specification). length (encoded z.switches)) (same_found x y))

-- what is answered and left for a specification that has room
abbrev given : List ℕ → Specification → SpecificationAnswer × List ℕ
given buffer v = (asking_answer (A.Given (numbers_of v)), encoded v.switches ++ drop (length (encoded v.switches)) buffer)

-- its cases, each with what it answers and leaves
abbrev Csi2Ladder : List ℕ → ℕ → ℕ → List ℕ → SpecificationAnswer × List ℕ → Type 0
Csi2Ladder line side k buffer =
    Ladder {When = line_limit < length line} (λ over. (refusal 0o53 0, buffer))
    (Ladder {When = (place : ℕ) × LinePlace line place} (λ at. (refusal 0o50 at.0, buffer))
    (Ladder {When = OverBound line} (λ over. (refusal 0o54 0, buffer))
    (Ladder {When = FoundAt line side k none} (λ found. (refusal 0o51 0, buffer))
    (Ladder {When = (v : Specification) × FoundAt line side k (some v) × length buffer < length (encoded v.switches)} (λ found. (refusal 0o52 0, buffer))
    (Ladder {When = (v : Specification) × FoundAt line side k (some v)} (λ found. given buffer found.0)
    End)))))

csi2_ladder : (line : List ℕ) (side k : ℕ) (buffer : List ℕ) (a : SpecificationAnswer) (after : List ℕ) → Csi2Answered line side k buffer a after
    → Csi2Ladder line side k buffer (a, after)
csi2_ladder line side k buffer a after (Two.Csi2Answered.answered (Two.Csi2.long over)) = here over
csi2_ladder line side k buffer a after (Two.Csi2Answered.answered (Two.Csi2.wrong fits {place} at)) = behind (λ over. not-le_of_lt over fits) (here (place, at))
csi2_ladder line side k buffer a after (Two.Csi2Answered.answered (Two.Csi2.large fits over)) =
    behind (λ over. not-le_of_lt over fits) (behind (λ at. over_right line over at.1.wrong) (here over))
csi2_ladder line side k buffer a after (Two.Csi2Answered.answered (Two.Csi2.missing fits found)) =
    behind (λ over. not-le_of_lt over fits) (behind (found_right found) (behind (found_bounded found) (here found)))
csi2_ladder line side k buffer a after (Two.Csi2Answered.answered (Two.Csi2.short fits {v} found few)) =
    behind (λ over. not-le_of_lt over fits) (behind (found_right found) (behind (found_bounded found)
    (behind (found_some found) (here (v, found, few)))))
csi2_ladder line side k buffer a after (Two.Csi2Answered.answered (Two.Csi2.given fits {v} found room)) =
    behind (λ over. not-le_of_lt over fits) (behind (found_right found) (behind (found_bounded found)
    (behind (found_some found) (behind (λ other. found_fits found room other.1 other.2) (here (v, found))))))

-- "the stated result and final buffers are the only ones possible for given inputs, refusal or not"
pub csi2_answered_one : (line : List ℕ) (side k : ℕ) (buffer : List ℕ) (a b : SpecificationAnswer) (after after' : List ℕ)
    → Csi2Answered line side k buffer a after → Csi2Answered line side k buffer b after' → (a ≡ b) × (after ≡ after')
csi2_answered_one line side k buffer a b after after' x y =
    let same = ladder_single (λ p q. refl) (ladder_single
    (λ p q. ap (λ (place : ℕ). (refusal 0o50 place, buffer)) (place_one line p.0 q.0 p.1 q.1))
    (ladder_single (λ p q. refl) (ladder_single (λ p q. refl) (ladder_single (λ p q. refl)
    (ladder_single (λ p q. ap (given buffer) (same_found p.1 q.1)) end_single)))))
    (a, after) (b, after') (csi2_ladder line side k buffer a after x) (csi2_ladder line side k buffer b after' y) in
    (ap (λ r. r.0) same, ap (λ r. r.1) same)

-- every line is answered, for every side and place
module _ (line : List ℕ) (side k : ℕ) (buffer : List ℕ) where
  of_found : length line ≤ line_limit → (found : Option Specification) → FoundAt line side k found
      → (answer : SpecificationAnswer) × (after : List ℕ) × Csi2Answered line side k buffer answer after
  of_found fits none found = (_, _, Two.Csi2Answered.answered (Two.Csi2.missing fits found))
  of_found fits (some v) found = by (dec_lt (length buffer) (length (encoded v.switches)))
    where
      by : Dec (length buffer < length (encoded v.switches)) → (answer : SpecificationAnswer) × (after : List ℕ) × Csi2Answered line side k buffer answer after
      by (yes few) = (_, _, Two.Csi2Answered.answered (Two.Csi2.short fits found few))
      by (no room) = (_, _, Two.Csi2Answered.answered (Two.Csi2.given fits found (omega arith)))

  pub csi2_answers : (answer : SpecificationAnswer) × (after : List ℕ) × Csi2Answered line side k buffer answer after
  csi2_answers = by (dec_lt line_limit (length line)) (read_large_or_placed line)
    where
      by : Dec (line_limit < length line) → ((reading : Reading) × Reads line reading) ⊎ (OverBound line ⊎ ((p : ℕ) × LinePlace line p))
          → (answer : SpecificationAnswer) × (after : List ℕ) × Csi2Answered line side k buffer answer after
      by (yes over) says = (_, _, Two.Csi2Answered.answered (Two.Csi2.long over))
      by (no fits) (inl says) = of_found (omega arith) _ (record { reading = says.0; reads = says.1; there = refl })
      by (no fits) (inr (inl over)) = (_, _, Two.Csi2Answered.answered (Two.Csi2.large (omega arith) over))
      by (no fits) (inr (inr at)) = (_, _, Two.Csi2Answered.answered (Two.Csi2.wrong (omega arith) at.1))
