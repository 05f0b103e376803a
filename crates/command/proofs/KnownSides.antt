-- Asking for each side's specifications by place yields the reading, all of it and no more.
use Prim.Native.Nat.{ℕ, zero, suc, ◌≤◌}
use mathlib.Core.Path.{◌≡◌, refl, ap, subst}
use mathlib.Core.List.{List, [], ◌∷◌}
use mathlib.Core.Option.{none, some}
use native.Mathlib.Omega.{arith}
use lib.ListN.{length, drop}
use Rattle.command_grammar.specs.Parsed.{Specification}
use Rattle.command_grammar.specs.Reading.{Reading, Reads, side_of, specification_at}
use Rattle.command_parts.specs.Numbers.{numbers_of}
use Rattle.command_switches.specs.Encoded.{encoded}
use Rattle.command.specs.Condensed.{line_limit}
use Rattle.command.specs.Csi2.{asking_answer, FoundAt, Csi2Answered}
use Rattle.command.specs.Known.{Known, decoded, known_of, switch_numbers, AskedFrom, stops, goes}
use Rattle.command.specs.declared.csi2.SpecificationAnswer.{SpecificationAnswer}
use Rattle.command.specs.Asking as A
use Rattle.command.proofs.Csi2Only.{csi2_answers}
use Rattle.command.proofs.Csi2Found.{answers_missing, answers_given, csi2_room}
use Rattle.command.proofs.KnownDecoded.{decoded_encoded}

-- places of a list, and what is left of it from a place on

pub none_left : (k : ℕ) (vs : List Specification) → drop k vs ≡ [] → specification_at k vs ≡ none
unfolding specification_at
none_left k [] is = refl
none_left zero (v ∷ vs) is = let z : ◌≡◌ {A = ℕ} 0 1 = cc in absurd (omega arith)
none_left (suc k) (v ∷ vs) is = none_left k vs is

pub one_left : (k : ℕ) (vs : List Specification) (v : Specification) (us : List Specification) → drop k vs ≡ v ∷ us
    → (specification_at k vs ≡ some v) × (drop (suc k) vs ≡ us)
unfolding specification_at
one_left zero [] v us is = let z : ◌≡◌ {A = ℕ} 0 1 = cc in absurd (omega arith)
one_left (suc k) [] v us is = let z : ◌≡◌ {A = ℕ} 0 1 = cc in absurd (omega arith)
one_left zero (w ∷ vs) v us is = (cc, cc)
one_left (suc k) (w ∷ vs) v us is = one_left k vs v us is

-- one answer, by what is left of the side from its place on

module _ (line : List ℕ) (reading : Reading) (fits : length line ≤ line_limit) (read : Reads line reading) (side : ℕ) where
  module _ {k : ℕ} {buffer : List ℕ} {answer : SpecificationAnswer} {after : List ℕ} (is : Csi2Answered line side k buffer answer after) where
    nothing_known : drop k (side_of side reading) ≡ [] → answer.code ≡ 0o51
    nothing_known left =
        let found : FoundAt line side k none = record { reading = reading; reads = read; there = none_left k (side_of side reading) left } in
        ap (λ (a : SpecificationAnswer). a.code) (answers_missing line fits side k buffer answer after is found).0

    one_known : (v : Specification) (us : List Specification) → drop k (side_of side reading) ≡ v ∷ us → (answer.code ≡ 0o52 → ⊥)
        → (answer.code ≡ 0) × (◌≡◌ {A = Known} (record { answer = answer; switches = decoded answer.numbers.switches after })
        (record { answer = asking_answer (A.Given (numbers_of v)); switches = switch_numbers v.switches }))
    unfolding numbers_of
    one_known v us left room =
        let found : FoundAt line side k (some v) = record { reading = reading; reads = read; there = (one_left k (side_of side reading) v us left).0 } in
        let given = answers_given line fits side k buffer answer after is v found room in
        (ap (λ (a : SpecificationAnswer). a.code) given.0, rw (given.0, given.1, decoded_encoded v.switches (drop (length (encoded v.switches)) buffer)))

  -- all answers

  module _ (lent : ℕ → List ℕ) where
    asked_from : ((k : ℕ) → 384 ≤ length (lent k)) → (k : ℕ) (us : List Specification) → drop k (side_of side reading) ≡ us → AskedFrom line side lent k (known_of us)
    unfolding known_of
    asked_from room k [] left = let given = csi2_answers line side k (lent k) in stops given.2 (nothing_known given.2 left)
    asked_from room k (v ∷ us) left =
        let given = csi2_answers line side k (lent k) in
        let known = one_known given.2 v us left (csi2_room line side k (lent k) given.0 given.1 given.2 (room k)) in
        subst (λ (x : Known). AskedFrom line side lent k (x ∷ known_of us)) known.1
        (goes given.2 known.0 (asked_from room (suc k) us (one_left k (side_of side reading) v us left).1))

    from_one : (k : ℕ) (us : List Specification) (known : List Known) → drop k (side_of side reading) ≡ us → AskedFrom line side lent k known → known ≡ known_of us
    unfolding known_of
    from_one k [] known left (stops is code) = refl
    from_one k (v ∷ us) known left (stops is code) = absurd (omega (arith, code, (one_known is v us left (λ short. omega (arith, code, short))).0))
    from_one k [] known left (goes is code rest) = absurd (omega (arith, code, nothing_known is left))
    from_one k (v ∷ us) known left (goes {rest = more} is code rest) =
        rw ((one_known is v us left (λ short. omega (arith, code, short))).1, from_one (suc k) us more (one_left k (side_of side reading) v us left).1 rest)

    -- "Asking for each side's specifications by place yields that reading, all of it and no more": with 384 bytes for each answer the asking ends,
    -- and what is then known, with whatever buffers it ends, is what there is to know of the side's specifications
    pub side_asked : ((k : ℕ) → 384 ≤ length (lent k)) → AskedFrom line side lent 0 (known_of (side_of side reading))
    side_asked room = asked_from room 0 (side_of side reading) refl

    pub side_asked_one : (known : List Known) → AskedFrom line side lent 0 known → known ≡ known_of (side_of side reading)
    side_asked_one known asked = from_one 0 (side_of side reading) known refl asked
