-- How much room the switches of a line take: 384 bytes are enough for any line that CSI2 reads.
use Prim.Native.Nat.{ℕ, zero, suc, ◌+◌, ◌*◌, ◌≤◌}
use mathlib.Core.Path.{◌≡◌, ap}
use mathlib.Core.List.{List, [], ◌∷◌, ◌++◌}
use mathlib.Core.Option.{some}
use mathlib.Core.Bool.{Bool, true, false, cond}
use native.Mathlib.Omega.{arith}
use lib.Dec.{eqb}
use lib.ListN.{length, length-append}
use Rattle.command_grammar.specs.Parsed.{Switch, Specification, Parsed}
use Rattle.command_grammar.specs.Reader.{values_in}
use Rattle.command_grammar.specs.Grammar.{AreValues, IsSwitch, AreSwitches, IsSpecification, IsSide, Command}
use Rattle.command_grammar.specs.Grammar as G
use Rattle.command_grammar.specs.Reading.{Reading, Reads, reads, input_of, side_of, specification_at}
use Rattle.command_switches.specs.Encoded.{encoded}
use Rattle.command_switches.proofs.EncodedLength.{encoded_length}

values_short : (s : List ℕ) (vs : List (List ℕ)) → AreValues s vs → 2 * length vs ≤ length s
values_short s vs G.AreValues.end = omega arith
values_short s vs (G.AreValues.more {v} {s = t} {vs = us} run rest) = omega (arith, run.least, length-append v t, values_short t us rest)

switch_short : (s : List ℕ) (w : Switch) → IsSwitch s w → 2 + 2 * length w.values ≤ length s
switch_short s w (G.IsSwitch.switch {n} {s = t} {vs} letter run values) = omega (arith, length-append n t, values_short t vs values)

switches_short : (s : List ℕ) (ws : List Switch) → AreSwitches s ws → 2 * length ws + 2 * values_in ws ≤ length s
unfolding values_in
switches_short s ws G.AreSwitches.end = omega arith
switches_short s ws (G.AreSwitches.more {s = a} {t = b} {w} {ws = us} one rest) =
    omega (arith, length-append a b, switch_short a w one, switches_short b us rest)

pub specification_short : (s : List ℕ) (v : Specification) → IsSpecification s v → length (encoded v.switches) ≤ 3 * length s
specification_short s v (G.IsSpecification.specification {a} {b} {c} {e} {ws} at-device at-file at-uic switches) =
    omega (
      arith,
      length-append a (b ++ (c ++ e)),
      length-append b (c ++ e),
      length-append c e,
      encoded_length ws,
      switches_short e ws switches,
    )

nothing_at : (k : ℕ) (v : Specification) → specification_at k [] ≡ some v → ⊥
unfolding specification_at
nothing_at k v is = let z : ◌≡◌ {A = ℕ} 0 1 = cc in omega arith

-- a bound on the switches of each specification
abbrev Within : List Specification → ℕ → Type 0
Within vs most = (k : ℕ) (v : Specification) → specification_at k vs ≡ some v → length (encoded v.switches) ≤ most

within_cons : (v : Specification) (vs : List Specification) (most : ℕ) → length (encoded v.switches) ≤ most → Within vs most → Within (v ∷ vs) most
unfolding specification_at
within_cons v vs most here rest zero w is = let same : v ≡ w = cc in omega (arith, ap (λ (z : Specification). length (encoded z.switches)) same)
within_cons v vs most here rest (suc k) w is = rest k w is

side_short : (s : List ℕ) (vs : List Specification) → IsSide s vs → Within vs (3 * length s)
side_short s vs (G.IsSide.one {v} one) = within_cons v [] (3 * length s) (specification_short s v one) (λ k w is. absurd (nothing_at k w is))
side_short s vs (G.IsSide.more {s = a} {t = b} {v} {vs = us} one rest) =
    within_cons v us (3 * length s)
    (omega (arith, length-append a (44 ∷ b), specification_short a v one))
    (λ k w is. omega (arith, length-append a (44 ∷ b), side_short b us rest k w is))

within_more : (vs : List Specification) (less more : ℕ) → less ≤ more → Within vs less → Within vs more
within_more vs less more le within k v is = omega (arith, within k v is)

within_none : (most : ℕ) → Within [] most
within_none most k v is = absurd (nothing_at k v is)

within_side : (side : ℕ) (reading : Reading) (most : ℕ) → Within reading.output most → Within (input_of reading.input) most
    → Within (side_of side reading) most
unfolding side_of
within_side side reading most output input = by (eqb side 0) (eqb side 1)
  where
    by : (zeroth first : Bool) → Within (cond zeroth reading.output (cond first (input_of reading.input) [])) most
    by true first = output
    by false true = input
    by false false = within_none most

said_short : (line : List ℕ) (said : Parsed) → Command line said → (side : ℕ) → Within (side_of side said) (3 * length line)
said_short line said (G.Command.output {o} output) side =
    within_side side said (3 * length line) (side_short line o output) (within_none (3 * length line))
said_short line said (G.Command.both {s = a} {t = b} {o} {i} output input) side =
    within_side side said (3 * length line)
    (within_more o (3 * length a) (3 * length line) (omega (arith, length-append a (60 ∷ b))) (side_short a o output))
    (within_more i (3 * length b) (3 * length line) (omega (arith, length-append a (60 ∷ b))) (side_short b i input))

pub switches_within : (line : List ℕ) (reading : Reading) → Reads line reading → (side k : ℕ) (v : Specification)
    → specification_at k (side_of side reading) ≡ some v → length (encoded v.switches) ≤ 3 * length line
switches_within line reading (reads {said} says bounded) side k v is = said_short line said says side k v is
