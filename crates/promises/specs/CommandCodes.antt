-- When CSI1 and CSI2 give each code, in the paper's propositions, row under row as in its order.
use Rattle.std.specs.Prelude.{ℕ, ◌<◌, List, [], ◌∷◌, length}
use Rattle.std.proofs.Math.Option.{none, some}
use Rattle.command_grammar.specs.Parsed.{Specification}
use Rattle.command_grammar.specs.Reading.{OverBound}
use Rattle.command_grammar.specs.LinePlace.{Wrong}
use Rattle.command_switches.specs.Encoded.{encoded}
use Rattle.command.specs.Condensed.{condensed, line_limit, TooLong}
use Rattle.command.specs.Csi2.{FoundAt}
use Rattle.promises.specs.GivenWhen.{Case, ◌when◌}

-- "Code 40 is not for Format, conversions or command lines."
-- CSI1: "Order: 53, raw line over 512 or condensed over 128; 52, buffer shorter than the condensed line; 50, not in the grammar" and
-- "54, a number over its bound, after 50"
abbrev pub Csi1Cases : List ℕ → List ℕ → List Case
Csi1Cases line buffer =
    0o53 when TooLong line
    ∷ 0o52 when (length buffer < length (condensed line))
    ∷ 0o50 when Wrong (condensed line)
    ∷ 0o54 when OverBound (condensed line)
    ∷ []

-- "switch buffer too short" for the specification that is there
abbrev pub ShortFor : List ℕ → ℕ → ℕ → List ℕ → Type 0
ShortFor line side k buffer = (v : Specification) × FoundAt line side k (some v) × length buffer < length (encoded v.switches)

-- CSI2: "Order: 53, over 128; 50; 51, no such side or specification; 52, switch buffer too short." and "54, a number over its bound, after 50 in CSI1 and
-- CSI2; CSI2's 51 and 52 follow it"
abbrev pub Csi2Cases : List ℕ → ℕ → ℕ → List ℕ → List Case
Csi2Cases line side k buffer =
    0o53 when (line_limit < length line)
    ∷ 0o50 when Wrong line
    ∷ 0o54 when OverBound line
    ∷ 0o51 when FoundAt line side k none
    ∷ 0o52 when ShortFor line side k buffer
    ∷ []
