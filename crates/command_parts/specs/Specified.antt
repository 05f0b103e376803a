-- Means: what is known of the specification that stands at a place of a line.
use Rattle.std.specs.Prelude.{ℕ, ◌≡◌, List, length}
use Rattle.command_grammar.specs.Parsed.{Specification}
use Rattle.command_grammar.specs.Reader.{ok, specification, from}
use Rattle.command_parts.specs.CappedParts.{capped_specification}
use Rattle.command_parts.specs.Numbers.{numbers_of}
use Rattle.command_parts.specs.Passed.{switches}
use Rattle.command_parts.specs.declared.Numbers.{Numbers}
use Rattle.command_parts.specs.declared.Parts.{Parts}

-- the numbers, with so many switches
abbrev pub with_switches : Numbers → ℕ → Numbers
with_switches x n =
    record {
      present = x.present;
      device = x.device;
      unit = x.unit;
      name1 = x.name1;
      name2 = x.name2;
      extension = x.extension;
      group = x.group;
      user = x.user;
      switches = n;
    }

-- its numbers, as far as 256, and where its switches begin
pub record PartsAt (line : List ℕ) (at : ℕ) (x : Parts) : Type 0 where
  pub numbers : (v : Specification) (end : ℕ) → from specification line at ≡ ok v end → with_switches x.numbers (length v.switches) ≡ numbers_of (capped_specification v)
  pub behind : (v : Specification) (end : ℕ) → from specification line at ≡ ok v end → from switches line x.next.at ≡ ok v.switches end
