-- The stages of CSI2: what each return answers.
use Prim.Native.Nat.{ℕ, ◌≤◌, ◌<◌}
use mathlib.Core.Path.{◌≡◌}
use mathlib.Core.List.{List}
use mathlib.Core.Option.{Option, some}
use lib.ListN.{length}
use Rattle.std.specs.Prelude.{Err}
use Rattle.command_cursor.specs.declared.Cursor.{Cursor}
use Rattle.command_grammar.specs.Parsed.{Specification, Parsed}
use Rattle.command_grammar.specs.Grammar.{Command}
use Rattle.command_grammar.specs.Bounded.{Bounded}
use Rattle.command_grammar.specs.Reading.{reads, exceeds, side_of, specification_at}
use Rattle.command_grammar.specs.Reader.{specification}
use Rattle.command_grammar.proofs.ReaderLines.{said_by, placed_by}
use Rattle.command_grammar.proofs.Keeps.{keeps_bounded, not_bounded, specification_bounded}
use Rattle.command_parts.proofs.CappedParts.{specification_whole}
use Rattle.command_sides.specs.Sought.{LocatedIn}
use Rattle.command_sides.specs.Sought as S
use Rattle.command_sides.specs.Located.{located_in}
use Rattle.command_sides.specs.declared.LineFault.{LineFault}
use Rattle.command_sides.specs.declared.LineFault.TheVariants as Fault
use Rattle.command_sides.specs.Located as L
use Rattle.command.specs.Condensed.{line_limit}
use Rattle.command.specs.Csi2.{FoundAt, Csi2}
use Rattle.command.specs.Csi2 as Two
use Rattle.command.specs.GivenAt.{SpecificationGiven, GivenAt, SpecificationAt}
use Rattle.command.specs.GivenAt as R
use Rattle.command.specs.Asking.{Asking, asking_in, asking_fault}
use Rattle.command.specs.Asking as A

pub line_long : (line : List ℕ) (side k : ℕ) (buffer : List ℕ) → line_limit < length line → Csi2 line side k buffer A.TooLong buffer
line_long line side k buffer over = Two.Csi2.long over

-- what the line says, where its numbers keep the bounds, is its reading
found_at : {line : List ℕ} {side k : ℕ} {said : Parsed} {found : Option Specification} → Command line said → Bounded said → specification_at k (side_of side said) ≡ found
    → FoundAt line side k found
found_at {said} says bounded is = record { reading = said; reads = reads says bounded; there = is }

module _ {line : List ℕ} {side k : ℕ} (buffer : List ℕ) (few : length line ≤ line_limit) where
  pub line_fault : (fault : LineFault) → LocatedIn line side k (located_in (Err fault)) → Csi2 line side k buffer (asking_in (Err (asking_fault fault))) buffer
  line_fault (Fault.Misread place) (S.LocatedIn.refused is) = Two.Csi2.wrong few (placed_by line place is)
  line_fault Fault.TooLarge (S.LocatedIn.large {said} {n} is fails) = Two.Csi2.large few (exceeds (said_by line said n is) (not_bounded said fails))

  pub none_there : LocatedIn line side k L.Missing → Csi2 line side k buffer A.Missing buffer
  none_there (S.LocatedIn.missing {said} {n} is keeps none_at) = Two.Csi2.missing few (found_at (said_by line said n is) (keeps_bounded said keeps) none_at)

-- the numbers of a specification that keep the bounds are whole
by_given : {line : List ℕ} {side k : ℕ} {buffer : List ℕ} (said : Parsed) (v : Specification) {answer : Asking} {after : List ℕ} → length line ≤ line_limit
    → Command line said → Bounded said → specification_at k (side_of side said) ≡ some v → SpecificationGiven v buffer answer after → Csi2 line side k buffer answer after
by_given said v few saying bounded is (R.SpecificationGiven.short less) = Two.Csi2.short few (found_at saying bounded is) less
by_given {side} {k} said v few saying bounded is (R.SpecificationGiven.given room) =
    rw (specification_whole v (specification_bounded side k said v bounded is)) (Two.Csi2.given few (found_at saying bounded is) room)

module _ {line : List ℕ} {side k : ℕ} {start : Cursor} where
  -- where one is located, it stands
  pub standing : LocatedIn line side k (L.At start) → SpecificationAt line start.at
  standing (S.LocatedIn.located {end} {v} is keeps some_at begins) = record { what = v; end = end; stands = begins }

  pub one_there : {buffer : List ℕ} {answer : Asking} {after : List ℕ} → length line ≤ line_limit → LocatedIn line side k (L.At start)
      → GivenAt line start.at buffer answer after → Csi2 line side k buffer answer after
  one_there few (S.LocatedIn.located {said} {n} {end} {v} is keeps some_at begins) given =
      by_given said v few (said_by line said n is) (keeps_bounded said keeps) some_at (given.gives v end begins)
