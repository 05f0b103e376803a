-- At any word of records a thing is found that stands there, with how far it goes, or it is shown that none does: values, switches, specifications, sides, readings.
use Prim.Native.Nat.{ℕ, zero, suc, ◌+◌, ◌≤◌}
use mathlib.Core.Path.{◌≡◌, refl}
use mathlib.Core.List.{List}
use native.Mathlib.Decide.{ℕ_discrete, dec_le}
use native.Mathlib.Omega.{arith}
use lib.ListN.{length, get_or}
use Rattle.radix.specs.Names.{is_letter_or_digit}
use Rattle.command_grammar.specs.Grammar.{Between}
use Rattle.command_switches.specs.Encoded.{switch_words}
use Rattle.command_writing.specs.Sayable.{Each, SayableSwitch, SayableSpecification, SayableSide, SayableReading}
use Rattle.command_writing.specs.Standing.{joined, name_words, specification_words, reading_words, Taken, Never}
use Rattle.command_writing.specs.PartFits.{NameOf, SwitchNameOf, FrontFits}
use Rattle.command_writing.proofs.PartsSought.{PartSought, name_decided, switch_name_decided, front_sought}
use Rattle.command_writing.proofs.PartsSought as P
use Rattle.command_writing.proofs.StandingMany.{taken_none, taken_more, never_more, never_one}
use Rattle.command_writing.proofs.StandingSwitches.{value_none, value_other, value_taken, Values, switch_none, switch_other, switch_taken, switch_never}
use Rattle.command_writing.proofs.StandingSpecifications.{specification_none, specification_front, specification_taken, specification_never}
use Rattle.command_writing.proofs.StandingSides.{side_empty, side_never, side_taken, reading_stuck, output_taken, both_taken, both_never}

-- what stands there, or that nothing does
pub data Sought {A : Type 0} (Says : A → Type 0) (words : A → List ℕ) (records : List ℕ) (at : ℕ) : Type 0 where
  found : {v : A} {end : ℕ} → Taken Says words records at v end → Sought Says words records at
  nothing : Never Says words records at → Sought Says words records at

module _ (records : List ℕ) where
  -- so many, one behind the other
  many_sought : {A : Type 0} {Says : A → Type 0} {words : A → List ℕ} → ((at : ℕ) → at ≤ length records → Sought Says words records at)
      → (many at : ℕ) → at ≤ length records → Sought (Each Says many) (joined words) records at
  many_sought {words} one zero at fits = found (taken_none words fits)
  many_sought {A} {Says} {words} one (suc left) at fits = by (one at fits) (λ middle inside. many_sought one left middle inside)
    where
      by : Sought Says words records at → ((middle : ℕ) → middle ≤ length records → Sought (Each Says left) (joined words) records middle)
          → Sought (Each Says (suc left)) (joined words) records at
      by (nothing none) rest = nothing (never_one (omega arith) none)
      by (found {v} {end = middle} taken) rest = onward (rest middle taken.within)
        where
          onward : Sought (Each Says left) (joined words) records middle → Sought (Each Says (suc left)) (joined words) records at
          onward (found all) = found (taken_more taken refl all)
          onward (nothing none) = nothing (never_more taken refl none)

  value_sought : (at : ℕ) → at ≤ length records → Sought (Between 1 6 is_letter_or_digit) name_words records at
  value_sought at fits = by (dec_le (at + 2) (length records)) (name_decided (get_or records at 0) (get_or records (at + 1) 0))
    where
      by : Dec (at + 2 ≤ length records) → Dec (NameOf (get_or records at 0) (get_or records (at + 1) 0)) → Sought (Between 1 6 is_letter_or_digit) name_words records at
      by (yes inside) (yes name) = found (value_taken inside refl refl name)
      by (yes inside) (no other) = nothing (value_other inside refl refl other)
      by (no short) name = nothing (value_none fits short)

  switch_sought : (at : ℕ) → at ≤ length records → Sought SayableSwitch switch_words records at
  switch_sought at fits = by (dec_le (at + 3) (length records)) (switch_name_decided (get_or records (at + 1) 0) (get_or records (at + 2) 0))
    where
      by : Dec (at + 3 ≤ length records) → Dec (SwitchNameOf (get_or records (at + 1) 0) (get_or records (at + 2) 0)) → Sought SayableSwitch switch_words records at
      by (no short) name = nothing (switch_none records at fits short)
      by (yes inside) (no other) = nothing (switch_other records at inside refl refl other)
      by (yes inside) (yes name) = onward (many_sought value_sought (get_or records at 0) (at + 3) inside)
        where
          onward : Sought (Values (get_or records at 0)) (joined name_words) records (at + 3) → Sought SayableSwitch switch_words records at
          onward (found values) = found (switch_taken records at inside refl refl refl name values)
          onward (nothing none) = nothing (switch_never records at inside refl refl refl none)

  specification_sought : (at : ℕ) → at ≤ length records → Sought SayableSpecification specification_words records at
  specification_sought at fits = by (dec_le (at + 9) (length records)) (front_sought records at)
    where
      by : Dec (at + 9 ≤ length records) → PartSought (FrontFits records at) → Sought SayableSpecification specification_words records at
      by (no short) front = nothing (specification_none records at fits short)
      by (yes inside) (P.PartSought.nothing none) = nothing (specification_front records at inside none)
      by (yes inside) (P.PartSought.found {v = front} here) = onward (many_sought switch_sought (get_or records (at + 8) 0) (at + 9) inside)
        where
          onward : Sought (Each SayableSwitch (get_or records (at + 8) 0)) (joined switch_words) records (at + 9) → Sought SayableSpecification specification_words records at
          onward (found switches) = found (specification_taken records at inside refl front here switches)
          onward (nothing none) = nothing (specification_never records at inside refl none)

  side_sought : (many at : ℕ) → at ≤ length records → Sought (SayableSide many) (joined specification_words) records at
  side_sought zero at fits = nothing (side_empty refl)
  side_sought (suc left) at fits = by (many_sought specification_sought (suc left) at fits)
    where
      by : Sought (Each SayableSpecification (suc left)) (joined specification_words) records at → Sought (SayableSide (suc left)) (joined specification_words) records at
      by (found side) = found (side_taken (omega arith) side)
      by (nothing none) = nothing (side_never none)

  pub reading_sought : (outputs inputs at : ℕ) → at ≤ length records → Sought (SayableReading outputs inputs) reading_words records at
  reading_sought outputs inputs at fits = by (side_sought outputs at fits) (ℕ_discrete inputs 0)
    where
      by : Sought (SayableSide outputs) (joined specification_words) records at → Dec (inputs ≡ 0) → Sought (SayableReading outputs inputs) reading_words records at
      by (nothing none) input = nothing (reading_stuck records at none)
      by (found output) (yes zero_is) = found (output_taken records at output zero_is)
      by (found {end = middle} output) (no some-there) = onward (side_sought inputs middle output.within)
        where
          onward : Sought (SayableSide inputs) (joined specification_words) records middle → Sought (SayableReading outputs inputs) reading_words records at
          onward (found input) = found (both_taken records at output some-there input)
          onward (nothing none) = nothing (both_never records at output some-there none)
