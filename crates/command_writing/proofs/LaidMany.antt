-- A walk that lays one thing after another: whatever the rest comes to, the whole comes to.
use Prim.Native.Nat.{ℕ, zero, suc, ◌-◌, ◌≤◌, ◌<◌}
use mathlib.Core.Path.{◌≡◌, subst}
use mathlib.Core.List.{List, []}
use native.Mathlib.Omega.{arith}
use lib.ListN.{length}
use Rattle.std.specs.Prelude.{None, Option, Some}
use Rattle.command_writing.specs.Sayable.{Each}
use Rattle.command_writing.specs.Standing.{joined, Taken, Never}
use Rattle.command_writing.specs.LaidText.{Puts, StepLaid}
use Rattle.command_writing.specs.LaidText as L
use Rattle.command_writing.specs.declared.Walk.{Walk}
use Rattle.command_writing.proofs.LaidPieces.{puts_nothing, puts_both}
use Rattle.command_writing.proofs.StandingMany.{taken_none, taken_more, never_more, never_one}

-- `many` from one place on, of which `left` are left
pub record Leads {A : Type 0} (Says : A → Type 0) (words text : A → List ℕ) (records : List ℕ) (many at : ℕ) (before : List ℕ) (count left here : ℕ)
    (line : List ℕ) (counted : ℕ) : Type 0 where
  pub on : (step : Option Walk) (after : List ℕ) → StepLaid (Each Says left) (joined words) (joined text) records here line counted step after
      → StepLaid (Each Says many) (joined words) (joined text) records at before count step after

-- a step that went on
pub record Went {A : Type 0} (Says : A → Type 0) (words text : A → List ℕ) (records : List ℕ) (at : ℕ) (before : List ℕ) (count : ℕ) (next : Walk) (after : List ℕ) : Type 0 where
  pub what : A
  pub taken : Taken Says words records at what next.at
  pub laid : Puts before count after next.count (text what)

module _ {A : Type 0} {Says : A → Type 0} {words text : A → List ℕ} {records : List ℕ} {at : ℕ} {before : List ℕ} {count : ℕ} where
  to_next : (next : Walk) (after : List ℕ) → StepLaid Says words text records at before count (Some next) after
      → Went Says words text records at before count next after
  to_next next after (L.StepLaid.to {v} taken laid) = record { what = v; taken = taken; laid = laid }

  to_wrong : (after : List ℕ) → StepLaid Says words text records at before count None after → Never Says words records at
  to_wrong after (L.StepLaid.wrong never) = never

  pub went : {step : Option Walk} {next : Walk} {after : List ℕ} → StepLaid Says words text records at before count step after → step ≡ Some next
      → Went Says words text records at before count next after
  went {step} {next} {after} laid is = to_next next after (subst (λ s. StepLaid Says words text records at before count s after) is laid)

  pub stuck : {step : Option Walk} {after : List ℕ} → StepLaid Says words text records at before count step after → step ≡ None → Never Says words records at
  stuck {step} {after} laid is = to_wrong after (subst (λ s. StepLaid Says words text records at before count s after) is laid)

module _ {A : Type 0} {Says : A → Type 0} {words text : A → List ℕ} {records : List ℕ} {many at : ℕ} {before : List ℕ} {count left here : ℕ} {line : List ℕ} {counted : ℕ}
    (leads : Leads Says words text records many at before count left here line counted) where
  pub leads_step : {step : Option Walk} {next : Walk} {after : List ℕ} {rest : ℕ} → suc rest ≡ left → StepLaid Says words text records here line counted step after → step ≡ Some next
      → Leads Says words text records many at before count rest next.at after next.count
  unfolding joined
  leads_step {next} {after} {rest} one_more one is = record { on = λ step last laid. leads.on step last (further step last laid) }
    where
      further : (step : Option Walk) (last : List ℕ) → StepLaid (Each Says rest) (joined words) (joined text) records next.at after next.count step last
          → StepLaid (Each Says left) (joined words) (joined text) records here line counted step last
      further step last (L.StepLaid.to taken laid) =
          let first = went one is in
          L.StepLaid.to (taken_more first.taken one_more taken) (puts_both first.laid laid)
      further step last (L.StepLaid.wrong never) = L.StepLaid.wrong (never_more (went one is).taken one_more never)

  pub leads_wrong : {step : Option Walk} {after : List ℕ} → 0 < left → StepLaid Says words text records here line counted step after → step ≡ None
      → (last : List ℕ) → StepLaid (Each Says many) (joined words) (joined text) records at before count None last
  leads_wrong some_left one is last = leads.on None last (L.StepLaid.wrong (never_one some_left (stuck one is)))

  pub leads_end : left ≤ 0 → here ≤ length records
      → StepLaid (Each Says many) (joined words) (joined text) records at before count (Some (record { at = here; count = counted })) line
  unfolding joined
  leads_end none_left fits = leads.on (Some (record { at = here; count = counted })) line (at_end_law left none_left)
    where
      at_end_law : (n : ℕ) → n ≤ 0 → StepLaid (Each Says n) (joined words) (joined text) records here line counted (Some (record { at = here; count = counted })) line
      at_end_law zero empty = L.StepLaid.to {v = []} (taken_none words fits) puts_nothing
      at_end_law (suc n) empty = absurd (omega arith)
