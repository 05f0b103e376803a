-- The tests of the bounds say what the bounds say: of a part, of a side, of the whole line.
use Prim.Native.Nat.{ℕ, zero, suc}
use mathlib.Core.Path.{◌≡◌, refl, sym, ◌∙◌}
use mathlib.Core.Bool.{Bool, true, false, ◌&&◌, cond}
use mathlib.Core.List.{List, [], ◌∷◌}
use mathlib.Core.Logic.{◌⊎◌, inl, inr}
use mathlib.Core.Option.{Option, none, some}
use native.Mathlib.Omega.{arith}
use borrow.Author.Tests.{le-leb, leb-true}
use lib.Dec.{eqb}
use Rattle.command_grammar.specs.Parsed.{Device, Uic, Specification, Parsed}
use Rattle.command_grammar.specs.Bounded.{BoundedDevice, BoundedUic, BoundedSpecification, BoundedSide, BoundedInput, Bounded}
use Rattle.command_grammar.specs.Bounded as B
use Rattle.command_grammar.specs.Reading.{input_of, side_of, specification_at}
use Rattle.command_grammar.specs.Keeps.{device_keeps, uic_keeps, specification_keeps, side_keeps, line_keeps}

both_true : (a b : Bool) → (a && b) ≡ true → (a ≡ true) × (b ≡ true)
both_true true b is = (refl, is)
both_true false b is = let z : ◌≡◌ {A = ℕ} 0 1 = cc in absurd (omega arith)

-- a test that is passed shows the bound

device_bounded : (d : Option Device) → device_keeps d ≡ true → BoundedDevice d
device_bounded none is = B.BoundedDevice.absent
device_bounded (some d) is = B.BoundedDevice.device (leb-true d.unit 7 is)

uic_bounded : (u : Option Uic) → uic_keeps u ≡ true → BoundedUic u
uic_bounded none is = B.BoundedUic.absent
uic_bounded (some u) is = let both = both_true _ _ is in B.BoundedUic.uic (leb-true u.group 0o377 both.0) (leb-true u.user 0o377 both.1)

side_bounded : (vs : List Specification) → side_keeps vs ≡ true → BoundedSide vs
side_bounded [] is = B.BoundedSide.end
side_bounded (v ∷ vs) is =
    let both = both_true (specification_keeps v) (side_keeps vs) is in
    let parts = both_true (device_keeps v.device) (uic_keeps v.uic) both.0 in
    B.BoundedSide.more (record { device = device_bounded v.device parts.0; uic = uic_bounded v.uic parts.1 }) (side_bounded vs both.1)

input_bounded : (input : Option (List Specification)) → side_keeps (input_of input) ≡ true → BoundedInput input
input_bounded none is = B.BoundedInput.absent
input_bounded (some vs) is = B.BoundedInput.side (side_bounded vs is)

pub keeps_bounded : (said : Parsed) → line_keeps said ≡ true → Bounded said
unfolding line_keeps
keeps_bounded said is =
    let both = both_true (side_keeps said.output) (side_keeps (input_of said.input)) is in
    record { output = side_bounded said.output both.0; input = input_bounded said.input both.1 }

-- and what keeps the bound passes the test

device_keeps_law : (d : Option Device) → BoundedDevice d → device_keeps d ≡ true
device_keeps_law d B.BoundedDevice.absent = refl
device_keeps_law d (B.BoundedDevice.device {d = x} few) = le-leb x.unit 7 few

uic_keeps_law : (u : Option Uic) → BoundedUic u → uic_keeps u ≡ true
uic_keeps_law u B.BoundedUic.absent = refl
uic_keeps_law u (B.BoundedUic.uic {u = x} group user) = rw (le-leb x.group 0o377 group, le-leb x.user 0o377 user)

side_keeps_law : (vs : List Specification) → BoundedSide vs → side_keeps vs ≡ true
side_keeps_law vs B.BoundedSide.end = refl
side_keeps_law vs (B.BoundedSide.more {v} {vs = rest} one others) =
    rw (device_keeps_law v.device one.device, uic_keeps_law v.uic one.uic, side_keeps_law rest others)

input_keeps : (input : Option (List Specification)) → BoundedInput input → side_keeps (input_of input) ≡ true
input_keeps input B.BoundedInput.absent = refl
input_keeps input (B.BoundedInput.side {vs} all) = side_keeps_law vs all

pub bounded_keeps : (said : Parsed) → Bounded said → line_keeps said ≡ true
unfolding line_keeps
bounded_keeps said all = rw (side_keeps_law said.output all.output, input_keeps said.input all.input)

pub not_bounded : (said : Parsed) → line_keeps said ≡ false → Bounded said → ⊥
not_bounded said fails all =
    let both : ◌≡◌ {A = Bool} true false = sym (bounded_keeps said all) ∙ fails in
    let z : ◌≡◌ {A = ℕ} 0 1 = cc in
    omega arith

-- the numbers of a line keep the bounds, or they do not
pub bounded_or_not : (said : Parsed) → Bounded said ⊎ (Bounded said → ⊥)
bounded_or_not said = by (line_keeps said) refl
  where
    by : (b : Bool) → line_keeps said ≡ b → Bounded said ⊎ (Bounded said → ⊥)
    by true is = inl (keeps_bounded said is)
    by false is = inr (not_bounded said is)

-- each specification of a side keeps them
place_bounded : (k : ℕ) {vs : List Specification} (v : Specification) → BoundedSide vs → specification_at k vs ≡ some v → BoundedSpecification v
unfolding specification_at
place_bounded k v B.BoundedSide.end is = let z : ◌≡◌ {A = ℕ} 0 1 = cc in absurd (omega arith)
place_bounded zero v (B.BoundedSide.more {v = w} one others) is = let z : w ≡ v = cc in rw z at one
place_bounded (suc k) v (B.BoundedSide.more one others) is = place_bounded k v others is

input_side : (input : Option (List Specification)) → BoundedInput input → BoundedSide (input_of input)
input_side input B.BoundedInput.absent = B.BoundedSide.end
input_side input (B.BoundedInput.side all) = all

pub specification_bounded : (side k : ℕ) (said : Parsed) (v : Specification) → Bounded said → specification_at k (side_of side said) ≡ some v → BoundedSpecification v
unfolding side_of
specification_bounded side k said v all is = place_bounded k v (by (eqb side 0) (eqb side 1)) is
  where
    by : (zeroth first : Bool) → BoundedSide (cond zeroth said.output (cond first (input_of said.input) []))
    by true first = all.output
    by false true = input_side said.input all.input
    by false false = B.BoundedSide.end
