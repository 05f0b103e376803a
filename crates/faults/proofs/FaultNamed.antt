-- A fault has a rule of its own, and `?` carries it on.
use mathlib.Core.Path.{◌≡◌, ap, ◌∙◌}
use native.Mathlib.Omega.{arith}
use Rattle.std.specs.Prelude.{Result, Err, ⊤, IsErrAnd}
use Rattle.std.proofs.lemmas.Result.{err_from_is_err_and}
use Rattle.faults.specs.declared.Fault.{Fault}
use Rattle.faults.specs.declared.Fault.TheVariants.{Size, Header, Field, SameName, Extent, Link, Loop, End, Shared, Map}
use Rattle.faults.specs.Named.{numbers_of}

pub fault_some : (fault : Fault) → (numbers_of fault).rule ≡ 0 → ⊥
fault_some Size is = omega (arith, is)
fault_some (Header w) is = omega (arith, is)
fault_some (Field e w) is = omega (arith, is)
fault_some (SameName e) is = omega (arith, is)
fault_some (Extent e w) is = omega (arith, is)
fault_some (Link e b) is = omega (arith, is)
fault_some (Loop e b) is = omega (arith, is)
fault_some (End e b) is = omega (arith, is)
fault_some (Shared e b) is = omega (arith, is)
fault_some (Map b) is = omega (arith, is)

-- the answer where `?` returns
pub carried : {told : Result ⊤ Fault} {fault : Fault} → IsErrAnd told (λ met. met ≡ fault) → told ≡ Err fault
carried {told} is = let e = err_from_is_err_and told is in e.1 ∙ ap Err e.2
