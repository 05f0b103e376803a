-- The rows of access: the code that each return gives, and what a file is known for that passes them all.
use Prim.Native.Nat.{ℕ}
use mathlib.Core.Path.{◌≡◌, refl, sym}
use mathlib.Core.Bool.{Bool, true, false, not}
use mathlib.Core.List.{[], ◌∷◌}
use native.Mathlib.Omega.{arith}
use lib.Dec.{eqb}
use borrow.Author.Tests.{eq-eqb, ne_eqb, eqb-false, not-false}
use Rattle.std.specs.Prelude.{Result, Err, ⊤}
use Rattle.answers.specs.declared.Refusal.{Refusal}
use Rattle.answers.specs.Refusals.{row, first_of}
use Rattle.answers.specs.Stage.{Clear, Refused, verdict_of, verdict_in}
use Rattle.answers.proofs.Refusals.{none_given, coded}
use Rattle.answers.proofs.Stage.{makes_clear, makes_refused}
use Rattle.pack.specs.declared.Entry.{Entry}
use Rattle.asking.proofs.Verdicts.{front_refused}
use Rattle.asking.specs.declared.Right.{Right}
use Rattle.asking.specs.RightsTest.{may}
use Rattle.asking.specs.Access.{access_rows}

module _ (x : Entry) (caller : ℕ) (right : Right) (other : ℕ) (closed : Bool) where
  -- what a file is known for that passes them all
  pub record Accessed : Type 0 where
    pub right_given : may right caller x.uic x.protect ≡ true
    pub kind : x.kind ≡ other → ⊥
    pub opened : closed ≡ false

  verdict_by : {code : ℕ} → code ≡ first_of (access_rows x caller right other closed) → (code ≡ 0 → ⊥) → Refused code ≡ verdict_of (access_rows x caller right other closed)
  verdict_by = makes_refused (access_rows x caller right other closed)

  -- the row of the right stands first: what refuses there refuses here
  pub access_6 : {outcome : Result ⊤ Refusal} {refusal : Refusal} → verdict_in outcome ≡ verdict_of (row (not (may right caller x.uic x.protect)) 0o6 ∷ []) → outcome ≡ Err refusal
      → verdict_in (Err refusal) ≡ verdict_of (access_rows x caller right other closed)
  unfolding access_rows
  access_6 asked is = front_refused _ _ asked is

  module _ (given : may right caller x.uic x.protect ≡ true) where
    code_43 : x.kind ≡ other → 0o43 ≡ first_of (access_rows x caller right other closed)
    unfolding first_of access_rows
    code_43 kind = rw (given, eq-eqb x.kind other kind)

    pub access_43 : x.kind ≡ other → Refused 0o43 ≡ verdict_of (access_rows x caller right other closed)
    access_43 kind = verdict_by (code_43 kind) (λ zero. omega (arith, zero))

    module _ (kind : x.kind ≡ other → ⊥) where
      code_45 : closed ≡ true → 0o45 ≡ first_of (access_rows x caller right other closed)
      unfolding first_of access_rows
      code_45 shut = rw (given, ne_eqb x.kind other kind, shut)

      pub access_45 : closed ≡ true → Refused 0o45 ≡ verdict_of (access_rows x caller right other closed)
      access_45 shut = verdict_by (code_45 shut) (λ zero. omega (arith, zero))

      code_0 : closed ≡ false → 0 ≡ first_of (access_rows x caller right other closed)
      unfolding first_of access_rows
      code_0 opened = rw (given, ne_eqb x.kind other kind, opened)

      pub access_clear : closed ≡ false → Clear ≡ verdict_of (access_rows x caller right other closed)
      access_clear opened = makes_clear (access_rows x caller right other closed) (code_0 opened)

  pub access_coded : coded (access_rows x caller right other closed) ≡ true
  unfolding access_rows
  access_coded = refl

  pub accessed_clear : Accessed → first_of (access_rows x caller right other closed) ≡ 0
  accessed_clear a = sym (code_0 a.right_given a.kind a.opened)

  pub clear_accessed : first_of (access_rows x caller right other closed) ≡ 0 → Accessed
  unfolding access_rows
  clear_accessed none =
      let first = none_given (not (may right caller x.uic x.protect)) 0o6 _ (λ is. omega (arith, is)) none in
      let second = none_given (eqb x.kind other) 0o43 _ (λ is. omega (arith, is)) first.1 in
      let third = none_given closed 0o45 [] (λ is. omega (arith, is)) second.1 in
      record { right_given = not-false _ first.0; kind = eqb-false x.kind other second.0; opened = third.0 }
