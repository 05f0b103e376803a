-- Which request a record names, by its number: one of the ten, or none.
use Prim.Native.Nat.{ℕ, ◌<◌, ◌≤◌}
use mathlib.Core.Path.{◌≡◌}
use mathlib.Core.Logic.{◌⊎◌, inl, inr}
use mathlib.Core.Bool.{Bool, true, false, cond}
use mathlib.Core.Option.{Option, none, some}
use native.Mathlib.Omega.{arith}
use lib.Dec.{eqb}
use borrow.Author.Tests.{ne_eqb}
use Rattle.opening.specs.declared.Opening.TheVariants.{Input, Update, Extension}
use Rattle.requests.specs.Request.{Request, ALLOC, OPENO, OPEN, CLOSE, DELET, RENAM, APPND, KEEP}
use Rattle.requests.specs.RequestMap.{Listable}
use Rattle.requests.specs.RequestMap as list
use Rattle.listed.specs.declared.Record.{Record}
use Rattle.listed.specs.Record.{file_in, second_in, request_in}

module _ (r : Record) where
  pub names_alloc : r.request ≡ 1 → request_in r ≡ some (ALLOC (file_in r) r.caller r.word6 r.word7)
  unfolding request_in
  names_alloc is = rw is

  pub names_delet : r.request ≡ 2 → request_in r ≡ some (DELET (file_in r) r.caller)
  unfolding request_in
  names_delet is = rw is

  pub names_renam : r.request ≡ 3 → request_in r ≡ some (RENAM (file_in r) r.word6 r.word7 r.word8 r.word9 r.caller)
  unfolding request_in
  names_renam is = rw is

  pub names_appnd : r.request ≡ 4 → request_in r ≡ some (APPND (file_in r) (second_in r) r.caller)
  unfolding request_in
  names_appnd is = rw is

  pub names_keep : r.request ≡ 5 → request_in r ≡ some (KEEP (file_in r) r.caller)
  unfolding request_in
  names_keep is = rw is

  pub names_openo : r.request ≡ 6 → request_in r ≡ some (OPENO (file_in r) r.caller r.word6)
  unfolding request_in
  names_openo is = rw is

  pub names_openi : r.request ≡ 7 → request_in r ≡ some (OPEN Input (file_in r) r.caller)
  unfolding request_in
  names_openi is = rw is

  pub names_openu : r.request ≡ 8 → request_in r ≡ some (OPEN Update (file_in r) r.caller)
  unfolding request_in
  names_openu is = rw is

  pub names_opene : r.request ≡ 9 → request_in r ≡ some (OPEN Extension (file_in r) r.caller)
  unfolding request_in
  names_opene is = rw is

  pub names_close : r.request ≡ 10 → request_in r ≡ some (CLOSE (file_in r) r.word6)
  unfolding request_in
  names_close is = rw is

  abbrev pub Not : ℕ → Type 0
  Not k = r.request ≡ k → ⊥

  pub names_other : Not 1 × Not 2 → Not 3 × Not 4 × Not 5 × Not 6 → Not 7 × Not 8 × Not 9 × Not 10 → request_in r ≡ none
  unfolding request_in
  names_other mapped first last =
      rw (
        ne_eqb r.request 1 mapped.0,
        ne_eqb r.request 2 mapped.1,
        ne_eqb r.request 3 first.0,
        ne_eqb r.request 4 first.1,
        ne_eqb r.request 5 first.2,
        ne_eqb r.request 6 first.3,
        ne_eqb r.request 7 last.0,
        ne_eqb r.request 8 last.1,
        ne_eqb r.request 9 last.2,
        ne_eqb r.request 10 last.3,
      )

  pub names_none : (r.request ≡ 0) ⊎ (10 < r.request) → request_in r ≡ none
  names_none other =
      names_other (apart other 1 (omega arith, omega arith), apart other 2 (omega arith, omega arith))
      (apart other 3 (omega arith, omega arith), apart other 4 (omega arith, omega arith), apart other 5 (omega arith, omega arith), apart other 6 (omega arith, omega arith))
      (apart other 7 (omega arith, omega arith), apart other 8 (omega arith, omega arith), apart other 9 (omega arith, omega arith), apart other 10 (omega arith, omega arith))
    where
      apart : (r.request ≡ 0) ⊎ (10 < r.request) → (k : ℕ) → (0 < k) × (k ≤ 10) → Not k
      apart (inl none_there) k within is = omega (arith, none_there, is, within.0)
      apart (inr more) k within is = omega (arith, more, is, within.1)

-- no record names a request that a list may not hold
abbrev pub Allowed : Option Request → Type 0
Allowed none = Unit {0}
Allowed (some request) = Listable request

either : (a b : Option Request) (t : Bool) → Allowed a → Allowed b → Allowed (cond t a b)
either a b true here rest = here
either a b false here rest = rest

pub names_allowed : (r : Record) → Allowed (request_in r)
unfolding request_in
names_allowed r =
    either _ _ (eqb r.request 1) (list.alloc (file_in r) r.caller r.word6 r.word7)
    (either _ _ (eqb r.request 2) (list.delet (file_in r) r.caller)
    (either _ _ (eqb r.request 3) (list.renam (file_in r) r.word6 r.word7 r.word8 r.word9 r.caller)
    (either _ _ (eqb r.request 4) (list.appnd (file_in r) (second_in r) r.caller)
    (either _ _ (eqb r.request 5) (list.keep (file_in r) r.caller)
    (either _ _ (eqb r.request 6) (list.openo (file_in r) r.caller r.word6)
    (either _ _ (eqb r.request 7) (list.opens Input (file_in r) r.caller)
    (either _ _ (eqb r.request 8) (list.opens Update (file_in r) r.caller)
    (either _ _ (eqb r.request 9) (list.opens Extension (file_in r) r.caller)
    (either _ _ (eqb r.request 10) (list.close (file_in r) r.word6) tt)))))))))
