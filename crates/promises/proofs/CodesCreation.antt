-- Requests that create give each code in its case: Format, ALLOC, OPENO.
use Prim.Native.Nat.{ℕ}
use mathlib.Core.Path.{◌≡◌}
use mathlib.Core.Logic.{◌↔◌}
use mathlib.Core.Bool.{Bool, true, false}
use mathlib.Core.List.{List, [], ◌++◌}
use lib.Dec.{eqb}
use lib.ListN.{length}
use borrow.Author.Tests.{not-false}
use Rattle.answers.specs.Refusals.{Row, first_of}
use Rattle.pack.specs.declared.Key.{Key}
use Rattle.pack.specs.HeaderTest.{listed}
use Rattle.pack.specs.Consistent.{Consistent}
use Rattle.pack.proofs.HeaderTestWords.{listed_iff}
use Rattle.consistency.proofs.ConsistentTestIff.{consistent_iff}
use Rattle.asking.specs.Outcome.{settled}
use Rattle.creation.specs.FormatRows.{format_rows, format_test}
use Rattle.creation.specs.Format.{format}
use Rattle.creation.specs.CreatingRows.{creating_rows}
use Rattle.creation.specs.Openo.{openo}
use Rattle.creation.specs.AllocRows.{alloc_rows}
use Rattle.creation.specs.Alloc.{alloc}
use Rattle.creation.proofs.FormatRows.{format_iff}
use Rattle.requests.specs.Request.{FORMAT, ALLOC, OPENO}
use Rattle.promises.specs.GivenWhen.{Case, GivesCode}
use Rattle.promises.specs.Codes.{CreatingCases, cases_of}
use Rattle.promises.proofs.GivenWhen.{rung, clear}
use Rattle.promises.proofs.CodesTests.{equal_numbers, above, denies, no_argument, inconsistent, illegal, present_key, full, crowded}

pub format_code : (img : List ℕ) (form blocks contents : ℕ) (uics : List ℕ)
    → GivesCode (cases_of (FORMAT form blocks contents uics) img) (format img form blocks contents uics).code
unfolding format format_rows settled
format_code img form blocks contents uics =
    rung _ 0o41 _ (denies (format_test (length img) form blocks contents uics) (format_iff (length img) form blocks contents uics)) (λ f. clear)

-- the rows that creating shares
module _ (img : List ℕ) (key : Key) (caller protect : ℕ) (wrong : Bool) (Wrong : Type 0) (decides : wrong ≡ true ↔ Wrong) (more : List Row) (room : List Case)
    (rest : Consistent img → wrong ≡ false → GivesCode room (first_of more)) where
  creating_code : GivesCode (CreatingCases img key caller protect Wrong ++ room) (first_of (creating_rows img key caller protect wrong ++ more))
  unfolding creating_rows
  creating_code =
      rung _ 0o40 _ (inconsistent img) (λ c.
      rung _ 0o15 _ (illegal key) (λ l.
      rung _ 0o41 _ decides (λ w.
      rung _ 0o41 _ (above 255 protect) (λ p.
      rung _ 0o13 _ (denies (listed img key.uic) (listed_iff img key.uic)) (λ u.
      rung _ 0o2 _ (present_key ((consistent_iff img).0 (not-false _ c)) key (not-false _ l)) (λ f.
      rung _ 0o6 _ (denies (eqb key.uic caller) (equal_numbers key.uic caller)) (λ r.
      rung _ 0o12 _ (full img) (λ e. rest ((consistent_iff img).0 (not-false _ c)) w))))))))

pub openo_code : (img : List ℕ) (key : Key) (caller protect : ℕ) → GivesCode (cases_of (OPENO key caller protect) img) (openo img key caller protect).code
unfolding openo settled creating_rows
openo_code img key caller protect = creating_code img key caller protect false ⊥ no_argument [] [] (λ right none. clear)

pub alloc_code : (img : List ℕ) (key : Key) (caller protect segments : ℕ)
    → GivesCode (cases_of (ALLOC key caller protect segments) img) (alloc img key caller protect segments).code
unfolding alloc alloc_rows settled
alloc_code img key caller protect segments =
    creating_code img key caller protect (eqb segments 0) (segments ≡ 0) (equal_numbers segments 0) _ _
    (λ right w. rung _ 0o42 _ (crowded right segments w) (λ r. clear))
