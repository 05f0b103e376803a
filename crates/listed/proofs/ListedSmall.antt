-- The answer of each request that a list may hold is of two words: its code is one of the table, and its number a block of the pack.
use Prim.Native.Nat.{ℕ, ◌<◌}
use mathlib.Core.Path.{◌≡◌, refl, ap, ◌∙◌}
use mathlib.Core.Bool.{Bool, true, false, cond, ◌&&◌}
use mathlib.Core.List.{List, [], ◌∷◌}
use mathlib.Core.Option.{Option, none, some}
use native.Mathlib.Omega.{arith}
use native.Mathlib.Decide.{ℕ_discrete}
use borrow.Author.Tests.{ltb-true}
use lib.Dec.{ltb}
use lib.ListN.{get_or}
use Rattle.answers.specs.Refusals.{Row, first_of}
use Rattle.answers.proofs.RefusalsTests.{and_left, and_right}
use Rattle.pack.specs.declared.Key.{Key}
use Rattle.asking.specs.Outcome.{Outcome, zeroed, settled}
use Rattle.asking.specs.AskedStage.{file_rows}
use Rattle.asking.proofs.Outcome.{code_is, settled_success, settled_refused}
use Rattle.creation.specs.CreatingRows.{creating_rows}
use Rattle.creation.specs.AllocRows.{alloc_rows}
use Rattle.creation.specs.Alloc.{alloc}
use Rattle.creation.specs.Openo.{openo}
use Rattle.creation.proofs.AllocEffect.{alloc_refused, alloc_allocatable, alloc_made}
use Rattle.opening.specs.declared.Opening.{Opening}
use Rattle.opening.specs.OpenRows.{open_rows}
use Rattle.opening.specs.Open.{opened}
use Rattle.opening.specs.CloseRows.{close_rows}
use Rattle.opening.specs.Close.{close}
use Rattle.directory.specs.DeletRows.{delet_rows}
use Rattle.directory.specs.Delet.{delet}
use Rattle.directory.specs.KeepRows.{keep_rows}
use Rattle.directory.specs.Keep.{keep}
use Rattle.directory.specs.RenamRows.{renam_rows}
use Rattle.directory.specs.Renam.{renam}
use Rattle.appending.specs.AppndRows.{name_rows, permit_rows, appnd_rows}
use Rattle.appending.specs.Appnd.{appnd}
use Rattle.requests.specs.Request.{Request, outcome}
use Rattle.requests.specs.RequestMap.{Listable}
use Rattle.requests.specs.RequestMap as list
use Rattle.listed.specs.Listed.{listed_outcome}
use Rattle.listed.proofs.RecordNames.{Allowed}

-- codes of the table, all of two octal digits
abbrev small : List Row → Bool
small [] = true
small (r ∷ rows) = ltb r.code 64 && small rows

small_first : (rows : List Row) → small rows ≡ true → first_of rows < 64
unfolding first_of
small_first [] is = omega arith
small_first (r ∷ rows) is =
    by r.given (ltb-true r.code 64 (and_left (ltb r.code 64) (small rows) is)) (small_first rows (and_right (ltb r.code 64) (small rows) is))
  where
    by : (given : Bool) → r.code < 64 → first_of rows < 64 → cond given r.code (first_of rows) < 64
    by true here rest = here
    by false here rest = rest

small_code : (rows : List Row) (img buffer : List ℕ) (effect : Outcome) → small rows ≡ true → (settled rows img buffer effect).code < 64
small_code rows img buffer effect is = omega (arith, code_is rows img buffer effect, small_first rows is)

-- what has no number on success has none
no_numbers : (rows : List Row) (img buffer : List ℕ) (effect : Outcome) → effect.numbers ≡ [] → (settled rows img buffer effect).numbers ≡ []
no_numbers rows img buffer effect none_there = by (ℕ_discrete (first_of rows) 0)
  where
    by : Dec (first_of rows ≡ 0) → (settled rows img buffer effect).numbers ≡ []
    by (yes clear) = ap (λ (o : Outcome). o.numbers) (settled_success rows img buffer effect clear) ∙ none_there
    by (no never) = ap (λ (o : Outcome). o.numbers) (settled_refused rows img buffer effect refl never) ∙ ap zeroed none_there

first_is : {numbers : List ℕ} {n : ℕ} → numbers ≡ n ∷ [] → get_or numbers 0 0 ≡ n
first_is is = ap (λ (s : List ℕ). get_or s 0 0) is

module _ (img : List ℕ) where
  alloc_small : (key : Key) (caller protect segments : ℕ) → (alloc img key caller protect segments).code < 64
  unfolding alloc alloc_rows creating_rows
  alloc_small key caller protect segments = small_code _ img [] _ refl

  openo_small : (key : Key) (caller protect : ℕ) → (openo img key caller protect).code < 64
  unfolding openo creating_rows
  openo_small key caller protect = small_code _ img [] _ refl

  open_small : (mode : Opening) (key : Key) (caller : ℕ) → (opened mode img key caller).code < 64
  unfolding opened open_rows file_rows
  open_small mode key caller = small_code _ img [] _ refl

  close_small : (key : Key) (mode : ℕ) → (close img key mode).code < 64
  unfolding close close_rows file_rows
  close_small key mode = small_code _ img [] _ refl

  delet_small : (key : Key) (caller : ℕ) → (delet img key caller).code < 64
  unfolding delet delet_rows file_rows
  delet_small key caller = small_code _ img [] _ refl

  renam_small : (old new : Key) (protect caller : ℕ) → (renam img old new protect caller).code < 64
  unfolding renam renam_rows
  renam_small old new protect caller = small_code _ img [] _ refl

  appnd_small : (first second : Key) (caller : ℕ) → (appnd img first second caller).code < 64
  unfolding appnd appnd_rows name_rows permit_rows
  appnd_small first second caller = small_code _ img [] _ refl

  keep_small : (key : Key) (caller : ℕ) → (keep img key caller).code < 64
  unfolding keep keep_rows file_rows
  keep_small key caller = small_code _ img [] _ refl

  pub openo_number : (key : Key) (caller protect : ℕ) → (openo img key caller protect).numbers ≡ []
  unfolding openo
  openo_number key caller protect = no_numbers _ img [] _ refl

  pub open_number : (mode : Opening) (key : Key) (caller : ℕ) → (opened mode img key caller).numbers ≡ []
  unfolding opened
  open_number mode key caller = no_numbers _ img [] _ refl

  pub close_number : (key : Key) (mode : ℕ) → (close img key mode).numbers ≡ []
  unfolding close
  close_number key mode = no_numbers _ img [] _ refl

  pub delet_number : (key : Key) (caller : ℕ) → (delet img key caller).numbers ≡ []
  unfolding delet
  delet_number key caller = no_numbers _ img [] _ refl

  pub renam_number : (old new : Key) (protect caller : ℕ) → (renam img old new protect caller).numbers ≡ []
  unfolding renam
  renam_number old new protect caller = no_numbers _ img [] _ refl

  pub appnd_number : (first second : Key) (caller : ℕ) → (appnd img first second caller).numbers ≡ []
  unfolding appnd
  appnd_number first second caller = no_numbers _ img [] _ refl

  pub keep_number : (key : Key) (caller : ℕ) → (keep img key caller).numbers ≡ []
  unfolding keep
  keep_number key caller = no_numbers _ img [] _ refl

  -- the first block of ALLOC is one of the pack, and a pack has at most 4,096
  alloc_number : (key : Key) (caller protect segments : ℕ) → get_or (alloc img key caller protect segments).numbers 0 0 < 65536
  alloc_number key caller protect segments = by (ℕ_discrete (alloc img key caller protect segments).code 0)
    where
      by : Dec ((alloc img key caller protect segments).code ≡ 0) → get_or (alloc img key caller protect segments).numbers 0 0 < 65536
      by (yes success) =
          let a = alloc_allocatable img key caller protect segments success in
          omega (arith, first_is (alloc_made img key caller protect segments success).number, a.inside, a.ready.sized.most)
      by (no never) = omega (arith, first_is (alloc_refused img key caller protect segments never).same_numbers)

first_none : {numbers : List ℕ} → numbers ≡ [] → get_or numbers 0 0 < 65536
first_none is = omega (arith, ap (λ (s : List ℕ). get_or s 0 0) is)

-- both words of the answer are words
pub code_small : (named : Option Request) → Allowed named → (img : List ℕ) → (listed_outcome named img).code < 64
code_small none listed img = omega arith
code_small (some request) listed img = by request listed
  where
    by : (request : Request) → Listable request → (outcome request img).code < 64
    by request (list.alloc key caller protect segments) = alloc_small img key caller protect segments
    by request (list.delet key caller) = delet_small img key caller
    by request (list.renam old name1 name2 extension protect caller) = renam_small img old _ protect caller
    by request (list.appnd first second caller) = appnd_small img first second caller
    by request (list.keep key caller) = keep_small img key caller
    by request (list.openo key caller protect) = openo_small img key caller protect
    by request (list.opens mode key caller) = open_small img mode key caller
    by request (list.close key mode) = close_small img key mode

pub number_small : (named : Option Request) → Allowed named → (img : List ℕ) → get_or (listed_outcome named img).numbers 0 0 < 65536
number_small none listed img = omega arith
number_small (some request) listed img = by request listed
  where
    by : (request : Request) → Listable request → get_or (outcome request img).numbers 0 0 < 65536
    by request (list.alloc key caller protect segments) = alloc_number img key caller protect segments
    by request (list.delet key caller) = first_none (delet_number img key caller)
    by request (list.renam old name1 name2 extension protect caller) = first_none (renam_number img old _ protect caller)
    by request (list.appnd first second caller) = first_none (appnd_number img first second caller)
    by request (list.keep key caller) = first_none (keep_number img key caller)
    by request (list.openo key caller protect) = first_none (openo_number img key caller protect)
    by request (list.opens mode key caller) = first_none (open_number img mode key caller)
    by request (list.close key mode) = first_none (close_number img key mode)
