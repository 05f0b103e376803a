-- Requests on a file that is there give each code in its case: LOOK, the opens, CLOSE, DELET, KEEP, RENAM, APPND; and Finish and the owner question.
use Prim.Native.Nat.{ℕ}
use mathlib.Core.Path.{◌≡◌}
use mathlib.Core.Logic.{◌↔◌}
use mathlib.Core.Bool.{Bool, true, false}
use mathlib.Core.List.{List, [], ◌++◌}
use lib.Dec.{eqb}
use borrow.Author.Tests.{not-false}
use Rattle.answers.specs.Refusals.{Row, first_of}
use Rattle.pack.specs.declared.Key.{Key}
use Rattle.pack.specs.Geometry.{geometry_of}
use Rattle.pack.specs.Consistent.{Consistent}
use Rattle.consistency.proofs.ConsistentTestIff.{consistent_iff}
use Rattle.asking.specs.AskedStage.{file_rows}
use Rattle.asking.specs.Asked.{file_of}
use Rattle.asking.specs.Outcome.{settled}
use Rattle.asking.proofs.Opens.{open_iff, full_iff}
use Rattle.owners.specs.OwnerQuestionRows.{owner_rows}
use Rattle.owners.specs.OwnerQuestion.{owner}
use Rattle.opening.specs.declared.Opening.{Opening}
use Rattle.opening.specs.declared.Opening.TheVariants.{Input, Update, Extension}
use Rattle.opening.specs.OpenRows.{open_rows}
use Rattle.opening.specs.Open.{opened}
use Rattle.opening.specs.CloseRows.{wrong_mode, is_open_as, close_rows}
use Rattle.opening.specs.Close.{close}
use Rattle.directory.specs.LookRows.{look_rows}
use Rattle.directory.specs.Look.{look}
use Rattle.directory.specs.DeletRows.{delet_rows}
use Rattle.directory.specs.Delet.{delet}
use Rattle.directory.specs.KeepRows.{keep_rows}
use Rattle.directory.specs.Keep.{keep}
use Rattle.directory.specs.RenamRows.{renam_rows}
use Rattle.directory.specs.Renam.{renam}
use Rattle.finishing.specs.FinishRows.{finish_rows}
use Rattle.finishing.specs.Finish.{finish}
use Rattle.appending.specs.AppndRows.{appnd_rows, name_rows, permit_rows}
use Rattle.appending.specs.Appnd.{appnd}
use Rattle.requests.specs.Request.{OPEN, CLOSE, DELET, APPND, LOOK, KEEP, FINISH, OWNER}
use Rattle.promises.specs.GivenWhen.{Case, behind, GivesCode}
use Rattle.promises.specs.Codes.{LegalKey, Exists, NoMode, FileCases, RenamCases, cases_of}
use Rattle.promises.proofs.GivenWhen.{fails, denied, rung, passed, clear}
use Rattle.promises.proofs.CodesTests.{equal_numbers, above, at_least, denies, no_argument, inconsistent, illegal, mode_iff, one_key, absent_key, present_key, lacks_right, as_iff}

-- the rows that all requests on a file share
module _ (img : List ℕ) (key : Key) (wrong : Bool) (Wrong : Type 0) (decides : wrong ≡ true ↔ Wrong) (more : List Row) (own : List Case) where
  pub argued_code : (Consistent img → (Wrong → ⊥) → GivesCode own (first_of more)) → GivesCode (FileCases img key Wrong ++ own) (first_of (file_rows img key wrong ++ more))
  unfolding file_rows
  argued_code rest =
      rung _ 0o40 _ (inconsistent img) (λ c.
      rung _ 0o15 _ (illegal key) (λ l.
      rung _ 0o41 _ decides (λ w.
      rung _ 0o2 _ (absent_key ((consistent_iff img).0 (not-false _ c)) key (not-false _ l))
      (λ f. rest ((consistent_iff img).0 (not-false _ c)) (fails wrong decides w)))))

  pub file_code : (Consistent img → GivesCode own (first_of more)) → GivesCode (FileCases img key Wrong ++ own) (first_of (file_rows img key wrong ++ more))
  file_code rest = argued_code (λ right good. rest right)

-- a file with nothing against it at these rows
pub file_behind : {img : List ℕ} {key : Key} {Wrong : Type 0} (own : List Case) {code : ℕ} → Consistent img → LegalKey key → (Wrong → ⊥) → Exists img key
    → GivesCode own code → GivesCode (FileCases img key Wrong ++ own) code
file_behind own right legal good there rest = behind (denied right) (behind (denied legal) (behind good (behind (denied there) rest)))

pub owner_code : (img : List ℕ) (block : ℕ) → GivesCode (cases_of (OWNER block) img) (owner img block).code
unfolding owner owner_rows settled
owner_code img block = rung _ 0o40 _ (inconsistent img) (λ c. rung _ 0o44 _ (at_least (geometry_of img).blocks block) (λ b. clear))

pub finish_code : (img : List ℕ) (caller : ℕ) → GivesCode (cases_of (FINISH caller) img) (finish img caller).code
unfolding finish finish_rows settled
finish_code img caller = rung _ 0o40 _ (inconsistent img) (λ c. clear)

pub look_code : (img : List ℕ) (key : Key) → GivesCode (cases_of (LOOK key) img) (look img key).code
unfolding look look_rows settled file_rows
look_code img key = file_code img key false ⊥ no_argument [] [] (λ right. clear)

pub open_code : (mode : Opening) (img : List ℕ) (key : Key) (caller : ℕ) → GivesCode (cases_of (OPEN mode key caller) img) (opened mode img key caller).code
unfolding opened open_rows settled
open_code Input img key caller =
    file_code img key false ⊥ no_argument _ _ (λ right.
    rung _ 0o2 _ (equal_numbers _ 2) (λ w.
    rung _ 0o6 _ (lacks_right _ caller _ _) (λ r. passed 0o5 _ (passed 0o43 _ (passed 0o4 _ (rung _ 0o3 _ (full_iff _) (λ o. clear)))))))
open_code Update img key caller =
    file_code img key false ⊥ no_argument _ _ (λ right.
    rung _ 0o2 _ (equal_numbers _ 2) (λ w.
    rung _ 0o6 _ (lacks_right _ caller _ _) (λ r.
    passed 0o5 _ (rung _ 0o43 _ (equal_numbers _ 2) (λ k. rung _ 0o4 _ (above 0 _) (λ n. rung _ 0o3 _ (full_iff _) (λ o. clear)))))))
open_code Extension img key caller =
    file_code img key false ⊥ no_argument _ _ (λ right.
    rung _ 0o2 _ (equal_numbers _ 2) (λ w.
    rung _ 0o6 _ (lacks_right _ caller _ _) (λ r.
    rung _ 0o5 _ (equal_numbers _ 1) (λ k. passed 0o43 _ (rung _ 0o4 _ (above 0 _) (λ n. rung _ 0o3 _ (full_iff _) (λ o. clear)))))))

pub close_code : (img : List ℕ) (key : Key) (mode : ℕ) → GivesCode (cases_of (CLOSE key mode) img) (close img key mode).code
unfolding close close_rows settled
close_code img key mode =
    file_code img key (wrong_mode mode) (NoMode mode) (mode_iff mode) _ _
    (λ right. rung _ 0o45 _ (denies (is_open_as mode (file_of img key)) (as_iff mode (file_of img key))) (λ o. clear))

pub delet_code : (img : List ℕ) (key : Key) (caller : ℕ) → GivesCode (cases_of (DELET key caller) img) (delet img key caller).code
unfolding delet delet_rows settled
delet_code img key caller =
    file_code img key false ⊥ no_argument _ _ (λ right. rung _ 0o6 _ (lacks_right _ caller _ _) (λ r. rung _ 0o14 _ (open_iff _) (λ o. clear)))

pub keep_code : (img : List ℕ) (key : Key) (caller : ℕ) → GivesCode (cases_of (KEEP key caller) img) (keep img key caller).code
unfolding keep keep_rows settled
keep_code img key caller =
    file_code img key false ⊥ no_argument _ _
    (λ right. rung _ 0o6 _ (denies (eqb caller (file_of img key).uic) (equal_numbers caller (file_of img key).uic)) (λ r. clear))

pub renam_code : (img : List ℕ) (old new : Key) (protect caller : ℕ) → GivesCode (RenamCases img old new protect caller) (renam img old new protect caller).code
unfolding renam renam_rows settled
renam_code img old new protect caller =
    rung _ 0o40 _ (inconsistent img) (λ c.
    rung _ 0o15 _ (illegal old) (λ l.
    rung _ 0o15 _ (illegal new) (λ m.
    rung _ 0o41 _ (above 255 protect) (λ p.
    rung _ 0o2 _ (absent_key ((consistent_iff img).0 (not-false _ c)) old (not-false _ l)) (λ f.
    rung _ 0o2 _ (present_key ((consistent_iff img).0 (not-false _ c)) new (not-false _ m)) (λ g.
    rung _ 0o6 _ (lacks_right _ caller _ _) (λ r. rung _ 0o14 _ (open_iff _) (λ o. clear))))))))

pub appnd_code : (img : List ℕ) (first second : Key) (caller : ℕ) → GivesCode (cases_of (APPND first second caller) img) (appnd img first second caller).code
unfolding appnd appnd_rows name_rows permit_rows settled
appnd_code img first second caller =
    rung _ 0o40 _ (inconsistent img) (λ c.
    rung _ 0o15 _ (illegal first) (λ l.
    rung _ 0o15 _ (illegal second) (λ m.
    rung _ 0o41 _ (one_key first second) (λ p.
    rung _ 0o2 _ (absent_key ((consistent_iff img).0 (not-false _ c)) first (not-false _ l)) (λ f.
    rung _ 0o2 _ (absent_key ((consistent_iff img).0 (not-false _ c)) second (not-false _ m)) (λ g.
    rung _ 0o6 _ (lacks_right _ caller _ _) (λ r.
    rung _ 0o6 _ (lacks_right _ caller _ _) (λ s.
    rung _ 0o43 _ (equal_numbers _ 1) (λ j.
    rung _ 0o43 _ (equal_numbers _ 1) (λ k. rung _ 0o14 _ (open_iff _) (λ o. rung _ 0o14 _ (open_iff _) (λ q. clear))))))))))))
