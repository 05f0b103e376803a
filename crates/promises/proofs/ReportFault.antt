-- Document 02 §6: a fault named means that every request on the image but Format is refused with 40. The report itself is none: it has no code and changes nothing.
use Prim.Native.Nat.{ℕ}
use mathlib.Core.Path.{◌≡◌, refl}
use mathlib.Core.List.{List}
use Rattle.pack.specs.Consistent.{Consistent}
use Rattle.opening.specs.declared.Opening.TheVariants.{Input, Update, Extension}
use Rattle.faults.specs.declared.ReportAnswer.{ReportAnswer}
use Rattle.faults.specs.Report.{Report}
use Rattle.faults.proofs.ReportConsistent.{fault_inconsistent}
use Rattle.requests.specs.Request.{Request, outcome, NotFormat, FORMAT, ALLOC, OPENO, OPEN, CLOSE, DELET, RENAM, APPND, LOOK, KEEP, BLOCK-INPUT, BLOCK-OUTPUT, LINKED-READ, LINKED-ADD}
use Rattle.requests.specs.Request.{LINE-READ, LINE-WRITE, LINE-END, BINARY-READ, BINARY-WRITE, FINISH, OWNER}
use Rattle.promises.specs.GivenWhen.{GivesCode, here}
use Rattle.promises.specs.Codes.{cases_of}
use Rattle.promises.proofs.Codes.{code_iff}

-- its first row is 40
first_row : (r : Request) (img : List ℕ) → NotFormat r → (Consistent img → ⊥) → GivesCode (cases_of r img) 0o40
first_row (FORMAT form blocks contents uics) img other wrong = absurd (other form blocks contents uics refl)
first_row (ALLOC key caller protect segments) img other wrong = here wrong
first_row (OPENO key caller protect) img other wrong = here wrong
first_row (OPEN Input key caller) img other wrong = here wrong
first_row (OPEN Update key caller) img other wrong = here wrong
first_row (OPEN Extension key caller) img other wrong = here wrong
first_row (CLOSE key mode) img other wrong = here wrong
first_row (DELET key caller) img other wrong = here wrong
first_row (RENAM old name1 name2 extension protect caller) img other wrong = here wrong
first_row (APPND first second caller) img other wrong = here wrong
first_row (LOOK key) img other wrong = here wrong
first_row (KEEP key caller) img other wrong = here wrong
first_row (BLOCK-INPUT key caller place buffer) img other wrong = here wrong
first_row (BLOCK-OUTPUT key caller place buffer) img other wrong = here wrong
first_row (LINKED-READ key caller place buffer) img other wrong = here wrong
first_row (LINKED-ADD key caller payload) img other wrong = here wrong
first_row (LINE-READ key caller mode position buffer) img other wrong = here wrong
first_row (LINE-WRITE key caller mode text gather filled) img other wrong = here wrong
first_row (LINE-END key caller gather filled) img other wrong = here wrong
first_row (BINARY-READ key caller mode position to_come sum buffer) img other wrong = here wrong
first_row (BINARY-WRITE key caller content gather filled) img other wrong = here wrong
first_row (FINISH caller) img other wrong = here wrong
first_row (OWNER block) img other wrong = here wrong

pub inconsistent_refused : (r : Request) (img : List ℕ) → NotFormat r → (Consistent img → ⊥) → (outcome r img).code ≡ 0o40
inconsistent_refused r img other wrong = (code_iff r img 0o40).1 (first_row r img other wrong)

pub fault_refused : (img : List ℕ) (answer : ReportAnswer) → Report img answer → (answer.rule ≡ 0 → ⊥) → (r : Request) → NotFormat r
    → (outcome r img).code ≡ 0o40
fault_refused img answer report some r other = inconsistent_refused r img other (fault_inconsistent img answer report some)
