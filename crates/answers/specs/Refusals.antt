-- Refusals: rows of conditions and codes, and what the first row that holds does to an answer and to what was lent.
use Rattle.std.specs.Prelude.{ℕ, suc, Bool, true, cond, ◌&&◌, List, [], ◌∷◌, eqb, leb, ltb, length, Result, Ok, Err}
use Rattle.answers.specs.declared.Answer.{Answer}
use Rattle.answers.specs.declared.Refusal.{Refusal}
use Rattle.answers.specs.declared.Refusal.TheVariants.{Inconsistent, IllegalName, WrongArgument, UnlistedUic, ExistsOrAbsent, RightLacking, Contiguous, WrongKind, HasWriter}
use Rattle.answers.specs.declared.Refusal.TheVariants.{FileOpen, NotOpen, NoSuchBlock, TooManyOpens, DirectoryFull, NoRoom, NotOfSet}

-- a row of the table of codes: is it given, and its code
pub record Row : Type 0 where
  pub given : Bool
  pub code : ℕ

abbrev pub row : Bool → ℕ → Row
row given code = record { given = given; code = code }

-- The codes of document 01 in the order of its table ("Codes and UICs are octal; other numbers are decimal"):
-- "40: image not consistent"
-- "15: a name or extension is not legal"
-- "41: argument: N is 0, protect above 255, mode not 1 to 4, buffer not of the size asked, APPND of a file to itself, a bad format argument"
-- "13: creating: UIC not in the list"
-- "2: creating, or new name in RENAM: exists. Else: absent. OPENI, OPENE, OPENU also: writer is 2"
-- "6: right lacking; creating under another's UIC"
-- "5: OPENE of a contiguous file"
-- "43: OPENU or BLOCK of a linked file; APPND, linked read or add of a contiguous one"
-- "4: OPENE, OPENU: there is a writer"
-- "14: DELET, RENAM, APPND: a file is open"
-- "45: not open as the request needs, or CLOSE of a mode not open"
-- "44: no such block in the file"
-- "3: 62 opens already"
-- "12: creating: no empty entry"
-- "42: no free block, or no free run long enough"
-- "50, 51, 52, 53: see Command lines": they, and 54 of document 02, have orders of their own, in `Csi1`, `Csi2` and `CsiWrite`
-- "60: a conversion's input is not of its set, or too large"
abbrev pub table_order : List ℕ
table_order = 0o40 ∷ 0o15 ∷ 0o41 ∷ 0o13 ∷ 0o2 ∷ 0o6 ∷ 0o5 ∷ 0o43 ∷ 0o4 ∷ 0o14 ∷ 0o45 ∷ 0o44 ∷ 0o3 ∷ 0o12 ∷ 0o42 ∷ 0o60 ∷ []

-- the code of each refusal
unfoldable pub code_of : Refusal → ℕ
code_of Inconsistent = 0o40
code_of IllegalName = 0o15
code_of WrongArgument = 0o41
code_of UnlistedUic = 0o13
code_of ExistsOrAbsent = 0o2
code_of RightLacking = 0o6
code_of Contiguous = 0o5
code_of WrongKind = 0o43
code_of HasWriter = 0o4
code_of FileOpen = 0o14
code_of NotOpen = 0o45
code_of NoSuchBlock = 0o44
code_of TooManyOpens = 0o3
code_of DirectoryFull = 0o12
code_of NoRoom = 0o42
code_of NotOfSet = 0o60

-- where a code stands in a list; of a code that is not there, how many stand there
abbrev pub place_in : List ℕ → ℕ → ℕ
place_in [] code = 0
place_in (next ∷ order) code = cond (eqb next code) 0 (suc (place_in order code))

-- from a place on, do the codes of rows stand in the order of a list, which has them all? One code may stand in several rows.
abbrev pub in_order : List ℕ → ℕ → List Row → Bool
in_order order place [] = true
in_order order place (r ∷ rows) =
    leb place (place_in order r.code) && (ltb (place_in order r.code) (length order) && in_order order (place_in order r.code) rows)

-- "Success returns 0 .. A refusal returns its code .. Of several, the first in this table is given."
unfoldable pub first_of : List Row → ℕ
first_of [] = 0
first_of (r ∷ rows) = cond r.given r.code (first_of rows)

-- what there is with code 0, and what there is with any other
unfoldable pub on_success : {A : Type 0} → ℕ → A → A → A
on_success code success refusal = cond (eqb code 0) success refusal

-- "A refusal returns its code, any other number in the answer 0 (but for the place with 50)": an answer with one number and no place
unfoldable pub answered : List Row → ℕ → Answer
answered rows number = record { code = first_of rows; number = on_success (first_of rows) number 0 }

-- "and nothing in the image or a lent buffer changes": what was lent, before and after
unfoldable pub lent : List Row → List ℕ → List ℕ → List ℕ
lent rows before after = on_success (first_of rows) after before

-- "Success returns 0 .. A refusal returns its code": of what a request answers
unfoldable pub code_in : {A : Type 0} → Result A Refusal → ℕ
code_in (Ok a) = 0
code_in (Err refusal) = code_of refusal

-- "any other number in the answer 0": its number
unfoldable pub number_in : Result ℕ Refusal → ℕ
number_in (Ok number) = number
number_in (Err refusal) = 0

-- code and number, as a host gets them
unfoldable pub answer_in : Result ℕ Refusal → Answer
answer_in outcome = record { code = code_in outcome; number = number_in outcome }
