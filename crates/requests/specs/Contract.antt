-- What the functions of the service on an image return and leave, and what their contracts (crates/service/src) say of it. What is lent for reading only is not written.
use Rattle.std.specs.Prelude.{ℕ, ◌≡◌, List, [], ◌∷◌}
use Rattle.answers.specs.declared.Answer.{Answer}
use Rattle.asking.specs.Outcome.{Outcome}
use Rattle.owners.specs.declared.OwnerAnswer.{OwnerAnswer}
use Rattle.owners.specs.OwnerQuestion.{owner_outcome}
use Rattle.directory.specs.declared.look.LookAnswer.{LookAnswer}
use Rattle.directory.specs.Look.{look_outcome}
use Rattle.lines.specs.declared.line_read.ReadAnswer.{ReadAnswer}
use Rattle.lines.specs.declared.line_write.WriteAnswer.{WriteAnswer}
use Rattle.binary.specs.declared.binary_read.BinaryAnswer.{BinaryAnswer}
use Rattle.requests.specs.Request.{Request, FORMAT, ALLOC, OPENO, OPEN, CLOSE, DELET, RENAM, APPND, LOOK, KEEP, BLOCK-INPUT, BLOCK-OUTPUT, LINKED-READ, LINKED-ADD}
use Rattle.requests.specs.Request.{LINE-READ, LINE-WRITE, LINE-END, BINARY-READ, BINARY-WRITE, FINISH, OWNER}

-- the shapes of the contracts, by what they give: a code and the image; an answer of a code and a number, and the image; a code and the lent buffer;
-- the answer of LOOK, and of the question whose a block is; of lines, an answer of a code and three numbers with the lent buffer, or with the image and the gather
-- buffer, and a code with both; of a formatted binary line that is read, a code and five numbers with the lent buffer
pub data Contract : Type 0 where
  code_and_image : Contract
  answer_and_image : Contract
  code_and_buffer : Contract
  look_answer : Contract
  owner_answer : Contract
  read_answer_and_buffer : Contract
  write_answer_and_both : Contract
  code_and_both : Contract
  binary_answer_and_buffer : Contract

-- what a function returns, and with it what each slice then holds that it may write
abbrev pub Result : Contract → Type 0
Result code_and_image = ℕ × List ℕ
Result answer_and_image = Answer × List ℕ
Result code_and_buffer = ℕ × List ℕ
Result look_answer = LookAnswer
Result owner_answer = OwnerAnswer
Result read_answer_and_buffer = ReadAnswer × List ℕ
Result write_answer_and_both = WriteAnswer × List ℕ × List ℕ
Result code_and_both = ℕ × List ℕ × List ℕ
Result binary_answer_and_buffer = BinaryAnswer × List ℕ

-- how many numbers that is beside the code: "ALLOC and linked add also return the first or added block, LOOK its six numbers"; Finish returns "how many";
-- whose a block is is three; a read has the count, the status and "the next position", a write "the count taken", the status and the filled count "given back";
-- of a formatted binary line that is read also "the length still to come and the sum so far"
abbrev pub numbers_in : Contract → ℕ
numbers_in code_and_image = 0
numbers_in answer_and_image = 1
numbers_in code_and_buffer = 0
numbers_in look_answer = 6
numbers_in owner_answer = 3
numbers_in read_answer_and_buffer = 3
numbers_in write_answer_and_both = 3
numbers_in code_and_both = 0
numbers_in binary_answer_and_buffer = 5

-- the lines of `ensures`: of an image as it was lent, and the outcome that is due
abbrev pub Meets : (contract : Contract) → List ℕ → Outcome → Result contract → Type 0
Meets code_and_image img due r = (r.0 ≡ due.code) × (r.1 ≡ due.image)
Meets answer_and_image img due r = (r.0.code ≡ due.code) × (r.0.number ∷ [] ≡ due.numbers) × (r.1 ≡ due.image)
Meets code_and_buffer img due r = (r.0 ≡ due.code) × (r.1 ≡ due.buffer)
Meets look_answer img due r = look_outcome img r ≡ due
Meets owner_answer img due r = owner_outcome img r ≡ due
Meets read_answer_and_buffer img due r =
    (r.0.code ≡ due.code) × (r.0.count ∷ (r.0.status ∷ (r.0.position ∷ [])) ≡ due.numbers) × (r.1 ≡ due.buffer)
Meets write_answer_and_both img due r =
    (r.0.code ≡ due.code)
    × (r.0.count ∷ (r.0.status ∷ (r.0.filled ∷ [])) ≡ due.numbers)
    × (r.1 ≡ due.image)
    × (r.2 ≡ due.buffer)
Meets code_and_both img due r = (r.0 ≡ due.code) × (r.1 ≡ due.image) × (r.2 ≡ due.buffer)
Meets binary_answer_and_buffer img due r =
    (r.0.code ≡ due.code)
    × (r.0.count ∷ (r.0.status ∷ (r.0.position ∷ (r.0.coming ∷ (r.0.sum ∷ [])))) ≡ due.numbers)
    × (r.1 ≡ due.buffer)

-- the contract of each request's function; OPEN has three, `abz_openi`, `abz_openu` and `abz_opene`
abbrev pub contract_of : Request → Contract
contract_of (FORMAT form blocks contents uics) = code_and_image
contract_of (ALLOC key caller protect segments) = answer_and_image
contract_of (OPENO key caller protect) = code_and_image
contract_of (OPEN mode key caller) = code_and_image
contract_of (CLOSE key mode) = code_and_image
contract_of (DELET key caller) = code_and_image
contract_of (RENAM old name1 name2 extension protect caller) = code_and_image
contract_of (APPND first second caller) = code_and_image
contract_of (LOOK key) = look_answer
contract_of (KEEP key caller) = code_and_image
contract_of (BLOCK-INPUT key caller place buffer) = code_and_buffer
contract_of (BLOCK-OUTPUT key caller place buffer) = code_and_image
contract_of (LINKED-READ key caller place buffer) = code_and_buffer
contract_of (LINKED-ADD key caller payload) = answer_and_image
contract_of (LINE-READ key caller mode position buffer) = read_answer_and_buffer
contract_of (LINE-WRITE key caller mode text gather filled) = write_answer_and_both
contract_of (LINE-END key caller gather filled) = code_and_both
contract_of (BINARY-READ key caller mode position to_come sum buffer) = binary_answer_and_buffer
contract_of (BINARY-WRITE key caller content gather filled) = write_answer_and_both
contract_of (FINISH caller) = answer_and_image
contract_of (OWNER block) = owner_answer
