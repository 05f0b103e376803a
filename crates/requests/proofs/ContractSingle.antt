-- For given inputs the contract of each function on an image allows one result: one answer, and one content of each slice that it may write.
use Prim.Native.Nat.{ℕ}
use mathlib.Core.Path.{◌≡◌, sym, ap, ◌∙◌}
use mathlib.Core.List.{List}
use lib.ListN.{get_or}
use Rattle.asking.specs.Outcome.{Outcome}
use Rattle.owners.specs.OwnerQuestion.{owner_outcome}
use Rattle.directory.specs.Look.{look_outcome}
use Rattle.requests.specs.Request.{Request, outcome}
use Rattle.requests.specs.Contract.{Contract, code_and_image, answer_and_image, code_and_buffer, look_answer, owner_answer, Result, Meets, contract_of}
use Rattle.requests.specs.Contract.{read_answer_and_buffer, write_answer_and_both, code_and_both, binary_answer_and_buffer}

pub result_single : (contract : Contract) (img : List ℕ) (due : Outcome) (a b : Result contract)
    → Meets contract img due a → Meets contract img due b → a ≡ b
result_single code_and_image img due a b x y = λ i. ((x.0 ∙ sym y.0) i, (x.1 ∙ sym y.1) i)
result_single answer_and_image img due a b x y =
    λ i. (
      record { code = (x.0 ∙ sym y.0) i; number = ap (λ (numbers : List ℕ). get_or numbers 0 0) (x.1 ∙ sym y.1) i },
      (x.2 ∙ sym y.2) i,
    )
result_single code_and_buffer img due a b x y = λ i. ((x.0 ∙ sym y.0) i, (x.1 ∙ sym y.1) i)
result_single look_answer img due a b x y =
    let same : look_outcome img a ≡ look_outcome img b = x ∙ sym y in
    λ i. record {
      code = (same i).code;
      kind = get_or (same i).numbers 0 0;
      first = get_or (same i).numbers 1 0;
      length = get_or (same i).numbers 2 0;
      protect = get_or (same i).numbers 3 0;
      writer = get_or (same i).numbers 4 0;
      readers = get_or (same i).numbers 5 0;
    }
result_single owner_answer img due a b x y =
    let same : owner_outcome img a ≡ owner_outcome img b = x ∙ sym y in
    λ i. record { code = (same i).code; kind = get_or (same i).numbers 0 0; entry = get_or (same i).numbers 1 0; place = get_or (same i).numbers 2 0 }
result_single read_answer_and_buffer img due a b x y =
    let same = x.1 ∙ sym y.1 in
    λ i. (
      record { code = (x.0 ∙ sym y.0) i; count = get_or (same i) 0 0; status = get_or (same i) 1 0; position = get_or (same i) 2 0 },
      (x.2 ∙ sym y.2) i,
    )
result_single write_answer_and_both img due a b x y =
    let same = x.1 ∙ sym y.1 in
    λ i. (
      record { code = (x.0 ∙ sym y.0) i; count = get_or (same i) 0 0; status = get_or (same i) 1 0; filled = get_or (same i) 2 0 },
      (x.2 ∙ sym y.2) i,
      (x.3 ∙ sym y.3) i,
    )
result_single code_and_both img due a b x y = λ i. ((x.0 ∙ sym y.0) i, (x.1 ∙ sym y.1) i, (x.2 ∙ sym y.2) i)
result_single binary_answer_and_buffer img due a b x y =
    let same = x.1 ∙ sym y.1 in
    λ i. (
      record {
        code = (x.0 ∙ sym y.0) i;
        count = get_or (same i) 0 0;
        status = get_or (same i) 1 0;
        position = get_or (same i) 2 0;
        coming = get_or (same i) 3 0;
        sum = get_or (same i) 4 0;
      },
      (x.2 ∙ sym y.2) i,
    )

pub one_result : (r : Request) (img : List ℕ) (a b : Result (contract_of r))
    → Meets (contract_of r) img (outcome r img) a → Meets (contract_of r) img (outcome r img) b → a ≡ b
one_result r img = result_single (contract_of r) img (outcome r img)
