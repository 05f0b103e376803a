-- Rests on `RecordMade`: the request of each number, made on the file of the record, is the one that the record names, and what fitted fits.
use Rattle.answers.specs.Refusals.{code_in, number_in, answer_in}
use Rattle.asking.proofs.Verdicts.{carried}
use Rattle.listed.proofs.RecordMade.{alloc_made, delet_made}
use Rattle.listed.proofs.single.Goals as goal

pub returns-in_err-start-in-1 : goal.returns-in_err-start-in-1
unfolding code_in number_in answer_in
returns-in_err-start-in-1 c =
    let done = alloc_made _ c.args.r c.key_of-file.ensures c.in-1.is c.requires
    c.in_err-start-in-1.ensures.code_value c.in_err-start-in-1.ensures.number_value c.in_err-start-in-1.ensures.img_after c.in_err-start-in-1.ensures.map_after in
    record { served = rw (carried c.from_residual.ensures.1) done.0; fits = done.1 }

pub returns-in_ok-start-in-1 : goal.returns-in_ok-start-in-1
unfolding code_in number_in answer_in
returns-in_ok-start-in-1 c =
    let done = alloc_made _ c.args.r c.key_of-file.ensures c.in-1.is c.requires
    c.in_ok-start-in-1.ensures.code_value c.in_ok-start-in-1.ensures.number_value c.in_ok-start-in-1.ensures.img_after c.in_ok-start-in-1.ensures.map_after in
    record { served = done.0; fits = done.1 }

pub returns-in_err-delet_opened-in-2 : goal.returns-in_err-delet_opened-in-2
unfolding code_in number_in answer_in
returns-in_err-delet_opened-in-2 c =
    let done = delet_made _ c.args.r c.key_of-file.ensures c.in-2.is c.requires
    c.in_err-delet_opened-in-2.ensures.value c.in_err-delet_opened-in-2.ensures.img_after c.in_err-delet_opened-in-2.ensures.map_after in
    record { served = rw (carried c.from_residual-in_err-delet_opened-in-2.ensures.1) done.0; fits = done.1 }

pub returns-in_ok-delet_opened-in-2 : goal.returns-in_ok-delet_opened-in-2
unfolding code_in number_in answer_in
returns-in_ok-delet_opened-in-2 c =
    let done = delet_made _ c.args.r c.key_of-file.ensures c.in-2.is c.requires
    c.in_ok-delet_opened-in-2.ensures.value c.in_ok-delet_opened-in-2.ensures.img_after c.in_ok-delet_opened-in-2.ensures.map_after in
    record { served = done.0; fits = done.1 }

pub returns-in_err-single_unmapped-in_default : goal.returns-in_err-single_unmapped-in_default
unfolding code_in number_in answer_in
returns-in_err-single_unmapped-in_default c =
    record {
      served = rw (carried c.from_residual-in_err-single_unmapped-in_default.ensures.1) c.in_err-single_unmapped-in_default.ensures.served;
      fits = c.in_err-single_unmapped-in_default.ensures.by_index _ c.requires;
    }

pub returns-in_ok-single_unmapped-in_default : goal.returns-in_ok-single_unmapped-in_default
unfolding code_in number_in answer_in
returns-in_ok-single_unmapped-in_default c = record { served = c.in_ok-single_unmapped-in_default.ensures.served; fits = c.in_ok-single_unmapped-in_default.ensures.by_index _ c.requires }
