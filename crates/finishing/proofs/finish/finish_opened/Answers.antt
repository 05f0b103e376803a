-- Rests on `FinishStage`: the image is not consistent, or `clear_all` left what all the DELETs leave.
use Rattle.answers.specs.Refusals.{code_of, code_in, number_in}
use Rattle.finishing.proofs.FinishStage.{finish_40, finish_good, finish_done}
use Rattle.finishing.proofs.finish.finish_opened.Goals as goal

pub returns-in_default : goal.returns-in_default
unfolding code_of code_in number_in
returns-in_default c = let given = finish_40 c.args.img.now c.args.caller _ c.requires c.in_default.is in
    record { code_value = given.0; number_value = given.1.0; img_after = given.1.1 }

pub clear_all-requires : goal.clear_all-requires
clear_all-requires c = let both = finish_good c.args.img.now c.args.caller _ c.requires _ c.in-Some.is in
    record { consistent = both.0; img_value = both.1 }

pub returns : goal.returns
unfolding code_in number_in
returns c = let given = finish_done c.args.img.now c.args.caller _ c.requires _ c.in-Some.is _ _ c.clear_all.ensures.value c.clear_all.ensures.img_after in
    record { code_value = given.0; number_value = given.1.0; img_after = given.1.1 }
