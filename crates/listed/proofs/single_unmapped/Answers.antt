-- Rests on `RecordMade`: each of the eight, and none, is what the record names by its number (`RecordNames`).
use Rattle.answers.specs.Refusals.{code_in, code_of}
use Rattle.listed.proofs.RecordNames.{names_other}
use Rattle.listed.proofs.RecordMade.{renam_made, appnd_made, keep_made, openo_made, openi_made, openu_made, opene_made, close_made, none_made}
use Rattle.listed.proofs.single_unmapped.Goals as goal

pub returns-in-3 : goal.returns-in-3
returns-in-3 c =
    let done = renam_made _ c.args.r c.requires.file_value {opened = c.args.opened} c.in-3.is c.renam_opened.ensures.value c.renam_opened.ensures.img_after in
    record { served = done.0; by_index = done.1 }

pub returns-in-4 : goal.returns-in-4
returns-in-4 c =
    let done = appnd_made _ c.args.r c.requires.file_value {opened = c.args.opened} c.key_of-second.ensures c.in-4.is c.appnd_opened.ensures.value c.appnd_opened.ensures.img_after in
    record { served = done.0; by_index = done.1 }

pub returns-in-5 : goal.returns-in-5
returns-in-5 c =
    let done = keep_made _ c.args.r c.requires.file_value {opened = c.args.opened} c.in-5.is c.keep_opened.ensures.value c.keep_opened.ensures.img_after in
    record { served = done.0; by_index = done.1 }

pub returns-in-6 : goal.returns-in-6
returns-in-6 c =
    let done = openo_made _ c.args.r c.requires.file_value {opened = c.args.opened} c.in-6.is c.openo_opened.ensures.value c.openo_opened.ensures.img_after in
    record { served = done.0; by_index = done.1 }

pub returns-in-7 : goal.returns-in-7
returns-in-7 c =
    let done = openi_made _ c.args.r c.requires.file_value {opened = c.args.opened} c.in-7.is c.open_opened.ensures.value c.open_opened.ensures.img_after in
    record { served = done.0; by_index = done.1 }

pub returns-in-8 : goal.returns-in-8
returns-in-8 c =
    let done = openu_made _ c.args.r c.requires.file_value {opened = c.args.opened} c.in-8.is c.open_opened-in-8.ensures.value c.open_opened-in-8.ensures.img_after in
    record { served = done.0; by_index = done.1 }

pub returns-in-9 : goal.returns-in-9
returns-in-9 c =
    let done = opene_made _ c.args.r c.requires.file_value {opened = c.args.opened} c.in-9.is c.open_opened-in-9.ensures.value c.open_opened-in-9.ensures.img_after in
    record { served = done.0; by_index = done.1 }

pub returns-in-10 : goal.returns-in-10
returns-in-10 c =
    let done = close_made _ c.args.r c.requires.file_value {opened = c.args.opened} c.in-10.is c.close_opened.ensures.value c.close_opened.ensures.img_after in
    record { served = done.0; by_index = done.1 }

pub returns-in_default : goal.returns-in_default
unfolding code_in code_of
returns-in_default c =
    let names = names_other c.args.r c.requires.fact (assumption) (assumption) in
    let done = none_made c.args.img.now c.args.r {opened = c.args.opened} names in
    record { served = done.0; by_index = done.1 }
