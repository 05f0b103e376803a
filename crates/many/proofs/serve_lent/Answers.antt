-- Rests on `Whole`: the records that were read and made are those of the bytes.
use Rattle.many.proofs.Whole.{folded_served}
use Rattle.many.proofs.serve_lent.Goals as goal

pub returns : goal.returns
returns c = let both = folded_served _ c.decode-list.ensures c.lend.ensures in
    record { img_after = both.0; answers_after = both.1 }
