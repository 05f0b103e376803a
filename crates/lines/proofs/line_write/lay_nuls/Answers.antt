-- Rests on `LineWritingAnswers`: a front of an array of NULs is laid as so many NULs are.
use Rattle.lines.proofs.LineWritingAnswers.{nuls_counted, nuls_begun, nuls_laid}
use Rattle.lines.proofs.line_write.lay_nuls.Goals as goal

pub slice_bounds-lay_all-end : goal.slice_bounds-lay_all-end
slice_bounds-lay_all-end c = nuls_counted _ _ c.requires.count_bound

pub lay_all-requires : goal.lay_all-requires
lay_all-requires c = nuls_begun _ _ c.requires.count_bound c.requires.writable

pub returns : goal.returns
returns c = nuls_laid _ _ c.requires.count_bound c.lay_all.ensures
