-- Rests on `DataJudged`: what was fetched is laid, and what was judged is told.
use native.Mathlib.Omega.{arith}
use Rattle.binary.proofs.DataJudged.{limit_few, data_read}
use Rattle.binary.proofs.binary_read.read_data.Goals as goal

pub fetch_data-fetched-requires : goal.fetch_data-fetched-requires
fetch_data-fetched-requires c = (
  c.requires.0,
  limit_few c.args.mode _ c.args.coming c.limit_of-limit.ensures c.requires.1,
)

pub judge_data-requires : goal.judge_data-requires
judge_data-requires c = let few = limit_few c.args.mode _ c.args.coming c.limit_of-limit.ensures c.requires.1 in (
  c.requires.1,
  c.requires.2,
  omega (arith, c.fetch_data-fetched.ensures.bytes.small, c.fetch_data-fetched.ensures.bytes.counted, few),
  omega (arith, c.fetch_data-fetched.ensures.bytes.counted, few),
)

pub returns : goal.returns
returns c = data_read c.args.mode c.args.coming c.args.sum _ c.limit_of-limit.ensures c.requires.0 c.fetch_data-fetched.ensures.bytes
    c.judge_data.ensures
