use Rattle.zero_one_rows.proofs.Pairs.{nth_pair}
use Rattle.zero_one_rows.proofs.membership.pair_at.Goals as goal

pub returns : goal.returns
returns c = rw (c.items-numbers.ensures.value, c.pair_count-half.ensures.half) (nth_pair c.args.chain.now c.args.k c.requires)
