use Rattle.dual_bound.proofs.Multiplied.{are_multipliers}
use Rattle.dual_bound.proofs.raising.raise_by.Goals as goal

pub returns-clause-kept : goal.returns-clause-kept
returns-clause-kept c = are_multipliers c.args.model.now c.raise_kept-raised.new.m c.raise_kept-raised.ensures.priced.small
