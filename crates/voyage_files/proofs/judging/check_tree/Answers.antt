use Rattle.std.proofs.Common.{ℕ, subst}
use Rattle.model_bridge.specs.Laws.{IsCostBound}
use Rattle.voyage_files.proofs.judging.check_tree.Goals as goal

pub returns-in-Ok-clause-bounds : goal.returns-in-Ok-clause-bounds
returns-in-Ok-clause-bounds c = c.bounds_are_of_voyages.ensures.proved c.args.model.now c.args.bound c.requires.problem c.in-Ok.ensures.costs

pub returns-in-Ok-clause-none : goal.returns-in-Ok-clause-none
returns-in-Ok-clause-none c = λ full. c.bounds_are_of_voyages.ensures.none c.args.model.now c.requires.problem (λ hold. subst (λ (b : ℕ). IsCostBound c.args.model.now b) full (c.in-Ok.ensures.costs hold))
