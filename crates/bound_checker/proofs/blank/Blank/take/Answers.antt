use Rattle.std.proofs.Common.{sym, subst, List, All}
use Rattle.std.proofs.lemmas.List.Elements.{All-take}
use Rattle.dual_bound.specs.declared.costs.Costs.{Costs}
use Rattle.bound_checker.specs.Sums.{IsClean}
use Rattle.bound_checker.proofs.blank.Blank.take.Goals as goal

pub returns-in-Some-clause-blank : goal.returns-in-Some-clause-blank
returns-in-Some-clause-blank c = record {
  here = c.requires.blank.here;
  zero = c.requires.blank.zero;
  clean = subst (λ (xs : List Costs). All (IsClean c.args.model.now) xs) (sym c.in-Some.ensures.rest) (All-take (IsClean c.args.model.now) _ c.args.self.now.spare.items c.requires.blank.clean);
}
