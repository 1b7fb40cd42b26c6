use Rattle.std.proofs.Common.{◌≡◌, ◌+◌, length, IfSome}
use Rattle.dual_bound.specs.Costs.{Priced}
use Rattle.dual_bound.specs.Raising.{Raises}
use Rattle.dual_bound.proofs.raising.raise_candidates.Given as goal

abbrev pub invariant-loop-made : goal.invariant-loop-made
invariant-loop-made l = record {
  priced : Priced l.model l.b l.m l.costs;
  raised : Raises l.model l.b l.made l.fn.m l.m l.fn.raises l.raises;
  minimizer : IfSome l.minimizer (λ f. f.voyage ≡ l.model);
  number : length l.raises ≡ length l.fn.raises + l.made;
}
