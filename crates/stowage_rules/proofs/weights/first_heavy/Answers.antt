use Rattle.std.proofs.Common.{arith, below_more, sym, ◌∙◌, ap}
use Rattle.std.proofs.lemmas.Option.{same_Some, slice_get_within}
use Rattle.stow_data.specs.declared.geometry.Stack.{Stack}
use Rattle.stowage_rules.proofs.weights.first_heavy.Goals as goal

pub loop-s-preserved : goal.loop-s-preserved
loop-s-preserved c = record {
  inside = c.first_of_tier-from.ensures.inside;
  none = below_more _ _ c.loop-s.invariant.none (λ kg x.
      let same = ap (λ (z : Stack). z.limit_kg) (same_Some x.stack c.stack.result.now (sym x.is_stack ∙ c.stack.ensures)) in
      absurd (omega (arith, same, x.weighs, x.above_limit, c.weight_of_stack-kg.ensures, c.if-kg-from.false, c.from.ensures)));
}

pub returns : goal.returns
returns c = λ s kg x. c.loop-s.invariant.none s (omega (arith, slice_get_within c.args.ship.now.stacks s x.stack x.is_stack)) kg x
