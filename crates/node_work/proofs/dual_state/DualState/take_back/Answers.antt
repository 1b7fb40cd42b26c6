use Rattle.std.proofs.Common.{List, Option, Vec, Global, [], length, take, sym, subst, ◌∙◌, ap}
use Rattle.std.specs.Prelude.{IfSome}
use Rattle.proof_trees.specs.Boxes.{Box}
use Rattle.node_work.specs.declared.stages.Stage.{Stage}
use Rattle.node_work.specs.DualStates.{Matches, Staged}
use Rattle.node_work.proofs.Leading.{staged_to}
use Rattle.node_work.proofs.dual_state.DualState.take_back.Goals as goal

pub lower_to-requires-clause-staged : goal.lower_to-requires-clause-staged
lower_to-requires-clause-staged c =
    subst (λ (o : Option (Vec Stage Global)). IfSome o (λ v. Staged c.args.model.now [] v.items c.args.self.now.gauge.multipliers)) (sym c.take.ensures.value ∙ c.in_ok-stages.was) c.requires.dual_state.staged

pub returns-clause-dual_state : goal.returns-clause-dual_state
returns-clause-dual_state c = record {
  voyage = c.in_ok-left.ensures.voyage ∙ c.requires.dual_state.voyage;
  whole = ap (λ (b : Box). length b) c.in_ok-left.ensures.known ∙ c.requires.dual_state.whole;
  staged = c.in_ok-left.ensures.staged;
}

pub returns-clause-prices : goal.returns-clause-prices
returns-clause-prices c =
    let depth = c.stages_in_common-depth.result in
    staged_to c.args.model.now [] c.lower_to.new.gauge.multipliers c.in_ok-left.left.items (take depth c.args.trail.now) c.in_ok-left.ensures.staged
    (subst (λ (ss : List Stage). Matches ss (take depth c.args.trail.now)) (ap (λ (ss : List Stage). take depth ss) c.as_slice.ensures.value ∙ sym c.in_ok-left.ensures.first) c.stages_in_common-depth.ensures.alike)
