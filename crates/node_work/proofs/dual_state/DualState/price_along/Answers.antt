use Rattle.std.proofs.Common.{[], drop, sym, subst, ◌∙◌, ap}
use Rattle.std.proofs.lemmas.Result.{on_ok_weaker}
use Rattle.zero_one_rows.specs.declared.program.Row.{Row}
use Rattle.proof_trees.specs.Multipliers.{Multipliers}
use Rattle.node_work.specs.Starts.{prices_along, InRange}
use Rattle.node_work.proofs.Leading.{rest_named, rest_ranged, rest_priced}
use Rattle.node_work.proofs.dual_state.DualState.price_along.Goals as goal

pub follow-requires-clause-rows : goal.follow-requires-clause-rows
follow-requires-clause-rows c = rest_named c.args.model.now c.go_back-depth.result c.args.trail.now c.requires.rows

pub follow-requires-clause-range : goal.follow-requires-clause-range
follow-requires-clause-range c =
    subst (λ (ms : Multipliers Row). InRange ms (drop c.go_back-depth.result c.args.trail.now)) (sym c.go_back-depth.ensures.prices) (rest_ranged c.go_back-depth.result [] c.args.trail.now c.requires.range)

pub returns-clause-prices : goal.returns-clause-prices
returns-clause-prices c = on_ok_weaker c.follow.result (λ e.
    e ∙ ap (λ (ms : Multipliers Row). prices_along ms (drop c.go_back-depth.result c.args.trail.now)) c.go_back-depth.ensures.prices ∙ rest_priced c.go_back-depth.result [] c.args.trail.now) c.follow.ensures.prices
