use Rattle.std.specs.Prelude.{List, Bool}
use Rattle.std.proofs.lemmas.Result.{IfOk-weaker}
use Rattle.plan_lifts.specs.Spread.{has, IsLeastSpread}
use Rattle.greedy_loader.specs.Calls.{IsLiftedAt, leaving}
use Rattle.greedy_loader.proofs.Leaving.{leaving_filled, spread_by}
use Rattle.greedy_loader.proofs.lifted.lifted_at.Goals as goal

pub spread-requires-clause-filled : goal.spread-requires-clause-filled
spread-requires-clause-filled c = leaving_filled c.args.cargo.now c.args.call c.args.before.now c.in_ok-seeds.seeds c.in_ok-seeds.ensures.leaves

pub returns-clause-least : goal.returns-clause-least
returns-clause-least c = IfOk-weaker c.spread.result
    (λ (set : List Bool). IsLeastSpread c.args.ship.now c.args.before.now (has c.in_ok-seeds.seeds) (has set))
    (λ (set : List Bool). IsLiftedAt c.args.ship.now c.args.cargo.now c.args.call c.args.before.now (has set))
    (λ set least. spread_by c.args.ship.now c.args.before.now (has c.in_ok-seeds.seeds) (leaving c.args.cargo.now c.args.call c.args.before.now) (has set) c.in_ok-seeds.ensures.leaves least)
    c.spread.ensures.least
