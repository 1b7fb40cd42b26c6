use Rattle.std.proofs.Common.{ap, sym, ◌∙◌, subst}
use Rattle.stow_data.specs.Plans.{Plan}
use Rattle.stowage_rules.specs.Plan.{IsWellFormed}
use Rattle.voyage_meaning.specs.Voyage.{start}
use Rattle.voyage_meaning.proofs.Loading.{berth_of}
use Rattle.voyage_meaning.proofs.crane.cost_of_call.Goals as goal

pub arrive-requires : goal.arrive-requires
arrive-requires c = subst (λ (p : Plan). IsWellFormed c.args.ship.now c.args.cargo.now p) (sym c.in_ok-plan.ensures) c.requires.first

pub returns : goal.returns
returns c = c.cost_of_moves-cost.ensures c.args.before.now (c.in_ok-berth.ensures.state ∙ ap (λ (p : Plan). berth_of c.args.call (start c.args.ship.now c.args.cargo.now c.args.call p)) c.in_ok-plan.ensures)
