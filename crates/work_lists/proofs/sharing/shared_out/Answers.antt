use Rattle.std.proofs.Common.{◌-◌, ℕ, List, [], refl, sym, ap₂, subst, ◌∙◌}
use Rattle.voyage_meaning.specs.Voyage.{start}
use Rattle.crane_lists.specs.declared.tasks.Task.{Task}
use Rattle.crane_lists.specs.Rounds.{IsCraneList, IsGreedy}
use Rattle.work_lists.specs.Shown.{shown_rounds}
use Rattle.work_lists.specs.WorkLists.{departure_of}
use Rattle.work_lists.proofs.Works.{are_rounds, is_least}
use Rattle.work_lists.proofs.sharing.shared_out.Goals as goal

pub returns : goal.returns
returns c =
    let ship = c.args.ship.now in
    let cargo = c.args.cargo.now in
    let plans = c.args.set.now.plans in
    let call = c.args.call in
    let moves = c.args.moves.now in
    let rounds = c.in_ok-rounds.rounds in
    let named = c.in_ok-lifted.ensures.named cargo call (start ship cargo call (departure_of cargo plans (call - 1))) (sym c.departure_before.ensures) in
    let list = subst (λ (ts : List Task). IsCraneList ship ts c.args.cranes rounds) named c.in_ok-rounds.ensures.shared in
    let greedy = subst (λ (ts : List Task). IsGreedy ship ts c.args.cranes [] rounds) named c.in_ok-rounds.ensures.greedy in
    record {
      moves = moves;
      leads = c.requires.leads;
      lifts = c.requires.lifts;
      rounds = rounds;
      are_rounds = are_rounds ship cargo plans call c.args.cranes moves c.crane_lists_keep_the_work.ensures.leads c.crane_lists_keep_the_work.ensures.lifts c.requires.leads c.requires.lifts rounds list greedy;
      is_least = is_least ship cargo plans call c.args.cranes moves c.least_rounds_bound_crane_lists.ensures c.least.result c.least.ensures;
      cranes_are = refl;
      moves_are = c.len-2.ensures;
      rounds_are = c.in_ok-shown.ensures ∙ ap₂ (λ (ts : List Task) (rs : List (List ℕ)). shown_rounds ship cargo ts rs) (c.as_slice.ensures ∙ c.in_ok-tasks.ensures ∙ named) c.as_slice-2.ensures;
    }
