use Rattle.std.proofs.Common.{◌≡◌, [], option_to_list, ap, arith, rules}
use Rattle.shared_search.specs.declared.rule.Hand.{Hand}
use Rattle.shared_search.specs.Racks.{stolen_weight}
use Rattle.crossbeam_deque.specs.Handles.{view, worker_view}
use Rattle.shared_search.proofs.Backs.{given}
use Rattle.shared_search.proofs.closing.take_back.Goals as goal

pub returns-in-Some-clause-bag : goal.returns-in-Some-clause-bag
returns-in-Some-clause-bag g c h =
    let none : (view {V = Hand} c.in-Some.token).put ≡ [] = search rules in
    let b = given h (worker_view c.args.own) (view {V = Hand} c.in-Some.token) (worker_view c.give_back.new.own) c.give_back.ensures.rule none in
    let s = ap (λ o. stolen_weight h (option_to_list o)) c.in-Some.is in
    (b.0, omega (arith, b.1, s))
