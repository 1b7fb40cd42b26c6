use Rattle.std.proofs.Common.{List, ℕ, subst}
use Rattle.std.specs.List.Sorted.{IsPermutation}
use Rattle.plan_lifts.specs.Spread.{has}
use Rattle.plan_lifts.proofs.LiftsHold.{both_ok}
use Rattle.greedy_loader.specs.Calls.{IsQuay}
use Rattle.greedy_loader.specs.Turns.{IsInOrder}
use Rattle.greedy_loader.proofs.OnQuay.{quay_is}
use Rattle.greedy_loader.proofs.waiting.quay_of.Goals as goal

pub returns : goal.returns
returns c = both_ok
    (λ (quay : List ℕ). IsPermutation c.as_slice.result.now quay)
    (λ (quay : List ℕ). IsInOrder c.args.cargo.now quay)
    (λ (quay : List ℕ). IsQuay c.args.cargo.now c.args.call c.args.before.now (has c.args.lifted.now) quay)
    c.in_order.result
    (λ quay same order. quay_is c.args.cargo.now c.args.call c.args.before.now (has c.args.lifted.now) c.in_ok-marked.marked c.in_ok-list.list quay c.in_ok-marked.ensures.marks c.in_ok-list.ensures.rising c.in_ok-list.ensures.waits (subst (λ (z : List ℕ). IsPermutation z quay) c.as_slice.ensures same) order)
    c.in_order.ensures.same c.in_order.ensures.order
