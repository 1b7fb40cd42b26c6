use Rattle.std.proofs.Common.{◌≡◌, ◌⊎◌, ◌<◌, ℕ, true, length, arith}
use Rattle.plan_lifts.specs.Spread.{has}
use Rattle.greedy_loader.specs.Calls.{LoadsAt}
use Rattle.greedy_loader.proofs.OnQuay.{listed_all, listed_more, waits_inside}
use Rattle.greedy_loader.proofs.waiting.waiting.Goals as goal

pub loop-c-preserved : goal.loop-c-preserved
loop-c-preserved c = listed_more (λ (k : ℕ). (has c.args.marked.now k ≡ true) ⊎ LoadsAt c.args.cargo.now c.args.call k) c.loop-c.list c.push_where.new.list c.loop-c.c c.is_waiting.result c.loop-c.invariant c.is_waiting.ensures c.in_ok-push_where.ensures

pub returns-clause-waits : goal.returns-clause-waits
returns-clause-waits c = listed_all (λ (k : ℕ). (has c.args.marked.now k ≡ true) ⊎ LoadsAt c.args.cargo.now c.args.call k) c.loop-c.list c.loop-c.c
    (λ k w. let l : k < length c.args.cargo.now.containers = waits_inside c.args.cargo.now c.args.call c.args.marked.now k c.requires.each w in omega arith)
    c.loop-c.invariant
