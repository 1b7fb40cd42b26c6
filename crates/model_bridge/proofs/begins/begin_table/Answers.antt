use Rattle.std.proofs.Common.{◌∙◌, ◌-◌, ℕ, ap, arith, length}
use Rattle.std.specs.Prelude.{replicate}
use Rattle.model_bridge.specs.Stays.{begins}
use Rattle.model_bridge.proofs.Tables.{given_long}
use Rattle.model_bridge.proofs.Begun.{table_first, table_more, begins_at}
use Rattle.model_bridge.proofs.begins.begin_table.Goals as goal

pub loop-call-init : goal.loop-call-init
loop-call-init c = table_first c.args.ship.now c.args.cargo.now c.args.plans.now c.args.lists.now c.new-table.result c.push.new.self c.in_ok-filled.field-0 c.new-table.ensures c.in_ok-push.ensures (let places = c.places.ensures in c.in_ok-filled.ensures ∙ ap (λ (n : ℕ). replicate n 0) places.number)

pub at-began-requires : goal.at-began-requires
at-began-requires c =
    let long = ap length c.loop-call.invariant ∙ given_long (begins c.args.ship.now c.args.cargo.now c.args.plans.now c.args.lists.now) c.loop-call.call in
    let from = c.loop-call.auto.call in
    omega (arith, long, from)

pub next_begins-requires-clause-before : goal.next_begins-requires-clause-before
next_begins-requires-clause-before c = begins_at c.args.ship.now c.args.cargo.now c.args.plans.now c.args.lists.now c.loop-call.call (c.loop-call.call - 1) c.loop-call.table c.at-began.result.now c.loop-call.invariant (let from = c.loop-call.auto.call in omega (arith, from)) c.at-began.ensures

pub loop-call-preserved : goal.loop-call-preserved
loop-call-preserved c = table_more c.args.ship.now c.args.cargo.now c.args.plans.now c.args.lists.now c.loop-call.call c.loop-call.table c.push-in-loop-call.new.self c.in_ok-next.next c.loop-call.invariant c.in_ok-push-2.ensures c.in_ok-next.ensures
