use Rattle.std.proofs.Common.{◌≡◌, ◌<◌, ◌≤◌, length, arith}
use Rattle.std.proofs.lemmas.Result.{err_from_is_err_and}
use Rattle.arrival_plan.proofs.Whole.{fault_settles, formed, obeys, settled, too_many}
use Rattle.arrival_plan.proofs.settling.settle_groups.Goals as goal

pub returns-in_err-stowage : goal.returns-in_err-stowage
returns-in_err-stowage c =
    let p = err_from_is_err_and c.from_residual.result c.from_residual.ensures.1 in
    rw (p.1, p.2) (fault_settles c.args.ship.now c.args.bookings.now c.args.groups.now c.in_err-stowage.field-0.0 c.in_err-stowage.ensures.told)

pub cargo_with-requires-clause-obeys : goal.cargo_with-requires-clause-obeys
cargo_with-requires-clause-obeys c = obeys c.args.ship.now c.args.bookings.now c.args.groups.now c.requires.rules c.requires.read c.in_ok-stowage.stowage c.in_ok-stowage.ensures.told c.obeys_rules.ensures

pub broken_rule-requires : goal.broken_rule-requires
broken_rule-requires c = formed c.args.ship.now c.args.bookings.now c.args.groups.now c.requires.rules c.requires.read c.in_ok-stowage.stowage c.in_ok-stowage.ensures.told c.in_ok-cargo.cargo c.in_ok-cargo.ensures

pub returns-then-len-gt-MOST_CONTAINERS : goal.returns-then-len-gt-MOST_CONTAINERS
returns-then-len-gt-MOST_CONTAINERS c =
    let count : c.from.result ≡ length c.in_ok-cargo.cargo.containers = omega arith in
    let many : 2000 < c.from.result = omega arith in
    too_many c.args.ship.now c.args.bookings.now c.args.groups.now c.requires.rules c.requires.read c.in_ok-stowage.stowage c.in_ok-stowage.ensures.told c.in_ok-cargo.cargo c.in_ok-cargo.ensures c.from.result c.in_default.ensures count many

pub returns : goal.returns
returns c =
    let few : length c.in_ok-cargo.cargo.containers ≤ 2000 = omega arith in
    settled c.args.ship.now c.args.bookings.now c.args.groups.now c.requires.rules c.requires.read c.in_ok-stowage.stowage c.in_ok-stowage.ensures.told c.in_ok-cargo.cargo c.in_ok-cargo.ensures c.in_default.ensures few
