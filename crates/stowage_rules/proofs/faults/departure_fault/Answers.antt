use Rattle.stowage_rules.proofs.InRank.{first_separation, meets}
use Rattle.stowage_rules.proofs.faults.departure_fault.Goals as goal

pub returns-in-None : goal.returns-in-None
returns-in-None c = meets c.args.ship.now c.args.cargo.now c.args.plan.now c.requires c.in_default.ensures c.in_default-first_twenty_on_forty.ensures c.in_default-first_unplugged.ensures c.in_default-first_heavy.ensures c.in-None.ensures

pub returns-in-Some-first_unseparated : goal.returns-in-Some-first_unseparated
returns-in-Some-first_unseparated c = first_separation c.args.ship.now c.args.cargo.now c.args.plan.now _ _ _ c.in_default.ensures c.in_default-first_twenty_on_forty.ensures c.in_default-first_unplugged.ensures c.in_default-first_heavy.ensures c.in-Some-first_unseparated.ensures
