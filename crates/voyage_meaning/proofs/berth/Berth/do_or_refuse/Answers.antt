use Rattle.std.proofs.Common.{sym, subst}
use Rattle.voyage_meaning.specs.Berths.{Berth, BelongsTo}
use Rattle.voyage_meaning.proofs.Fairness.{allowed_from}
use Rattle.voyage_meaning.proofs.Stepping.{belongs_after}
use Rattle.voyage_meaning.proofs.berth.Berth.do_or_refuse.Goals as goal

pub returns-in-None-clause-does : goal.returns-in-None-clause-does
returns-in-None-clause-does c = (allowed_from c.args.ship.now c.args.cargo.now c.args.self.now.state c.requires.belongs c.args.m.now c.requires.inside c.in-None.ensures, c.apply.ensures)

pub returns-in-None-clause-belongs : goal.returns-in-None-clause-belongs
returns-in-None-clause-belongs c = subst (λ (b : Berth). BelongsTo c.args.ship.now c.args.cargo.now b.state) (sym c.apply.ensures) (belongs_after c.args.ship.now c.args.cargo.now c.args.self.now.call c.args.self.now.state c.args.m.now c.requires.belongs (allowed_from c.args.ship.now c.args.cargo.now c.args.self.now.state c.requires.belongs c.args.m.now c.requires.inside c.in-None.ensures))
