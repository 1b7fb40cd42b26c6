use Rattle.std.proofs.Common.{Some, sym, ◌∙◌, subst}
use Rattle.std.specs.Prelude.{slice_set}
use Rattle.greedy_loader.specs.Kept.{AreClassed}
use Rattle.greedy_loader.proofs.Putting.{classed_put, classed_off, none_of}
use Rattle.greedy_loader.proofs.layout.note.Goals as goal

pub returns-in_ok-push : goal.returns-in_ok-push
returns-in_ok-push c = subst (AreClassed c.args.ship.now c.args.cargo.now (slice_set c.args.plan.now c.args.p (Some c.args.c))) (sym c.in_ok-push.ensures) (classed_put c.args.ship.now c.args.cargo.now c.args.plan.now c.args.classed.now c.args.p c.args.c c.args.place.now c.args.x.now c.requires.can c.requires.classed)

pub returns-else-is_some : goal.returns-else-is_some
returns-else-is_some c = classed_off c.args.ship.now c.args.cargo.now c.args.plan.now c.args.classed.now c.args.p c.args.c c.args.place.now c.args.x.now c.requires.can (none_of c.args.x.now.class (sym c.is_some.ensures ∙ c.if-is_some.false)) c.requires.classed
