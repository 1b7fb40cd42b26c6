use Rattle.std.proofs.Common.{◌∙◌}
use Rattle.event_search.proofs.Halves.{always_numbered, is_free, half_is}
use Rattle.event_search.proofs.boxes.halve.Goals as goal

pub fix-requires : goal.fix-requires
fix-requires c = is_free c.args.model.now c.args.b.now c.args.end.now c.in-Branch.var c.in-Branch.is c.in-Some.x c.in-Some.ensures.0 c.in-Some.ensures.1 c.requires.divides c.requires.whole

pub unreachable-requires : goal.unreachable-requires
unreachable-requires c = always_numbered c.args.model.now c.args.b.now c.args.end.now c.in-Branch.var c.in-Branch.is c.in-None.ensures c.requires.divides

pub returns : goal.returns
returns c = c.fix.ensures ∙ half_is c.args.model.now c.args.b.now c.args.end.now c.in-Branch.var c.in-Branch.is c.in-Some.x c.in-Some.ensures.0 c.in-Some.ensures.1 c.args.value
