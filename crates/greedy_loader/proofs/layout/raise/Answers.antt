use Rattle.std.proofs.Common.{◌∙◌, Some, ap, length, length-set, subst, sym}
use Rattle.std.specs.Prelude.{if◌then◌else◌, nat_lt, slice_set}
use Rattle.stow_data.proofs.Made.{stack_in}
use Rattle.stowage_rules.proofs.Items.{slice_get_in}
use Rattle.greedy_loader.specs.Kept.{AreTops}
use Rattle.greedy_loader.proofs.Putting.{at_least, tops_put}
use Rattle.greedy_loader.proofs.layout.raise.Goals as goal

pub raise_to-requires : goal.raise_to-requires
raise_to-requires c = rw c.requires.each_stack (stack_in c.args.ship.now c.args.p c.args.place.now c.requires.can.is_place)

pub returns-clause-tops : goal.returns-clause-tops
returns-clause-tops c =
    let at = slice_get_in c.args.tops.now c.args.place.now.stack (rw c.requires.each_stack (stack_in c.args.ship.now c.args.p c.args.place.now c.requires.can.is_place)) in
    let least = at_least at.0 c.args.place.now.tier in
    subst (AreTops c.args.ship.now c.args.cargo.now (slice_set c.args.plan.now c.args.p (Some c.args.c))) (sym (c.raise_to.ensures at.0 at.1)) (tops_put c.args.ship.now c.args.cargo.now c.args.plan.now c.args.tops.now c.args.p c.args.c at.0 (if nat_lt at.0 c.args.place.now.tier then c.args.place.now.tier else at.0) c.args.place.now c.args.x.now c.requires.can c.requires.tops at.1 least.0 least.1)

pub returns-clause-each_stack : goal.returns-clause-each_stack
returns-clause-each_stack c =
    let at = slice_get_in c.args.tops.now c.args.place.now.stack (rw c.requires.each_stack (stack_in c.args.ship.now c.args.p c.args.place.now c.requires.can.is_place)) in
    ap length (c.raise_to.ensures at.0 at.1) ∙ (length-set c.args.tops.now c.args.place.now.stack (if nat_lt at.0 c.args.place.now.tier then c.args.place.now.tier else at.0) ∙ c.requires.each_stack)
