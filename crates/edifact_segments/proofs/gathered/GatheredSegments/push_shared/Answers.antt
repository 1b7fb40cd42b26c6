use Rattle.std.proofs.Common.{length, ◌∙◌}
use Rattle.edifact_segments.proofs.GatheredLemmas.{within-more, within-after, shown-more}
use Rattle.edifact_segments.proofs.gathered.GatheredSegments.push_shared.Goals as goal

pub invariant_of-self : goal.invariant_of-self
invariant_of-self c = within-more c.self.inside.growing.items (length c.self.inside.elements) (length c.take_over.new.self) c.self.invariant c.take_over.ensures.grows

pub invariant_of-self-in_err-to : goal.invariant_of-self-in_err-to
invariant_of-self-in_err-to c = within-more c.self.inside.growing.items (length c.self.inside.elements) (length c.take_over.new.self) c.self.invariant c.take_over.ensures.grows

pub invariant_of-self-in_err-push : goal.invariant_of-self-in_err-push
invariant_of-self-in_err-push c =
    rw c.in_err-push.ensures.items (within-more c.self.inside.growing.items (length c.self.inside.elements) (length c.take_over.new.self) c.self.invariant c.take_over.ensures.grows)

pub invariant_of-self-2 : goal.invariant_of-self-2
invariant_of-self-2 c =
    within-after c.self.inside.closed c.self.inside.elements c.self.inside.growing.items c.args.self.now c.self.view_is c.self.invariant c.take_over.new.self c.args.elements.now c.push.new.self.items _ c.in_ok-take_over.ensures.appended c.in_ok-push.ensures.items (c.in_ok-from.ensures ∙ c.len.ensures) (c.in_ok-to.ensures ∙ c.len-2.ensures)

pub returns : goal.returns
returns c =
    shown-more c.self.inside.closed c.self.inside.elements c.self.inside.growing.items c.args.self.now c.self.view_is c.self.invariant c.take_over.new.self c.args.elements.now c.push.new.self.items _ c.in_ok-take_over.ensures.appended c.in_ok-push.ensures.items (c.in_ok-from.ensures ∙ c.len.ensures) (c.in_ok-to.ensures ∙ c.len-2.ensures)
