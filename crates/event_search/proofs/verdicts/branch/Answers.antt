use Rattle.event_search.proofs.Listed.{never}
use Rattle.event_search.proofs.JudgedRecords.{divides_here, not_free}
use Rattle.event_search.proofs.verdicts.branch.Goals as goal

pub returns-then-not-is_branch-clause-judged : goal.returns-then-not-is_branch-clause-judged
returns-then-not-is_branch-clause-judged c = λ h. never c.is_branch.result c.if-not-is_branch.true (c.is_branch.ensures.is.1 h)

pub stand_after-requires-clause-rows : goal.stand_after-requires-clause-rows
stand_after-requires-clause-rows c = (c.is_branch.ensures.is.0 c.if-not-is_branch.false).0.0.0

pub returns-then-not-divides-clause-judged : goal.returns-then-not-divides-clause-judged
returns-then-not-divides-clause-judged c = not_free c.args.model.now c.args.ended.now c.args.way.now c.args.entry.now c.stand_after.new.b c.stand_after.ensures.there (c.is_branch.ensures.is.0 c.if-not-is_branch.false) (λ d. never c.divides.result c.if-not-divides.true (c.divides.ensures.1 d))

pub returns-clause-judged : goal.returns-clause-judged
returns-clause-judged c = divides_here c.args.model.now c.args.ended.now c.args.way.now c.args.entry.now c.stand_after.new.b c.stand_after.ensures.there (c.is_branch.ensures.is.0 c.if-not-is_branch.false) (c.divides.ensures.0 c.if-not-divides.false)
