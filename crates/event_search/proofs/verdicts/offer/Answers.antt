use Rattle.std.proofs.Common.{sym, ◌∙◌}
use Rattle.event_search.proofs.Listed.{never}
use Rattle.event_search.proofs.JudgedRecords.{offers, not_full}
use Rattle.event_search.proofs.verdicts.offer.Goals as goal

pub returns-then-not-is_leaf-clause-judged : goal.returns-then-not-is_leaf-clause-judged
returns-then-not-is_leaf-clause-judged c = λ h. never c.is_leaf.result c.if-not-is_leaf.true (c.is_leaf.ensures.is.1 h)

pub stand_after-requires-clause-rows : goal.stand_after-requires-clause-rows
stand_after-requires-clause-rows c = (c.is_leaf.ensures.is.0 c.if-not-is_leaf.false).0.0.0

pub returns-then-not-is_full-clause-judged : goal.returns-then-not-is_full-clause-judged
returns-then-not-is_full-clause-judged c = not_full c.args.model.now c.args.ended.now c.args.way.now c.args.entry.now c.stand_after.new.b c.stand_after.ensures.there (c.is_leaf.ensures.is.0 c.if-not-is_leaf.false) (sym c.is_full.ensures ∙ c.if-not-is_full.true)

pub returns-clause-judged : goal.returns-clause-judged
returns-clause-judged c = offers c.args.model.now c.args.ended.now c.args.way.now c.args.entry.now c.stand_after.new.b c.stand_after.ensures.there (c.is_leaf.ensures.is.0 c.if-not-is_leaf.false) c.price.result (sym c.is_full.ensures ∙ c.if-not-is_full.false) c.price.ensures
