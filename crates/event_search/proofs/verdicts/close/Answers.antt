use Rattle.std.proofs.Common.{rules, SFits}
use Rattle.std.specs.Int.{w128}
use Rattle.std.proofs.lemmas.Int.{to_z-of_z}
use Rattle.event_search.proofs.Listed.{never}
use Rattle.event_search.proofs.Totals.{lt_is, not_under}
use Rattle.event_search.proofs.JudgedRecords.{closes, falls_short}
use Rattle.event_search.proofs.verdicts.close.Goals as goal

pub returns-then-not-is_leaf-clause-judged : goal.returns-then-not-is_leaf-clause-judged
returns-then-not-is_leaf-clause-judged c = λ h. never c.is_leaf.result c.if-not-is_leaf.true (c.is_leaf.ensures.is.1 h)

pub stand_after-requires-clause-rows : goal.stand_after-requires-clause-rows
stand_after-requires-clause-rows c = (c.is_leaf.ensures.is.0 c.if-not-is_leaf.false).0.0.0

pub dual_value-value-requires-clause-some : goal.dual_value-value-requires-clause-some
dual_value-value-requires-clause-some c =
    let leads = (c.is_leaf.ensures.is.0 c.if-not-is_leaf.false).0.1 in
    (leads.0, c.is_leaf.ensures.tallies c.if-not-is_leaf.false leads.0 leads.1)

pub returns-then-value-needed-clause-judged : goal.returns-then-value-needed-clause-judged
returns-then-value-needed-clause-judged c =
    let v : SFits w128 c.dual_value-value.result = search rules in
    let n : SFits w128 c.needed_value-needed.result = search rules in
    simp to_z-of_z (falls_short c.args.model.now c.args.ended.now c.args.way.now c.args.entry.now c.stand_after.new.b c.stand_after.ensures.there (c.is_leaf.ensures.is.0 c.if-not-is_leaf.false) c.args.seen c.dual_value-value.result c.needed_value-needed.result
    (λ ns leads. c.dual_value-value.ensures.value ns (c.is_leaf.ensures.tallies c.if-not-is_leaf.false ns leads)) c.needed_value-needed.ensures (lt_is c.dual_value-value.result c.needed_value-needed.result (simp to_z-of_z at c.if-value-needed.true)))

pub returns-clause-judged : goal.returns-clause-judged
returns-clause-judged c =
    let v : SFits w128 c.dual_value-value.result = search rules in
    let n : SFits w128 c.needed_value-needed.result = search rules in
    closes c.args.model.now c.args.ended.now c.args.way.now c.args.entry.now c.stand_after.new.b c.stand_after.ensures.there (c.is_leaf.ensures.is.0 c.if-not-is_leaf.false) c.args.seen c.dual_value-value.result c.needed_value-needed.result
    (λ ns leads. c.dual_value-value.ensures.value ns (c.is_leaf.ensures.tallies c.if-not-is_leaf.false ns leads)) c.needed_value-needed.ensures (not_under c.dual_value-value.result c.needed_value-needed.result (simp to_z-of_z at c.if-value-needed.false))
