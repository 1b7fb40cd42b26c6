use Rattle.std.proofs.Common.{◌≡◌, ◌<◌, take, length, get_or, map, Some, subst}
use Rattle.zero_one_rows.specs.declared.program.Row.{Row}
use Rattle.proof_trees.specs.Multipliers.{Multipliers, raised_all}
use Rattle.proof_trees.specs.Trees.{begun}
use Rattle.certificate.specs.declared.tree.Record.{Record}
use Rattle.certificate.specs.Entries.{same_row, raise_of}
use Rattle.search_core.specs.declared.records.Done.{Done}
use Rattle.event_search.specs.declared.event_nodes.Step.{Step}
use Rattle.event_search.specs.Counting.{Tallies}
use Rattle.event_search.specs.Standing.{standing}
use Rattle.event_search.proofs.Raising.{led}
use Rattle.event_search.proofs.Standing.{step_at, done_at, step_is, done_is}
use Rattle.event_search.proofs.Standing as along
use Rattle.event_search.proofs.tally.Tally.stand_at.Goals as goal

pub follow-kept-requires-clause-rows : goal.follow-kept-requires-clause-rows
follow-kept-requires-clause-rows c =
    let m = c.args.model.now in
    let s : Step = step_at c.args.way.now c.loop-step.step-index in
    let d : Done Record = done_at c.args.ended.now c.args.way.now c.loop-step.step-index c.index-ended-step.result in
    let lt : c.loop-step.step-index < length c.args.way.now = c.loop-step-test.true in
    let s_is : s ≡ get_or c.args.way.now c.loop-step.step-index s = step_is c.args.way.now c.loop-step.step-index lt in
    let d_is : d ≡ get_or c.args.ended.now s.entry d = done_is m c.args.ended.now c.args.way.now c.requires.way c.loop-step.step-index c.index-ended-step.result lt in
    along.named m c.args.ended.now c.args.way.now c.requires.way c.loop-step.step-index s lt s_is d d_is

pub loop-step-preserved : goal.loop-step-preserved
loop-step-preserved c =
    let m = c.args.model.now in
    let s : Step = step_at c.args.way.now c.loop-step.step-index in
    let d : Done Record = done_at c.args.ended.now c.args.way.now c.loop-step.step-index c.index-ended-step.result in
    let lt : c.loop-step.step-index < length c.args.way.now = c.loop-step-test.true in
    let s_is : s ≡ get_or c.args.way.now c.loop-step.step-index s = step_is c.args.way.now c.loop-step.step-index lt in
    let d_is : d ≡ get_or c.args.ended.now s.entry d = done_is m c.args.ended.now c.args.way.now c.requires.way c.loop-step.step-index c.index-ended-step.result lt in
    let ms : Multipliers Row = (standing m c.args.ended.now (take c.loop-step.step-index c.args.way.now)).multipliers in
    let ns : Multipliers Row = along.after_it m c.args.ended.now c.args.way.now c.requires.way c.loop-step.step-index s lt s_is d d_is in
    subst (λ (os : Multipliers Row). Tallies m os c.follow-kept.new.self) (along.multipliers_more m c.args.ended.now c.args.way.now c.requires.way c.loop-step.step-index s lt s_is d d_is)
    (led m (raised_all same_row (Some (begun d.entry.from_zero ms)) (map raise_of d.entry.raises)) c.follow-kept.new.self c.follow-kept.result ns (c.follow-kept.ensures.follows ms c.loop-step.invariant)
    (along.leads m c.args.ended.now c.args.way.now c.requires.way c.loop-step.step-index s lt s_is d d_is))
