use Rattle.std.proofs.Common.{◌≡◌, ◌<◌, None, length, get_or, ◌∙◌, ap, arith}
use Rattle.std.proofs.lemmas.List.{length-replicate}
use Rattle.zero_one_rows.specs.Variables.{variables}
use Rattle.proof_trees.specs.Boxes.{Box}
use Rattle.proof_trees.specs.Trees.{Pending}
use Rattle.certificate.specs.declared.tree.Record.{Record}
use Rattle.certificate.specs.Entries.{end_of, number_of}
use Rattle.search_core.specs.declared.records.Done.{Done}
use Rattle.event_search.specs.declared.event_nodes.Step.{Step}
use Rattle.event_search.proofs.Halves.{length_followed}
use Rattle.event_search.proofs.Standing.{step_at, done_at, step_is, inside_at, done_is}
use Rattle.event_search.proofs.Standing as along
use Rattle.event_search.proofs.boxes.stand_at.Goals as goal

pub loop-step-init : goal.loop-step-init
loop-step-init c = record {
  len = ap (λ (b : Box). length b) c.free_all.ensures ∙ length-replicate (length (variables c.args.model.now)) None;
  here = c.free_all.ensures;
}

pub bounds-ended-step : goal.bounds-ended-step
bounds-ended-step c = inside_at c.args.model.now c.args.ended.now c.args.way.now c.requires.way c.loop-step.step-index c.loop-step-test.true

pub follow-requires-clause-rows : goal.follow-requires-clause-rows
follow-requires-clause-rows c =
    let m = c.args.model.now in
    let s : Step = step_at c.args.way.now c.loop-step.step-index in
    let d : Done Record = done_at c.args.ended.now c.args.way.now c.loop-step.step-index c.index-ended-step.result in
    let lt : c.loop-step.step-index < length c.args.way.now = c.loop-step-test.true in
    let s_is : s ≡ get_or c.args.way.now c.loop-step.step-index s = step_is c.args.way.now c.loop-step.step-index lt in
    let d_is : d ≡ get_or c.args.ended.now s.entry d = done_is m c.args.ended.now c.args.way.now c.requires.way c.loop-step.step-index c.index-ended-step.result lt in
    along.rows m c.args.ended.now c.args.way.now c.requires.way c.loop-step.step-index s lt s_is d d_is

pub follow-requires-clause-divides : goal.follow-requires-clause-divides
follow-requires-clause-divides c =
    let m = c.args.model.now in
    let s : Step = step_at c.args.way.now c.loop-step.step-index in
    let d : Done Record = done_at c.args.ended.now c.args.way.now c.loop-step.step-index c.index-ended-step.result in
    let lt : c.loop-step.step-index < length c.args.way.now = c.loop-step-test.true in
    let s_is : s ≡ get_or c.args.way.now c.loop-step.step-index s = step_is c.args.way.now c.loop-step.step-index lt in
    let d_is : d ≡ get_or c.args.ended.now s.entry d = done_is m c.args.ended.now c.args.way.now c.requires.way c.loop-step.step-index c.index-ended-step.result lt in
    along.divides m c.args.ended.now c.args.way.now c.requires.way c.loop-step.step-index s lt s_is d d_is c.loop-step.b c.loop-step.invariant.here

pub loop-step-preserved : goal.loop-step-preserved
loop-step-preserved c =
    let m = c.args.model.now in
    let s : Step = step_at c.args.way.now c.loop-step.step-index in
    let d : Done Record = done_at c.args.ended.now c.args.way.now c.loop-step.step-index c.index-ended-step.result in
    let lt : c.loop-step.step-index < length c.args.way.now = c.loop-step-test.true in
    let s_is : s ≡ get_or c.args.way.now c.loop-step.step-index s = step_is c.args.way.now c.loop-step.step-index lt in
    let d_is : d ≡ get_or c.args.ended.now s.entry d = done_is m c.args.ended.now c.args.way.now c.requires.way c.loop-step.step-index c.index-ended-step.result lt in
    record {
      len = ap (λ (b : Box). length b) c.follow.ensures ∙ length_followed m c.loop-step.b d.entry.steps (end_of (number_of m) d.entry.end) s.value c.loop-step.invariant.len;
      here = along.box_more m c.args.ended.now c.args.way.now c.requires.way c.loop-step.step-index s lt s_is d d_is c.loop-step.b c.follow.new.b c.loop-step.invariant.here c.follow.ensures;
    }

pub returns : goal.returns
returns c = c.loop-step.invariant.here ∙ ap (λ (q : Pending _). q.box) (along.whole_way c.args.model.now c.args.ended.now c.args.way.now c.requires.way c.loop-step.step-index (omega (arith, c.loop-step-test.false)))
