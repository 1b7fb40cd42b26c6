use Rattle.std.proofs.Common.{◌≡◌, ◌+◌, true, drop, refl, sym, ◌∙◌, ap, arith, rules}
use Rattle.std.proofs.lemmas.List.{drop_all}
use Rattle.zero_one_rows.specs.declared.program.Row.{Row}
use Rattle.zero_one_rows.specs.Rows.{whole}
use Rattle.proof_trees.specs.Boxes.{Box, tightened}
use Rattle.partial_plan.proofs.Freeing.{noted_none, noted_more}
use Rattle.node_work.proofs.Folds.{rest_cons, here_all}
use Rattle.node_work.proofs.retracing.tighten_each.Goals as goal

pub loop-row-init : goal.loop-row-init
loop-row-init c = record { same = refl; rest = search rules; noted = noted_none c.args.kept.now.known c.args.kept.now.undo }

pub tighten_one-requires-clause-program : goal.tighten_one-requires-clause-program
tighten_one-requires-clause-program c = c.loop-row.invariant.same ∙ c.requires.program

pub tighten_one-requires-clause-row : goal.tighten_one-requires-clause-row
tighten_one-requires-clause-row c = here_all c.args.steps.now c.loop-row.row-index c.row-item.result c.loop-row-test.true c.row-item.is (λ (r : Row). (whole c.args.model.now).has r ≡ true) c.requires.rows

pub loop-row-preserved : goal.loop-row-preserved
loop-row-preserved c =
    let p = whole c.args.model.now in
    let i = c.loop-row.invariant in
    let e = c.in_ok-tighten_one.ensures in
    record {
      same = e.same ∙ i.same;
      rest = ap (λ (b : Box). tightened p b (drop (c.loop-row.row-index + 1) c.args.steps.now)) e.tight
          ∙ sym (ap (tightened p c.loop-row.kept.known) (rest_cons c.args.steps.now c.loop-row.row-index c.row-item.result c.loop-row-test.true c.row-item.is)) ∙ i.rest;
      noted = noted_more c.args.kept.now.known c.loop-row.kept.known c.tighten_one.new.kept.known c.args.kept.now.undo c.loop-row.kept.undo c.tighten_one.new.kept.undo i.noted e.noted;
    }

pub returns-in_err-tighten_one-clause-same : goal.returns-in_err-tighten_one-clause-same
returns-in_err-tighten_one-clause-same c = c.in_err-tighten_one.ensures.same ∙ c.loop-row.invariant.same

pub returns-in_err-tighten_one-clause-noted : goal.returns-in_err-tighten_one-clause-noted
returns-in_err-tighten_one-clause-noted c = noted_more c.args.kept.now.known c.loop-row.kept.known c.tighten_one.new.kept.known c.args.kept.now.undo c.loop-row.kept.undo c.tighten_one.new.kept.undo c.loop-row.invariant.noted c.in_err-tighten_one.ensures.noted

pub returns-clause-tight : goal.returns-clause-tight
returns-clause-tight c = sym (ap (tightened (whole c.args.model.now) c.loop-row.kept.known) (drop_all c.loop-row.row-index c.args.steps.now (omega arith))) ∙ c.loop-row.invariant.rest
