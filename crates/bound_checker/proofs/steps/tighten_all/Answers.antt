use Rattle.std.proofs.Common.{rules, arith, ◌≡◌, ◌≢◌, List, length, Some, ◌∙◌, ap, sym, refl, Err}
use Rattle.zero_one_rows.specs.declared.program.Row.{Row}
use Rattle.zero_one_rows.specs.Rows.{whole}
use Rattle.proof_trees.specs.Boxes.{Box, tightened}
use Rattle.std.proofs.lemmas.Result.{err_from_is_err_and}
use Rattle.certificate.specs.declared.refusals.BoundNo.{BoundNo}
use Rattle.certificate.specs.declared.refusals.BoundNo.TheVariants.{NoMemory}
use Rattle.bound_checker.specs.Faults.{step_fault}
use Rattle.bound_checker.proofs.Bounding.{if_err_at}
use Rattle.partial_plan.proofs.Freeing.{noted_none, noted_more, freed_length}
use Rattle.bound_checker.proofs.InOrder.{take_over}
use Rattle.bound_checker.proofs.Stepping.{box_more, none_more, some_here}
use Rattle.bound_checker.proofs.steps.tighten_all.Goals as goal

pub loop-row-init : goal.loop-row-init
loop-row-init c = record {
  rows = refl;
  len = c.requires.whole;
  faultless = search rules;
  tightened = search rules;
  noted = noted_none c.args.b.now c.args.undo.now;
}

pub loop-row-preserved : goal.loop-row-preserved
loop-row-preserved c =
    let i = c.loop-row.invariant in
    let e = c.in_ok-take_step.ensures in
    record {
      rows = e.rows ∙ i.rows;
      len = sym (freed_length c.take_step.new.b e.noted.0) ∙ ap (λ (b : Box). length b) e.noted.2.back ∙ i.len;
      faultless = none_more (whole c.args.model.now) c.args.node c.args.steps.now c.loop-row.row-index c.row-item.result c.loop-row-test.true c.row-item.is i.faultless e.has;
      tightened = box_more (whole c.args.model.now) c.args.node c.args.steps.now c.loop-row.row-index c.row-item.result c.loop-row-test.true c.row-item.is c.args.b.now c.loop-row.b c.take_step.new.b i.tightened e.tight;
      noted = noted_more c.args.b.now c.loop-row.b c.take_step.new.b c.args.undo.now c.loop-row.undo c.take_step.new.undo i.noted e.noted;
    }

pub returns-clause-faultless : goal.returns-clause-faultless
returns-clause-faultless c = sym (ap (λ (rs : List Row). step_fault (whole c.args.model.now) c.args.node rs) (take_over c.args.steps.now c.loop-row.row-index (omega arith))) ∙ c.loop-row.invariant.faultless

pub returns-clause-tightened : goal.returns-clause-tightened
returns-clause-tightened c = c.loop-row.invariant.tightened ∙ ap (λ (rs : List Row). tightened (whole c.args.model.now) c.args.b.now rs) (take_over c.args.steps.now c.loop-row.row-index (omega arith))

pub returns-in_err-take_step-clause-noted : goal.returns-in_err-take_step-clause-noted
returns-in_err-take_step-clause-noted c = noted_more c.args.b.now c.loop-row.b c.take_step.new.b c.args.undo.now c.loop-row.undo c.take_step.new.undo c.loop-row.invariant.noted c.in_err-take_step.ensures.noted

pub returns-in_err-take_step-clause-refused : goal.returns-in_err-take_step-clause-refused
returns-in_err-take_step-clause-refused c =
    let p = err_from_is_err_and c.from_residual.result c.from_residual.ensures.1 in
    let g : c.from_residual.result ≡ Err c.in_err-take_step.field-0.0 = p.1 ∙ ap (λ (f : BoundNo). Err f) p.2 in
    if_err_at (λ (f : BoundNo). f ≢ NoMemory → step_fault (whole c.args.model.now) c.args.node c.args.steps.now ≡ Some f) c.from_residual.result c.in_err-take_step.field-0.0 g
    (λ other. let r = c.in_err-take_step.ensures.refused other in
    some_here (whole c.args.model.now) c.args.node c.args.steps.now c.loop-row.row-index c.row-item.result c.loop-row-test.true c.row-item.is c.loop-row.invariant.faultless r.0 ∙ ap (λ (f : BoundNo). Some f) (sym r.1))
