use Rattle.std.proofs.Common.{rules, arith, ◌≡◌, ◌<◌, length, get_or, List, SFits, ℕ, ◌∙◌, ap, subst}
use Rattle.std.specs.Prelude.{nat_eq}
use Rattle.std.specs.List.{list_any}
use Rattle.std.specs.Int.{w128}
use Rattle.std.proofs.lemmas.Int.{to_z-of_z}
use Rattle.proof_trees.specs.Boxes.{Box}
use Rattle.zero_one_rows.specs.Variables.{variables}
use Rattle.zero_one_rows.specs.Rows.{whole}
use Rattle.partial_plan.specs.Forced.{stepped}
use Rattle.row_matrix.proofs.Rows.{one_inside, coef_none, read}
use Rattle.partial_plan.proofs.Landing.{tight_by}
use Rattle.partial_plan.proofs.Freeing.{noted_none, noted_more}
use Rattle.row_matrix.proofs.Summing.{all_taken}
use Rattle.partial_plan.proofs.Walking.{Partly, step_length, listed_none, listed_more, listed_all}
use Rattle.partial_plan.proofs.forcing.note_all.Goals as goal

pub loop-x-init : goal.loop-x-init
loop-x-init c = record {
  len = c.requires.whole;
  partly = listed_none c.args.slack (λ (v : ℕ). (whole c.args.model.now).coef c.args.r.now v) (length (variables c.args.model.now)) c.args.b.now c.args.vars.now;
  noted = noted_none c.args.b.now c.args.undo.now;
}

pub note_one-requires-clause-var : goal.note_one-requires-clause-var
note_one-requires-clause-var c =
    let here : c.x-item.result ≡ get_or c.args.vars.now c.loop-x.x-index 0 = read c.args.vars.now c.loop-x.x-index c.x-item.result 0 c.loop-x-test.true c.x-item.is in
    one_inside c.args.model.now c.args.r.now c.args.vars.now c.requires.each c.loop-x.x-index c.x-item.result c.loop-x-test.true here

pub loop-x-preserved : goal.loop-x-preserved
loop-x-preserved c =
    let s : SFits w128 c.args.slack = search rules in
    let here : c.x-item.result ≡ get_or c.args.vars.now c.loop-x.x-index 0 = read c.args.vars.now c.loop-x.x-index c.x-item.result 0 c.loop-x-test.true c.x-item.is in
    let inside : c.x-item.result < length (variables c.args.model.now) = one_inside c.args.model.now c.args.r.now c.args.vars.now c.requires.each c.loop-x.x-index c.x-item.result c.loop-x-test.true here in
    let is : c.note_one.new.b ≡ stepped c.args.slack c.loop-x.b c.x-item.result ((whole c.args.model.now).coef c.args.r.now c.x-item.result) = simp to_z-of_z at c.in_ok-note_one.ensures.stepped in
    record {
      len = ap (λ (b : Box). length b) is ∙ step_length c.args.slack c.loop-x.b c.x-item.result ((whole c.args.model.now).coef c.args.r.now c.x-item.result) ∙ c.loop-x.invariant.len;
      partly = simp to_z-of_z (listed_more c.args.slack (λ (v : ℕ). (whole c.args.model.now).coef c.args.r.now v) (length (variables c.args.model.now)) c.args.b.now c.args.vars.now c.loop-x.x-index c.x-item.result c.loop-x.b c.note_one.new.b c.loop-x-test.true here c.loop-x.invariant.len inside is (simp to_z-of_z at c.loop-x.invariant.partly));
      noted = noted_more c.args.b.now c.loop-x.b c.note_one.new.b c.args.undo.now c.loop-x.undo c.note_one.new.undo c.loop-x.invariant.noted c.in_ok-note_one.ensures.noted;
    }

pub returns-in_err-note_one-clause-noted : goal.returns-in_err-note_one-clause-noted
returns-in_err-note_one-clause-noted c = noted_more c.args.b.now c.loop-x.b c.note_one.new.b c.args.undo.now c.loop-x.undo c.note_one.new.undo c.loop-x.invariant.noted c.in_err-note_one.ensures.noted

pub returns-clause-tight : goal.returns-clause-tight
returns-clause-tight c =
    let s : SFits w128 c.args.slack = search rules in
    let e = all_taken c.args.vars.now c.loop-x.x-index (omega arith) in
    let partly : Partly (λ v. list_any (nat_eq v) c.args.vars.now) c.args.slack (λ v. (whole c.args.model.now).coef c.args.r.now v) (length (variables c.args.model.now)) c.args.b.now c.loop-x.b =
    subst (λ (xs : List ℕ). Partly (λ v. list_any (nat_eq v) xs) c.args.slack (λ v. (whole c.args.model.now).coef c.args.r.now v) (length (variables c.args.model.now)) c.args.b.now c.loop-x.b) e (simp to_z-of_z at c.loop-x.invariant.partly) in
    tight_by (whole c.args.model.now) c.args.b.now c.loop-x.b c.args.r.now c.args.slack c.requires.whole c.loop-x.invariant.len c.requires.slack c.requires.met
    (listed_all c.args.slack (λ (v : ℕ). (whole c.args.model.now).coef c.args.r.now v) (length (variables c.args.model.now)) c.args.b.now c.args.vars.now c.loop-x.b c.requires.met (coef_none c.args.model.now c.args.r.now c.args.vars.now c.requires.each c.requires.row) partly)
