use Rattle.std.proofs.Common.{rules, arith, ◌≡◌, ◌<◌, length, map, List, SFits, ℕ, ℤ, ◌∙◌, ap, subst}
use Rattle.std.specs.Prelude.{nat_eq}
use Rattle.std.specs.List.{list_any}
use Rattle.std.specs.Int.{w128}
use Rattle.std.proofs.lemmas.Int.{to_z-of_z}
use Rattle.proof_trees.specs.Boxes.{Box}
use Rattle.zero_one_rows.specs.Variables.{variables}
use Rattle.zero_one_rows.specs.Rows.{whole}
use Rattle.row_matrix.specs.declared.entries.Term.{Term}
use Rattle.dual_bound.proofs.Touched.{var_at, vars_long, inside_at, coef_at, coef_none}
use Rattle.partial_plan.specs.Forced.{stepped}
use Rattle.partial_plan.proofs.Landing.{tight_by}
use Rattle.partial_plan.proofs.Freeing.{noted_none, noted_more}
use Rattle.row_matrix.proofs.Summing.{all_taken}
use Rattle.partial_plan.proofs.Walking.{Partly, step_length, listed_none, listed_more, listed_all}
use Rattle.bound_checker.proofs.forcing.note_all.Goals as goal

pub loop-term-init : goal.loop-term-init
loop-term-init c = record {
  len = c.requires.whole;
  partly = listed_none c.args.slack (λ (v : ℕ). (whole c.args.model.now).coef c.args.row.now v) (length (variables c.args.model.now)) c.args.b.now (map (λ t. t.at) c.args.terms.now);
  noted = noted_none c.args.b.now c.args.undo.now;
}

pub note_one-requires : goal.note_one-requires
note_one-requires c =
    let inside : c.term-item.result.at < length (variables c.args.model.now) = inside_at c.args.model.now c.args.row.now c.args.terms.now c.requires.terms c.loop-term.term-index c.term-item.result c.loop-term-test.true c.term-item.is in
    omega (arith, c.loop-term.invariant.len)

pub loop-term-preserved : goal.loop-term-preserved
loop-term-preserved c =
    let m = c.args.model.now in
    let x : Term = c.term-item.result in
    let xs : List ℕ = map (λ t. t.at) c.args.terms.now in
    let s : SFits w128 c.args.slack = search rules in
    let lt : c.loop-term.term-index < length xs = omega (arith, vars_long c.args.terms.now, c.loop-term-test.true) in
    let inside : x.at < length (variables m) = inside_at m c.args.row.now c.args.terms.now c.requires.terms c.loop-term.term-index x c.loop-term-test.true c.term-item.is in
    let coef : x.by ≡ (whole m).coef c.args.row.now x.at = coef_at m c.args.row.now c.args.terms.now c.requires.terms c.loop-term.term-index x c.loop-term-test.true c.term-item.is in
    let is : c.note_one.new.b ≡ stepped c.args.slack c.loop-term.b x.at ((whole m).coef c.args.row.now x.at) =
    (simp to_z-of_z at c.in_ok-note_one.ensures.stepped) ∙ ap (λ (z : ℤ). stepped c.args.slack c.loop-term.b x.at z) coef in
    record {
      len = ap (λ (b : Box). length b) is ∙ step_length c.args.slack c.loop-term.b x.at ((whole m).coef c.args.row.now x.at) ∙ c.loop-term.invariant.len;
      partly = simp to_z-of_z (listed_more c.args.slack (λ (v : ℕ). (whole m).coef c.args.row.now v) (length (variables m)) c.args.b.now xs c.loop-term.term-index x.at c.loop-term.b c.note_one.new.b lt (var_at c.args.terms.now c.loop-term.term-index x c.loop-term-test.true c.term-item.is) c.loop-term.invariant.len inside is (simp to_z-of_z at c.loop-term.invariant.partly));
      noted = noted_more c.args.b.now c.loop-term.b c.note_one.new.b c.args.undo.now c.loop-term.undo c.note_one.new.undo c.loop-term.invariant.noted c.in_ok-note_one.ensures.noted;
    }

pub returns-in_err-note_one-clause-noted : goal.returns-in_err-note_one-clause-noted
returns-in_err-note_one-clause-noted c = noted_more c.args.b.now c.loop-term.b c.note_one.new.b c.args.undo.now c.loop-term.undo c.note_one.new.undo c.loop-term.invariant.noted c.in_err-note_one.ensures.noted

pub returns-clause-tight : goal.returns-clause-tight
returns-clause-tight c =
    let m = c.args.model.now in
    let xs : List ℕ = map (λ t. t.at) c.args.terms.now in
    let s : SFits w128 c.args.slack = search rules in
    let e = all_taken xs c.loop-term.term-index (omega (arith, vars_long c.args.terms.now, c.loop-term-test.false)) in
    let partly : Partly (λ v. list_any (nat_eq v) xs) c.args.slack (λ v. (whole m).coef c.args.row.now v) (length (variables m)) c.args.b.now c.loop-term.b =
    subst (λ (ys : List ℕ). Partly (λ v. list_any (nat_eq v) ys) c.args.slack (λ v. (whole m).coef c.args.row.now v) (length (variables m)) c.args.b.now c.loop-term.b) e (simp to_z-of_z at c.loop-term.invariant.partly) in
    tight_by (whole m) c.args.b.now c.loop-term.b c.args.row.now c.args.slack c.requires.whole c.loop-term.invariant.len c.requires.slack c.requires.met
    (listed_all c.args.slack (λ (v : ℕ). (whole m).coef c.args.row.now v) (length (variables m)) c.args.b.now xs c.loop-term.b c.requires.met (coef_none m c.args.row.now c.args.terms.now c.requires.terms) partly)
