use Rattle.std.proofs.Common.{rules, arith, ◌≡◌, ◌<◌, ℕ, List, length, SFits, w64, sym, subst, ap, ◌∙◌, ℤ}
use Rattle.std.specs.Prelude.{nat_eq}
use Rattle.std.specs.List.{list_any}
use Rattle.std.proofs.lemmas.Int.{to_z-of_z}
use Rattle.std.proofs.lemmas.List.{length-map}
use Rattle.zero_one_rows.specs.Variables.{variables}
use Rattle.zero_one_rows.specs.Rows.{whole}
use Rattle.partial_plan.specs.Forced.{stepped}
use Rattle.partial_plan.proofs.Freeing.{noted_more}
use Rattle.row_matrix.proofs.Summing.{all_taken}
use Rattle.partial_plan.proofs.Walking.{Partly, listed_more}
use Rattle.row_matrix.specs.declared.entries.Term.{Term}
use Rattle.row_matrix.specs.Terms.{row_at, vars_in}
use Rattle.partial_plan.proofs.Looks.{term_at, tight_run}
use Rattle.row_matrix.proofs.Moving.{marks_more}
use Rattle.partial_plan.proofs.state.PropagationState.fix_all.Goals as goal

pub fix_term-requires-clause-var : goal.fix_term-requires-clause-var
fix_term-requires-clause-var c =
    let t = term_at c.args.matrix.now (row_at c.args.matrix.now c.args.k) c.args.terms.now c.loop-term.term-index c.term-item.result c.requires.terms c.loop-term-test.true (sym c.term-item.is) in
    omega (arith, t.inside, c.loop-term.invariant.state.holds.whole)

pub loop-term-preserved : goal.loop-term-preserved
loop-term-preserved c =
    let i = c.loop-term.invariant in
    let s : SFits w64 c.args.slack = search rules in
    let t = term_at c.args.matrix.now (row_at c.args.matrix.now c.args.k) c.args.terms.now c.loop-term.term-index c.term-item.result c.requires.terms c.loop-term-test.true (sym c.term-item.is) in
    let n : length (vars_in c.args.terms.now) ≡ length c.args.terms.now = length-map c.args.terms.now (λ (u : Term). u.at) in
    let lt : c.loop-term.term-index < length (vars_in c.args.terms.now) = omega (arith, c.loop-term-test.true) in
    let is : c.fix_term.new.self.b ≡ stepped c.args.slack c.loop-term.self.b c.term-item.result.at ((whole c.args.matrix.now).coef (row_at c.args.matrix.now c.args.k) c.term-item.result.at) =
    (simp to_z-of_z at c.fix_term.ensures.known) ∙ ap (λ (z : ℤ). stepped c.args.slack c.loop-term.self.b c.term-item.result.at z) t.by_is in
    record {
      state = c.fix_term.ensures.state;
      partly = simp to_z-of_z (listed_more c.args.slack (λ (v : ℕ). (whole c.args.matrix.now).coef (row_at c.args.matrix.now c.args.k) v) (length (variables c.args.matrix.now)) c.args.self.now.b (vars_in c.args.terms.now) c.loop-term.term-index c.term-item.result.at c.loop-term.self.b c.fix_term.new.self.b lt t.place i.state.holds.whole t.inside is (simp to_z-of_z at i.partly));
      noted = noted_more c.args.self.now.b c.loop-term.self.b c.fix_term.new.self.b c.args.self.now.undo.items c.loop-term.self.undo.items c.fix_term.new.self.undo.items i.noted c.fix_term.ensures.noted;
      marks = marks_more c.args.matrix.now c.args.self.now.slacks c.loop-term.self.slacks c.fix_term.new.self.slacks i.marks c.fix_term.ensures.marks;
    }

pub returns-clause-known : goal.returns-clause-known
returns-clause-known c =
    let s : SFits w64 c.args.slack = search rules in
    let n : length (vars_in c.args.terms.now) ≡ length c.args.terms.now = length-map c.args.terms.now (λ (u : Term). u.at) in
    let e = all_taken (vars_in c.args.terms.now) c.loop-term.term-index (omega (arith, c.loop-term-test.false)) in
    let partly : Partly (λ v. list_any (nat_eq v) (vars_in c.args.terms.now)) c.args.slack (λ v. (whole c.args.matrix.now).coef (row_at c.args.matrix.now c.args.k) v) (length (variables c.args.matrix.now)) c.args.self.now.b c.loop-term.self.b =
    subst (λ (xs : List ℕ). Partly (λ v. list_any (nat_eq v) xs) c.args.slack (λ v. (whole c.args.matrix.now).coef (row_at c.args.matrix.now c.args.k) v) (length (variables c.args.matrix.now)) c.args.self.now.b c.loop-term.self.b) e (simp to_z-of_z at c.loop-term.invariant.partly) in
    tight_run c.args.matrix.now c.args.self.now.b c.args.slack c.args.k c.requires.state.holds.whole c.requires.slack c.requires.met c.args.terms.now c.loop-term.self.b c.requires.terms c.loop-term.invariant.state.holds.whole partly
