use Rattle.std.proofs.Common.{rules, ◌≡◌, ◌≢◌, ◌≤◌, ◌^◌, ◌↔◌, ◌∙◌, ap, sym, subst, All, List, [], ◌∷◌, ◌++◌, map, ℕ}
use Rattle.std.specs.Prelude.{Contains}
use Rattle.std.specs.List.{AllPairs}
use Rattle.std.specs.Int.RustNames.{unsigned_abs}
use Rattle.std.proofs.lemmas.List.Elements.{All-append, All-nil, All-cons}
use Rattle.zero_one_rows.specs.Rows.{whole}
use Rattle.zero_one_model.specs.Indexed.{Touches}
use Rattle.row_matrix.specs.declared.entries.Term.{Term}
use Rattle.dual_bound.proofs.Summing.{all_taken}
use Rattle.dual_bound.proofs.Touched.{listed_inside, listed_terms}
use Rattle.dual_bound.proofs.TermsMore.{vars_more, read_there}
use Rattle.dual_bound.proofs.terms.terms_of.Goals as goal

pub term_of-requires-clause-var : goal.term_of-requires-clause-var
term_of-requires-clause-var c = listed_inside c.args.model.now c.args.row.now c.in_ok-vars.vars c.as_slice-var-items.result.now c.loop-var.var-index c.var-item.result c.in_ok-vars.ensures.each c.as_slice-var-items.ensures c.loop-var-test.true c.var-item.is

pub loop-var-preserved : goal.loop-var-preserved
loop-var-preserved c =
    let i = c.loop-var.invariant in
    let t : Term = c.term_of.result in
    let e : c.push.new.self ≡ c.loop-var.terms ++ t ∷ [] = search rules in
    let P : Term → Type 0 = λ t. t.by ≡ (whole c.args.model.now).coef c.args.row.now t.at in
    let Q : Term → Type 0 = λ t. unsigned_abs t.by ≤ 2 ^ 17 in
    record {
      vars = ap (λ (ts : List Term). map (λ t. t.at) ts) e ∙ vars_more c.loop-var.terms t c.as_slice-var-items.result.now c.loop-var.var-index i.vars c.loop-var-test.true (c.term_of.ensures.var ∙ read_there c.as_slice-var-items.result.now c.loop-var.var-index c.var-item.result c.loop-var-test.true c.var-item.is);
      coefs = subst (λ (ts : List Term). All P ts) (sym e) (All-append P c.loop-var.terms (t ∷ []) i.coefs (All-cons P t [] (c.term_of.ensures.coef ∙ ap (λ (v : ℕ). (whole c.args.model.now).coef c.args.row.now v) (sym c.term_of.ensures.var)) (All-nil P)));
      small = subst (λ (ts : List Term). All Q ts) (sym e) (All-append Q c.loop-var.terms (t ∷ []) i.small (All-cons Q t [] c.term_of.ensures.small (All-nil Q)));
    }

pub returns-clause-terms : goal.returns-clause-terms
returns-clause-terms c =
    let e : map (λ t. t.at) c.loop-var.terms ≡ c.in_ok-vars.vars = c.loop-var.invariant.vars ∙ all_taken c.as_slice-var-items.result.now c.loop-var.var-index c.loop-var-test.false ∙ c.as_slice-var-items.ensures in
    let l = listed_terms c.args.model.now c.args.row.now c.loop-var.terms c.requires (subst (λ (xs : List ℕ). (x : ℕ) → Contains xs x ↔ Touches c.args.model.now c.args.row.now x) (sym e) c.in_ok-vars.ensures.each) in
    record {
      inside = l.0;
      once = subst (λ (xs : List ℕ). AllPairs (λ x y. x ≢ y) xs) (sym e) c.in_ok-vars.ensures.once;
      are = c.loop-var.invariant.coefs;
      small = c.loop-var.invariant.small;
      others = l.1;
    }

pub returns-clause-each : goal.returns-clause-each
returns-clause-each c =
    let e : map (λ t. t.at) c.loop-var.terms ≡ c.in_ok-vars.vars = c.loop-var.invariant.vars ∙ all_taken c.as_slice-var-items.result.now c.loop-var.var-index c.loop-var-test.false ∙ c.as_slice-var-items.ensures in
    subst (λ (xs : List ℕ). (x : ℕ) → Contains xs x ↔ Touches c.args.model.now c.args.row.now x) (sym e) c.in_ok-vars.ensures.each
