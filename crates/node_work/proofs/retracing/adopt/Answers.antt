use Rattle.std.proofs.Common.{ℕ, ◌+◌, ◌<◌, length, drop, refl, sym, subst, ◌∙◌, ap, arith}
use Rattle.std.proofs.lemmas.List.{drop_all}
use Rattle.partial_plan.proofs.Freeing.{noted_none, noted_more}
use Rattle.proof_trees.specs.Boxes.{Box}
use Rattle.node_work.specs.Adopting.{adopted_all}
use Rattle.node_work.proofs.Folds.{rest_cons, here_all}
use Rattle.node_work.proofs.Adopting.{length_back, adopted_by}
use Rattle.node_work.proofs.retracing.adopt.Goals as goal

pub loop-x-init : goal.loop-x-init
loop-x-init c = record {
  same = refl;
  rest = adopted_by c.args.kept.now.known c.args.b.now c.args.vars.now c.requires.fixes;
  noted = noted_none c.args.kept.now.known c.args.kept.now.undo;
}

pub adopt_one-requires-clause-inside : goal.adopt_one-requires-clause-inside
adopt_one-requires-clause-inside c =
    let n = c.loop-x.invariant.noted in
    subst (λ (k : ℕ). c.x-item.result < k) (sym (length_back c.args.kept.now.known c.loop-x.kept.known n.0 n.2.back))
    (here_all c.args.vars.now c.loop-x.x-index c.x-item.result c.loop-x-test.true c.x-item.is (λ (x : ℕ). x < length c.args.kept.now.known) c.requires.fixes.inside)

pub adopt_one-requires-clause-whole : goal.adopt_one-requires-clause-whole
adopt_one-requires-clause-whole c =
    let n = c.loop-x.invariant.noted in
    length_back c.args.kept.now.known c.args.b.now c.args.vars.now c.requires.fixes.back ∙ sym (length_back c.args.kept.now.known c.loop-x.kept.known n.0 n.2.back)

pub loop-x-preserved : goal.loop-x-preserved
loop-x-preserved c =
    let i = c.loop-x.invariant in
    let e = c.adopt_one.ensures in
    record {
      same = e.same ∙ i.same;
      rest = ap (λ (d : Box). adopted_all d c.args.b.now (drop (c.loop-x.x-index + 1) c.args.vars.now)) e.known
          ∙ sym (ap (adopted_all c.loop-x.kept.known c.args.b.now) (rest_cons c.args.vars.now c.loop-x.x-index c.x-item.result c.loop-x-test.true c.x-item.is)) ∙ i.rest;
      noted = noted_more c.args.kept.now.known c.loop-x.kept.known c.adopt_one.new.kept.known c.args.kept.now.undo c.loop-x.kept.undo c.adopt_one.new.kept.undo i.noted e.noted;
    }

pub returns-clause-known : goal.returns-clause-known
returns-clause-known c = sym (ap (adopted_all c.loop-x.kept.known c.args.b.now) (drop_all c.loop-x.x-index c.args.vars.now (omega arith))) ∙ c.loop-x.invariant.rest
