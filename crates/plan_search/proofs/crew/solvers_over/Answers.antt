use Rattle.std.proofs.Common.{◌≡◌, ◌∙◌, ◌∷◌, [], length, ap, sym, subst, arith}
use Rattle.std.proofs.lemmas.List.{length-append}
use Rattle.zero_one_rows.specs.Variables.{Voyage}
use Rattle.search_core.specs.Bags.{Every}
use Rattle.search_core.proofs.Weights.{every_append}
use Rattle.plan_search.proofs.crew.solvers_over.Goals as goal

pub loop-preserved : goal.loop-preserved
loop-preserved c =
    let q = c.in_ok-push.ensures.items in
    let same = λ (solver : Voyage). solver ≡ c.args.tables.now in
    record {
      many = omega (arith, c.loop.invariant.many, ap length q, length-append c.loop.solvers.items (c.of.result ∷ []));
      each = subst (Every same) (sym q) (every_append same c.loop.solvers.items _ c.loop.invariant.each (c.of.ensures ∙ c.new.ensures, tt));
    }

pub returns-clause-each : goal.returns-clause-each
returns-clause-each c =
    let same = λ (solver : Voyage). solver ≡ c.args.tables.now in
    subst (Every same) (sym c.in_ok-push-2.ensures.items) (every_append same c.loop.solvers.items _ c.loop.invariant.each (c.of-2.ensures ∙ c.new-2.ensures, tt))
