use Rattle.std.proofs.Common.{◌≡◌, ◌++◌, ◌∷◌, [], length, ap, sym, subst, arith, rules}
use Rattle.std.proofs.lemmas.List.{length-append}
use Rattle.zero_one_rows.specs.Variables.{Voyage}
use Rattle.search_core.specs.Bags.{Every}
use Rattle.search_core.proofs.Weights.{every_append, every_left, every_right}
use Rattle.shared_search.specs.Racks.{IsPassAt, IsFresh}
use Rattle.parallel_search.specs.Ends.{IsWorkerStart}
use Rattle.parallel_search.proofs.Ends.{numbers_more}
use Rattle.parallel_search.proofs.beginning.begin_each.Goals as goal

pub begin-requires-clause-solver : goal.begin-requires-clause-solver
begin-requires-clause-solver g c κs within =
    let d : c.loop-pass.solvers.items ≡ c.pop.new.self.items ++ c.in-Some-pop.solver ∷ [] = search rules in
    let same = λ (solver : Voyage). solver ≡ c.args.shared.now.spare in
    (every_right same c.pop.new.self.items (c.in-Some-pop.solver ∷ []) (subst (Every same) d c.loop-pass.invariant.solvers)).0

pub loop-pass-preserved : goal.loop-pass-preserved
loop-pass-preserved g c =
    let i = c.loop-pass.invariant in
    let t = c.in_ok-worker_start.ensures in
    let rest = c.next.new.self.rest.items in
    let e : c.loop-pass.pass-iterator.rest.items ≡ c.in-Some.pass ∷ rest = search rules in
    let q = c.in_ok-push.ensures.items in
    let d : c.loop-pass.solvers.items ≡ c.pop.new.self.items ++ c.in-Some-pop.solver ∷ [] = search rules in
    let same = λ (solver : Voyage). solver ≡ c.args.shared.now.spare in
    record {
      maker = t.maker;
      solvers = every_left same c.pop.new.self.items (c.in-Some-pop.solver ∷ []) (subst (Every same) d i.solvers);
      enough = omega (arith, i.enough, ap length e, ap length d, length-append c.pop.new.self.items (c.in-Some-pop.solver ∷ []));
      made = omega (arith, i.made, t.made, ap length e);
      passes = (subst (Every (IsPassAt c.args.shared.now.rack)) e i.passes).1;
      fresh = (subst (Every IsFresh) e i.fresh).1;
      worker_starts = subst (Every (IsWorkerStart g.M.Wanted.meets c.args.shared.now.rack c.args.shared.now.board c.args.shared.now.spare)) (sym q)
          (every_append (IsWorkerStart g.M.Wanted.meets c.args.shared.now.rack c.args.shared.now.board c.args.shared.now.spare) c.loop-pass.worker_starts.items _ i.worker_starts (t.worker_start, tt));
      numbers = numbers_more c.loop-pass.worker_starts.items _ c.in_ok-worker_start.worker_start c.loop-pass.pass-iterator.rest.items rest c.in-Some.pass _ q e t.number i.numbers;
    }
