use Rattle.std.proofs.Common.{◌≡◌, ◌++◌, ◌∷◌, List, length, map, refl, ap, sym, subst, ◌∙◌, arith, rules}
use Rattle.search_core.specs.Bags.{Every}
use Rattle.shared_search.specs.declared.racks.Pass.{Pass}
use Rattle.parallel_search.specs.declared.slots.WorkerEnd.{WorkerEnd}
use Rattle.parallel_search.specs.Ends.{BringsOwn, IsWorkerEnd, pass_of}
use Rattle.parallel_search.proofs.Ends.{snoc_shift}
use Rattle.parallel_search.proofs.joining.take_in_each.Goals as goal

pub loop-worker_end-preserved : goal.loop-worker_end-preserved
loop-worker_end-preserved g c =
    let i = c.loop-worker_end.invariant in
    let t = c.in_ok-take_in.ensures in
    let rest = c.next.new.self.rest.items in
    let e : c.loop-worker_end.worker_end-iterator.rest.items ≡ c.in-Some.worker_end ∷ rest = search rules in
    record {
      board = c.take_in.ensures.owner ∙ i.board;
      made = ap (λ v. v.made) c.take_in.ensures.view ∙ i.made;
      taken = omega (arith, i.taken, ap (λ v. v.taken) c.take_in.ensures.view, ap length e);
      seats = (subst (Every (λ (j : WorkerEnd g.row.M.Denot). j.seat.board ≡ c.args.board.now.id)) e i.seats).1;
      passes = ap (λ (l : List (Pass g.row.M.Denot)). l ++ map pass_of rest) t.passes ∙ (snoc_shift c.loop-worker_end.ended.passes.items c.in-Some.worker_end.pass (map pass_of rest)
          ∙ (ap (λ (js : List (WorkerEnd g.row.M.Denot)). c.loop-worker_end.ended.passes.items ++ map pass_of js) (sym e) ∙ i.passes));
      own = λ room first worker_ends. let before = i.own room first worker_ends in let each = subst (Every (BringsOwn room)) e before.1 in (t.own room before.0 each.0, each.1);
      end = λ m first worker_ends. let before = i.end m first worker_ends in let each = subst (Every (IsWorkerEnd g.M.Wanted.meets c.args.board.now m)) e before.1 in (t.end m before.0 each.0, each.1);
    }

pub loop-worker_end-init : goal.loop-worker_end-init
loop-worker_end-init g c =
    let first = c.into_iter-worker_end-iterator.result.rest.items in
    let e : first ≡ c.args.worker_ends.items = search rules in
    record {
      board = refl;
      made = refl;
      taken = omega (arith, ap length e);
      seats = subst (Every (λ (j : WorkerEnd g.row.M.Denot). j.seat.board ≡ c.args.board.now.id)) (sym e) c.requires.seats;
      passes = ap (λ (l : List (WorkerEnd g.row.M.Denot)). c.args.ended.now.passes.items ++ map pass_of l) e;
      own = λ room at worker_ends. (at, subst (Every (BringsOwn room)) (sym e) worker_ends);
      end = λ m at worker_ends. (at, subst (Every (IsWorkerEnd g.M.Wanted.meets c.args.board.now m)) (sym e) worker_ends);
    }

pub returns-clause-end : goal.returns-clause-end
returns-clause-end g c m at worker_ends = (c.loop-worker_end.invariant.end m at worker_ends).0

pub returns-clause-own : goal.returns-clause-own
returns-clause-own g c room at worker_ends = (c.loop-worker_end.invariant.own room at worker_ends).0
