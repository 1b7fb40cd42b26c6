use Rattle.std.proofs.Common.{◌≡◌, ◌≤◌, ◌+◌, List, subst, sym, ◌∙◌, ap, rules, arith}
use Rattle.search_core.proofs.Weights.{every_append}
use Rattle.shared_search.proofs.Keeps.{learns, found_all, took_all, took_more}
use Rattle.crossbeam_deque.specs.Handles.{worker_view}
use Rattle.certificate.specs.declared.nodes.Node.{Node}
use Rattle.search_core.specs.Bags.{weigh, Every}
use Rattle.shared_search.proofs.deques.rest.Goals as goal

pub len_as-count-requires : goal.len_as-count-requires
len_as-count-requires g c = learns _ _ _ c.requires.all

pub len_as-requires : goal.len_as-requires
len_as-requires g c = learns _ _ _ c.loop-k.invariant.parts

pub returns-in-None-clause-bag : goal.returns-in-None-clause-bag
returns-in-None-clause-bag g c h = found_all _ _ c.loop-k.invariant.parts c.in-None.ensures.none.1 _ _ _ c.loop-k.invariant.put c.loop-k.invariant.took h

pub returns-clause-bag : goal.returns-clause-bag
returns-clause-bag g c h =
    let i = c.loop-k.invariant in
    let first = c.len_as-count.ensures.rule in
    let last = c.len_as.ensures.rule in
    let stopped : c.len_as-count.result ≤ c.loop-k.k = c.loop-k-test.false in
    let within : c.loop-k.k ≤ c.len_as-count.result = c.loop-k.auto.k-end in
    took_all _ _ _ _ first.0 last.0 first.2 (omega (arith, first.1, i.count)) i.took
    (λ h. subst (λ (xs : List Node). weigh h xs ≡ weigh h (worker_view c.loop-k.own).took + weigh h last.0) i.put (last.2 h)) h

pub loop-k-preserved : goal.loop-k-preserved
loop-k-preserved g c =
    let e = c.in-Some.ensures.took in
    let p = c.in_ok-push-in-Some.ensures.items in
    let i = c.loop-k.invariant in
    let s = c.take.ensures.same in
    record {
      lifo = search (rules);
      parts = ap (λ v. v.parts) e.0 ∙ i.parts;
      put = ap (λ v. v.put) e.0 ∙ i.put;
      took = took_more _ _ _ _ _ _ e.0 p i.took;
      count = search (rules);
      meets = subst (Every g.M.Wanted.meets) (sym p) (every_append _ _ _ i.meets (e.1, tt));
    }
