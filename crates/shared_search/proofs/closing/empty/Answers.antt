use Rattle.std.proofs.Common.{◌≡◌, ◌∷◌, ap, sym, subst, arith, rules}
use Rattle.search_core.specs.Bags.{weigh, Every}
use Rattle.search_core.proofs.Weights.{weigh_append, every_append}
use Rattle.shared_search.specs.Rounds.{IsHeld, own_put, own_took}
use Rattle.shared_search.proofs.closing.empty.Goals as goal

pub loop-own-preserved : goal.loop-own-preserved
loop-own-preserved g c =
    let i = c.loop-own.invariant in
    let e : c.loop-own.own-iterator.rest.items ≡ c.in-Some.own ∷ c.next.new.self.rest.items = search rules in
    let r = c.in_ok-more.ensures in
    let p = c.in_ok-append_nodes.ensures in
    record {
      rest = (subst (Every (IsHeld 1024)) e i.rest).1;
      meets = subst (Every g.M.Wanted.meets) (sym p) (every_append g.M.Wanted.meets c.loop-own.all.items c.in_ok-more.more.items i.meets r.meets);
      bag = λ h. omega (arith, i.bag h, ap (own_put h) e, ap (own_took h) e, r.bag h, ap (weigh h) p, weigh_append h c.loop-own.all.items c.in_ok-more.more.items);
    }
