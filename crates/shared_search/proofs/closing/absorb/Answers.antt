use Rattle.std.proofs.Common.{◌≡◌, ◌+◌, ◌∷◌, ◌++◌, ap, sym, subst, ◌∙◌, arith, rules}
use Rattle.search_core.specs.Bags.{Every}
use Rattle.shared_search.specs.Rounds.{IsHeld, Fits, deques, own_put, own_took}
use Rattle.shared_search.specs.Bags.{Each}
use Rattle.crossbeam_deque.specs.Handles.{worker_deque}
use Rattle.shared_search.proofs.Backs.{fit_next, stolen_next, not_empty, deques_snoc, puts_snoc}
use Rattle.shared_search.proofs.Backs.{every_snoc, snoc_shift}
use Rattle.shared_search.proofs.closing.absorb.Goals as goal

pub loop-own-preserved : goal.loop-own-preserved
loop-own-preserved g c =
    let i = c.loop-own.invariant in
    let e : c.loop-own.own-iterator.rest.items ≡ c.in-Some.own ∷ c.next.new.self.rest.items = search rules in
    let t = c.take_back-own.ensures in
    let n = c.next-in-loop-own.ensures in
    let p = c.in_ok-push.ensures.items in
    let fit = subst (λ ws. Each Fits (deques ws) c.loop-own.give.rest.items) e i.fit in
    record {
      out = every_snoc (IsHeld (c.args.held + 1)) c.loop-own.out.items c.take_back-own.result c.push.new.self.items p i.out t.held;
      rest = (subst (Every (IsHeld c.args.held)) e i.rest).1;
      fit = fit_next Fits (worker_deque c.in-Some.own) (deques c.next.new.self.rest.items) c.next-in-loop-own.result c.loop-own.give.rest.items c.next-in-loop-own.new.self.rest.items n.items (λ z r. not_empty Fits (worker_deque c.in-Some.own) (deques c.next.new.self.rest.items) c.loop-own.give.rest.items fit z) (λ r. search rules) fit;
      same = ap (λ l. l ++ deques c.next.new.self.rest.items) (deques_snoc c.loop-own.out.items c.take_back-own.result c.push.new.self.items p)
          ∙ (snoc_shift (deques c.loop-own.out.items) (worker_deque c.take_back-own.result) (deques c.next.new.self.rest.items)
          ∙ (ap (λ d. deques c.loop-own.out.items ++ d ∷ deques c.next.new.self.rest.items) t.same ∙ (ap (λ ws. deques c.loop-own.out.items ++ deques ws) (sym e) ∙ i.same)));
      bag = λ h. let q = puts_snoc h c.loop-own.out.items c.take_back-own.result c.push.new.self.items p in let b = i.bag h in let u = t.bag h in
          (omega (arith, b.0, q.0, u.0, ap (own_put h) e), omega (arith, b.1, q.1, u.1, ap (own_took h) e, stolen_next h c.next-in-loop-own.result c.loop-own.give.rest.items c.next-in-loop-own.new.self.rest.items n.items));
    }
