use Rattle.std.proofs.Common.{◌≡◌, ◌-◌, [], ◌∷◌, ◌++◌, ap, sym, subst, ◌∙◌, rules}
use Rattle.crossbeam_deque.specs.Handles.{worker_deque}
use Rattle.search_core.specs.Bags.{Every}
use Rattle.shared_search.specs.Rounds.{FitsNew, IsUnused, deques}
use Rattle.shared_search.specs.Bags.{Each}
use Rattle.shared_search.proofs.Backs.{deques_snoc, every_snoc, snoc_shift}
use Rattle.shared_search.proofs.Dealing.{each_snoc}
use Rattle.shared_search.proofs.opening.deal.Goals as goal

pub loop-own-preserved : goal.loop-own-preserved
loop-own-preserved g c =
    let i = c.loop-own.invariant in
    let e : c.loop-own.own-iterator.rest.items ≡ c.in-Some.own ∷ c.next.new.self.rest.items = search rules in
    let d = c.deal_one-own.ensures in
    let p = c.in_ok-push.ensures.items in
    let q = c.in_ok-push-2.ensures.items in
    let more : deques c.push.new.self.items ≡ deques c.loop-own.out.items ++ worker_deque c.in-Some.own ∷ []
    = deques_snoc c.loop-own.out.items c.deal_one-own.result.0 c.push.new.self.items p ∙ ap (λ x. deques c.loop-own.out.items ++ x ∷ []) d.same in
    record {
      out = every_snoc (IsUnused c.args.room (c.args.held - 1)) c.loop-own.out.items c.deal_one-own.result.0 c.push.new.self.items p i.out d.unused;
      rest = (subst (Every (IsUnused c.args.room c.args.held)) e i.rest).1;
      same = ap (λ l. l ++ deques c.next.new.self.rest.items) more
          ∙ (snoc_shift (deques c.loop-own.out.items) (worker_deque c.in-Some.own) (deques c.next.new.self.rest.items)
          ∙ (ap (λ ws. deques c.loop-own.out.items ++ deques ws) (sym e) ∙ i.same));
      fit = subst (λ ds. Each FitsNew ds c.push-in-loop-own.new.self.items) (sym more)
          (subst (Each FitsNew (deques c.loop-own.out.items ++ worker_deque c.in-Some.own ∷ [])) (sym q)
          (each_snoc FitsNew (deques c.loop-own.out.items) c.loop-own.tokens.items (worker_deque c.in-Some.own) c.deal_one-own.result.1 i.fit d.fit));
    }
