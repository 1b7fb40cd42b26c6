use Rattle.std.proofs.Common.{◌≡◌, ◌∷◌, ◌++◌, [], ap, sym, subst, ◌∙◌, rules}
use Rattle.crossbeam_deque.specs.Handles.{stealer_deque, stealer_flavor}
use Rattle.search_core.proofs.Weights.{every_append}
use Rattle.shared_search.specs.Rounds.{IsUnused, AreLifo, deques, stolen_from}
use Rattle.shared_search.proofs.Backs.{deques_snoc, every_snoc}
use Rattle.shared_search.proofs.Dealing.{stolen_snoc}
use Rattle.shared_search.proofs.opening.make_deques.Goals as goal

pub loop-number-preserved : goal.loop-number-preserved
loop-number-preserved g c =
    let i = c.loop-number.invariant in
    let o = c.in_ok-own.ensures in
    let s = c.in_ok-stealer.ensures in
    let p = c.in_ok-push.ensures.items in
    let q = c.in_ok-push-2.ensures.items in
    record {
      unused = every_snoc (IsUnused c.args.room 1024) c.loop-number.owns.items c.in_ok-own.own c.push-in-loop-number.new.self.items q i.unused (o.0, o.1, o.2, o.3);
      same = ap stolen_from p ∙ (stolen_snoc c.loop-number.thieves.items c.in_ok-stealer.field-0 ∙ (ap (λ l. l ++ stealer_deque c.in_ok-stealer.field-0 ∷ []) i.same
          ∙ (ap (λ d. deques c.loop-number.owns.items ++ d ∷ []) s.0 ∙ sym (deques_snoc c.loop-number.owns.items c.in_ok-own.own c.push-in-loop-number.new.self.items q))));
      lifo = subst AreLifo (sym p) (every_append (λ t. stealer_flavor t ≡ 1) c.loop-number.thieves.items (c.in_ok-stealer.field-0 ∷ []) i.lifo (s.1 ∙ o.0, tt));
      count = search rules;
    }
