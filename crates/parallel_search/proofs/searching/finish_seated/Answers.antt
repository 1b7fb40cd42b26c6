use Rattle.std.proofs.Common.{◌≡◌, ap, ◌∙◌, arith}
use Rattle.shared_search.specs.declared.view.View.{View}
use Rattle.shared_search.specs.Rule.{seen_at, after_split, joined}
use Rattle.steal_pool.proofs.Steps.{if_ok}
use Rattle.parallel_search.proofs.searching.finish_seated.Goals as goal

pub returns-clause-taken : goal.returns-clause-taken
returns-clause-taken g c = λ e.
    let v = c.split-seat.ensures.views in
    omega (arith, e, ap (λ (x : View). x.made) c.join.ensures.view, ap (λ (x : View). x.taken) c.join.ensures.view, ap (λ (x : View). x.made) v.2, ap (λ (x : View). x.taken) v.2)

pub returns-clause-done : goal.returns-clause-done
returns-clause-done g c =
    let v = c.split-seat.ensures.views in
    let last : View = c.finish-deeds.new.seat.view in
    let view : c.join.new.owner.view ≡ joined (after_split (seen_at c.args.owner.now.view v.0)) last = c.join.ensures.view ∙ ap (λ (x : View). joined x last) v.2 in
    if_ok c.finish-deeds.result _ _ (λ deeds done. (v.0, last, v.1, view, done)) c.finish-deeds.ensures.done
