use Rattle.std.proofs.Common.{◌≡◌, ◌+◌, ◌∙◌, Bool, false, Some, ap, subst, sym}
use Rattle.std.specs.Prelude.{slice_get, slice_set}
use Rattle.std.proofs.lemmas.Result.{on_ok_weaker}
use Rattle.stow_data.specs.Plans.{Plan}
use Rattle.greedy_loader.specs.Quays.{HoldsUpTo}
use Rattle.greedy_loader.proofs.Taken.{can_keep, put_held}
use Rattle.greedy_loader.proofs.taking_out.keep_at.Goals as goal

pub put-requires-clause-can : goal.put-requires-clause-can
put-requires-clause-can c = can_keep c.args.ship.now c.args.cargo.now c.args.before.now c.args.layout.now.plan c.args.set.now c.args.p c.in-Some.c c.requires.formed c.requires.holds c.requires.inside c.in-Some.ensures

pub returns-else-at-clause-holds : goal.returns-else-at-clause-holds
returns-else-at-clause-holds c =
    let off : slice_get c.args.set.now c.args.p ≡ Some false = ap (slice_get c.args.set.now) (sym c.p.view_is) ∙ (c.at-in-Some.ensures ∙ ap (λ (b : Bool). Some b) c.if-at.false) in
    on_ok_weaker c.put.result
    (λ (e : c.put.new.self.plan ≡ slice_set c.args.layout.now.plan c.args.p (Some c.in-Some.c)). subst (λ (z : Plan). HoldsUpTo c.args.before.now c.args.set.now (c.args.p + 1) z) (sym e) (put_held c.args.before.now c.args.layout.now.plan c.args.set.now c.args.p c.in-Some.c (rw c.requires.formed.each_place c.requires.inside) c.requires.holds c.in-Some.ensures off))
    c.put.ensures.plan
