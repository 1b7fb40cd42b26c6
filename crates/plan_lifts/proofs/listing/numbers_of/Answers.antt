use Rattle.std.proofs.Common.{◌<◌, ℕ, List, length, false, arith, sym, subst}
use Rattle.std.proofs.lemmas.Option.{get_or_from_slice_get}
use Rattle.plan_lifts.specs.Spread.{has}
use Rattle.plan_lifts.proofs.LiftsHold.{ListedTo, listed_none, listed_more, listed_all, has_inside}
use Rattle.plan_lifts.proofs.listing.numbers_of.Goals as goal

pub loop-c-init : goal.loop-c-init
loop-c-init c = subst (λ (x : List ℕ). ListedTo (has c.args.marked.now) x 0) (sym c.new-list.ensures) (listed_none (has c.args.marked.now))

pub loop-c-preserved : goal.loop-c-preserved
loop-c-preserved c = listed_more (has c.args.marked.now) c.loop-c.list c.push_where.new.list c.loop-c.c c.at.result.now c.loop-c.invariant (get_or_from_slice_get c.args.marked.now c.loop-c.c c.at.result.now false c.at.ensures) c.in_ok-push_where.ensures

pub returns-clause-rising : goal.returns-clause-rising
returns-clause-rising c = c.loop-c.invariant.rising

pub returns-clause-marked : goal.returns-clause-marked
returns-clause-marked c = listed_all (has c.args.marked.now) c.loop-c.list c.loop-c.c (λ k m. let l : k < length c.args.marked.now = has_inside c.args.marked.now k m in omega (arith, l, c.requires)) c.loop-c.invariant
