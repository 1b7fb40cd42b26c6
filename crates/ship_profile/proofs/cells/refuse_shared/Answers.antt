use Rattle.std.proofs.Common.{◌≡◌, Some, None, take, sym, ◌∙◌, subst, arith}
use Rattle.std.proofs.lemmas.Grind.{common_steps}
use Rattle.ship_profile.specs.Stacks.{shared_bay}
use Rattle.ship_profile.specs.Positions.{AreCells}
use Rattle.ship_profile.proofs.Apart.{apart_on, shared_stops, apart_end, take_front}
use Rattle.ship_profile.proofs.CellLookups.{one_stack_more, taken_is_shared}
use Rattle.ship_profile.proofs.cells.refuse_shared.Goals as goal

pub returns-in-Some : goal.returns-in-Some
returns-in-Some c =
    let ss = c.args.stacks.now in
    let some : shared_bay (take c.loop-s.s-index ss) c.s-item.result ≡ Some c.in-Some.bay = sym (taken_is_shared c.loop-s.cells (take c.loop-s.s-index ss) c.s-item.result c.loop-s.invariant.taken) ∙ sym c.bay_taken.ensures ∙ c.in-Some.is in
    λ ne. shared_stops ss c.loop-s.s-index c.s-item.result c.in-Some.bay _ c.loop-s-test.true c.s-item.is some c.loop-s.invariant.same

pub loop-s-preserved : goal.loop-s-preserved
loop-s-preserved c =
    let ss = c.args.stacks.now in
    let i = c.loop-s.s-index in
    let s = c.s-item.result in
    let free : c.bay_taken.result ≡ None = grind (arith, common_steps) in
    let none : shared_bay (take i ss) s ≡ None = sym (taken_is_shared c.loop-s.cells (take i ss) s c.loop-s.invariant.taken) ∙ sym c.bay_taken.ensures ∙ free in
    record {
      taken = subst (AreCells c.enter.new.cells) (sym (take_front ss i s c.loop-s-test.true c.s-item.is)) (one_stack_more c.loop-s.cells c.enter.new.cells (take i ss) s c.in_ok-enter.ensures c.loop-s.invariant.taken);
      same = apart_on ss i s _ c.loop-s-test.true c.s-item.is none c.loop-s.invariant.same;
    }

pub returns : goal.returns
returns c = apart_end c.args.stacks.now c.loop-s.s-index _ (omega arith) c.loop-s.invariant.same
