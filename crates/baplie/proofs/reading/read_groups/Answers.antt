use Rattle.std.proofs.Common.{◌∙◌, sym, ap, refl, arith, ◌-◌, [], ◌∷◌, ◌++◌, take, drop, List}
use Rattle.edifact_segments.specs.declared.segments.Segment.{Segment}
use Rattle.baplie.proofs.Cuts.{knows-first, knows-next, fault-at, head-within}
use Rattle.baplie.proofs.reading.read_groups.Goals as goal

pub loop-at-init : goal.loop-at-init
loop-at-init c = rw c.new-list.ensures (knows-first c.args.body.now c.args.first c.requires.first (omega (arith, c.requires.first, head-within c.args.body.now)))

pub returns-in-Some-clause-fault : goal.returns-in-Some-clause-fault
returns-in-Some-clause-fault c =
    fault-at c.args.body.now c.args.first c.loop-at.at c.place_from-next.result c.loop-at.list (take (c.place_from-next.result - c.loop-at.at) (drop c.loop-at.at c.args.body.now)) (c.in-Some.segment, c.in-Some.cause) c.loop-at.invariant c.loop-at-test.true c.place_from-next.ensures.place refl (sym c.group_fault.ensures ∙ c.in-Some.is)

pub loop-at-preserved : goal.loop-at-preserved
loop-at-preserved c =
    let group : List Segment = take (c.place_from-next.result - c.loop-at.at) (drop c.loop-at.at c.args.body.now) in
    knows-next c.args.body.now c.args.first c.loop-at.at c.place_from-next.result c.loop-at.list c.push.new.self group c.loop-at.invariant c.loop-at-test.true c.place_from-next.ensures.place c.place_from-next.ensures.within refl (sym c.group_fault.ensures ∙ c.in-None.is) (c.in_ok-push-in-None.ensures ∙ ap (λ g. c.loop-at.list ++ g ∷ []) c.in_ok-cell_group-in-None.ensures)
