use Rattle.std.proofs.Common.{rules, ◌≡◌, ◌+◌, ◌≤◌, length, refl, arith}
use Rattle.event_search.proofs.Answering
use Rattle.event_search.proofs.machine.Core.reserve.Goals as goal

pub invariant_of-self : goal.invariant_of-self
invariant_of-self g c =
    Answering.reserved (g.J.Judge.voyage c.self.inside.judge) (g.J.Judge.voyage c.reserve.new.self) (g.J.Judge.room c.reserve.new.self) c.self.inside.seats c.self.inside.seats (g.J.Judge.room c.self.inside.judge) c.reserve.ensures.voyage c.self.invariant refl (omega (arith, c.self.invariant.fits, c.reserve.ensures.kept))

pub invariant_of-self-2 : goal.invariant_of-self-2
invariant_of-self-2 g c =
    let sum : c.in-Some.entries ≡ length c.self.inside.seats.state.ended + c.args.events = search rules in
    let most : c.reserve-2.new.self.spare ≤ c.args.events = c.reserve-2.ensures.most c.args.events (omega (arith, c.if-wanted-spare.false, c.spare.ensures)) (omega arith) in
    Answering.reserved (g.J.Judge.voyage c.self.inside.judge) (g.J.Judge.voyage c.reserve.new.self) (g.J.Judge.room c.reserve.new.self) c.self.inside.seats c.reserve-2.new.self (g.J.Judge.room c.self.inside.judge) c.in_ok-reserve.ensures.voyage c.self.invariant c.reserve-2.ensures.state
    (omega (arith, sum, most, c.in_ok-reserve.ensures.room))
