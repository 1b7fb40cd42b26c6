use Rattle.std.proofs.Common.{arith}
use Rattle.search_core.specs.Machine.{Steals, Steal}
use Rattle.event_search.proofs.Answering
use Rattle.event_search.proofs.Keeping
use Rattle.event_search.proofs.machine.Core.steal.Goals as goal

pub returns : goal.returns
returns g c =
    Answering.as_seen (Answering.course_of (g.J.Judge.voyage c.self.inside.judge) c.self.inside.seats) c.args.self.now (λ m. Steal c.args.worker c.args.victim) (Answering.course_of (g.J.Judge.voyage c.self.inside.judge) c.steal.new.self) c.steal.result c.self.view_is
    (Answering.steal (g.J.Judge.voyage c.self.inside.judge) c.self.inside.seats c.steal.new.self c.args.worker c.args.victim c.steal.result (omega (arith, c.steal.ensures.spare)) c.steal.ensures.done c.steal.ensures.refused c.steal.ensures.unchanged)

pub invariant_of-self : goal.invariant_of-self
invariant_of-self g c =
    Answering.kept (g.J.Judge.voyage c.self.inside.judge) c.self.inside.seats c.steal.new.self (g.J.Judge.room c.self.inside.judge) (Steals c.self.inside.seats.state c.args.worker c.args.victim c.steal.new.self.state) c.steal.result
    (λ e. Keeping.steal (g.J.Judge.voyage c.self.inside.judge) (g.J.Judge.room c.self.inside.judge) c.self.inside.seats.state c.steal.new.self.state c.self.inside.seats.spare c.steal.new.self.spare c.self.invariant c.args.worker c.args.victim (omega (arith, c.steal.ensures.spare)) e)
    c.self.invariant c.steal.ensures.done c.steal.ensures.unchanged
