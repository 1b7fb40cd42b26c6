use Rattle.std.proofs.Common.{arith}
use Rattle.search_core.specs.Machine.{Pops, Pop}
use Rattle.event_search.proofs.Answering
use Rattle.event_search.proofs.Keeping
use Rattle.event_search.proofs.machine.Core.pop.Goals as goal

pub returns : goal.returns
returns g c =
    Answering.as_seen (Answering.course_of (g.J.Judge.voyage c.self.inside.judge) c.self.inside.seats) c.args.self.now (λ m. Pop c.args.worker) (Answering.course_of (g.J.Judge.voyage c.self.inside.judge) c.pop.new.self) c.pop.result c.self.view_is
    (Answering.pop (g.J.Judge.voyage c.self.inside.judge) c.self.inside.seats c.pop.new.self c.args.worker c.pop.result (omega (arith, c.pop.ensures.spare)) c.pop.ensures.done c.pop.ensures.refused c.pop.ensures.unchanged)

pub invariant_of-self : goal.invariant_of-self
invariant_of-self g c =
    Answering.kept (g.J.Judge.voyage c.self.inside.judge) c.self.inside.seats c.pop.new.self (g.J.Judge.room c.self.inside.judge) (Pops c.self.inside.seats.state c.args.worker c.pop.new.self.state) c.pop.result
    (λ e. Keeping.pop (g.J.Judge.voyage c.self.inside.judge) (g.J.Judge.room c.self.inside.judge) c.self.inside.seats.state c.pop.new.self.state c.self.inside.seats.spare c.pop.new.self.spare c.self.invariant c.args.worker (omega (arith, c.pop.ensures.spare)) e)
    c.self.invariant c.pop.ensures.done c.pop.ensures.unchanged
