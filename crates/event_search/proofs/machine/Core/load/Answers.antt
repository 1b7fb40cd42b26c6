use Rattle.std.proofs.Common.{arith}
use Rattle.search_core.specs.Machine.{Loads, Load}
use Rattle.event_search.proofs.Answering
use Rattle.event_search.proofs.Keeping
use Rattle.event_search.proofs.machine.Core.load.Goals as goal

pub returns : goal.returns
returns g c =
    Answering.as_seen (Answering.course_of (g.J.Judge.voyage c.self.inside.judge) c.self.inside.seats) c.args.self.now (λ m. Load c.args.worker) (Answering.course_of (g.J.Judge.voyage c.self.inside.judge) c.load.new.self) c.load.result c.self.view_is
    (Answering.load (g.J.Judge.voyage c.self.inside.judge) c.self.inside.seats c.load.new.self c.args.worker c.load.result (omega (arith, c.load.ensures.spare)) c.load.ensures.done c.load.ensures.refused c.load.ensures.unchanged)

pub invariant_of-self : goal.invariant_of-self
invariant_of-self g c =
    Answering.kept (g.J.Judge.voyage c.self.inside.judge) c.self.inside.seats c.load.new.self (g.J.Judge.room c.self.inside.judge) (Loads c.self.inside.seats.state c.args.worker c.load.new.self.state) c.load.result
    (λ e. Keeping.load (g.J.Judge.voyage c.self.inside.judge) (g.J.Judge.room c.self.inside.judge) c.self.inside.seats.state c.load.new.self.state c.self.inside.seats.spare c.load.new.self.spare c.self.invariant c.args.worker (omega (arith, c.load.ensures.spare)) e)
    c.self.invariant c.load.ensures.done c.load.ensures.unchanged
