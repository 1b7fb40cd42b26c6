use Rattle.search_core.specs.Machine.{Pushes, Push}
use Rattle.event_search.proofs.Answering
use Rattle.event_search.proofs.Keeping
use Rattle.event_search.proofs.machine.Core.push.Goals as goal

pub returns : goal.returns
returns g c =
    Answering.as_seen (Answering.course_of (g.J.Judge.voyage c.self.inside.judge) c.self.inside.seats) c.args.self.now (λ m. Push c.args.worker) (Answering.course_of (g.J.Judge.voyage c.self.inside.judge) c.push.new.self) c.push.result c.self.view_is
    (Answering.push (g.J.Judge.voyage c.self.inside.judge) c.self.inside.seats c.push.new.self c.args.worker c.push.result c.push.ensures.spare c.push.ensures.done c.push.ensures.refused c.push.ensures.unchanged)

pub invariant_of-self : goal.invariant_of-self
invariant_of-self g c =
    Answering.kept (g.J.Judge.voyage c.self.inside.judge) c.self.inside.seats c.push.new.self (g.J.Judge.room c.self.inside.judge) (Pushes c.self.inside.seats.state c.args.worker c.push.new.self.state) c.push.result
    (λ e. Keeping.push (g.J.Judge.voyage c.self.inside.judge) (g.J.Judge.room c.self.inside.judge) c.self.inside.seats.state c.push.new.self.state c.self.inside.seats.spare c.push.new.self.spare c.self.invariant c.args.worker c.push.ensures.most e)
    c.self.invariant c.push.ensures.done c.push.ensures.unchanged
