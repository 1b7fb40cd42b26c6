use Rattle.search_core.specs.Machine.{Draws, Draw}
use Rattle.event_search.proofs.Answering
use Rattle.event_search.proofs.Keeping
use Rattle.event_search.proofs.machine.Core.draw.Goals as goal

pub returns : goal.returns
returns g c =
    Answering.as_seen (Answering.course_of (g.J.Judge.voyage c.self.inside.judge) c.self.inside.seats) c.args.self.now (λ m. Draw c.args.worker) (Answering.course_of (g.J.Judge.voyage c.self.inside.judge) c.draw.new.self) c.draw.result c.self.view_is
    (Answering.draw (g.J.Judge.voyage c.self.inside.judge) c.self.inside.seats c.draw.new.self c.args.worker c.draw.result c.draw.ensures.spare c.draw.ensures.done c.draw.ensures.refused c.draw.ensures.unchanged)

pub invariant_of-self : goal.invariant_of-self
invariant_of-self g c =
    Answering.kept (g.J.Judge.voyage c.self.inside.judge) c.self.inside.seats c.draw.new.self (g.J.Judge.room c.self.inside.judge) (Draws c.self.inside.seats.state c.args.worker c.draw.new.self.state) c.draw.result
    (λ e. Keeping.draw (g.J.Judge.voyage c.self.inside.judge) (g.J.Judge.room c.self.inside.judge) c.self.inside.seats.state c.draw.new.self.state c.self.inside.seats.spare c.draw.new.self.spare c.self.invariant c.args.worker c.draw.ensures.most e)
    c.self.invariant c.draw.ensures.done c.draw.ensures.unchanged
