use Rattle.std.proofs.Common.{◌≡◌, map, subst}
use Rattle.search_core.specs.Machine.{at_its_path}
use Rattle.search_core.specs.Outcomes.{path_of}
use Rattle.event_search.specs.Cores.{Course}
use Rattle.event_search.specs.Nodes.{placed}
use Rattle.event_search.proofs.Ways
use Rattle.event_search.proofs.machine.Core.finish.Goals as goal

pub returns-clause-entries : goal.returns-clause-entries
returns-clause-entries g c =
    subst (λ (s : Course). map (placed s.voyage) c.in_ok-entries.entries ≡ map at_its_path s.state.ended) c.self.view_is
    (Ways.finish_entries (g.J.Judge.voyage c.self.inside.judge) c.self.inside.seats.state c.ended.result.now c.ended.ensures c.in_ok-entries.entries c.self.invariant.earlier (c.in_ok-entries.ensures (g.J.Judge.voyage c.self.inside.judge)))

pub returns-clause-left : goal.returns-clause-left
returns-clause-left g c =
    subst (λ (s : Course). c.in_ok-left.left ≡ map path_of s.state.left) c.self.view_is
    (Ways.finish_left (g.J.Judge.voyage c.self.inside.judge) c.self.inside.seats.state c.ended-2.result.now c.ended-2.ensures c.left.result.now c.in_ok-left.left c.left.ensures (c.in_ok-left.ensures (g.J.Judge.voyage c.self.inside.judge)))
