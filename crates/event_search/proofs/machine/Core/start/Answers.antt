use Rattle.std.proofs.Common.{ap, ◌∙◌}
use Rattle.certificate.specs.Entries.{entry_of}
use Rattle.search_core.proofs.Standing
use Rattle.event_search.specs.Cores.{state_at}
use Rattle.event_search.proofs.Keeping.{begun}
use Rattle.event_search.proofs.machine.Core.start.Goals as goal

pub invariant_of-result : goal.invariant_of-result
invariant_of-result g c =
    begun (g.J.Judge.voyage c.args.judge) (g.J.Judge.room c.args.judge) c.in_ok-seats.seats.state c.in_ok-seats.seats.spare c.args.workers c.args.start c.args.budget c.requires.workers c.requires.crossing c.in_ok-seats.ensures.state c.in_ok-seats.ensures.none

pub returns-clause-begins : goal.returns-clause-begins
returns-clause-begins g c = ap (state_at (g.J.Judge.voyage c.args.judge)) c.in_ok-seats.ensures.state ∙ Standing.begins (entry_of (g.J.Judge.voyage c.args.judge)) c.args.workers c.args.start c.args.budget
