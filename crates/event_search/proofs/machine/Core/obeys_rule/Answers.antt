use Rattle.std.proofs.Common.{subst}
use Rattle.zero_one_rows.specs.Rows.{whole}
use Rattle.certificate.specs.Entries.{same_row}
use Rattle.search_core.specs.Machine.{ObeysRule}
use Rattle.event_search.specs.Cores.{Course}
use Rattle.event_search.proofs.machine.Core.obeys_rule.Goals as goal

pub returns : goal.returns
returns g c = subst (λ (s : Course). ObeysRule same_row (whole s.voyage) s.state) c.self.view_is c.self.invariant.rule
