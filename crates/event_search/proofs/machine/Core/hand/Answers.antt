use Rattle.std.proofs.Common.{List, length, sym, subst, ◌∙◌}
use Rattle.certificate.specs.declared.tree.Record.{Record}
use Rattle.search_core.specs.declared.records.Done.{Done}
use Rattle.search_core.specs.Told.{InTable, NameEarlier}
use Rattle.search_core.proofs.Earlier.{in_hand}
use Rattle.event_search.proofs.machine.Core.hand.Goals as goal

pub full_node-requires-clause-earlier : goal.full_node-requires-clause-earlier
full_node-requires-clause-earlier g c = subst (λ (ds : List (Done Record)). NameEarlier ds) (sym c.ended.ensures) c.self.invariant.earlier

pub full_node-requires-clause-named : goal.full_node-requires-clause-named
full_node-requires-clause-named g c =
    subst (λ (ds : List (Done Record)). InTable (length ds) c.in-Some.key) (sym c.ended.ensures) (in_hand c.self.inside.seats.state c.args.worker c.in-Some.key c.self.invariant.keys (sym c.hand.ensures.hand ∙ c.in-Some.is))
