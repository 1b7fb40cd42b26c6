use Rattle.std.proofs.Common.{rules}
use Rattle.std.specs.Ordering.{is_lt}
use Rattle.std.proofs.lemmas.Fn.{always_returns_same}
use Rattle.certificate.specs.declared.journals.Entry.{Entry}
use Rattle.node_ledger.specs.Preorder.{by_preorder}
use Rattle.node_ledger.proofs.Order.{is_order}
use Rattle.node_ledger.proofs.nodes.sort_in_place.Goals as goal

pub returns-clause-order : goal.returns-clause-order
returns-clause-order c = c.sort_unstable_by.ensures.sorted (λ (a b : Entry). is_lt (by_preorder a.path b.path)) is_order (always_returns_same _ _ _ (λ a r q k. search rules))
