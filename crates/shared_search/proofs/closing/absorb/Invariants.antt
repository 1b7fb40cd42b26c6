use Rattle.std.proofs.Common.{◌≡◌, ◌+◌, ◌++◌, ℕ}
use Rattle.certificate.specs.declared.nodes.Node.{Node}
use Rattle.search_core.specs.Bags.{Every}
use Rattle.shared_search.specs.Racks.{stolen_weight}
use Rattle.shared_search.specs.Rounds.{IsHeld, Fits, deques, own_put, own_took}
use Rattle.shared_search.specs.Bags.{Each}
use Rattle.shared_search.proofs.closing.absorb.Given as goal

abbrev pub invariant-loop-own : goal.invariant-loop-own
invariant-loop-own g l = record {
  out : Every (IsHeld (l.held + 1)) l.out.items;
  rest : Every (IsHeld l.held) l.own-iterator.rest.items;
  fit : Each Fits (deques l.own-iterator.rest.items) l.give.rest.items;
  same : deques l.out.items ++ deques l.own-iterator.rest.items ≡ deques l.fn.owns.items;
  bag : (h : Node → ℕ) → (own_put h l.out.items + own_put h l.own-iterator.rest.items ≡ own_put h l.fn.owns.items) × (own_took h l.out.items + own_took h l.own-iterator.rest.items + stolen_weight h l.give.rest.items ≡ own_took h l.fn.owns.items + stolen_weight h l.fn.tokens.items);
}
