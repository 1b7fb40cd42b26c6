use Rattle.std.proofs.Common.{◌≡◌, ◌<◌, ◌+◌, ℕ, length}
use Rattle.certificate.specs.declared.nodes.Node.{Node}
use Rattle.search_core.specs.Bags.{weigh, Every}
use Rattle.shared_search.specs.Racks.{stolen_weight}
use Rattle.shared_search.specs.Rounds.{Fits, IsHeld, deques, own_put, own_took}
use Rattle.shared_search.specs.Bags.{Each}
use Rattle.shared_search.proofs.closing.absorb_all.Given as goal

abbrev pub invariant-loop-tokens : goal.invariant-loop-tokens
invariant-loop-tokens g l = record {
  low : 0 < l.held;
  held : Every (IsHeld l.held) l.owns.items;
  parts : l.held + length l.tokens-iterator.rest.items ≡ 1024;
  same : deques l.owns.items ≡ deques l.fn.dealt.owns.items;
  fit : Every (λ row. Each Fits (deques l.fn.dealt.owns.items) row.items) l.tokens-iterator.rest.items;
  bag : (h : Node → ℕ) → (own_put h l.owns.items ≡ own_put h l.fn.dealt.owns.items)
      × (own_took h l.owns.items + weigh (λ row. stolen_weight h row.items) l.tokens-iterator.rest.items ≡ own_took h l.fn.dealt.owns.items + weigh (λ row. stolen_weight h row.items) l.fn.dealt.rows.items);
}
