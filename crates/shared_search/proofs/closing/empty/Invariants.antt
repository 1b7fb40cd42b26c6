use Rattle.std.proofs.Common.{◌≡◌, ◌+◌, ℕ}
use Rattle.certificate.specs.declared.nodes.Node.{Node}
use Rattle.search_core.specs.Bags.{weigh, Every}
use Rattle.shared_search.specs.Rounds.{IsHeld, own_put, own_took}
use Rattle.shared_search.proofs.closing.empty.Given as goal

abbrev pub invariant-loop-own : goal.invariant-loop-own
invariant-loop-own g l = record {
  rest : Every (IsHeld 1024) l.own-iterator.rest.items;
  meets : Every g.M.Wanted.meets l.all.items;
  bag : (h : Node → ℕ) → own_put h l.fn.owns.items + own_took h l.own-iterator.rest.items ≡ own_took h l.fn.owns.items + weigh h l.all.items + own_put h l.own-iterator.rest.items;
}
