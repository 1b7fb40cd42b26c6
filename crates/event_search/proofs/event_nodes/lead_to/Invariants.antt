use Rattle.std.proofs.Common.{◌≡◌, ◌+◌, ◌<◌, ◌≤◌, length, reverse, All}
use Rattle.std.specs.Prelude.{vec_len, vec_capacity}
use Rattle.zero_one_rows.specs.Variables.{Voyage}
use Rattle.certificate.specs.Entries.{entry_of}
use Rattle.search_core.specs.Told.{told, InTable}
use Rattle.event_search.specs.Cores.{node_at}
use Rattle.event_search.proofs.Ways.{beyond, height}
use Rattle.event_search.proofs.event_nodes.lead_to.Given as goal

abbrev pub invariant-loop-here : goal.invariant-loop-here
invariant-loop-here l = record {
  named : InTable (length l.ended) l.here;
  way : (m : Voyage) → node_at m l.ended l.fn.node ≡ beyond (told (entry_of m) l.ended) (node_at m l.ended l.here) (reverse l.way.items);
  inside : All (λ s. s.entry < length l.ended) l.way.items;
  room : vec_capacity l.way ≡ vec_capacity l.fn.way;
  below : vec_len l.way + height l.here ≤ length l.ended;
}

abbrev pub decreases-loop-here : goal.decreases-loop-here
decreases-loop-here l = height l.here
