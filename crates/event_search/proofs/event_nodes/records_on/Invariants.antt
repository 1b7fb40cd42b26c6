use Rattle.std.proofs.Common.{◌≡◌, map, take}
use Rattle.zero_one_rows.specs.Variables.{Voyage}
use Rattle.certificate.specs.Entries.{entry_of}
use Rattle.search_core.specs.Told.{told}
use Rattle.event_search.specs.Nodes.{entry_in}
use Rattle.event_search.proofs.event_nodes.records_on.Given as goal

abbrev pub invariant-loop-k : goal.invariant-loop-k
invariant-loop-k l = (m : Voyage) → map (entry_of m) l.records ≡ map (entry_in (told (entry_of m) l.ended)) (take l.k l.way)
