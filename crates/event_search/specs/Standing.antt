-- Where a node stands, by the branches on the way to it.
use Rattle.std.specs.Prelude.{◌<◌, All, List, length}
use Rattle.zero_one_rows.specs.declared.program.Row.{Row}
use Rattle.zero_one_rows.specs.Variables.{Voyage}
use Rattle.zero_one_rows.specs.Rows.{whole}
use Rattle.proof_trees.specs.Multipliers.{Multipliers}
use Rattle.proof_trees.specs.Trees.{Pending, begun}
use Rattle.certificate.specs.declared.tree.Record.{Record}
use Rattle.certificate.specs.Entries.{same_row}
use Rattle.search_core.specs.Machine.{begins}
use Rattle.search_core.specs.declared.records.Done.{Done}
use Rattle.search_core.specs.Told.{NameEarlier}
use Rattle.event_search.specs.declared.event_nodes.Step.{Step}
use Rattle.event_search.specs.JudgingEvents.{HasTrail}
use Rattle.event_search.specs.Nodes.{along}

module _ (m : Voyage) (ended : List (Done Record)) (way : List Step) where
  -- the box and the multipliers with which the node at the end of the way begins
  abbrev pub standing : Pending Row
  standing = begins same_row (whole m) (along m ended way)

  -- the multipliers with which a record at the node begins
  abbrev pub begun_there : Record → Multipliers Row
  begun_there e = begun e.from_zero standing.multipliers

  -- the way leads by records of ended nodes, which are a trail
  pub record IsWay : Type 0 where
    pub earlier : NameEarlier ended
    pub inside : All (λ s. s.entry < length ended) way
    pub trail : HasTrail m (along m ended way)
