-- When a judge may judge.
use Rattle.std.specs.Prelude.{◌≡◌, ◌≤◌, ℕ, List, length}
use Rattle.zero_one_rows.specs.Variables.{Voyage, variables}
use Rattle.certificate.specs.declared.tree.Record.{Record}
use Rattle.search_core.specs.declared.records.Done.{Done}
use Rattle.search_core.specs.declared.node_keys.NodeKey.{NodeKey}
use Rattle.search_core.specs.Told.{InTable, NameEarlier}
use Rattle.event_search.specs.declared.event_nodes.Step.{Step}
use Rattle.event_search.specs.Cores.{node_at}
use Rattle.event_search.specs.JudgingEvents.{HasTrail}
use Rattle.zero_one_rows.specs.declared.program.Row.{Row}
use Rattle.proof_trees.specs.Multipliers.{Multipliers}
use Rattle.event_search.specs.Counting.{IsSized, Tallies, Leads}
use Rattle.event_search.specs.Standing.{begun_there, IsWay}
use Rattle.event_search.specs.declared.tally.Tally.{Tally}
use Rattle.event_search.specs.declared.judge_state.JudgeState.{JudgeState}

module _ (m : Voyage) where
  -- the judge's state has a box of the program's variables, and a tally of its rows
  pub record IsReady (d : JudgeState) : Type 0 where
    pub box : length d.b ≡ length (variables m)
    pub tally : IsSized m d.tally

  -- the judge's state is ready, and the way leads by records of ended nodes, which are a trail
  pub record IsAt (d : JudgeState) (ended : List (Done Record)) (way : List Step) : Type 0 where
    pub ready : IsReady d
    pub leads : IsWay m ended way

  -- the judge's state is ready, there is room for the way to the node, and the key and the ended nodes tell a node with a trail
  pub record IsTold (d : JudgeState) (room : ℕ) (ended : List (Done Record)) (node : NodeKey) : Type 0 where
    pub ready : IsReady d
    pub enough : length ended ≤ room
    pub earlier : NameEarlier ended
    pub named : InTable (length ended) node
    pub trail : HasTrail m (node_at m ended node)

  -- the judge's state is ready again, and the room is as it was
  pub record Stays (old new : ℕ) (d : JudgeState) : Type 0 where
    pub ready : IsReady d
    pub room : new ≡ old

  -- the tally is that of the multipliers after a record at the end of the way
  abbrev pub TalliesAfter : List (Done Record) → List Step → Record → Tally → Type 0
  TalliesAfter ended way e t = (ns : Multipliers Row) → Leads (begun_there m ended way e) e.raises ns → Tallies m ns t
