-- Nodes in full, by the branches on the way to them.
use Rattle.std.specs.Prelude.{Bool, List, map}
use Rattle.zero_one_rows.specs.declared.program.Row.{Row}
use Rattle.zero_one_rows.specs.Variables.{Voyage}
use Rattle.proof_trees.specs.Trees as trees
use Rattle.certificate.specs.declared.tree.Record.{Record}
use Rattle.certificate.specs.declared.nodes.Node.{Node as Full}
use Rattle.certificate.specs.declared.journals.Entry.{Entry}
use Rattle.certificate.specs.Entries.{entry_of}
use Rattle.search_core.specs.Journals.{Placed}
use Rattle.search_core.specs.Machine.{Node, Handled}
use Rattle.search_core.specs.declared.records.Done.{Done}
use Rattle.search_core.specs.Told.{ended_at, told}
use Rattle.event_search.specs.declared.event_nodes.Step.{Step}
use Rattle.event_search.specs.Cores.{node_at}

abbrev pub value_of : Step → Bool
value_of s = s.value

-- the record that divided the node, where these are the ended ones
abbrev pub entry_in : List (Handled Row) → Step → trees.Entry Row
entry_in hs s = (ended_at hs s.entry).entry

-- the node at the end of these branches, the root's first
abbrev pub along : Voyage → List (Done Record) → List Step → Node Row
along m ended way = record { path = map value_of way; trail = map (entry_in (told (entry_of m) ended)) way }

-- a node with its records over the program's numbered variables
abbrev pub told_node : Voyage → Full → Node Row
told_node m n = record { path = n.path; trail = map (entry_of m) n.trail }

-- a journal's entry over the program's numbered variables
abbrev pub placed : Voyage → Entry → Placed Row
placed m e = record { path = e.path; entry = entry_of m e.record_of }

-- an ended node's path, and the record that ended it
abbrev pub told_entry : Voyage → List (Done Record) → Done Record → Placed Row
told_entry m ended d = record { path = (node_at m ended d.node).path; entry = entry_of m d.entry }
