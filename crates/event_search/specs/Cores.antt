-- A search by events: its state, what is kept of it, and what an event answers.
use Rattle.std.specs.Prelude.{◌≡◌, ℕ, ◌+◌, ◌≤◌, true, List, [], length, Some, Result, Ok, Err}
use Rattle.zero_one_rows.specs.declared.program.Row.{Row}
use Rattle.zero_one_rows.specs.Variables.{Voyage}
use Rattle.zero_one_rows.specs.Rows.{whole, CrossingRowsHold}
use Rattle.zero_one_rows.specs.Counted.{base_rows}
use Rattle.certificate.specs.declared.tree.Record.{Record}
use Rattle.certificate.specs.Entries.{same_row, entry_of}
use Rattle.search_core.specs.Machine.{Node, State, StateOver, Event, worker, Accepts, ObeysRule}
use Rattle.search_core.specs.Refusals.{Refuses, Holding}
use Rattle.search_core.specs.declared.refused.Refused.{Refused}
use Rattle.search_core.specs.declared.node_keys.NodeKey.{NodeKey}
use Rattle.search_core.specs.declared.records.Done.{Done}
use Rattle.search_core.specs.Told.{told, node_of, state_of, KeysStand, NameEarlier}
use Rattle.event_search.specs.JudgingEvents.{JudgesClose, JudgesBranch, JudgesOffer}

-- the voyage whose program is searched, the state of the search machine, and how many events it takes at least without memory
pub record Course : Type 0 where
  pub voyage : Voyage
  pub state : State Row
  pub spare : ℕ

-- the node of a key
abbrev pub node_at : Voyage → List (Done Record) → NodeKey → Node Row
node_at m ended key = node_of (told (entry_of m) ended) key

-- the state that workers over keys stand for
abbrev pub state_at : Voyage → StateOver NodeKey (Done Record) → State Row
state_at m c = state_of (entry_of m) c

-- What is kept after every event: keys name nodes; there is room for what is to end; a solution meets the crossing rows; and the rule of the search machine.
pub record IsCore (m : Voyage) (places : ℕ) (c : StateOver NodeKey (Done Record)) (spare : ℕ) : Type 0 where
  pub keys : KeysStand c
  pub earlier : NameEarlier c.ended
  pub fits : length c.ended + spare ≤ places
  pub crossing : CrossingRowsHold m
  pub rule : ObeysRule same_row (whole m) (state_at m c)

-- the machine accepts the event, and one event's room is used at most; or it refuses it with this cause, and all stays as it was
abbrev pub IsAnswer : Course → Event Row → Course → Result (Unit {0}) Refused → Type 0
IsAnswer before event after (Ok u) =
    Accepts same_row (whole before.voyage) (base_rows before.voyage) before.state event after.state × (after.voyage ≡ before.voyage) × (before.spare ≤ after.spare + 1)
IsAnswer before event after (Err cause) = Refuses same_row (whole before.voyage) (base_rows before.voyage) before.state event cause × (after ≡ before)

-- the same of an event with a record, which comes back where the event is refused
abbrev pub IsAnswerTo : Record → Course → Event Row → Course → Result (Unit {0}) (Refused × Record) → Type 0
IsAnswerTo r before event after (Ok u) = IsAnswer before event after (Ok u)
IsAnswerTo r before event after (Err (cause, back)) = IsAnswer before event after (Err cause) × (back ≡ r)

-- ## Records that are judged

-- the worker has the node of this key in its hand, with a ticket, and each child is pushed
pub record IsReady (c : StateOver NodeKey (Done Record)) (i : ℕ) (key : NodeKey) : Type 0 where
  pub holding : Holding c i key true
  pub pushed : (worker c i).made ≡ []

module _ (m : Voyage) (c : StateOver NodeKey (Done Record)) (i : ℕ) (r : Record) where
  -- the record is a leaf that closes the node of this key, which the worker has in its hand, at the value that it saw
  abbrev pub ClosesKey : NodeKey → Type 0
  ClosesKey key = IsReady c i key × ((seen : ℕ) × ((worker c i).seen ≡ Some seen) × JudgesClose m (node_at m c.ended key) (entry_of m r) seen (Ok tt))

  -- it divides the box of that node by a free variable
  abbrev pub BranchesKey : NodeKey → Type 0
  BranchesKey key = IsReady c i key × JudgesBranch m (node_at m c.ended key) (entry_of m r) (Ok tt)

  -- it is a leaf of that node, whose full box has this price
  abbrev pub OffersPrice : ℕ → Type 0
  OffersPrice cost = (key : NodeKey) × IsReady c i key × JudgesOffer m (node_at m c.ended key) (entry_of m r) (Ok cost)
