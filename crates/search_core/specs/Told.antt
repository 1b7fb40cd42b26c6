-- The machine's nodes and records, as they stand behind the keys of nodes.
use Rattle.std.specs.Prelude.{ℕ, suc, ◌<◌, List, [], ◌∷◌, ◌++◌, map, length, slice_index_or, Option, Some, None, option_map}
use Rattle.proof_trees.specs.Trees.{Entry}
use Rattle.search_core.specs.Bags.{Every}
use Rattle.search_core.specs.Journals.{nothing_done}
use Rattle.search_core.specs.Machine.{Node, Worker, State, StateOver, Handled, root_node, half_node, handled}
use Rattle.search_core.specs.declared.node_keys.NodeKey.{NodeKey}
use Rattle.search_core.specs.declared.node_keys.NodeKey.TheVariants.{Root, Half}
use Rattle.search_core.specs.declared.records.Done.{Done}

module _ {R : Type 0} where
  -- the ended node with this number
  abbrev pub ended_at : List (Handled R) → ℕ → Handled R
  ended_at hs k = slice_index_or hs k (handled root_node nothing_done)

  -- the node of a key, by the ended ones
  abbrev pub node_of : List (Handled R) → NodeKey → Node R
  node_of hs Root = root_node
  node_of hs (Half k y) = half_node (ended_at hs k).node (ended_at hs k).entry y

-- `entry` tells what ended a node as an entry of a proof tree
module _ {T R : Type 0} (entry : T → Entry R) where
  -- the ended nodes with their entries; a key is read by those before it
  abbrev pub told_from : List (Handled R) → List (Done T) → List (Handled R)
  told_from hs [] = hs
  told_from hs (d ∷ ds) = told_from (hs ++ handled (node_of hs d.node) (entry d.entry) ∷ []) ds

  abbrev pub told : List (Done T) → List (Handled R)
  told ds = told_from [] ds

-- the key names the root or a half of one of the first so many ended nodes
abbrev pub InTable : ℕ → NodeKey → Type 0
InTable n Root = Unit {0}
InTable n (Half k y) = k < n

abbrev pub HandIn : ℕ → Option NodeKey → Type 0
HandIn n None = Unit {0}
HandIn n (Some k) = InTable n k

abbrev pub WorkerIn : ℕ → Worker NodeKey → Type 0
WorkerIn n w = Every (InTable n) w.deque × HandIn n w.hand × Every (InTable n) w.made

-- the first key names the root or a half of one of so many ended nodes, the next of one more, and so on
abbrev pub AreEarlier : {T : Type 0} → ℕ → List (Done T) → Type 0
AreEarlier n [] = Unit {0}
AreEarlier n (d ∷ ds) = InTable n d.node × AreEarlier (suc n) ds

-- each ended key names the root or a half of a node that was ended before
abbrev pub NameEarlier : {T : Type 0} → List (Done T) → Type 0
NameEarlier ds = AreEarlier 0 ds

-- each key that a worker has, or that was left, names a node
pub record KeysStand {D : Type 0} (c : StateOver NodeKey D) : Type 0 where
  pub workers : Every (WorkerIn (length c.ended)) c.workers
  pub left : Every (InTable (length c.ended)) c.left

-- a worker with other nodes
abbrev pub worker_as : {N M : Type 0} → (N → M) → Worker N → Worker M
worker_as f w = record { deque = map f w.deque; hand = option_map f w.hand; made = map f w.made; seen = w.seen; ticket = w.ticket }

-- a state with other nodes, and these as what ended nodes
abbrev pub state_as : {N M G H : Type 0} → (N → M) → List H → StateOver N G → StateOver M H
state_as f hs c = record { workers = map (worker_as f) c.workers; start = c.start; budget = c.budget; word = c.word; drawn = c.drawn; left = map f c.left; ended = hs }

-- the state of the machine that keys stand for
abbrev pub state_of : {T R : Type 0} → (T → Entry R) → StateOver NodeKey (Done T) → State R
state_of entry c = state_as (node_of (told entry c.ended)) (told entry c.ended) c
