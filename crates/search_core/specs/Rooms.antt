-- Workers with the room of their deques, and what keeps room for events.
use Rattle.std.specs.Prelude.{◌≡◌, ℕ, ◌-◌, ◌<◌, ◌≤◌, true, false, List, [], ◌∷◌, ◌++◌, length, Option, Some, None, Vec}
use Rattle.std.specs.Vec.{vec_len, vec_capacity}
use Rattle.std.specs.Global.{Global}
use Rattle.search_core.specs.Bags.{Every}
use Rattle.search_core.specs.Machine.{Worker, StateOver, worker, with_worker, IsWorker}
use Rattle.search_core.specs.Refusals.{NoSuchWorker, HandIsEmpty, Holding}
use Rattle.search_core.specs.declared.refused.Refused.{Refused}
use Rattle.search_core.specs.declared.refused.Refused.TheVariants.{NoWorker, HandEmpty, NoTicket}
use Rattle.search_core.specs.declared.node_keys.NodeKey.{NodeKey}
use Rattle.search_core.specs.declared.node_keys.NodeKey.TheVariants.{Half}

-- a worker, and how many nodes its deque takes without memory
pub record Roomy : Type 0 where
  pub worker : Worker NodeKey
  pub room : ℕ

abbrev pub worker_of : Roomy → Worker NodeKey
worker_of s = s.worker

-- where a node is in hand, each child is pushed
abbrev pub Emptied : Option NodeKey → List NodeKey → Type 0
Emptied None made = Unit {0}
Emptied (Some n) made = made ≡ []

-- the state of all workers, and how many events it takes at least without memory
pub record Reserved (D : Type 0) : Type 0 where
  pub state : StateOver NodeKey D
  pub spare : ℕ

-- so many items more take no memory
abbrev pub Takes : {X Z : Type 0} → ℕ → Vec X Z → Type 0
Takes n v = n ≤ vec_capacity v - vec_len v

-- each deque and each list takes so many events; nodes were left only past the budget
pub record HasRoom {D : Type 0} (spare : ℕ) (seats : List Roomy) (drawn budget : ℕ) (left : Vec NodeKey Global) (ended : Vec D Global) : Type 0 where
  pub deques : Every (λ s. spare ≤ s.room) seats
  pub left_list : Takes spare left
  pub ended_list : Takes spare ended
  pub within : drawn ≤ budget
  pub past : drawn < budget → left.items ≡ []

-- the node in hand is ended
abbrev pub EndsHand : {N D : Type 0} → StateOver N D → ℕ → N → D → StateOver N D → Type 0
EndsHand c i n done d = IsWorker c i × ((worker c i).hand ≡ Some n)
    × (d ≡ with_worker (record c { ended = c.ended ++ done ∷ [] }) i (record (worker c i) { hand = None; ticket = false }))

-- the node in hand is ended, and two wait to be pushed
abbrev pub SplitsHand : {N D : Type 0} → StateOver N D → ℕ → N → D → N → N → StateOver N D → Type 0
SplitsHand c i n done first second d = IsWorker c i × ((worker c i).hand ≡ Some n)
    × (d ≡ with_worker (record c { ended = c.ended ++ done ∷ [] }) i (record (worker c i) { hand = None; ticket = false; made = first ∷ second ∷ [] }))

-- the node in hand is ended, and its halves wait to be pushed, the one with value 1 first
abbrev pub HalvesHand : {D : Type 0} → StateOver NodeKey D → ℕ → NodeKey → D → StateOver NodeKey D → Type 0
HalvesHand c i n done d = SplitsHand c i n done (Half (length c.ended) true) (Half (length c.ended) false) d

-- the worker has no node in its hand that has a ticket, for this cause
abbrev pub LacksTicket : {N D : Type 0} → StateOver N D → ℕ → Refused → Type 0
LacksTicket c i NoWorker = NoSuchWorker c i
LacksTicket c i HandEmpty = HandIsEmpty c i
LacksTicket {N} c i NoTicket = (n : N) × Holding c i n false
LacksTicket c i r = ⊥
