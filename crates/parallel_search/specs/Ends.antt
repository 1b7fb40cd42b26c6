-- What all workers brought back.
use Rattle.std.specs.Prelude.{◌≡◌, ℕ, ◌+◌, ◌<◌, ◌≤◌, Bool, true, false, List, [], ◌∷◌, length, Option, Some, None}
use Rattle.stow_data.specs.Shipment.{IsCargo, most_cost}
use Rattle.zero_one_rows.specs.Variables.{Voyage}
use Rattle.certificate.specs.declared.nodes.Node.{Node}
use Rattle.certificate.specs.declared.journals.Entry.{Entry}
use Rattle.search_core.specs.Bags.{weigh, Every}
use Rattle.search_core.specs.Journals.{Path}
use Rattle.shared_search.specs.declared.view.View.{View}
use Rattle.shared_search.specs.Rule.{none_yet}
use Rattle.shared_search.specs.Tokens.{BoardToken, SeatToken}
use Rattle.node_ledger.specs.Gathered.{entries}
use Rattle.shared_search.specs.declared.racks.Pass.{Pass}
use Rattle.shared_search.specs.declared.racks.Rack.{Rack}
use Rattle.shared_search.specs.Racks.{IsPassAt, puts_of, room_at, took_weight, put_weight, all_took, all_put}
use Rattle.shared_search.specs.Bags.{Each}
use Rattle.shared_search.specs.declared.tally.Tally.{Tally}
use Rattle.steal_pool.specs.declared.found.Found.{Found}
use Rattle.steal_pool.specs.declared.deeds.Deeds.{Deeds}
use Rattle.steal_pool.specs.declared.deeds.Halves.{Halves}
use Rattle.parallel_search.specs.declared.joining.AllDeeds.{AllDeeds}
use Rattle.parallel_search.specs.declared.joining.Ended.{Ended}
use Rattle.parallel_search.specs.declared.slots.WorkerEnd.{WorkerEnd}
use Rattle.parallel_search.specs.declared.slots.WorkerStart.{WorkerStart}
use Rattle.parallel_search.specs.declared.slots.WorkerSlot.{WorkerSlot}
use Rattle.parallel_search.specs.declared.slots.WorkerSlot.TheVariants.{Given, Done, Empty}
use Rattle.node_solver.specs.Work.{IsNode}
use Rattle.steal_pool.specs.Deeds.{box_of, Weight, Flow, on_nodes, IsDone}
use Rattle.steal_pool.specs.Jobs.{HasOwn, Means, seed}
use Rattle.parallel_search.specs.Starts.{IsUnused}
use Rattle.parallel_search.specs.Tallied.{IsUnder}

-- what workers did, with all journals as one
abbrev pub deeds_of : AllDeeds → Deeds
deeds_of a = record { journal = entries a.journals; left = a.left; best = a.best }

-- the halves of a node, in the order in which they are put
abbrev pub halves_in : Option Halves → List Node
halves_in None = []
halves_in (Some b) = b.zero ∷ b.one ∷ []

-- whether tickets may still be drawn
abbrev pub IsLive : Bool → View → Type 0
IsLive live v = (live ≡ true → v.over ≡ 0) × (live ≡ false → 0 < v.over)

-- what is still to do, of all that was, and what was done
pub record IsRest (m : Voyage) (start : ℕ) (v : View) (pending : ℕ) (all : Flow) (todo : List Node) (d : Deeds) : Type 0 where
  pub nodes : Every (IsNode m) todo
  pub done : IsDone m start v pending d all (λ h. weigh (on_nodes m h) todo)

-- these nodes and records are of some of the first nodes, or below them
pub record AreUnder (first todo : List Node) (journal : List Entry) : Type 0 where
  pub todo_is : Every (λ n. IsUnder first n.path) todo
  pub journal_is : Every (λ e. IsUnder first e.path) journal

-- what was found, with this best value, so many tickets below the budget, and this tally
abbrev pub found_of : ℕ → ℕ → AllDeeds → Tally → Found
found_of best drawn a tally = record { best = best; full = box_of a.best; journals = a.journals; left = a.left; handled = drawn; tally = tally }

-- the owner of the board has taken in each seat that it made
pub record IsJoined (meets : Node → Type 0) (b : BoardToken) (m : Voyage) (o : SeatToken) : Type 0 where
  pub means : Means meets m
  pub cargo : IsCargo m.cargo
  pub low : b.start ≤ most_cost m.cargo + 1
  pub top : b.start ≤ none_yet
  pub board : o.board ≡ b.id
  pub made : o.view.made ≡ o.view.taken
  pub room : o.view.made < 65536

module _ {M : Type 0} where
  abbrev pub pass_of : WorkerEnd M → Pass M
  pass_of k = k.pass

  abbrev pub start_number : {S : Type 0} → WorkerStart M S → ℕ
  start_number p = p.pass.number

  -- what came to the worker with this pass: the root, and the nodes that it took
  abbrev pub came_with : Voyage → Pass M → Weight → ℕ
  came_with m p h = seed h p.number + took_weight (on_nodes m h) p

  -- what went from it: the nodes that it put, and those that its deque refused
  abbrev pub went_with : Voyage → Pass M → List Node → Weight → ℕ
  went_with m p aside h = put_weight (on_nodes m h) p + weigh (on_nodes m h) aside

  -- the worker with this pass put fewer nodes than its deque has room for
  abbrev pub HasPutFew : ℕ → Pass M → Type 0
  HasPutFew room p = length (puts_of p) < room

  -- and where it did, its journal is of nodes that it took
  abbrev pub KeepsOwn : ℕ → Pass M → List Entry → Type 0
  KeepsOwn room p journal = HasPutFew room p → (left : List Path) × ((h : Path → ℕ) → took_weight (λ n. h n.path) p ≡ weigh (λ e. h e.path) journal + weigh h left)

  -- what was brought back is of nodes that its worker took
  abbrev pub BringsOwn : ℕ → WorkerEnd M → Type 0
  BringsOwn room k = HasOwn room [] k.pass k.deeds k.aside.items

  -- each journal is of nodes that its worker took, and nothing is aside where each deque had room
  pub record AreOwn (room : ℕ) (e : Ended M) : Type 0 where
    pub none_aside : Every (HasPutFew room) e.passes.items → e.aside.items ≡ []
    pub kept : Each (KeepsOwn room) e.passes.items e.all.journals

  -- what a worker of the program's search is given, before it has handled a node
  pub record IsWorkerStart {S : Type 0} (meets : Node → Type 0) (r : Rack M) (b : BoardToken) (m : Voyage) (p : WorkerStart M S) : Type 0 where
    pub means : Means meets m
    pub cargo : IsCargo m.cargo
    pub low : b.start ≤ most_cost m.cargo + 1
    pub top : b.start ≤ none_yet
    pub solver : p.solver ≡ m
    pub pass : IsPassAt r p.pass
    pub board : p.seat.board ≡ b.id
    pub unused : IsUnused b.start p.seat.view
    pub aside : Every meets p.aside.items
    pub bag : (h : Weight) → came_with m p.pass h ≡ went_with m p.pass p.aside.items h
    pub took : (h : Node → ℕ) → took_weight h p.pass ≡ 0
    pub none_aside : HasPutFew (room_at r) p.pass → p.aside.items ≡ []

  -- what came to the workers with these passes: the root, and the nodes that they took
  abbrev pub came_to_all : Voyage → List (Pass M) → Weight → ℕ
  came_to_all m ps h = weigh (λ p. seed h p.number) ps + all_took (on_nodes m h) ps

  -- what went from them
  abbrev pub went_from_all : Voyage → Ended M → Weight → ℕ
  went_from_all m e h = all_put (on_nodes m h) e.passes.items + weigh (on_nodes m h) e.aside.items

  -- what a worker brought back
  pub record IsWorkerEnd (meets : Node → Type 0) (b : BoardToken) (m : Voyage) (k : WorkerEnd M) : Type 0 where
    pub aside : Every meets k.aside.items
    pub done : IsDone m b.start k.seat.view 0 k.deeds (came_with m k.pass) (went_with m k.pass k.aside.items)

  -- and what it was given is among it
  pub record IsReturned {S : Type 0} (meets : Node → Type 0) (r : Rack M) (b : BoardToken) (m : Voyage) (p : WorkerStart M S) (k : WorkerEnd M) : Type 0 where
    pub worker_end : IsWorkerEnd meets b m k
    pub pass : IsPassAt r k.pass
    pub number : k.pass.number ≡ p.pass.number
    pub board : k.seat.board ≡ b.id
    pub own : BringsOwn (room_at r) k

  -- a slot in which a worker is given what it begins with
  abbrev pub IsGiven : {S : Type 0} → (meets : Node → Type 0) (r : Rack M) (b : BoardToken) (m : Voyage) → WorkerSlot M S → Type 0
  IsGiven meets r b m (Given p) = IsWorkerStart meets r b m p
  IsGiven meets r b m (Done k) = ⊥
  IsGiven meets r b m Empty = ⊥

  -- and how its worker leaves it: with what it brings back, or empty
  abbrev pub Brings : {S : Type 0} → (meets : Node → Type 0) (r : Rack M) (b : BoardToken) (m : Voyage) → WorkerSlot M S → WorkerSlot M S → Type 0
  Brings meets r b m (Given p) (Given q) = ⊥
  Brings meets r b m (Given p) (Done k) = IsReturned meets r b m p k
  Brings meets r b m (Given p) Empty = Unit {0}
  Brings meets r b m (Done k) slot = ⊥
  Brings meets r b m Empty slot = ⊥

  -- what was brought back fits what the owner of the board knows
  pub record IsEnd (meets : Node → Type 0) (b : BoardToken) (m : Voyage) (v : View) (e : Ended M) : Type 0 where
    pub aside : Every meets e.aside.items
    pub done : IsDone m b.start v 0 (deeds_of e.all) (came_to_all m e.passes.items) (went_from_all m e)
