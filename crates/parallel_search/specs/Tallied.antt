-- What the journals of a search and the tally of its rack tell of each other.
use Rattle.std.specs.Prelude.{◌≡◌, ℕ, ◌+◌, ◌<◌, List, [], ◌∷◌, ◌++◌, length}
use Rattle.certificate.specs.declared.nodes.Node.{Node}
use Rattle.certificate.specs.declared.journals.Entry.{Entry}
use Rattle.search_core.specs.Bags.{weigh, Every, In}
use Rattle.search_core.specs.Journals.{Path}
use Rattle.shared_search.specs.Bags.{Each}
use Rattle.shared_search.specs.Tallies.{workers_of, room_of}
use Rattle.shared_search.specs.declared.tally.Did.{Did}
use Rattle.shared_search.specs.declared.tally.Tally.{Tally}

-- the worker put fewer nodes than its deque has room for, so none was refused
abbrev pub PutsFew : ℕ → Did → Type 0
PutsFew room w = length w.put < room

-- Where none was refused, the nodes that the worker took are, as a bag of paths, those of its journal and some that it left: so each record of the journal is of a node that it took.
abbrev pub HasTaken : ℕ → Did → List Entry → Type 0
HasTaken room w journal = PutsFew room w → (left : List Path) × ((h : Path → ℕ) → weigh (λ n. h n.path) w.took ≡ weigh (λ e. h e.path) journal + weigh h left)

-- the path is that of one of these nodes, or goes on from it
abbrev pub IsUnder : List Node → Path → Type 0
IsUnder nodes path = (n : Node) × (tail : Path) × In n nodes × (path ≡ n.path ++ tail)

-- The nodes that no worker took are, as a bag, what is put and not taken; each of these records is of one of them, or of a node below one.
abbrev pub AreOfRest : List Did → List Entry → Type 0
AreOfRest workers journal = (rest : List Node) × ((h : Node → ℕ) → weigh (λ w. weigh h w.put) workers ≡ weigh (λ w. weigh h w.took) workers + weigh h rest) × Every (λ e. IsUnder rest e.path) journal

-- There is a journal for each worker, in order, and a last one for the caller; and the tally is that of a rack with a deque for each worker and so much room. A worker's journal is of nodes that it took, and where no deque refused a node, the last journal is of nodes that were put and that no worker took, and of nodes below them.
pub record IsTallied (room workers : ℕ) (journals : List (List Entry)) (tally : Tally) : Type 0 where
  pub own : List (List Entry)
  pub last : List Entry
  pub journals_are : journals ≡ own ++ last ∷ []
  pub many : length (workers_of tally) ≡ workers
  pub room_is : room_of tally ≡ room
  pub taken : Each (HasTaken room) (workers_of tally) own
  pub finished : Every (PutsFew room) (workers_of tally) → AreOfRest (workers_of tally) last
