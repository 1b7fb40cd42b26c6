-- A search as a machine: its state, the events that it accepts, and the rule that every event keeps.
use Rattle.std.specs.Prelude.{◌≡◌, ℕ, zero, suc, ◌+◌, ◌-◌, ◌<◌, ◌≤◌, ◌⊎◌, Bool, true, false, not, cond, nat_le, ◌&&◌, List, [], ◌∷◌, ◌++◌, length, replicate, slice_index_or, slice_set, Option, Some, None, ℤ, pos, negsuc, ◌≤ℤ◌, ◌<ℤ◌}
use Rattle.proof_trees.specs.Program.{Program, cost_of, Meets, Solution}
use Rattle.proof_trees.specs.Boxes.{Box, at, Inside, violated}
use Rattle.proof_trees.specs.Multipliers.{Multipliers, Closes}
use Rattle.proof_trees.specs.Trees.{End, Leaf, Left, Branch, Entry, Pending, root}
use Rattle.search_core.specs.Bags.{weigh, Every, In}
use Rattle.search_core.specs.Journals.{Path, Placed, box_after, multipliers_after, child, after, NamesRows}

-- a node of the search: its path from the root, and the records above it, the root's first
pub record Node (R : Type 0) : Type 0 where
  pub path : Path
  pub trail : List (Entry R)

-- a record that ended a node, with that node
pub record Handled (R : Type 0) : Type 0 where
  pub node : Node R
  pub entry : Entry R

-- What one worker has: its deque, whose last node is popped and whose first one is stolen; the node in its hand; the children that aren't pushed yet; the value that it saw last; and whether the node in hand has a ticket.
pub record Worker (N : Type 0) : Type 0 where
  pub deque : List N
  pub hand : Option N
  pub made : List N
  pub seen : Option ℕ
  pub ticket : Bool

-- The state of a search over nodes N, with what ended nodes as H. `word` is the best value so far; `drawn` counts the tickets that were drawn, also those past the budget, whose nodes are in `left`; `ended` has what ended nodes, in the order of events.
pub record StateOver (N H : Type 0) : Type 0 where
  pub workers : List (Worker N)
  pub start : ℕ
  pub budget : ℕ
  pub word : ℕ
  pub drawn : ℕ
  pub left : List N
  pub ended : List H

-- nodes with their paths and records, and each ended node with its record
abbrev pub State : Type 0 → Type 0
State R = StateOver (Node R) (Handled R)

-- What a worker does, by its number: it pushes a child, pops a node of its own, steals one of another's, looks at the word, offers a leaf's price, draws a ticket, closes a leaf, or divides a node by a branch.
pub data Event (R : Type 0) : Type 0 where
  Push : ℕ → Event R
  Pop : ℕ → Event R
  Steal : ℕ → ℕ → Event R
  Load : ℕ → Event R
  Offer : ℕ → Entry R → Event R
  Draw : ℕ → Event R
  Close : ℕ → Entry R → Event R
  Divide : ℕ → Entry R → Event R

abbrev pub root_node : {R : Type 0} → Node R
root_node = record { path = []; trail = [] }

-- a worker that has nothing
abbrev pub idle : {N : Type 0} → Worker N
idle = record { deque = []; hand = None; made = []; seen = None; ticket = false }

-- the worker has the node
abbrev pub Holds : {N : Type 0} → Worker N → N → Type 0
Holds w n = In n w.deque ⊎ (w.hand ≡ Some n) ⊎ In n w.made

-- 1 where the node in hand has a ticket
abbrev pub ticket_of : {N : Type 0} → Worker N → ℕ
ticket_of w = cond w.ticket 1 0

-- a child of a node that the record divides, at the branch's value
abbrev pub half_node : {R : Type 0} → Node R → Entry R → Bool → Node R
half_node n e y = record { path = n.path ++ y ∷ []; trail = n.trail ++ e ∷ [] }

abbrev pub handled : {R : Type 0} → Node R → Entry R → Handled R
handled n e = record { node = n; entry = e }

-- a record at its node's path, as journals have it
abbrev pub at_its_path : {R : Type 0} → Handled R → Placed R
at_its_path e = record { path = e.node.path; entry = e.entry }

abbrev pub placed : {R : Type 0} → Node R → Entry R → Placed R
placed n e = record { path = n.path; entry = e }

-- the first state: so many workers, of whom the first has this node in its deque
abbrev pub begin_with : {N H : Type 0} → N → ℕ → ℕ → ℕ → StateOver N H
begin_with first workers start budget = record {
  workers = slice_set (replicate workers idle) 0 (record { deque = first ∷ []; hand = None; made = []; seen = None; ticket = false });
  start = start;
  budget = budget;
  word = start;
  drawn = 0;
  left = [];
  ended = [];
}

abbrev pub begin : {R : Type 0} → ℕ → ℕ → ℕ → State R
begin workers start budget = begin_with root_node workers start budget

module _ {N H : Type 0} where
  abbrev pub worker : StateOver N H → ℕ → Worker N
  worker c i = slice_index_or c.workers i idle

  abbrev pub with_worker : StateOver N H → ℕ → Worker N → StateOver N H
  with_worker c i w = record c { workers = slice_set c.workers i w }

  abbrev pub IsWorker : StateOver N H → ℕ → Type 0
  IsWorker c i = i < length c.workers

  -- it may take a node: its hand is empty, and every child is pushed
  abbrev pub HandFree : StateOver N H → ℕ → Type 0
  HandFree c i = ((worker c i).hand ≡ None) × ((worker c i).made ≡ [])

  -- the worker has the node in its hand
  abbrev pub takes : StateOver N H → ℕ → N → StateOver N H
  takes c i n = with_worker c i (record (worker c i) { hand = Some n })

  -- a worker has the node, or it was left
  abbrev pub IsOpen : StateOver N H → N → Type 0
  IsOpen c n = ((i : ℕ) × Holds (worker c i) n) ⊎ In n c.left

-- ## Full boxes

abbrev pub bit_of : Option Bool → Bool
bit_of None = false
bit_of (Some y) = y

abbrev pub is_fixed : Option Bool → Bool
is_fixed None = false
is_fixed (Some y) = true

-- the first n variables are fixed
abbrev pub fixed_below : ℕ → Box → Bool
fixed_below zero b = true
fixed_below (suc n) b = is_fixed (at b n) && fixed_below n b

-- a number that isn't negative; 0 for others
abbrev pub nat_of : ℤ → ℕ
nat_of (pos n) = n
nat_of (negsuc n) = 0

abbrev pub lesser : ℕ → ℕ → ℕ
lesser a b = cond (nat_le a b) a b

module _ {R : Type 0} (p : Program R) where
  -- the assignment of a full box
  abbrev pub bits : Box → ℕ → Bool
  bits b v = bit_of (at b v)

  -- the cost of what a full box has
  abbrev pub price : Box → ℕ
  price b = nat_of (cost_of p (bits b))

  -- none of the rows is violated
  abbrev pub breaks_none : List R → Box → Bool
  breaks_none [] b = true
  breaks_none (r ∷ rs) b = not (violated p b r) && breaks_none rs b

  -- no cost is negative
  abbrev pub NoneNegative : Type 0
  NoneNegative = (v : ℕ) → v < p.vars → pos 0 ≤ℤ p.cost v

  -- the end is a branch by a variable that is free in the box
  abbrev pub Divides : Box → End → Type 0
  Divides b Leaf = ⊥
  Divides b Left = ⊥
  Divides b (Branch v) = (v < p.vars) × (at b v ≡ None)

module _ {R : Type 0} (p : Program R) (base : List R) where
  -- each variable is fixed, and no base row is violated
  abbrev pub is_full : Box → Bool
  is_full b = fixed_below p.vars b && breaks_none p base b

  -- what meets the base rows meets all rows
  abbrev pub BaseSolves : Type 0
  BaseSolves = (x : ℕ → Bool) → Every (Meets p x) base → Solution p x

-- ## Nodes and records

module _ {R : Type 0} (same : R → R → Bool) (p : Program R) where
  -- with what a node begins
  abbrev pub begins : Node R → Pending R
  begins n = after same p (root p) n.path n.trail

  -- each row named is one of the program, and no multiplier leaves its range
  abbrev pub IsEntry : Pending R → Entry R → Type 0
  IsEntry q e = NamesRows same p e × ((ms : Multipliers R) × (multipliers_after same p q e ≡ Some ms))

  -- one record for each branch of the path, each of which divided its box
  abbrev pub IsTrail : Pending R → Path → List (Entry R) → Type 0
  IsTrail q [] [] = Unit {0}
  IsTrail q [] (e ∷ es) = ⊥
  IsTrail q (y ∷ path) [] = ⊥
  IsTrail q (y ∷ path) (e ∷ es) = IsEntry q e × Divides p (box_after same p q e) e.end × IsTrail (child same p q e y) path es

-- ## Events, each with the state before and the one after

module _ {N H : Type 0} where
  -- the first child that isn't pushed goes to the back of the deque
  abbrev pub Pushes : StateOver N H → ℕ → StateOver N H → Type 0
  Pushes c i d = IsWorker c i
      × ((n : N) × (rest : List N) × ((worker c i).made ≡ n ∷ rest)
      × (d ≡ with_worker c i (record (worker c i) { made = rest; deque = (worker c i).deque ++ n ∷ [] })))

  -- the last node of the deque goes into the hand
  abbrev pub Pops : StateOver N H → ℕ → StateOver N H → Type 0
  Pops c i d = IsWorker c i × HandFree c i
      × ((n : N) × (rest : List N) × ((worker c i).deque ≡ rest ++ n ∷ [])
      × (d ≡ with_worker c i (record (worker c i) { deque = rest; hand = Some n })))

  -- the first node of the victim's deque goes into the hand
  abbrev pub Steals : StateOver N H → ℕ → ℕ → StateOver N H → Type 0
  Steals c i victim d = IsWorker c i × IsWorker c victim × HandFree c i
      × ((n : N) × (rest : List N) × ((worker c victim).deque ≡ n ∷ rest)
      × (d ≡ takes (with_worker c victim (record (worker c victim) { deque = rest })) i n))

  -- the worker sees the word
  abbrev pub Loads : StateOver N H → ℕ → StateOver N H → Type 0
  Loads c i d = IsWorker c i × (d ≡ with_worker c i (record (worker c i) { seen = Some c.word }))

  -- the node in hand has a ticket; past the budget it is left
  abbrev pub Draws : StateOver N H → ℕ → StateOver N H → Type 0
  Draws c i d = IsWorker c i
      × ((n : N) × ((worker c i).hand ≡ Some n) × ((worker c i).ticket ≡ false)
      × (((c.drawn < c.budget) × (d ≡ with_worker (record c { drawn = c.drawn + 1 }) i (record (worker c i) { ticket = true })))
      ⊎ ((c.budget ≤ c.drawn) × (d ≡ with_worker (record c { drawn = c.drawn + 1; left = c.left ++ n ∷ [] }) i (record (worker c i) { hand = None })))))

module _ {R : Type 0} (same : R → R → Bool) (p : Program R) where
  -- a leaf that closes at the value seen ends the node in hand
  abbrev pub ClosesHand : State R → ℕ → Entry R → State R → Type 0
  ClosesHand c i e d = IsWorker c i
      × ((n : Node R) × (seen : ℕ) × (ms : Multipliers R) × ((worker c i).hand ≡ Some n) × ((worker c i).ticket ≡ true) × ((worker c i).seen ≡ Some seen)
      × NamesRows same p e × (multipliers_after same p (begins same p n) e ≡ Some ms) × (e.end ≡ Leaf) × Closes p (box_after same p (begins same p n) e) ms seen
      × (d ≡ with_worker (record c { ended = c.ended ++ handled n e ∷ [] }) i (record (worker c i) { hand = None; ticket = false })))

  -- a branch ends the node in hand; its children wait to be pushed, the one with value 1 first
  abbrev pub DividesHand : State R → ℕ → Entry R → State R → Type 0
  DividesHand c i e d = IsWorker c i
      × ((n : Node R) × ((worker c i).hand ≡ Some n) × ((worker c i).ticket ≡ true) × IsEntry same p (begins same p n) e × Divides p (box_after same p (begins same p n) e) e.end
      × (d ≡ with_worker (record c { ended = c.ended ++ handled n e ∷ [] }) i (record (worker c i) { hand = None; ticket = false; made = (worker c i).made ++ half_node n e true ∷ half_node n e false ∷ [] })))

module _ {R : Type 0} (same : R → R → Bool) (p : Program R) (base : List R) where
  -- the word becomes the lesser of itself and the price of a leaf's full box
  abbrev pub Offers : State R → ℕ → Entry R → State R → Type 0
  Offers c i e d = IsWorker c i
      × ((n : Node R) × ((worker c i).hand ≡ Some n) × ((worker c i).ticket ≡ true) × IsEntry same p (begins same p n) e × (e.end ≡ Leaf)
      × (is_full p base (box_after same p (begins same p n) e) ≡ true)
      × (d ≡ record c { word = lesser c.word (price p (box_after same p (begins same p n) e)) }))

  -- the event is accepted, and the state is then `d`
  abbrev pub Accepts : State R → Event R → State R → Type 0
  Accepts c (Push i) d = Pushes c i d
  Accepts c (Pop i) d = Pops c i d
  Accepts c (Steal i victim) d = Steals c i victim d
  Accepts c (Load i) d = Loads c i d
  Accepts c (Offer i e) d = Offers c i e d
  Accepts c (Draw i) d = Draws c i d
  Accepts c (Close i e) d = ClosesHand same p c i e d
  Accepts c (Divide i e) d = DividesHand same p c i e d

  -- all events, in order
  abbrev pub Runs : State R → List (Event R) → State R → Type 0
  Runs c [] d = c ≡ d
  Runs c (event ∷ events) d = (m : State R) × Accepts c event m × Runs m events d

-- ## The rule

module _ {R : Type 0} (same : R → R → Bool) (p : Program R) where
  -- each solution cheaper than the word lies in the box of an open node
  abbrev pub Cover : State R → Type 0
  Cover c = (x : ℕ → Bool) → Solution p x → cost_of p x <ℤ pos c.word → (n : Node R) × IsOpen c n × Inside p (begins same p n).box x

  -- The rule of the machine. Every solution cheaper than the word lies in an open node's box; each seen value is at least the word; the word is the start or the cost of a solution; each open node's records are a trail; ended nodes and tickets in hand are as many as tickets within the budget were drawn; and left nodes are as many as were drawn past it.
  pub record ObeysRule (c : State R) : Type 0 where
    pub cover : Cover c
    pub seen : (i u : ℕ) → (worker c i).seen ≡ Some u → c.word ≤ u
    pub word : (c.word ≡ c.start) ⊎ ((x : ℕ → Bool) × Solution p x × (cost_of p x ≡ pos c.word))
    pub trails : (n : Node R) → IsOpen c n → IsTrail same p (root p) n.path n.trail
    pub tickets : length c.ended + weigh ticket_of c.workers ≡ lesser c.drawn c.budget
    pub left : length c.left ≡ c.drawn - c.budget
