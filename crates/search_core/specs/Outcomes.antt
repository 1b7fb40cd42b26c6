-- What a search ends with: records with the nodes that they ended, and nodes that were left.
use Rattle.std.specs.Prelude.{◌≡◌, ℕ, ◌+◌, ◌<◌, ◌≤◌, ◌⊎◌, length, Bool, true, false, cond, List, [], map, Option, Some, None}
use Rattle.proof_trees.specs.Program.{Program}
use Rattle.proof_trees.specs.Boxes.{Box}
use Rattle.proof_trees.specs.Trees.{Leaf, Proves}
use Rattle.search_core.specs.Bags.{weigh, Every, In}
use Rattle.search_core.specs.Journals.{Path, Placed, branches, is_left, all_nodes, Whole, Tree, preorder, Gathers, box_after, Anything, Allowed, Settled}
use Rattle.search_core.specs.Machine.{Node, Worker, State, Handled, at_its_path, root_node, half_node, price, is_full, begins}
use Rattle.search_core.specs.Replays.{Replays}

abbrev pub path_of : {R : Type 0} → Node R → Path
path_of n = n.path

-- the weights of both children, where the record divides its box
abbrev pub children : {R : Type 0} → (Node R → ℕ) → Handled R → ℕ
children h e = cond (branches e.entry.end) (h (half_node e.node e.entry true) + h (half_node e.node e.entry false)) 0

-- the nodes of the entries and those left are, as a bag, the root and both children of each entry that branches
pub record WholeNodes {R : Type 0} (entries : List (Handled R)) (left : List (Node R)) : Type 0 where
  pub ended : Every (λ e. is_left e.entry.end ≡ false) entries
  pub bag : (h : Node R → ℕ) → weigh (λ e. h e.node) entries + weigh h left ≡ h root_node + weigh (children h) entries

-- all nodes at their paths
abbrev pub nodes_of : {R : Type 0} → List (Handled R) → List (Node R) → List (Placed R)
nodes_of entries left = all_nodes (map at_its_path entries) (map path_of left)

-- the test tells whether two are the same
abbrev pub Tells : {A : Type 0} → (A → A → Bool) → Type 0
Tells {A} alike = (a b : A) → (alike a b ≡ true → a ≡ b) × (a ≡ b → alike a b ≡ true)

-- each record is one that the rules of proof trees allow below the records of its node
abbrev pub EachHandled : {R : Type 0} → (R → R → Bool) → Program R → ℕ → List (Handled R) → Type 0
EachHandled same p bound entries = Every (λ e. Allowed same p Anything bound (begins same p e.node) e.entry) entries

-- ## Of a state of the machine

abbrev pub weigh_hand : {R : Type 0} → (Node R → ℕ) → Option (Node R) → ℕ
weigh_hand h None = 0
weigh_hand h (Some n) = h n

-- what a worker has, weighed
abbrev pub held : {R : Type 0} → (Node R → ℕ) → Worker (Node R) → ℕ
held h w = weigh h w.deque + (weigh_hand h w.hand + weigh h w.made)

-- nothing waits with any worker
abbrev pub HoldsNothing : {R : Type 0} → Worker (Node R) → Type 0
HoldsNothing w = (w.deque ≡ []) × (w.hand ≡ None) × (w.made ≡ [])

-- each ended entry is allowed at the word; its node and the open ones are, as a bag, the root and the children of ended entries
pub record Traces {R : Type 0} (same : R → R → Bool) (p : Program R) (c : State R) : Type 0 where
  pub ended : Every (λ e. is_left e.entry.end ≡ false) c.ended
  pub bag : (h : Node R → ℕ) → weigh (λ e. h e.node) c.ended + (weigh (held h) c.workers + weigh h c.left) ≡ h root_node + weigh (children h) c.ended
  pub allowed : EachHandled same p c.word c.ended

-- ## What workers know together

module _ {R : Type 0} (same : R → R → Bool) (p : Program R) where
  -- the box of an entry after its steps
  abbrev pub box_at : Handled R → Box
  box_at e = box_after same p (begins same p e.node) e.entry

module _ {R : Type 0} (same : R → R → Bool) (p : Program R) (base : List R) where
  -- the nodes are whole; each entry is allowed at a value that is at least the best; the best is the start or a full leaf's price; and the budget is kept, and used up where a node is left
  pub record Searched (entries : List (Handled R)) (left : List (Node R)) (start budget best : ℕ) : Type 0 where
    pub nodes : WholeNodes entries left
    pub allowed : Every (λ e. (value : ℕ) × (best ≤ value) × Allowed same p Anything value (begins same p e.node) e.entry) entries
    pub most : best ≤ start
    pub from : (best ≡ start) ⊎ ((e : Handled R) × In e entries × (e.entry.end ≡ Leaf) × (is_full p base (box_at same p e) ≡ true) × (price p (box_at same p e) ≡ best))
    pub within : length entries ≤ budget
    pub used : 0 < length left → length entries ≡ budget

  -- the journals are one tree, which is settled at the best value and proves it where no node is left; and they are the outcome of a replay
  pub record Founded (entries : List (Handled R)) (left : List (Node R)) (start budget best : ℕ) : Type 0 where
    pub whole : Whole (map at_its_path entries) (map path_of left)
    pub tree : Tree R
    pub gathers : Gathers (nodes_of entries left) tree
    pub settled : Settled same p (preorder tree) best
    pub proved : left ≡ [] → Proves same p (preorder tree) best
    pub replays : Replays same p base (map at_its_path entries) (map path_of left) start budget best
