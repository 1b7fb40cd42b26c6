-- The replay of a tree of records: one list of events, with a worker for each node. It isn't the order in which things happened in time.
use Rattle.std.specs.Prelude.{◌≡◌, ℕ, zero, suc, ◌+◌, ◌<◌, ◌≤◌, ◌⊎◌, Bool, true, false, cond, List, [], ◌∷◌, ◌++◌, length}
use Rattle.proof_trees.specs.Program.{Program}
use Rattle.proof_trees.specs.Boxes.{Box}
use Rattle.proof_trees.specs.Trees.{End, Leaf, Left, Branch, Entry, root}
use Rattle.search_core.specs.Bags.{weigh, Every, In}
use Rattle.search_core.specs.Journals.{Path, Placed, Tree, Tip, Fork, trail, all_nodes, box_after, after}
use Rattle.search_core.specs.Machine.{Node, at_its_path, State, begin, placed, Runs, Event, Push, Pop, Steal, Load, Offer, Draw, Close, Divide, root_node, half_node, price, is_full, lesser, begins}

-- a node that waits, with its tree, and the number of its parent
pub record Waiting (R : Type 0) : Type 0 where
  pub parent : ℕ
  pub node : Node R
  pub tree : Tree R

-- a node with its record, and the number of its parent
pub record Item (R : Type 0) : Type 0 where
  pub parent : ℕ
  pub node : Node R
  pub entry : Entry R

-- the word after a record: a leaf with a full box offers its price
abbrev pub offer_of : Bool → ℕ → ℕ → End → ℕ
offer_of full word cost Leaf = cond full (lesser word cost) word
offer_of full word cost Left = word
offer_of full word cost (Branch v) = word

-- with true where they first differ, the other has false
abbrev pub TrueFirst : Path → Path → Type 0
TrueFirst [] b = ⊥
TrueFirst (x ∷ a) [] = ⊥
TrueFirst (true ∷ a) (false ∷ b) = Unit {0}
TrueFirst (false ∷ a) (true ∷ b) = ⊥
TrueFirst (true ∷ a) (true ∷ b) = TrueFirst a b
TrueFirst (false ∷ a) (false ∷ b) = TrueFirst a b

-- shorter, or as long and with true first
abbrev pub Before : Path → Path → Type 0
Before a b = (length a < length b) ⊎ ((length a ≡ length b) × TrueFirst a b)

module _ {R : Type 0} where
  abbrev pub record_of : Tree R → Entry R
  record_of (Tip e) = e
  record_of (Fork e a b) = e

  abbrev pub size : Tree R → ℕ
  size (Tip e) = 1
  size (Fork e a b) = suc (size a + size b)

  -- both halves of node number n
  abbrev pub kids : ℕ → Node R → Tree R → List (Waiting R)
  kids n node (Tip e) = []
  kids n node (Fork e a b) = record { parent = n; node = half_node node e true; tree = a } ∷ record { parent = n; node = half_node node e false; tree = b } ∷ []

  -- breadth first: the first that waits has number n, and its halves wait behind all others
  abbrev pub order : ℕ → ℕ → List (Waiting R) → List (Item R)
  order zero n ws = []
  order (suc f) n [] = []
  order (suc f) n (w ∷ ws) = record { parent = w.parent; node = w.node; entry = record_of w.tree } ∷ order f (suc n) (ws ++ kids n w.node w.tree)

  -- the nodes of the tree, numbered from 0 by length of path, then by path with true before false
  abbrev pub ordered : Tree R → List (Item R)
  ordered t = order (size t) 0 (record { parent = 0; node = root_node; tree = t } ∷ [])

  -- ## The numbers of the items

  -- each item comes before all that stand behind it
  abbrev pub Rising : List (Item R) → Type 0
  Rising [] = Unit {0}
  Rising (it ∷ its) = Every (λ later. Before it.node.path later.node.path) its × Rising its

  -- item number k is at the path from which one branch leads to this one
  abbrev pub IsParent : List (Item R) → ℕ → Path → Type 0
  IsParent [] k path = ⊥
  IsParent (it ∷ its) zero path = (y : Bool) × (path ≡ it.node.path ++ y ∷ [])
  IsParent (it ∷ its) (suc k) path = IsParent its k path

  -- the nodes by length of path, then true before false, each but the root with the number of its parent
  pub record IsNumbered (its : List (Item R)) : Type 0 where
    pub rising : Rising its
    pub parents : Every (λ it. (it.node.path ≡ []) ⊎ IsParent its it.parent it.node.path) its

  -- ## The events

  -- the events of the items, numbered from n
  abbrev pub each_from : (ℕ → Item R → List (Event R)) → ℕ → List (Item R) → List (Event R)
  each_from f n [] = []
  each_from f n (it ∷ its) = f n it ++ each_from f (suc n) its

  -- the root is popped, any other node is stolen from its parent's worker
  abbrev pub taking : ℕ → ℕ → Path → Event R
  taking n parent [] = Pop n
  taking n parent (y ∷ path) = Steal n parent

  -- what a worker does with its node: a handled one draws, and a branch divides it and pushes both halves
  abbrev pub handling : ℕ → Entry R → End → List (Event R)
  handling n e Leaf = Draw n ∷ []
  handling n e Left = []
  handling n e (Branch v) = Draw n ∷ Divide n e ∷ Push n ∷ Push n ∷ []

  abbrev pub first_events : ℕ → Item R → List (Event R)
  first_events n it = taking n it.parent it.node.path ∷ handling n it.entry it.entry.end

  -- a full leaf offers
  abbrev pub offering : Bool → ℕ → Entry R → End → List (Event R)
  offering full n e Leaf = cond full (Offer n e ∷ []) []
  offering full n e Left = []
  offering full n e (Branch v) = []

  -- a leaf loads and closes
  abbrev pub ending : ℕ → Entry R → End → List (Event R)
  ending n e Leaf = Load n ∷ Close n e ∷ []
  ending n e Left = []
  ending n e (Branch v) = []

  abbrev pub end_events : ℕ → Item R → List (Event R)
  end_events n it = ending n it.entry it.entry.end

  -- a left node draws, past the budget
  abbrev pub leaving : ℕ → End → List (Event R)
  leaving n Leaf = []
  leaving n Left = Draw n ∷ []
  leaving n (Branch v) = []

  abbrev pub left_events : ℕ → Item R → List (Event R)
  left_events n it = leaving n it.entry.end

module _ {R : Type 0} (same : R → R → Bool) (p : Program R) (base : List R) where
  abbrev pub offer_events : ℕ → Item R → List (Event R)
  offer_events n it = offering (is_full p base (box_after same p (begins same p it.node) it.entry)) n it.entry it.entry.end

  -- all nodes are taken, handled ones draw, and branched ones divide and push both halves; full leaves offer; leaves load and close; left nodes draw
  abbrev pub replay : List (Item R) → List (Event R)
  replay its = each_from first_events 0 its ++ (each_from offer_events 0 its ++ (each_from end_events 0 its ++ each_from left_events 0 its))

  -- the least of the word and the prices of full leaves
  abbrev pub offered : ℕ → List (Item R) → ℕ
  offered word [] = word
  offered word (it ∷ its) =
      offered (offer_of (is_full p base (box_after same p (begins same p it.node) it.entry)) word (price p (box_after same p (begins same p it.node) it.entry)) it.entry.end) its

-- ## The value in the end

module _ {R : Type 0} (same : R → R → Bool) (p : Program R) where
  -- the box of a record after its steps, below the records of the nodes
  abbrev pub box_in : List (Placed R) → Placed R → Box
  box_in nodes n = box_after same p (after same p (root p) n.path (trail nodes n.path)) n.entry

module _ {R : Type 0} (same : R → R → Bool) (p : Program R) (base : List R) where
  -- a leaf whose box is full and violates no base row
  abbrev pub IsFullLeaf : List (Placed R) → Placed R → Type 0
  IsFullLeaf nodes n = (n.entry.end ≡ Leaf) × (is_full p base (box_in same p nodes n) ≡ true)

  -- the word is the start, or such a leaf's price, and at most the start
  pub record IsOffer (nodes entries : List (Placed R)) (start word : ℕ) : Type 0 where
    pub most : word ≤ start
    pub from : (word ≡ start) ⊎ ((n : Placed R) × In n entries × IsFullLeaf nodes n × (price p (box_in same p nodes n) ≡ word))

  -- the entries and the left nodes are the outcome of a replay: all nodes are numbered, the machine with one worker for each accepts all events, and ends with the word, the entries ended and the left nodes in its left list
  pub record Replays (entries : List (Placed R)) (left : List Path) (start budget word : ℕ) : Type 0 where
    pub items : List (Item R)
    pub numbered : IsNumbered items
    pub nodes : (h : Placed R → ℕ) → weigh (λ it. h (placed it.node it.entry)) items ≡ weigh h (all_nodes entries left)
    pub trails : Every (λ it. it.node.trail ≡ trail (all_nodes entries left) it.node.path) items
    pub last : State R
    pub accepted : Runs same p base (begin (length entries + length left) start budget) (replay same p base items) last
    pub ends : last.word ≡ word
    pub ended : (h : Placed R → ℕ) → weigh (λ e. h (at_its_path e)) last.ended ≡ weigh h entries
    pub left_nodes : (h : Path → ℕ) → weigh (λ n. h n.path) last.left ≡ weigh h left
