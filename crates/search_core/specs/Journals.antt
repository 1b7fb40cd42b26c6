-- Records of a search at their paths, and the one tree that they are.
use Rattle.std.specs.Prelude.{◌≡◌, ℕ, ◌+◌, ◌<◌, Bool, true, false, cond, List, [], ◌∷◌, ◌++◌, map, All, Option, Some, None}
use Rattle.proof_trees.specs.Program.{Program}
use Rattle.proof_trees.specs.Boxes.{Box, at, fixed, tightened, AreRows}
use Rattle.proof_trees.specs.Multipliers.{Multipliers, Closes, raised_all}
use Rattle.proof_trees.specs.Trees.{End, Leaf, Left, Branch, Entry, Pending, begun, root}
use Rattle.search_core.specs.Bags.{weigh, Every}

-- from the root: the value of each branch
abbrev pub Path : Type 0
Path = List Bool

-- a record and the path of its node
pub record Placed (R : Type 0) : Type 0 where
  pub path : Path
  pub entry : Entry R

-- whether a record divides its box
abbrev pub branches : End → Bool
branches Leaf = false
branches Left = false
branches (Branch v) = true

-- whether a record leaves its node open
abbrev pub is_left : End → Bool
is_left Leaf = false
is_left Left = true
is_left (Branch v) = false

-- the record of a node that was left open
abbrev pub nothing_done : {R : Type 0} → Entry R
nothing_done = record { from_zero = false; steps = []; raises = []; end = Left }

abbrev pub left_at : {R : Type 0} → Path → Placed R
left_at path = record { path = path; entry = nothing_done }

-- all nodes: the entries, and the nodes that were left
abbrev pub all_nodes : {R : Type 0} → List (Placed R) → List Path → List (Placed R)
all_nodes entries left = entries ++ map left_at left

-- the weights of both halves, where the record divides its box
abbrev pub halves : {R : Type 0} → (Path → ℕ) → Placed R → ℕ
halves h n = cond (branches n.entry.end) (h (n.path ++ true ∷ []) + h (n.path ++ false ∷ [])) 0

-- no entry's record ends in Left; the paths of the entries and the left nodes are, as a bag, the empty path and both halves of each entry that branches
pub record Whole {R : Type 0} (entries : List (Placed R)) (left : List Path) : Type 0 where
  pub ended : Every (λ e. is_left e.entry.end ≡ false) entries
  pub bag : (h : Path → ℕ) → weigh (λ e. h e.path) entries + weigh h left ≡ h [] + weigh (halves h) entries

-- ## Trees

-- a tree of records: one without halves, or one that divides its box, with its half of value 1 and its half of value 0
pub data Tree (R : Type 0) : Type 0 where
  Tip : Entry R → Tree R
  Fork : Entry R → Tree R → Tree R → Tree R

-- a record first, then its half of value 1, then that of value 0
abbrev pub preorder : {R : Type 0} → Tree R → List (Entry R)
preorder (Tip e) = e ∷ []
preorder (Fork e a b) = e ∷ (preorder a ++ preorder b)

-- the records at the empty path
abbrev pub root_of : {R : Type 0} → Path → Entry R → List (Entry R) → List (Entry R)
root_of [] e es = e ∷ es
root_of (y ∷ path) e es = es

abbrev pub roots : {R : Type 0} → List (Placed R) → List (Entry R)
roots [] = []
roots (n ∷ ns) = root_of n.path n.entry (roots ns)

-- what lies in one half, at the paths from there
abbrev pub in_half : {R : Type 0} → Bool → Path → Entry R → List (Placed R) → List (Placed R)
in_half y [] e ns = ns
in_half true (true ∷ path) e ns = record { path = path; entry = e } ∷ ns
in_half false (false ∷ path) e ns = record { path = path; entry = e } ∷ ns
in_half true (false ∷ path) e ns = ns
in_half false (true ∷ path) e ns = ns

abbrev pub half : {R : Type 0} → Bool → List (Placed R) → List (Placed R)
half y [] = []
half y (n ∷ ns) = in_half y n.path n.entry (half y ns)

-- the tree has each node's record at its path, and no other
abbrev pub Gathers : {R : Type 0} → List (Placed R) → Tree R → Type 0
Gathers ns (Tip e) = (roots ns ≡ e ∷ []) × (branches e.end ≡ false) × (half true ns ≡ []) × (half false ns ≡ [])
Gathers ns (Fork e a b) = (roots ns ≡ e ∷ []) × (branches e.end ≡ true) × Gathers (half true ns) a × Gathers (half false ns) b

-- the records above a path, the root's first
abbrev pub trail : {R : Type 0} → List (Placed R) → Path → List (Entry R)
trail ns [] = []
trail ns (y ∷ path) = roots ns ++ trail (half y ns) path

-- each record of the tree with its path
abbrev pub under : {R : Type 0} → Bool → Placed R → Placed R
under y n = record { path = y ∷ n.path; entry = n.entry }

abbrev pub located : {R : Type 0} → Tree R → List (Placed R)
located (Tip e) = record { path = []; entry = e } ∷ []
located (Fork e a b) = record { path = []; entry = e } ∷ (map (under true) (located a) ++ map (under false) (located b))

-- ## What records make of boxes and multipliers

-- the box of a half
abbrev pub divided : Box → End → Bool → Box
divided b Leaf y = b
divided b Left y = b
divided b (Branch v) y = fixed b v y

-- the multipliers, where none left its range
abbrev pub known : {R : Type 0} → Option (Multipliers R) → Multipliers R
known None = []
known (Some ms) = ms

module _ {R : Type 0} (same : R → R → Bool) (p : Program R) where
  -- the box after the record's steps, and the multipliers after its raises
  abbrev pub box_after : Pending R → Entry R → Box
  box_after q e = tightened p q.box e.steps

  abbrev pub multipliers_after : Pending R → Entry R → Option (Multipliers R)
  multipliers_after q e = raised_all same (Some (begun e.from_zero q.multipliers)) e.raises

  -- with what a half begins
  abbrev pub child : Pending R → Entry R → Bool → Pending R
  child q e y = record { box = divided (box_after q e) e.end y; multipliers = known (multipliers_after q e) }

  -- with what the node at a path begins, after the records above it
  abbrev pub after : Pending R → Path → List (Entry R) → Pending R
  after q [] es = q
  after q (y ∷ path) [] = q
  after q (y ∷ path) (e ∷ es) = after (child q e y) path es

  -- each row named is one of the program
  abbrev pub NamesRows : Entry R → Type 0
  NamesRows e = AreRows p e.steps × All (λ r. p.has r.0 ≡ true) e.raises

  -- ## What a record is to meet; `Open` says it of a node left open

  module _ (Open : Box → Multipliers R → Type 0) (bound : ℕ) where
    -- a leaf closes at the bound; a branch names a variable that is free
    abbrev pub EndAllowed : Box → Option (Multipliers R) → End → Type 0
    EndAllowed b None end = ⊥
    EndAllowed b (Some ms) Leaf = Closes p b ms bound
    EndAllowed b (Some ms) Left = Open b ms
    EndAllowed b (Some ms) (Branch v) = (v < p.vars) × (at b v ≡ None)

    -- the record names rows of the program, brings no multiplier out of its range, and ends as it may
    abbrev pub Allowed : Pending R → Entry R → Type 0
    Allowed q e = NamesRows e × EndAllowed (box_after q e) (multipliers_after q e) e.end

    -- as `Proves`, but for nodes left open
    abbrev pub EndSettles : (List (Pending R) → Type 0) → List (Pending R) → Box → Option (Multipliers R) → End → Type 0
    EndSettles Rest waiting b None end = ⊥
    EndSettles Rest waiting b (Some ms) Leaf = Closes p b ms bound × Rest waiting
    EndSettles Rest waiting b (Some ms) Left = Open b ms × Rest waiting
    EndSettles Rest waiting b (Some ms) (Branch v) =
        (v < p.vars) × (at b v ≡ None) × Rest (record { box = fixed b v true; multipliers = ms } ∷ record { box = fixed b v false; multipliers = ms } ∷ waiting)

    -- the records are the trees of these boxes, one after the other, and nothing after them
    abbrev pub SettleAll : List (Pending R) → List (Entry R) → Type 0
    SettleAll [] [] = Unit {0}
    SettleAll [] (e ∷ es) = ⊥
    SettleAll (q ∷ waiting) [] = ⊥
    SettleAll (q ∷ waiting) (e ∷ es) =
        AreRows p e.steps × All (λ r. p.has r.0 ≡ true) e.raises
        × EndSettles (λ boxes. SettleAll boxes es) waiting (box_after q e) (multipliers_after q e) e.end

-- nothing is asked of a node left open
abbrev pub Anything : {R : Type 0} → Box → Multipliers R → Type 0
Anything b ms = Unit {0}

-- the records are a tree that proves the bound, but for the nodes left open
abbrev pub Settled : {R : Type 0} → (R → R → Bool) → Program R → List (Entry R) → ℕ → Type 0
Settled same p entries bound = SettleAll same p Anything bound (root p ∷ []) entries

-- each entry is one that the rules of proof trees allow after its node's trail
abbrev pub EachAllowed : {R : Type 0} → (R → R → Bool) → Program R → ℕ → List (Placed R) → List (Placed R) → Type 0
EachAllowed same p bound nodes entries = Every (λ n. Allowed same p Anything bound (after same p (root p) n.path (trail nodes n.path)) n.entry) entries
