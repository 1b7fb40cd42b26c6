-- A search by one worker, under way: nodes that wait, and the records that ended others.
use Rattle.std.specs.Prelude.{◌≡◌, ℕ, ◌≤◌, ◌⊎◌, Bool, true, List}
use Rattle.proof_trees.specs.Program.{Program}
use Rattle.proof_trees.specs.Trees.{Leaf, root}
use Rattle.search_core.specs.Bags.{Every, In}
use Rattle.search_core.specs.Journals.{Anything, Allowed}
use Rattle.search_core.specs.Machine.{Node, Handled, begins, IsTrail, is_full, price}
use Rattle.search_core.specs.Outcomes.{WholeNodes, box_at}

module _ {R : Type 0} (same : R → R → Bool) (p : Program R) (base : List R) where
  -- the best value is the price of a full leaf
  abbrev pub IsPaid : List (Handled R) → ℕ → Type 0
  IsPaid entries best = (e : Handled R) × In e entries × (e.entry.end ≡ Leaf) × (is_full p base (box_at same p e) ≡ true) × (price p (box_at same p e) ≡ best)

  -- The nodes of the entries and those that wait are whole, and each that waits has its trail. Each entry is allowed at a value that is at least the best, and the best is the start or a full leaf's price.
  pub record Searching (entries : List (Handled R)) (waiting : List (Node R)) (start best : ℕ) : Type 0 where
    pub nodes : WholeNodes entries waiting
    pub trails : Every (λ n. IsTrail same p (root p) n.path n.trail) waiting
    pub allowed : Every (λ e. (value : ℕ) × (best ≤ value) × Allowed same p Anything value (begins same p e.node) e.entry) entries
    pub most : best ≤ start
    pub from : (best ≡ start) ⊎ IsPaid entries best
