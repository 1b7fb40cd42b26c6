-- Subtrees of which no node was left open, in a list of records, and where a walk stands that passes them by. No public clause cites this module.
use Rattle.std.specs.Prelude.{◌≡◌, ◌≢◌, ℕ, ◌+◌, List, [], ◌∷◌, drop, get_or, map, Option, None, IfSome}
use Rattle.zero_one_rows.specs.declared.program.Var.{Var}
use Rattle.zero_one_rows.specs.declared.program.Row.{Row}
use Rattle.zero_one_rows.specs.Variables.{Voyage}
use Rattle.zero_one_rows.specs.Rows.{whole}
use Rattle.proof_trees.specs.Trees.{Pending}
use Rattle.certificate.specs.declared.tree.Record.{Record}
use Rattle.certificate.specs.declared.tree.End.{End}
use Rattle.certificate.specs.declared.tree.End.TheVariants.{Leaf, Branch}
use Rattle.certificate.specs.Entries.{same_row, entry_of}
use Rattle.search_core.specs.Journals.{Anything, SettleAll}
use Rattle.bound_checker.specs.declared.walk.Walk.{Walk}
use Rattle.bound_checker.specs.Faults.{tree_fault, first_fault}
use Rattle.bound_checker.specs.Walks.{IsAt, Narrows}

-- a tree of records without the records
pub data Shape : Type 0 where
  Tip : Shape
  Fork : Shape → Shape → Shape

abbrev pub size_of : Shape → ℕ
size_of Tip = 1
size_of (Fork a b) = 1 + (size_of a + size_of b)

abbrev pub Divides : End → Type 0
Divides end = (v : Var) × (end ≡ Branch v)

-- the records begin with a subtree of this shape, each tip of it a leaf, and these come behind it
abbrev pub Begins : Shape → List Record → List Record → Type 0
Begins Tip [] rest = ⊥
Begins Tip (r ∷ rs) rest = (r.end ≡ Leaf) × (rs ≡ rest)
Begins (Fork a b) [] rest = ⊥
Begins (Fork a b) (r ∷ rs) rest = Divides r.end × ((middle : List Record) × Begins a rs middle × Begins b middle rest)

-- such a subtree begins at a place, and has so many records
pub record IsSubtree (records : List Record) (place size : ℕ) : Type 0 where
  pub shape : Shape
  pub begins : Begins shape (drop place records) (drop (place + size) records)
  pub counts : size ≡ size_of shape

-- where the number of records of the subtree at a place is known, one begins there and has so many
abbrev pub AreSizes : List Record → List (Option ℕ) → Type 0
AreSizes records sizes = (place : ℕ) → IfSome (get_or sizes place None) (IsSubtree records place)

-- The records from a place on are those of the boxes that are left, but for nodes left open. At each bound up to the best the first fault is the first of theirs, and at each above it there was one.
pub record Stays (m : Voyage) (most : ℕ) (records : List Record) (place best : ℕ) (w : Walk) : Type 0 where
  pub boxes : List (Pending Row)
  pub at : IsAt m w boxes
  pub settled : SettleAll same_row (whole m) Anything most boxes (map (entry_of m) (drop place records))
  pub narrows : Narrows 0 most best (λ bound. first_fault m records bound ≡ tree_fault (whole m) bound (place + 1) boxes (map (entry_of m) (drop place records))) (λ bound. first_fault m records bound ≢ None)
