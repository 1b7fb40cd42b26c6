-- One node of the search: where it begins, and what the record that ends it is to meet.
use Rattle.std.specs.Prelude.{◌≡◌, ℕ, ◌<◌, ◌≤◌, ◌⊎◌, Bool, true, false, cond, List, [], ◌∷◌, Some, length, map, ℤ, ◌<ℤ◌}
use Rattle.zero_one_rows.specs.declared.program.Row.{Row}
use Rattle.zero_one_rows.specs.Variables.{Voyage}
use Rattle.zero_one_rows.specs.Rows.{whole}
use Rattle.zero_one_rows.specs.Counted.{base_rows}
use Rattle.proof_trees.specs.Boxes.{Box}
use Rattle.proof_trees.specs.Multipliers.{Multipliers, worth, Closes, raised}
use Rattle.proof_trees.specs.Trees.{Leaf, Entry, Pending, root, begun}
use Rattle.certificate.specs.declared.tree.Record.{Record}
use Rattle.certificate.specs.declared.nodes.Node.{Node}
use Rattle.certificate.specs.Entries.{same_row, entry_of}
use Rattle.search_core.specs.Journals.{Path, branches, box_after, multipliers_after, known, Anything, Allowed}
use Rattle.search_core.specs.Machine.{begins, IsTrail, is_full, price}
use Rattle.search_core.specs.Machine as machine
use Rattle.zero_one_rows.specs.Tightening.{IsQuiet, ForceAll}
use Rattle.certificate.specs.Stuck.{IsStuck}
use Rattle.node_solver.specs.declared.worked.Worked.{Worked}
use Rattle.node_solver.specs.declared.worked.Worked.TheVariants.{Closed, Branched, Full, NoMemory}

abbrev pub is_root : Path → Bool
is_root [] = true
is_root (y ∷ path) = false

-- the most raises of a record: 4,096 at the root, 64 elsewhere
abbrev pub most_raises : Bool → ℕ
most_raises at_root = cond at_root 4096 64

abbrev pub most_at : Node → ℕ
most_at n = most_raises (is_root n.path)

module _ (m : Voyage) where
  -- ## Where a node begins

  -- the node with its records over the program's numbered variables
  abbrev pub node_of : Node → machine.Node Row
  node_of n = record { path = n.path; trail = map (entry_of m) n.trail }

  -- the records above the node are a trail
  abbrev pub IsNode : Node → Type 0
  IsNode n = IsTrail same_row (whole m) (root (whole m)) n.path (map (entry_of m) n.trail)

  -- the box and the multipliers after the trail
  abbrev pub begins_at : Node → Pending Row
  begins_at n = begins same_row (whole m) (node_of n)

  -- each raise leads to multipliers at which the box is worth more, by at least 1
  abbrev pub EachRises : Box → Multipliers Row → List (Row × ℤ) → Type 0
  EachRises b ms [] = Unit {0}
  EachRises b ms (r ∷ rs) = (ns : Multipliers Row) × (raised same_row ms r.0 r.1 ≡ Some ns) × (worth (whole m) b ms <ℤ worth (whole m) b ns) × EachRises b ns rs

  -- ## What the record of a node is to meet, which begins with `q` and may have so many raises

  module _ (q : Pending Row) where
    -- the box after the record's steps, and the multipliers after its raises
    abbrev pub box_at : Entry Row → Box
    box_at e = box_after same_row (whole m) q e

    abbrev pub multipliers_at : Entry Row → Multipliers Row
    multipliers_at e = known (multipliers_after same_row (whole m) q e)

    -- each step forces a free variable at its turn
    pub record IsLean (most : ℕ) (e : Entry Row) : Type 0 where
      pub steps : ForceAll (whole m) q.box e.steps
      pub raises : length e.raises ≤ most

    -- A record divides its box for want of anything else: after its steps no base row is violated or forces a variable; each raise raised its dual value; the box doesn't close at the cut; and there are as many raises as there may be, or none more raises the dual value.
    pub record IsEarnest (cut most : ℕ) (e : Entry Row) : Type 0 where
      pub quiet : IsQuiet m (box_at e)
      pub rising : EachRises (box_at e) (begun e.from_zero q.multipliers) e.raises
      pub short : Closes (whole m) (box_at e) (multipliers_at e) cut → ⊥
      pub spent : (length e.raises ≡ most) ⊎ IsStuck m (box_at e) (multipliers_at e)

    -- the rules of proof trees allow the record at this value, and it is lean
    pub record Ends (most value : ℕ) (r : Record) : Type 0 where
      pub allowed : Allowed same_row (whole m) Anything value q (entry_of m r)
      pub lean : IsLean most (entry_of m r)

    -- its leaf closes
    pub record EndsClosed (most value : ℕ) (r : Record) : Type 0 where
      pub ends : Ends most value r
      pub leaf : (entry_of m r).end ≡ Leaf

    -- it divides its box
    pub record EndsBranched (most cut : ℕ) (r : Record) : Type 0 where
      pub ends : Ends most cut r
      pub divides : branches (entry_of m r).end ≡ true
      pub earnest : IsEarnest cut most (entry_of m r)

    -- its box is full, violates no base row and costs less than the cut, and its leaf closes at that cost
    pub record EndsFull (most cut : ℕ) (r : Record) (b : Box) (cost : ℕ) : Type 0 where
      pub closed : EndsClosed most cost r
      pub box : b ≡ box_at (entry_of m r)
      pub full : is_full (whole m) (base_rows m) b ≡ true
      pub price : cost ≡ price (whole m) b
      pub cheaper : cost < cut

    -- how a node ends
    abbrev pub Works : ℕ → ℕ → Worked → Type 0
    Works most cut (Closed r) = EndsClosed most cut r
    Works most cut (Branched r) = EndsBranched most cut r
    Works most cut (Full r b cost) = EndsFull most cut r b cost
    Works most cut NoMemory = Unit {0}
