-- What holds of each record of a tree, along the records in preorder.
use Rattle.std.specs.Prelude.{◌≡◌, ◌⊎◌, Bool, true, false, cond, List, [], ◌∷◌}
use Rattle.proof_trees.specs.Program.{Program}
use Rattle.proof_trees.specs.Trees.{Entry, Pending, root}
use Rattle.search_core.specs.Bags.{In}
use Rattle.search_core.specs.Journals.{Path, branches, nothing_done, child}
use Rattle.search_core.specs.Machine.{Node, Handled, begins}

abbrev pub is_root : Path → Bool
is_root [] = true
is_root (y ∷ path) = false

module _ {R : Type 0} (same : R → R → Bool) (p : Program R) where
  module _ (P : Bool → Pending R → Entry R → Type 0) where
    -- The records are the trees of these boxes, one after the other, and nothing after them; and P holds of each: of whether it is the root, what it begins with, and the record. `top` says it of the first record.
    abbrev pub HoldAll : Bool → List (Pending R) → List (Entry R) → Type 0
    HoldAll top [] [] = Unit {0}
    HoldAll top [] (e ∷ es) = ⊥
    HoldAll top (q ∷ waiting) [] = ⊥
    HoldAll top (q ∷ waiting) (e ∷ es) = P top q e × HoldAll false (cond (branches e.end) (child same p q e true ∷ child same p q e false ∷ waiting) waiting) es

    -- the records are one tree in preorder, and P holds of each
    abbrev pub HoldsAlong : List (Entry R) → Type 0
    HoldsAlong entries = HoldAll true (root p ∷ []) entries

  -- the node begins so, and is the root where `top` says so
  abbrev pub Begins : Bool → Pending R → Node R → Type 0
  Begins top q n = (is_root n.path ≡ top) × (begins same p n ≡ q)

  -- the record is that of a handled node, or the empty one of a node that was left; and what it begins with is what its node begins with
  abbrev pub IsOfNode : List (Handled R) → List (Node R) → Bool → Pending R → Entry R → Type 0
  IsOfNode entries left top q e =
      ((h : Handled R) × In h entries × Begins top q h.node × (h.entry ≡ e))
      ⊎ ((n : Node R) × In n left × Begins top q n × (nothing_done ≡ e))
