-- Each record of the tree is that of its node.
use Rattle.std.proofs.Common.{◌≡◌, inl, inr, Bool, true, false, cond, List, [], ◌∷◌, ◌++◌, map, refl, sym, subst, ap, append_assoc, append-nil}
use Rattle.proof_trees.specs.Program.{Program}
use Rattle.proof_trees.specs.Trees.{Entry, Pending, root}
use Rattle.search_core.specs.Bags.{Every}
use Rattle.search_core.specs.Journals.{Path, Placed, branches, left_at, Tree, Tip, Fork, preorder, roots, half, Gathers, trail, child, after}
use Rattle.search_core.specs.Machine.{Node, Handled, at_its_path}
use Rattle.search_core.specs.Outcomes.{path_of, WholeNodes, nodes_of, Tells}
use Rattle.search_core.specs.Along.{is_root, HoldAll, HoldsAlong, Begins, IsOfNode}
use Rattle.search_core.proofs.Weights.{every_append, every_more, every_in}
use Rattle.search_core.proofs.Settling.{every_roots, every_half}
use Rattle.search_core.proofs.NodeTrails.{every_map, every_by, entries_on_trail, left_on_trail}

-- `top` at the root, and false below it
abbrev at_top : Bool → Path → Bool
at_top top [] = top
at_top top (y ∷ path) = false

below_top : (path : Path) → at_top false path ≡ false
below_top [] = refl
below_top (y ∷ path) = refl

root_top : (path : Path) → is_root path ≡ at_top true path
root_top [] = refl
root_top (y ∷ path) = refl

module _ {R : Type 0} (same : R → R → Bool) (p : Program R) where
  module _ (P : Bool → Pending R → Entry R → Type 0) where
    -- P holds of each record of the tree, where its root begins with q
    abbrev TreeHolds : Bool → Pending R → Tree R → Type 0
    TreeHolds top q (Tip e) = P top q e × (branches e.end ≡ false)
    TreeHolds top q (Fork e a b) = P top q e × (branches e.end ≡ true) × TreeHolds false (child same p q e true) a × TreeHolds false (child same p q e false) b

    abbrev NodeHolds : Bool → Pending R → List (Placed R) → Placed R → Type 0
    NodeHolds top q nodes n = P (at_top top n.path) (after same p q n.path (trail nodes n.path)) n.entry

    root_holds : (top : Bool) (q : Pending R) (ns : List (Placed R)) (e : Entry R) → roots ns ≡ e ∷ [] → Every (NodeHolds top q ns) ns → P top q e
    root_holds top q ns e one h = (subst (Every (λ (r : Entry R). P top q r)) one (every_roots (NodeHolds top q ns) ns h)).0

    half_holds : (top : Bool) (q : Pending R) (y : Bool) (ns : List (Placed R)) (e : Entry R) → roots ns ≡ e ∷ [] → Every (NodeHolds top q ns) ns
        → Every (NodeHolds false (child same p q e y) (half y ns)) (half y ns)
    half_holds top q y ns e one h =
        let here : Every (λ (n : Placed R). P false (after same p q (y ∷ n.path) (roots ns ++ trail (half y ns) n.path)) n.entry) (half y ns) = every_half (NodeHolds top q ns) y ns h in
        let there : Every (λ (n : Placed R). P false (after same p (child same p q e y) n.path (trail (half y ns) n.path)) n.entry) (half y ns)
        = subst (λ (rs : List (Entry R)). Every (λ (n : Placed R). P false (after same p q (y ∷ n.path) (rs ++ trail (half y ns) n.path)) n.entry) (half y ns)) one here in
        every_more _ (NodeHolds false (child same p q e y) (half y ns)) (half y ns)
        (λ n. λ k. subst (λ (t : Bool). P t (after same p (child same p q e y) n.path (trail (half y ns) n.path)) n.entry) (sym (below_top n.path)) k) there

    tree_holds : (top : Bool) (q : Pending R) (ns : List (Placed R)) (t : Tree R) → Gathers ns t → Every (NodeHolds top q ns) ns → TreeHolds top q t
    tree_holds top q ns (Tip e) g h = (root_holds top q ns e g.0 h, g.1)
    tree_holds top q ns (Fork e a b) g h = (
      root_holds top q ns e g.0 h,
      g.1,
      tree_holds false (child same p q e true) (half true ns) a g.2 (half_holds top q true ns e g.0 h),
      tree_holds false (child same p q e false) (half false ns) b g.3 (half_holds top q false ns e g.0 h),
    )

    hold_tree : (top : Bool) (q : Pending R) (t : Tree R) (waiting : List (Pending R)) (es : List (Entry R)) → TreeHolds top q t → HoldAll same p P false waiting es → HoldAll same p P top (q ∷ waiting) (preorder t ++ es)
    hold_tree top q (Tip e) waiting es h rest =
        (h.0, subst (λ (c : Bool). HoldAll same p P false (cond c (child same p q e true ∷ child same p q e false ∷ waiting) waiting) es) (sym h.1) rest)
    hold_tree top q (Fork e a b) waiting es h rest =
        let qa : Pending R = child same p q e true in
        let qb : Pending R = child same p q e false in
        let behind : HoldAll same p P false (qa ∷ qb ∷ waiting) (preorder a ++ (preorder b ++ es)) = hold_tree false qa a (qb ∷ waiting) (preorder b ++ es) h.2 (hold_tree false qb b waiting es h.3 rest) in
        let all : HoldAll same p P false (qa ∷ qb ∷ waiting) ((preorder a ++ preorder b) ++ es) = subst (HoldAll same p P false (qa ∷ qb ∷ waiting)) (sym (append_assoc (preorder a) (preorder b) es)) behind in
        (h.0, subst (λ (c : Bool). HoldAll same p P false (cond c (qa ∷ qb ∷ waiting) waiting) ((preorder a ++ preorder b) ++ es)) (sym h.1) all)

    nodes_hold : (ns : List (Placed R)) (t : Tree R) → Gathers ns t → Every (NodeHolds true (root p) ns) ns → HoldsAlong same p P (preorder t)
    nodes_hold ns t g h = subst (HoldAll same p P true (root p ∷ [])) (append-nil (preorder t)) (hold_tree true (root p) t [] [] (tree_holds true (root p) ns t g h) tt)

  -- what holds of each record where P does
  pub hold_more : (P Q : Bool → Pending R → Entry R → Type 0) → ((top : Bool) (q : Pending R) (e : Entry R) → P top q e → Q top q e)
      → (top : Bool) (waiting : List (Pending R)) (es : List (Entry R)) → HoldAll same p P top waiting es → HoldAll same p Q top waiting es
  hold_more P Q f top [] [] h = h
  hold_more P Q f top [] (e ∷ es) h = h
  hold_more P Q f top (q ∷ waiting) [] h = h
  hold_more P Q f top (q ∷ waiting) (e ∷ es) h = (f top q e h.0, hold_more P Q f false _ es h.1)

  module _ (alike : Node R → Node R → Bool) (tells : Tells alike) (entries : List (Handled R)) (left : List (Node R)) (w : WholeNodes entries left) where
    abbrev ns : List (Placed R)
    ns = nodes_of entries left

    node_begins : (n : Node R) → n.trail ≡ trail ns n.path → Begins same p (at_top true n.path) (after same p (root p) n.path (trail ns n.path)) n
    node_begins n on = (root_top n.path, ap (after same p (root p) n.path) on)

    entries_hold : Every (NodeHolds (IsOfNode same p entries left) true (root p) ns) (map at_its_path entries)
    entries_hold = every_map at_its_path (NodeHolds (IsOfNode same p entries left) true (root p) ns) entries
        (every_by _ entries (λ h i. inl (h, i, node_begins h.node (every_in _ entries h (entries_on_trail alike tells entries left w) i), refl)))

    left_hold : Every (NodeHolds (IsOfNode same p entries left) true (root p) ns) (map left_at (map path_of left))
    left_hold = every_map left_at (NodeHolds (IsOfNode same p entries left) true (root p) ns) (map path_of left)
        (every_map path_of (λ (path : Path). NodeHolds (IsOfNode same p entries left) true (root p) ns (left_at path)) left
        (every_by _ left (λ n i. inr (n, i, node_begins n (every_in _ left n (left_on_trail alike tells entries left w) i), refl))))

    pub each_of_its_node : (t : Tree R) → Gathers ns t → HoldsAlong same p (IsOfNode same p entries left) (preorder t)
    each_of_its_node t g = nodes_hold (IsOfNode same p entries left) ns t g (every_append _ (map at_its_path entries) (map left_at (map path_of left)) entries_hold left_hold)
