-- What is proved of each record gives what is said of the tree.
use Rattle.std.proofs.Common.{◌≡◌, ℕ, Bool, true, false, List, [], ◌∷◌, ◌++◌, map, Option, Some, None, sym, subst, append_assoc, append-nil, All, ℤ, arith}
use Rattle.proof_trees.specs.Program.{Program}
use Rattle.proof_trees.specs.Boxes.{Box}
use Rattle.proof_trees.specs.Multipliers.{Multipliers, Closes}
use Rattle.proof_trees.specs.Trees.{End, Leaf, Left, Branch, Entry, Pending, root, EndProves, ProveAll, Proves}
use Rattle.search_core.specs.Bags.{Every}
use Rattle.search_core.specs.Journals.{Path, Placed, branches, is_left, nothing_done, left_at, all_nodes, Whole, Tree, Tip, Fork, preorder, root_of, roots, in_half, half, Gathers, under, trail, divided, known, child, after, EndAllowed, Allowed, EndSettles, SettleAll, Anything, Settled, EachAllowed}
use Rattle.search_core.proofs.Weights.{every_append}

module _ {R : Type 0} where
  every_root_of : (P : Placed R → Type 0) (path : Path) (e : Entry R) (es : List (Entry R)) → P (record { path = path; entry = e }) → Every (λ r. P (record { path = []; entry = r })) es → Every (λ r. P (record { path = []; entry = r })) (root_of path e es)
  every_root_of P [] e es h hs = (h, hs)
  every_root_of P (y ∷ path) e es h hs = hs

  pub every_roots : (P : Placed R → Type 0) (ns : List (Placed R)) → Every P ns → Every (λ r. P (record { path = []; entry = r })) (roots ns)
  every_roots P [] h = tt
  every_roots P (n ∷ ns) h = every_root_of P n.path n.entry (roots ns) h.0 (every_roots P ns h.1)

  every_in_half : (P : Placed R → Type 0) (y : Bool) (path : Path) (e : Entry R) (ns : List (Placed R)) → P (record { path = path; entry = e }) → Every (λ n. P (under y n)) ns → Every (λ n. P (under y n)) (in_half y path e ns)
  every_in_half P y [] e ns h hs = hs
  every_in_half P true (true ∷ path) e ns h hs = (h, hs)
  every_in_half P true (false ∷ path) e ns h hs = hs
  every_in_half P false (true ∷ path) e ns h hs = hs
  every_in_half P false (false ∷ path) e ns h hs = (h, hs)

  pub every_half : (P : Placed R → Type 0) (y : Bool) (ns : List (Placed R)) → Every P ns → Every (λ n. P (under y n)) (half y ns)
  every_half P y [] h = tt
  every_half P y (n ∷ ns) h = every_in_half P y n.path n.entry (half y ns) h.0 (every_half P y ns h.1)

  module _ (same : R → R → Bool) (p : Program R) (Open : Box → Multipliers R → Type 0) (bound : ℕ) where
    -- each record of the tree is allowed, where its root begins with q
    abbrev pub TreeAllowed : Pending R → Tree R → Type 0
    TreeAllowed q (Tip e) = Allowed same p Open bound q e × (branches e.end ≡ false)
    TreeAllowed q (Fork e a b) = Allowed same p Open bound q e × (branches e.end ≡ true) × TreeAllowed (child same p q e true) a × TreeAllowed (child same p q e false) b

    abbrev pub NodesAllowed : Pending R → List (Placed R) → List (Placed R) → Type 0
    NodesAllowed q nodes ns = Every (λ n. Allowed same p Open bound (after same p q n.path (trail nodes n.path)) n.entry) ns

    half_allowed : (q : Pending R) (y : Bool) (ns : List (Placed R)) (e : Entry R) → roots ns ≡ e ∷ [] → NodesAllowed q ns ns → NodesAllowed (child same p q e y) (half y ns) (half y ns)
    half_allowed q y ns e one h =
        subst (λ (rs : List (Entry R)). Every (λ (n : Placed R). Allowed same p Open bound (after same p q (y ∷ n.path) (rs ++ trail (half y ns) n.path)) n.entry) (half y ns)) one
        (every_half (λ (n : Placed R). Allowed same p Open bound (after same p q n.path (trail ns n.path)) n.entry) y ns h)

    root_allowed : (q : Pending R) (ns : List (Placed R)) (e : Entry R) → roots ns ≡ e ∷ [] → NodesAllowed q ns ns → Allowed same p Open bound q e
    root_allowed q ns e one h = (subst (Every (λ (r : Entry R). Allowed same p Open bound q r)) one (every_roots (λ (n : Placed R). Allowed same p Open bound (after same p q n.path (trail ns n.path)) n.entry) ns h)).0

    pub tree_allowed : (q : Pending R) (ns : List (Placed R)) (t : Tree R) → Gathers ns t → NodesAllowed q ns ns → TreeAllowed q t
    tree_allowed q ns (Tip e) g h = (root_allowed q ns e g.0 h, g.1)
    tree_allowed q ns (Fork e a b) g h = (
      root_allowed q ns e g.0 h,
      g.1,
      tree_allowed (child same p q e true) (half true ns) a g.2 (half_allowed q true ns e g.0 h),
      tree_allowed (child same p q e false) (half false ns) b g.3 (half_allowed q false ns e g.0 h),
    )

    -- ## From the tree to the list, and back

    end_tip : (Rest : List (Pending R) → Type 0) (waiting : List (Pending R)) (b : Box) (o : Option (Multipliers R)) (e : End) → branches e ≡ false → EndAllowed same p Open bound b o e → Rest waiting → EndSettles same p Open bound Rest waiting b o e
    end_tip Rest waiting b None e is h r = h
    end_tip Rest waiting b (Some ms) Leaf is h r = (h, r)
    end_tip Rest waiting b (Some ms) Left is h r = (h, r)
    end_tip Rest waiting b (Some ms) (Branch v) is h r = absurd (cc)

    end_fork : (Rest : List (Pending R) → Type 0) (waiting : List (Pending R)) (b : Box) (o : Option (Multipliers R)) (e : End) → branches e ≡ true → EndAllowed same p Open bound b o e
        → Rest (record { box = divided b e true; multipliers = known o } ∷ record { box = divided b e false; multipliers = known o } ∷ waiting) → EndSettles same p Open bound Rest waiting b o e
    end_fork Rest waiting b None e is h r = h
    end_fork Rest waiting b (Some ms) Leaf is h r = absurd (cc)
    end_fork Rest waiting b (Some ms) Left is h r = absurd (cc)
    end_fork Rest waiting b (Some ms) (Branch v) is h r = (h.0, h.1, r)

    tip_end : (Rest : List (Pending R) → Type 0) (waiting : List (Pending R)) (b : Box) (o : Option (Multipliers R)) (e : End) → branches e ≡ false → EndSettles same p Open bound Rest waiting b o e → EndAllowed same p Open bound b o e × Rest waiting
    tip_end Rest waiting b None e is h = absurd h
    tip_end Rest waiting b (Some ms) Leaf is h = h
    tip_end Rest waiting b (Some ms) Left is h = h
    tip_end Rest waiting b (Some ms) (Branch v) is h = absurd (cc)

    fork_end : (Rest : List (Pending R) → Type 0) (waiting : List (Pending R)) (b : Box) (o : Option (Multipliers R)) (e : End) → branches e ≡ true → EndSettles same p Open bound Rest waiting b o e
        → EndAllowed same p Open bound b o e × Rest (record { box = divided b e true; multipliers = known o } ∷ record { box = divided b e false; multipliers = known o } ∷ waiting)
    fork_end Rest waiting b None e is h = absurd h
    fork_end Rest waiting b (Some ms) Leaf is h = absurd (cc)
    fork_end Rest waiting b (Some ms) Left is h = absurd (cc)
    fork_end Rest waiting b (Some ms) (Branch v) is h = ((h.0, h.1), h.2)

    pub settle_tree : (q : Pending R) (t : Tree R) (waiting : List (Pending R)) (es : List (Entry R)) → TreeAllowed q t → SettleAll same p Open bound waiting es → SettleAll same p Open bound (q ∷ waiting) (preorder t ++ es)
    settle_tree q (Tip e) waiting es h rest = (h.0.0.0, h.0.0.1, end_tip (λ boxes. SettleAll same p Open bound boxes es) waiting _ _ e.end h.1 h.0.1 rest)
    settle_tree q (Fork e a b) waiting es h rest =
        let qa : Pending R = child same p q e true in
        let qb : Pending R = child same p q e false in
        let behind : SettleAll same p Open bound (qa ∷ qb ∷ waiting) (preorder a ++ (preorder b ++ es)) = settle_tree qa a (qb ∷ waiting) (preorder b ++ es) h.2 (settle_tree qb b waiting es h.3 rest) in
        let all : SettleAll same p Open bound (qa ∷ qb ∷ waiting) ((preorder a ++ preorder b) ++ es) = subst (SettleAll same p Open bound (qa ∷ qb ∷ waiting)) (sym (append_assoc (preorder a) (preorder b) es)) behind in
        (h.0.0.0, h.0.0.1, end_fork (λ boxes. SettleAll same p Open bound boxes ((preorder a ++ preorder b) ++ es)) waiting _ _ e.end h.1 h.0.1 all)

    pub tree_settles : (q : Pending R) (t : Tree R) (ns : List (Placed R)) (waiting : List (Pending R)) (es : List (Entry R)) → Gathers ns t → SettleAll same p Open bound (q ∷ waiting) (preorder t ++ es) → TreeAllowed q t × SettleAll same p Open bound waiting es
    tree_settles q (Tip e) ns waiting es g h =
        let r = tip_end (λ boxes. SettleAll same p Open bound boxes es) waiting _ _ e.end g.1 h.2 in
        ((((h.0, h.1), r.0), g.1), r.1)
    tree_settles q (Fork e a b) ns waiting es g h =
        let qa : Pending R = child same p q e true in
        let qb : Pending R = child same p q e false in
        let r = fork_end (λ boxes. SettleAll same p Open bound boxes ((preorder a ++ preorder b) ++ es)) waiting _ _ e.end g.1 h.2 in
        let all : SettleAll same p Open bound (qa ∷ qb ∷ waiting) (preorder a ++ (preorder b ++ es)) = subst (SettleAll same p Open bound (qa ∷ qb ∷ waiting)) (append_assoc (preorder a) (preorder b) es) r.1 in
        let first = tree_settles qa a (half true ns) (qb ∷ waiting) (preorder b ++ es) g.2 all in
        let second = tree_settles qb b (half false ns) waiting es g.3 first.1 in
        ((((h.0, h.1), r.0), g.1, first.0, second.0), second.1)

no_rows : {A : Type 0} (P : A → Type 0) → All P []
no_rows P k d lt = absurd (omega arith)

module _ {R : Type 0} (same : R → R → Bool) (p : Program R) (bound : ℕ) where
  abbrev Closing : Box → Multipliers R → Type 0
  Closing b ms = Closes p b ms bound

  -- ## Nodes left open

  left_allowed : (q : Pending R) → Allowed same p Anything bound q nothing_done
  left_allowed q = ((no_rows (λ r. p.has r ≡ true), no_rows (λ (r : R × ℤ). p.has r.0 ≡ true)), tt)

  lefts_allowed : (nodes : List (Placed R)) (left : List Path) → EachAllowed same p bound nodes (map left_at left)
  lefts_allowed nodes [] = tt
  lefts_allowed nodes (path ∷ left) = (left_allowed (after same p (root p) path (trail nodes path)), lefts_allowed nodes left)

  settle_all : (q : Pending R) (t : Tree R) → TreeAllowed same p Anything bound q t → SettleAll same p Anything bound (q ∷ []) (preorder t)
  settle_all q t h = subst (SettleAll same p Anything bound (q ∷ [])) (append-nil (preorder t)) (settle_tree same p Anything bound q t [] [] h tt)

  pub journals_settle : (entries : List (Placed R)) (left : List Path) (t : Tree R) → Gathers (all_nodes entries left) t
      → EachAllowed same p bound (all_nodes entries left) entries → Settled same p (preorder t) bound
  journals_settle entries left t g h =
      let ns : List (Placed R) = all_nodes entries left in
      settle_all (root p) t (tree_allowed same p Anything bound (root p) ns t g (every_append _ entries (map left_at left) h (lefts_allowed ns left)))

  -- ## With no node left open

  end_closing : (b : Box) (o : Option (Multipliers R)) (e : End) → is_left e ≡ false → EndAllowed same p Anything bound b o e → EndAllowed same p Closing bound b o e
  end_closing b None e is h = h
  end_closing b (Some ms) Leaf is h = h
  end_closing b (Some ms) Left is h = absurd (cc)
  end_closing b (Some ms) (Branch v) is h = h

  each_closing : (nodes entries : List (Placed R)) → Every (λ e. is_left e.entry.end ≡ false) entries → EachAllowed same p bound nodes entries → NodesAllowed same p Closing bound (root p) nodes entries
  each_closing nodes [] ended h = tt
  each_closing nodes (e ∷ es) ended h = ((h.0.0, end_closing _ _ e.entry.end ended.0 h.0.1), each_closing nodes es ended.1 h.1)

  end_proves : (Rest Rest' : List (Pending R) → Type 0) → ((more : List (Pending R)) → Rest more → Rest' more)
      → (waiting : List (Pending R)) (b : Box) (o : Option (Multipliers R)) (e : End) → EndSettles same p Closing bound Rest waiting b o e → EndProves same p bound Rest' waiting b o e
  end_proves Rest Rest' go waiting b None e h = h
  end_proves Rest Rest' go waiting b (Some ms) Leaf h = (h.0, go waiting h.1)
  end_proves Rest Rest' go waiting b (Some ms) Left h = (h.0, go waiting h.1)
  end_proves Rest Rest' go waiting b (Some ms) (Branch v) h = (h.0, h.1, go _ h.2)

  all_prove : (waiting : List (Pending R)) (es : List (Entry R)) → SettleAll same p Closing bound waiting es → ProveAll same p bound waiting es
  all_prove [] [] h = h
  all_prove [] (e ∷ es) h = h
  all_prove (q ∷ waiting) [] h = h
  all_prove (q ∷ waiting) (e ∷ es) h = (h.0, h.1, end_proves (λ boxes. SettleAll same p Closing bound boxes es) (λ boxes. ProveAll same p bound boxes es) (λ more hm. all_prove more es hm) waiting _ _ e.end h.2)

  prove_all : (q : Pending R) (t : Tree R) → TreeAllowed same p Closing bound q t → ProveAll same p bound (q ∷ []) (preorder t)
  prove_all q t h = all_prove (q ∷ []) (preorder t) (subst (SettleAll same p Closing bound (q ∷ [])) (append-nil (preorder t)) (settle_tree same p Closing bound q t [] [] h tt))

  pub journals_prove : (entries : List (Placed R)) (t : Tree R) → Whole entries [] → Gathers (all_nodes entries []) t
      → EachAllowed same p bound (all_nodes entries []) entries → Proves same p (preorder t) bound
  journals_prove entries t whole g h =
      let ns : List (Placed R) = all_nodes entries [] in
      prove_all (root p) t (tree_allowed same p Closing bound (root p) ns t g (every_append _ entries [] (each_closing ns entries whole.ended h) tt))

  pub settled_tree : (ns : List (Placed R)) (t : Tree R) → Gathers ns t → Settled same p (preorder t) bound → TreeAllowed same p Anything bound (root p) t
  settled_tree ns t g h = (tree_settles same p Anything bound (root p) t ns [] [] g (subst (SettleAll same p Anything bound (root p ∷ [])) (sym (append-nil (preorder t))) h)).0
