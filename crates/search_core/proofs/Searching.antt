-- A search by one worker goes on, node by node.
use Rattle.std.proofs.Common.{◌≡◌, ℕ, ◌+◌, ◌<◌, ◌≤◌, ◌⊎◌, inl, inr, Bool, true, false, cond, List, [], ◌∷◌, ◌++◌, length, Option, Some, None, refl, ap, arith}
use Rattle.proof_trees.specs.Program.{Program}
use Rattle.proof_trees.specs.Boxes.{Box}
use Rattle.proof_trees.specs.Multipliers.{Multipliers}
use Rattle.proof_trees.specs.Trees.{End, Leaf, Left, Branch, Entry, root}
use Rattle.search_core.specs.Bags.{In}
use Rattle.search_core.specs.Journals.{branches, is_left, box_after, multipliers_after, Anything, EndAllowed, Allowed}
use Rattle.search_core.specs.Machine.{Node, Handled, handled, root_node, half_node, begins, Divides, IsTrail, is_full, price}
use Rattle.search_core.specs.Outcomes.{children, WholeNodes, Searched}
use Rattle.search_core.specs.Searching.{IsPaid, Searching}
use Rattle.search_core.proofs.Weights.{weigh_append, every_append, every_left, every_right, every_more}
use Rattle.search_core.proofs.Trails.{trail_more}

module _ {A : Type 0} where
  in_more : (a : A) (xs ys : List A) → In a xs → In a (xs ++ ys)
  in_more a [] ys i = absurd i
  in_more a (x ∷ xs) ys (inl is) = inl is
  in_more a (x ∷ xs) ys (inr h) = inr (in_more a xs ys h)

  in_last : (a : A) (xs : List A) → In a (xs ++ a ∷ [])
  in_last a [] = inl refl
  in_last a (x ∷ xs) = inr (in_last a xs)

branch_stays : (e : End) → branches e ≡ true → is_left e ≡ false
branch_stays Leaf h = absurd (cc)
branch_stays Left h = absurd (cc)
branch_stays (Branch v) h = refl

module _ {R : Type 0} (same : R → R → Bool) (p : Program R) (base : List R) where
  abbrev AllowedAbove : ℕ → Handled R → Type 0
  AllowedAbove best e = (value : ℕ) × (best ≤ value) × Allowed same p Anything value (begins same p e.node) e.entry

  abbrev HasTrail : Node R → Type 0
  HasTrail n = IsTrail same p (root p) n.path n.trail

  pub searching_begins : (start : ℕ) → Searching same p base [] (root_node ∷ []) start start
  searching_begins start = record { nodes = record { ended = tt; bag = λ h. omega arith }; trails = (tt, tt); allowed = tt; most = omega arith; from = inl refl }

  -- a leaf weighs no children
  leaf_halves : (h : Node R → ℕ) (n : Node R) (e : Entry R) → e.end ≡ Leaf → children h (handled n e) ≡ 0
  leaf_halves h n e is = ap (λ (d : End). cond (branches d) (h (half_node n e true) + h (half_node n e false)) 0) is

  both_halves : (h : Node R → ℕ) (n : Node R) (e : Entry R) → branches e.end ≡ true → children h (handled n e) ≡ h (half_node n e true) + h (half_node n e false)
  both_halves h n e is = ap (λ (c : Bool). cond c (h (half_node n e true) + h (half_node n e false)) 0) is

  module _ (entries : List (Handled R)) (waiting : List (Node R)) (n : Node R) (e : Entry R) where
    abbrev more : List (Handled R)
    more = entries ++ handled n e ∷ []

    leaf_nodes : WholeNodes entries (waiting ++ n ∷ []) → e.end ≡ Leaf → WholeNodes more waiting
    leaf_nodes w is = record {
      ended = every_append _ entries (handled n e ∷ []) w.ended (ap is_left is, tt);
      bag = λ h. omega (arith, w.bag h, weigh_append h waiting (n ∷ []), weigh_append (λ (a : Handled R). h a.node) entries (handled n e ∷ []), weigh_append (children h) entries (handled n e ∷ []), leaf_halves h n e is);
    }

    branch_nodes : WholeNodes entries (waiting ++ n ∷ []) → branches e.end ≡ true → WholeNodes more (waiting ++ half_node n e false ∷ half_node n e true ∷ [])
    branch_nodes w is = record {
      ended = every_append _ entries (handled n e ∷ []) w.ended (branch_stays e.end is, tt);
      bag = λ h. omega (
        arith,
        w.bag h,
        weigh_append h waiting (n ∷ []),
        weigh_append h waiting (half_node n e false ∷ half_node n e true ∷ []),
        weigh_append (λ (a : Handled R). h a.node) entries (handled n e ∷ []),
        weigh_append (children h) entries (handled n e ∷ []),
        both_halves h n e is,
      );
    }

    paid_more : (best : ℕ) → IsPaid same p base entries best → IsPaid same p base more best
    paid_more best (a, i, leaf, full, paid) = (a, in_more a entries (handled n e ∷ []) i, leaf, full, paid)

    from_more : (start best : ℕ) → (best ≡ start) ⊎ IsPaid same p base entries best → (best ≡ start) ⊎ IsPaid same p base more best
    from_more start best h = elim h [ inl first ↦ inl first | inr paid ↦ inr (paid_more best paid) ]

    pub searching_closes : (start best value : ℕ) → Searching same p base entries (waiting ++ n ∷ []) start best → best ≤ value → Allowed same p Anything value (begins same p n) e → e.end ≡ Leaf → Searching same p base more waiting start best
    searching_closes start best value s le fine is = record {
      nodes = leaf_nodes s.nodes is;
      trails = every_left HasTrail waiting (n ∷ []) s.trails;
      allowed = every_append (AllowedAbove best) entries (handled n e ∷ []) s.allowed ((value, le, fine), tt);
      most = s.most;
      from = from_more start best s.from;
    }

    pub searching_offers : (start best cost : ℕ) → Searching same p base entries (waiting ++ n ∷ []) start best → cost ≤ best → Allowed same p Anything cost (begins same p n) e → e.end ≡ Leaf
        → is_full p base (box_after same p (begins same p n) e) ≡ true → price p (box_after same p (begins same p n) e) ≡ cost → Searching same p base more waiting start cost
    searching_offers start best cost s le fine is full paid = record {
      nodes = leaf_nodes s.nodes is;
      trails = every_left HasTrail waiting (n ∷ []) s.trails;
      allowed = every_append (AllowedAbove cost) entries (handled n e ∷ [])
          (every_more (AllowedAbove best) (AllowedAbove cost) entries (λ a h. (h.0, (omega (arith, h.1, le)), h.2)) s.allowed) ((cost, omega arith, fine), tt);
      most = omega (arith, s.most, le);
      from = inr (handled n e, in_last (handled n e) entries, is, full, paid);
    }

    divides_by : (value : ℕ) (b : Box) (o : Option (Multipliers R)) (d : End) → branches d ≡ true → EndAllowed same p Anything value b o d → ((ms : Multipliers R) × (o ≡ Some ms)) × Divides p b d
    divides_by value b None d is h = absurd h
    divides_by value b (Some ms) Leaf is h = absurd (cc)
    divides_by value b (Some ms) Left is h = absurd (cc)
    divides_by value b (Some ms) (Branch v) is h = ((ms, refl), h)

    pub searching_divides : (start best value : ℕ) → Searching same p base entries (waiting ++ n ∷ []) start best → best ≤ value → Allowed same p Anything value (begins same p n) e → branches e.end ≡ true
        → Searching same p base more (waiting ++ half_node n e false ∷ half_node n e true ∷ []) start best
    searching_divides start best value s le fine is =
        let here : HasTrail n = (every_right HasTrail waiting (n ∷ []) s.trails).0 in
        let parts = divides_by value (box_after same p (begins same p n) e) (multipliers_after same p (begins same p n) e) e.end is fine.1 in
        let child : (y : Bool) → HasTrail (half_node n e y) = λ y. trail_more same p base (root p) n.path n.trail e y here (fine.0, parts.0) parts.1 in
        record {
          nodes = branch_nodes s.nodes is;
          trails = every_append HasTrail waiting (half_node n e false ∷ half_node n e true ∷ []) (every_left HasTrail waiting (n ∷ []) s.trails) (child false, (child true, tt));
          allowed = every_append (AllowedAbove best) entries (handled n e ∷ []) s.allowed ((value, le, fine), tt);
          most = s.most;
          from = from_more start best s.from;
        }

  pub searching_ends : (entries : List (Handled R)) (waiting : List (Node R)) (start budget best : ℕ) → Searching same p base entries waiting start best → length entries ≤ budget
      → (0 < length waiting → length entries ≡ budget) → Searched same p base entries waiting start budget best
  searching_ends entries waiting start budget best s few full = record { nodes = s.nodes; allowed = s.allowed; most = s.most; from = s.from; within = few; used = full }
