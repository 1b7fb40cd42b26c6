-- The trails of nodes in hand are those of the journals.
use Rattle.std.proofs.Common.{◌≡◌, ℕ, zero, suc, ◌+◌, ◌<◌, ◌≤◌, ◌⊎◌, inl, inr, Bool, true, false, cond, List, [], ◌∷◌, ◌++◌, length, map, refl, sym, subst, ap, ◌∙◌, length-append, arith}
use Rattle.proof_trees.specs.Program.{Program}
use Rattle.proof_trees.specs.Trees.{Entry, root}
use Rattle.search_core.specs.Bags.{weigh, Every, In}
use Rattle.search_core.specs.Journals.{Placed, branches, is_left, left_at, halves, Whole, trail, after, Anything, Allowed, EachAllowed}
use Rattle.search_core.specs.Machine.{Node, Handled, at_its_path, root_node, half_node}
use Rattle.search_core.specs.Outcomes.{path_of, children, WholeNodes, nodes_of, Tells, EachHandled}
use Rattle.search_core.proofs.Weights.{weigh_map}
use Rattle.search_core.proofs.OneTree.{whole_gathers}
use Rattle.search_core.proofs.OpenNodes.{in_left}
use Rattle.search_core.proofs.Ancestors.{trail_goes_on}

abbrev bit : Bool → ℕ
bit c = cond c 1 0

bit_true : (c : Bool) → 0 < bit c → c ≡ true
bit_true true h = refl
bit_true false h = absurd (omega arith)

either : (a b : ℕ) → 0 < a + b → (0 < a) ⊎ (0 < b)
either zero b h = inr (omega arith)
either (suc a) b h = inl (omega arith)

positive : (a b c : ℕ) → 0 < (a + b) + c → (0 < a) ⊎ ((0 < b) ⊎ (0 < c))
positive a b c h = elim (either (a + b) c h) [ inl ab ↦ elim (either a b ab) [ inl x ↦ inl x | inr y ↦ inr (inl y) ] | inr z ↦ inr (inr z) ]

module _ {A B : Type 0} (f : A → B) where
  pub in_map : (a : A) (xs : List A) → In a xs → In (f a) (map f xs)
  in_map a [] h = h
  in_map a (x ∷ xs) (inl is) = inl (ap f is)
  in_map a (x ∷ xs) (inr h) = inr (in_map a xs h)

  pub every_map : (P : B → Type 0) (xs : List A) → Every (λ a. P (f a)) xs → Every P (map f xs)
  every_map P [] h = tt
  every_map P (x ∷ xs) h = (h.0, every_map P xs h.1)

-- each element that is in the list has the property
pub every_by : {A : Type 0} (P : A → Type 0) (xs : List A) → ((a : A) → In a xs → P a) → Every P xs
every_by P [] h = tt
every_by P (x ∷ xs) h = (h x (inl refl), every_by P xs (λ a i. h a (inr i)))

in_counts : {A : Type 0} (h : A → ℕ) (a : A) (xs : List A) → In a xs → h a ≤ weigh h xs
in_counts h a [] i = absurd i
in_counts {A} h a (x ∷ xs) (inl is) = subst (λ (b : A). h b ≤ h x + weigh h xs) (sym is) (omega arith)
in_counts h a (x ∷ xs) (inr i) = omega (arith, in_counts h a xs i)

module _ {R : Type 0} where
  nodes_ended : (es : List (Handled R)) → Every (λ e. is_left e.entry.end ≡ false) es → Every (λ (e : Placed R). is_left e.entry.end ≡ false) (map at_its_path es)
  nodes_ended es h = every_map at_its_path (λ (e : Placed R). is_left e.entry.end ≡ false) es h

  pub nodes_whole : (entries : List (Handled R)) (left : List (Node R)) → WholeNodes entries left → Whole (map at_its_path entries) (map path_of left)
  nodes_whole entries left w = record {
    ended = nodes_ended entries w.ended;
    bag = λ h. omega (arith, w.bag (λ n. h n.path), weigh_map at_its_path (λ (e : Placed R). h e.path) entries, weigh_map path_of h left, weigh_map at_its_path (halves h) entries);
  }

  -- a branched entry of which the node is a child
  parent_by : (h : Node R → ℕ) (c : Bool) (e : Handled R) (rest : ℕ) → branches e.entry.end ≡ c → 0 < children h e + rest → ((y : Bool) × (0 < h (half_node e.node e.entry y))) ⊎ (0 < rest)
  parent_by h true e rest is lt =
      let some : 0 < (h (half_node e.node e.entry true) + h (half_node e.node e.entry false)) + rest = subst (λ (c : Bool). 0 < cond c (h (half_node e.node e.entry true) + h (half_node e.node e.entry false)) 0 + rest) is lt in
      elim (positive (h (half_node e.node e.entry true)) (h (half_node e.node e.entry false)) rest some) [
        | inl a ↦ inl (true, a)
        | inr b ↦ elim b [ inl k ↦ inl (false, k) | inr k ↦ inr k ]
      ]
  parent_by h false e rest is lt = let some : 0 < 0 + rest = subst (λ (c : Bool). 0 < cond c (h (half_node e.node e.entry true) + h (half_node e.node e.entry false)) 0 + rest) is lt in inr (omega arith)

  parent_of : (h : Node R → ℕ) (es : List (Handled R)) → 0 < weigh (children h) es → (e : Handled R) × In e es × ((y : Bool) × (0 < h (half_node e.node e.entry y)))
  parent_of h [] lt = absurd (omega arith)
  parent_of h (e ∷ es) lt = elim (parent_by h (branches e.entry.end) e (weigh (children h) es) refl lt) [
    | inl here ↦ (e, inl refl, here)
    | inr rest ↦ let r = parent_of h es rest in (r.0, inr r.1, r.2)
  ]

  module _ (alike : Node R → Node R → Bool) (tells : Tells alike) (entries : List (Handled R)) (left : List (Node R)) (w : WholeNodes entries left) where
    abbrev ns : List (Placed R)
    ns = nodes_of entries left

    abbrev at_node : Node R → Node R → ℕ
    at_node n m = bit (alike n m)

    counts_self : (n : Node R) → at_node n n ≡ 1
    counts_self n = ap bit ((tells n n).1 refl)

    trail_by : (f : ℕ) (n : Node R) → length n.path < f → 0 < weigh (λ (e : Handled R). at_node n e.node) entries + weigh (at_node n) left → n.trail ≡ trail ns n.path
    trail_by zero n lt some = absurd (omega arith)
    trail_by (suc f) n lt some =
        let total : 0 < at_node n root_node + weigh (children (at_node n)) entries = omega (arith, some, w.bag (at_node n)) in
        elim (either (at_node n root_node) (weigh (children (at_node n)) entries) total) [
          | inl first ↦
              let is : n ≡ root_node = (tells n root_node).0 (bit_true (alike n root_node) first) in
              subst (λ (m : Node R). m.trail ≡ trail ns m.path) (sym is) refl
          | inr more ↦
              let up = parent_of (at_node n) entries more in
              let e : Handled R = up.0 in
              let y : Bool = up.2.0 in
              let is : n ≡ half_node e.node e.entry y = (tells n (half_node e.node e.entry y)).0 (bit_true (alike n (half_node e.node e.entry y)) up.2.1) in
              let shorter : length e.node.path < f = omega (arith, ap (λ (m : Node R). length m.path) is, length-append e.node.path (y ∷ [])) in
              let here : 0 < weigh (λ (d : Handled R). at_node e.node d.node) entries = omega (arith, counts_self e.node, in_counts (λ (d : Handled R). at_node e.node d.node) e entries up.1) in
              let above : e.node.trail ≡ trail ns e.node.path = trail_by f e.node shorter (omega arith) in
              let grown = whole_gathers (map at_its_path entries) (map path_of left) (nodes_whole entries left w) in
              let on : trail ns (e.node.path ++ y ∷ []) ≡ trail ns e.node.path ++ e.entry ∷ [] = trail_goes_on grown.0 ns (at_its_path e) y grown.1 (in_left (at_its_path e) (map at_its_path entries) (map left_at (map path_of left)) (in_map at_its_path e entries up.1)) in
              subst (λ (m : Node R). m.trail ≡ trail ns m.path) (sym is) (sym (on ∙ ap (λ (l : List (Entry R)). l ++ e.entry ∷ []) (sym above)))
        ]

    pub entries_on_trail : Every (λ e. e.node.trail ≡ trail ns e.node.path) entries
    entries_on_trail = every_by (λ e. e.node.trail ≡ trail ns e.node.path) entries
        (λ e i. trail_by (suc (length e.node.path)) e.node (omega arith) (omega (arith, counts_self e.node, in_counts (λ (d : Handled R). at_node e.node d.node) e entries i)))

    pub left_on_trail : Every (λ n. n.trail ≡ trail ns n.path) left
    left_on_trail = every_by (λ n. n.trail ≡ trail ns n.path) left
        (λ n i. trail_by (suc (length n.path)) n (omega arith) (omega (arith, counts_self n, in_counts (at_node n) n left i)))

  -- what is proved with the node in hand is proved with the journals' trail
  pub handled_allowed : (same : R → R → Bool) (p : Program R) (bound : ℕ) (nodes : List (Placed R)) (es : List (Handled R)) → Every (λ e. e.node.trail ≡ trail nodes e.node.path) es
      → EachHandled same p bound es → EachAllowed same p bound nodes (map at_its_path es)
  handled_allowed same p bound nodes [] on h = tt
  handled_allowed same p bound nodes (e ∷ es) on h = (subst (λ (l : List (Entry R)). Allowed same p Anything bound (after same p (root p) e.node.path l) e.entry) on.0 h.0, handled_allowed same p bound nodes es on.1 h.1)
