-- Trails are the ancestors' records of the journals.
use Rattle.std.proofs.Common.{◌≡◌, ℕ, zero, suc, ◌≤◌, inl, inr, Bool, true, false, List, [], ◌∷◌, ◌++◌, length, refl, sym, subst, ap, ◌∙◌, append-nil, append_assoc, arith}
use Rattle.proof_trees.specs.Trees.{Entry}
use Rattle.search_core.specs.Bags.{Every, In}
use Rattle.search_core.specs.Journals.{Path, Placed, Tree, Tip, Fork, root_of, roots, in_half, half, Gathers, trail}
use Rattle.search_core.specs.Machine.{Node}
use Rattle.search_core.specs.Replays.{Waiting, kids, order}
use Rattle.search_core.proofs.Weights.{every_append}

the_one : {A : Type 0} (a : A) (xs : List A) → In a xs → length xs ≤ 1 → xs ≡ a ∷ []
the_one a [] h le = absurd h
the_one {A} a (x ∷ []) (inl is) le = ap (λ (b : A). b ∷ []) (sym is)
the_one a (x ∷ []) (inr none) le = absurd none
the_one a (x ∷ y ∷ xs) h le = absurd (omega arith)

module _ {R : Type 0} where
  -- what lies at or below a path
  abbrev pub below : List (Placed R) → Path → List (Placed R)
  below ns [] = ns
  below ns (y ∷ path) = below (half y ns) path

  below_more : (ns : List (Placed R)) (path : Path) (y : Bool) → below ns (path ++ y ∷ []) ≡ half y (below ns path)
  below_more ns [] y = refl
  below_more ns (z ∷ path) y = below_more (half z ns) path y

  trail_longer : (ns : List (Placed R)) (path : Path) (y : Bool) → trail ns (path ++ y ∷ []) ≡ trail ns path ++ roots (below ns path)
  trail_longer ns [] y = append-nil (roots ns)
  trail_longer ns (z ∷ path) y = ap (λ (l : List (Entry R)). roots ns ++ l) (trail_longer (half z ns) path y) ∙ sym (append_assoc (roots ns) (trail (half z ns) path) (roots (below (half z ns) path)))

  -- ## The items' trails

  abbrev pub OnTrail : List (Placed R) → Waiting R → Type 0
  OnTrail ns w = (w.node.trail ≡ trail ns w.node.path) × Gathers (below ns w.node.path) w.tree

  kids_on_trail : (ns : List (Placed R)) (n : ℕ) (node : Node R) (t : Tree R) → node.trail ≡ trail ns node.path → Gathers (below ns node.path) t → Every (OnTrail ns) (kids n node t)
  kids_on_trail ns n node (Tip e) is g = tt
  kids_on_trail ns n node (Fork e a b) is g =
      let longer : (y : Bool) → node.trail ++ e ∷ [] ≡ trail ns (node.path ++ y ∷ []) = λ y. sym (trail_longer ns node.path y ∙ (ap (λ (l : List (Entry R)). l ++ roots (below ns node.path)) (sym is) ∙ ap (λ (l : List (Entry R)). node.trail ++ l) g.0)) in
      ((longer true, subst (λ (l : List (Placed R)). Gathers l a) (sym (below_more ns node.path true)) g.2), ((longer false, subst (λ (l : List (Placed R)). Gathers l b) (sym (below_more ns node.path false)) g.3), tt))

  pub items_on_trail : (ns : List (Placed R)) (f n : ℕ) (ws : List (Waiting R)) → Every (OnTrail ns) ws → Every (λ it. it.node.trail ≡ trail ns it.node.path) (order f n ws)
  items_on_trail ns zero n ws h = tt
  items_on_trail ns (suc f) n [] h = tt
  items_on_trail ns (suc f) n (w ∷ ws) h = (h.0.0, items_on_trail ns f (suc n) (ws ++ kids n w.node w.tree) (every_append (OnTrail ns) ws (kids n w.node w.tree) h.1 (kids_on_trail ns n w.node w.tree h.0.0 h.0.1)))

  -- ## One record at each path

  none_below : (path : Path) → roots (below [] path) ≡ []
  none_below [] = refl
  none_below (true ∷ path) = none_below path
  none_below (false ∷ path) = none_below path

  at_most_one : (t : Tree R) (ns : List (Placed R)) (path : Path) → Gathers ns t → length (roots (below ns path)) ≤ 1
  at_most_one (Tip e) ns [] g = omega (arith, ap length g.0)
  at_most_one (Fork e a b) ns [] g = omega (arith, ap length g.0)
  at_most_one (Tip e) ns (true ∷ path) g = omega (arith, ap (λ (l : List (Placed R)). length (roots (below l path))) g.2, ap length (none_below path))
  at_most_one (Tip e) ns (false ∷ path) g = omega (arith, ap (λ (l : List (Placed R)). length (roots (below l path))) g.3, ap length (none_below path))
  at_most_one (Fork e a b) ns (true ∷ path) g = at_most_one a (half true ns) path g.2
  at_most_one (Fork e a b) ns (false ∷ path) g = at_most_one b (half false ns) path g.3

  in_root_of : (path : Path) (e r : Entry R) (es : List (Entry R)) → In e es → In e (root_of path r es)
  in_root_of [] e r es h = inr h
  in_root_of (y ∷ path) e r es h = h

  in_roots : (e : Entry R) (ns : List (Placed R)) → In (record { path = []; entry = e }) ns → In e (roots ns)
  in_roots e [] h = h
  in_roots e (n ∷ ns) (inl is) = subst (λ (m : Placed R). In e (root_of m.path m.entry (roots ns))) is (inl refl)
  in_roots e (n ∷ ns) (inr h) = in_root_of n.path e n.entry (roots ns) (in_roots e ns h)

  in_in_half : (y : Bool) (path : Path) (m : Placed R) (r : Entry R) (ns : List (Placed R)) → In m ns → In m (in_half y path r ns)
  in_in_half y [] m r ns h = h
  in_in_half true (true ∷ path) m r ns h = inr h
  in_in_half true (false ∷ path) m r ns h = h
  in_in_half false (true ∷ path) m r ns h = h
  in_in_half false (false ∷ path) m r ns h = inr h

  first_half : (y : Bool) (path : Path) (e : Entry R) (ns : List (Placed R)) → In (record { path = path; entry = e }) (in_half y (y ∷ path) e ns)
  first_half true path e ns = inl refl
  first_half false path e ns = inl refl

  in_half_of : (y : Bool) (path : Path) (e : Entry R) (ns : List (Placed R)) → In (record { path = y ∷ path; entry = e }) ns → In (record { path = path; entry = e }) (half y ns)
  in_half_of y path e [] h = h
  in_half_of y path e (n ∷ ns) (inl is) = subst (λ (m : Placed R). In (record { path = path; entry = e }) (in_half y m.path m.entry (half y ns))) is (first_half y path e (half y ns))
  in_half_of y path e (n ∷ ns) (inr h) = in_in_half y n.path (record { path = path; entry = e }) n.entry (half y ns) (in_half_of y path e ns h)

  in_below : (path : Path) (e : Entry R) (ns : List (Placed R)) → In (record { path = path; entry = e }) ns → In e (roots (below ns path))
  in_below [] e ns h = in_roots e ns h
  in_below (y ∷ path) e ns h = in_below path e (half y ns) (in_half_of y path e ns h)

  -- below an entry the trail goes on with its record
  pub trail_goes_on : (t : Tree R) (ns : List (Placed R)) (n : Placed R) (y : Bool) → Gathers ns t → In n ns → trail ns (n.path ++ y ∷ []) ≡ trail ns n.path ++ n.entry ∷ []
  trail_goes_on t ns n y g here = trail_longer ns n.path y ∙ ap (λ (l : List (Entry R)). trail ns n.path ++ l) (the_one n.entry (roots (below ns n.path)) (in_below n.path n.entry ns here) (at_most_one t ns n.path g))
