-- What workers know together makes a settled tree and a replay.
use Rattle.std.proofs.Common.{◌≡◌, ℕ, inl, inr, Bool, true, List, [], ◌∷◌, length, map, refl, subst, arith}
use Rattle.proof_trees.specs.Program.{Program}
use Rattle.proof_trees.specs.Trees.{Leaf, Entry, root, Proves}
use Rattle.search_core.specs.Bags.{Every}
use Rattle.search_core.specs.Journals.{Placed, Whole, Tree, preorder, Gathers, trail, after, box_after, Settled, EachAllowed}
use Rattle.search_core.specs.Machine.{Node, Handled, at_its_path, begins, price, is_full}
use Rattle.search_core.specs.Replays.{box_in, IsFullLeaf, IsOffer}
use Rattle.search_core.specs.Outcomes.{path_of, nodes_of, Tells, EachHandled, Searched, Founded}
use Rattle.search_core.proofs.Weights.{every_more, every_in}
use Rattle.search_core.proofs.OneTree.{whole_gathers}
use Rattle.search_core.proofs.Settling.{journals_settle, journals_prove}
use Rattle.search_core.proofs.Rule.{OffersSolve}
use Rattle.search_core.proofs.NodeTrails.{in_map, nodes_whole, entries_on_trail, handled_allowed}
use Rattle.search_core.proofs.EndedEntries.{allowed_lesser}
use Rattle.search_core.proofs.Replay.{replayed}

length_map : {A B : Type 0} (f : A → B) (xs : List A) → length (map f xs) ≡ length xs
length_map f [] = refl
length_map f (x ∷ xs) = omega (arith, length_map f xs)

module _ {R : Type 0} (same : R → R → Bool) (p : Program R) (base : List R) where
  module _ (alike : Node R → Node R → Bool) (tells : Tells alike) (entries : List (Handled R)) (left : List (Node R)) (start budget best : ℕ) (s : Searched same p base entries left start budget best) where
    abbrev ns : List (Placed R)
    ns = nodes_of entries left

    each : EachHandled same p best entries
    each = every_more _ _ entries (λ e h. allowed_lesser same p base best h.0 h.1 (begins same p e.node) e.entry h.2) s.allowed

    on_trail : Every (λ e. e.node.trail ≡ trail ns e.node.path) entries
    on_trail = entries_on_trail alike tells entries left s.nodes

    offer : IsOffer same p base ns (map at_its_path entries) start best
    offer = record {
      most = s.most;
      from = elim s.from [
        | inl first ↦ inl first
        | inr one ↦
            let e : Handled R = one.0 in
            let is : e.node.trail ≡ trail ns e.node.path = every_in _ entries e on_trail one.1 in
            let moved : IsFullLeaf same p base ns (at_its_path e) × (price p (box_in same p ns (at_its_path e)) ≡ best)
            = subst (λ (l : List (Entry R)). ((e.entry.end ≡ Leaf) × (is_full p base (box_after same p (after same p (root p) e.node.path l) e.entry) ≡ true)) × (price p (box_after same p (after same p (root p) e.node.path l) e.entry) ≡ best)) is
            ((one.2, one.3), one.4) in
            inr (at_its_path e, in_map at_its_path e entries one.1, moved.0, moved.1)
      ];
    }

  proved_by : (bound : ℕ) (entries : List (Handled R)) (left : List (Node R)) (t : Tree R) → left ≡ [] → Whole (map at_its_path entries) (map path_of left) → Gathers (nodes_of entries left) t → EachAllowed same p bound (nodes_of entries left) (map at_its_path entries) → Proves same p (preorder t) bound
  proved_by bound entries [] t none whole gathers each = journals_prove same p bound (map at_its_path entries) t whole gathers each
  proved_by bound entries (n ∷ left) t none whole gathers each = absurd (cc)

  pub founded : OffersSolve same p base → (alike : Node R → Node R → Bool) → Tells alike → (entries : List (Handled R)) (left : List (Node R)) (start budget best : ℕ) → Searched same p base entries left start budget best → Founded same p base entries left start budget best
  founded solves alike tells entries left start budget best s =
      let whole : Whole (map at_its_path entries) (map path_of left) = nodes_whole entries left s.nodes in
      let grown = whole_gathers (map at_its_path entries) (map path_of left) whole in
      let allowed : EachAllowed same p best (nodes_of entries left) (map at_its_path entries) = handled_allowed same p best (nodes_of entries left) entries (on_trail alike tells entries left start budget best s) (each alike tells entries left start budget best s) in
      let settled : Settled same p (preorder grown.0) best = journals_settle same p best (map at_its_path entries) (map path_of left) grown.0 grown.1 allowed in
      let many : length (map {A = Handled R} at_its_path entries) ≡ length entries = length_map at_its_path entries in
      let lefts : length (map {A = Node R} path_of left) ≡ length left = length_map path_of left in
      record {
        whole = whole;
        tree = grown.0;
        gathers = grown.1;
        settled = settled;
        proved = λ none. proved_by best entries left grown.0 none whole grown.1 allowed;
        replays = replayed same p base best solves (map at_its_path entries) (map path_of left) grown.0 start budget whole grown.1 settled (offer alike tells entries left start budget best s)
            (omega (arith, many, s.within)) (λ some. let used : length entries ≡ budget = s.used (omega arith) in omega arith);
      }
