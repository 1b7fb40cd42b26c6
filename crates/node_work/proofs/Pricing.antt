-- The multipliers along a trail.
use Rattle.std.proofs.Common.{◌≡◌, true, All, List, [], ◌∷◌, length, map, Option, Some, ℤ, refl, sym, subst, ◌∙◌, ap, arith}
use Rattle.std.proofs.lemmas.List.{length-map, get_or-map}
use Rattle.zero_one_rows.specs.declared.program.Raise.{Raise}
use Rattle.zero_one_rows.specs.declared.program.Row.{Row}
use Rattle.zero_one_rows.specs.Variables.{Voyage}
use Rattle.zero_one_rows.specs.Rows.{whole}
use Rattle.proof_trees.specs.Multipliers.{Multipliers}
use Rattle.proof_trees.specs.Boxes.{Box}
use Rattle.proof_trees.specs.Trees.{Pending, root}
use Rattle.certificate.specs.declared.tree.Record.{Record}
use Rattle.certificate.specs.declared.nodes.Node.{Node}
use Rattle.certificate.specs.Entries.{same_row, entry_of, raise_of}
use Rattle.search_core.specs.Journals.{Path, child, after, known}
use Rattle.search_core.specs.Machine.{IsTrail}
use Rattle.node_work.specs.DualStates.{AreNamed}
use Rattle.node_work.specs.Starts.{InRange, prices_along}
use Rattle.node_solver.specs.Work.{IsNode, begins_at}
use Rattle.node_work.proofs.Trails.{pending, entries}

module _ (m : Voyage) where
  pub in_range : (q : Pending Row) (path : Path) (rs : List Record) → IsTrail same_row (whole m) q path (entries m rs) → InRange q.multipliers rs
  in_range q [] [] h = tt
  in_range q [] (r ∷ rs) h = absurd h
  in_range q (y ∷ path) [] h = absurd h
  in_range q (y ∷ path) (r ∷ rs) h =
      let rest : InRange (known (Some h.0.1.0)) rs = subst (λ (o : Option (Multipliers Row)). InRange (known o) rs) h.0.1.1 (in_range (child same_row (whole m) q (entry_of m r) y) path rs h.2) in
      (h.0.1.0, h.0.1.1, rest)

  pub priced_is : (q : Pending Row) (path : Path) (rs : List Record) → IsTrail same_row (whole m) q path (entries m rs) → (after same_row (whole m) q path (entries m rs)).multipliers ≡ prices_along q.multipliers rs
  priced_is q [] [] h = refl
  priced_is q [] (r ∷ rs) h = absurd h
  priced_is q (y ∷ path) [] h = absurd h
  priced_is q (y ∷ path) (r ∷ rs) h = priced_is (child same_row (whole m) q (entry_of m r) y) path rs h.2

  -- the raises on the way are of rows of the program
  named_here : (rs : List Raise) → All (λ (x : Row × ℤ). (whole m).has x.0 ≡ true) (map raise_of rs) → All (λ (x : Raise). (whole m).has x.row ≡ true) rs
  named_here rs h = λ k d lt. subst (λ (x : Row × ℤ). (whole m).has x.0 ≡ true) (get_or-map raise_of rs k d (raise_of d) lt) (h k (raise_of d) (let n : length (map raise_of rs) ≡ length rs = length-map rs raise_of in omega arith))

  pub named_along : (q : Pending Row) (path : Path) (rs : List Record) → IsTrail same_row (whole m) q path (entries m rs) → AreNamed m rs
  named_along q [] [] h = tt
  named_along q [] (r ∷ rs) h = absurd h
  named_along q (y ∷ path) [] h = absurd h
  named_along q (y ∷ path) (r ∷ rs) h = (named_here r.raises h.0.0.1, named_along (child same_row (whole m) q (entry_of m r) y) path rs h.2)

-- the box and the multipliers of a node are those with which it begins
pub begun_is : (m : Voyage) (n : Node) (b : Box) (ms : Multipliers Row) (path : Path) (trail : List Record) → IsNode m n → path ≡ n.path → trail ≡ n.trail
    → b ≡ (after same_row (whole m) (root (whole m)) path (entries m trail)).box → ms ≡ prices_along [] trail → pending b ms ≡ begins_at m n
begun_is m n b ms path trail h same_path same_trail box prices =
    ap (λ (d : Box). pending d ms) (box ∙ ap (λ (ps : Path). (after same_row (whole m) (root (whole m)) ps (entries m trail)).box) same_path ∙ ap (λ (rs : List Record). (after same_row (whole m) (root (whole m)) n.path (entries m rs)).box) same_trail)
    ∙ ap (λ (us : Multipliers Row). pending (begins_at m n).box us) (prices ∙ ap (prices_along []) same_trail ∙ sym (priced_is m (root (whole m)) n.path n.trail h))
