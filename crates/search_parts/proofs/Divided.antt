-- The half of a node that was divided is a node.
use Rattle.std.proofs.Common.{◌≡◌, ℕ, Bool, true, List, [], ◌∷◌, ◌++◌, map, Option, Some, None, Result, Ok, Err, refl, sym, subst}
use Rattle.std.specs.Prelude.{is_ok, if◌then◌else◌, OnOk}
use Rattle.stow_data.specs.declared.list.NoMemory.{NoMemory}
use Rattle.std.proofs.lemmas.List.{map-append}
use Rattle.zero_one_rows.specs.declared.program.Row.{Row}
use Rattle.zero_one_rows.specs.Variables.{Voyage}
use Rattle.zero_one_rows.specs.Rows.{whole}
use Rattle.zero_one_rows.specs.Counted.{base_rows}
use Rattle.proof_trees.specs.Boxes.{Box}
use Rattle.proof_trees.specs.Multipliers.{Multipliers}
use Rattle.proof_trees.specs.Trees.{End, Leaf, Left, Branch, Entry, root}
use Rattle.certificate.specs.declared.tree.Record.{Record}
use Rattle.certificate.specs.declared.nodes.Node.{Node}
use Rattle.certificate.specs.Entries.{same_row, entry_of}
use Rattle.search_core.specs.Journals.{Anything, EndAllowed, branches, box_after, multipliers_after}
use Rattle.search_core.specs.Machine.{Divides, IsTrail}
use Rattle.search_core.proofs.Trails.{trail_more}
use Rattle.node_solver.specs.Work.{IsNode, begins_at, EndsBranched}

module _ (m : Voyage) where
  divides_by : (value : ℕ) (b : Box) (o : Option (Multipliers Row)) (d : End) → branches d ≡ true → EndAllowed same_row (whole m) Anything value b o d → ((ms : Multipliers Row) × (o ≡ Some ms)) × Divides (whole m) b d
  divides_by value b None d is h = absurd h
  divides_by value b (Some ms) Leaf is h = absurd (cc)
  divides_by value b (Some ms) Left is h = absurd (cc)
  divides_by value b (Some ms) (Branch v) is h = ((ms, refl), h)

  pub deeper : (n : Node) (r : Record) (y : Bool) (most cut : ℕ) → IsNode m n → EndsBranched m (begins_at m n) most cut r → IsNode m (record { path = n.path ++ y ∷ []; trail = n.trail ++ r ∷ [] })
  deeper n r y most cut here ends =
      let e : Entry Row = entry_of m r in
      let parts = divides_by cut (box_after same_row (whole m) (begins_at m n) e) (multipliers_after same_row (whole m) (begins_at m n) e) e.end ends.divides ends.ends.allowed.1 in
      subst (λ (es : List (Entry Row)). IsTrail same_row (whole m) (root (whole m)) (n.path ++ y ∷ []) es) (sym (map-append (entry_of m) n.trail (r ∷ [])))
      (trail_more same_row (whole m) (base_rows m) (root (whole m)) n.path (map (entry_of m) n.trail) e y here (ends.ends.allowed.0, parts.0) parts.1)

  pub descended : (n : Node) (r : Record) (most cut : ℕ) (trail : List Record) (path : List Bool) (o : Result (Unit {0}) NoMemory) → trail ≡ n.trail ++ r ∷ [] → path ≡ (if is_ok o then n.path ++ true ∷ [] else n.path) → IsNode m n → EndsBranched m (begins_at m n) most cut r → OnOk o (IsNode m (record { path = path; trail = trail }))
  descended n r most cut trail path (Ok u) t p here ends =
      subst (λ (rs : List Record). IsNode m (record { path = path; trail = rs })) (sym t) (subst (λ (ys : List Bool). IsNode m (record { path = ys; trail = n.trail ++ r ∷ [] })) (sym p) (deeper n r true most cut here ends))
  descended n r most cut trail path (Err e) t p here ends = tt
