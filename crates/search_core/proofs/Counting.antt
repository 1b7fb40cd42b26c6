-- The records of a tree that weren't left open are the entries.
use Rattle.std.proofs.Common.{◌≡◌, ℕ, Bool, true, false, cond, List, [], ◌∷◌, length, map, refl, ap, arith}
use Rattle.proof_trees.specs.Trees.{Entry}
use Rattle.search_core.specs.Bags.{weigh, Every}
use Rattle.search_core.specs.Journals.{Path, Placed, is_left, left_at, all_nodes, Whole, Tree, Tip, Fork, preorder, under, Gathers, located}
use Rattle.search_core.proofs.Weights.{weigh_append, weigh_map}
use Rattle.search_core.proofs.OneTree.{located_as}

none_count : (R : Type 0) (left : List Path) → weigh (λ (n : Placed R). cond (is_left n.entry.end) 0 1) (map left_at left) ≡ 0
none_count R [] = refl
none_count R (path ∷ left) = omega (arith, none_count R left)

module _ {R : Type 0} where
  weigh_located : (h : Entry R → ℕ) (t : Tree R) → weigh h (preorder t) ≡ weigh (λ n. h n.entry) (located t)
  weigh_located h (Tip e) = refl
  weigh_located h (Fork e a b) = omega (
    arith,
    weigh_append h (preorder a) (preorder b),
    weigh_append (λ n. h n.entry) (map (under true) (located a)) (map (under false) (located b)),
    weigh_map (under true) (λ n. h n.entry) (located a),
    weigh_map (under false) (λ n. h n.entry) (located b),
    weigh_located h a,
    weigh_located h b,
  )

  -- 1 for a record that wasn't left open
  abbrev one_handled : Entry R → ℕ
  one_handled e = cond (is_left e.end) 0 1

  entries_count : (entries : List (Placed R)) → Every (λ e. is_left e.entry.end ≡ false) entries → weigh (λ n. one_handled n.entry) entries ≡ length entries
  entries_count [] h = refl
  entries_count (e ∷ es) h = omega (arith, ap {B = ℕ} (λ (c : Bool). cond c 0 1) h.0, entries_count es h.1)

  pub handled_count : (entries : List (Placed R)) (left : List Path) (t : Tree R) → Whole entries left → Gathers (all_nodes entries left) t → weigh one_handled (preorder t) ≡ length entries
  handled_count entries left t whole g = omega (
    arith,
    weigh_located one_handled t,
    located_as t (all_nodes entries left) (λ n. one_handled n.entry) g,
    weigh_append (λ (n : Placed R). one_handled n.entry) entries (map left_at left),
    entries_count entries whole.ended,
    none_count R left,
  )
