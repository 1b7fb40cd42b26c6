-- The items are the tree's records at their paths, as a bag.
use Rattle.std.proofs.Common.{◌≡◌, ℕ, zero, suc, ◌+◌, Bool, true, false, cond, List, [], ◌∷◌, ◌++◌, length, map, refl, sym, ap, ◌∙◌, append-nil, append_assoc, arith}
use Rattle.proof_trees.specs.Trees.{End, Leaf, Left, Branch, Entry}
use Rattle.search_core.specs.Bags.{weigh, Every}
use Rattle.search_core.specs.Journals.{Path, Placed, is_left, left_at, all_nodes, Tree, Tip, Fork, under, located}
use Rattle.search_core.specs.Machine.{Node, Handled, at_its_path, placed}
use Rattle.search_core.specs.Replays.{Waiting, Item, record_of, size, kids, order}
use Rattle.search_core.proofs.Weights.{weigh_append, weigh_map, weigh_le}
use Rattle.search_core.proofs.WorkerTurns.{branch_by, more_by}
use Rattle.search_core.proofs.TakingEvents.{total, kids_total, size_positive, branch_items, more_of}
use Rattle.search_core.proofs.EndingEvents.{leaf_by, leaf_items, node_by, left_items}

lefts_left : (R : Type 0) (h : Path → ℕ) (left : List Path) → weigh {A = Placed R} (λ m. cond (is_left m.entry.end) (h m.path) 0) (map left_at left) ≡ weigh h left
lefts_left R h [] = refl
lefts_left R h (x ∷ left) = omega (arith, lefts_left R h left)

one_more : (end : End) → more_by end ≡ cond (is_left end) 0 1
one_more Leaf = refl
one_more Left = refl
one_more (Branch v) = refl

pub ones_length : {A : Type 0} (xs : List A) → weigh (λ _. 1) xs ≡ length xs
ones_length [] = refl
ones_length (x ∷ xs) = omega (arith, ones_length xs)

module _ {R : Type 0} where
  abbrev pub shift : Path → Placed R → Placed R
  shift path m = record { path = path ++ m.path; entry = m.entry }

  abbrev pub tree_weight : (Placed R → ℕ) → Path → Tree R → ℕ
  tree_weight h path t = weigh (λ m. h (shift path m)) (located t)

  half_weight : (h : Placed R → ℕ) (path : Path) (y : Bool) (t : Tree R) → weigh (λ m. h (shift path m)) (map (under y) (located t)) ≡ tree_weight h (path ++ y ∷ []) t
  half_weight h path y t =
      weigh_map (under y) (λ m. h (shift path m)) (located t)
      ∙ weigh_le (λ m. h (shift path (under y m))) (λ m. h (shift (path ++ y ∷ []) m)) (located t) (λ m. ap (λ (q : Path). h (record { path = q; entry = m.entry })) (sym (append_assoc path (y ∷ []) m.path)))

  one_weight : (h : Placed R → ℕ) (n : ℕ) (node : Node R) (t : Tree R) → tree_weight h node.path t ≡ h (placed node (record_of t)) + weigh (λ w. tree_weight h w.node.path w.tree) (kids n node t)
  one_weight h n node (Tip e) = omega (arith, ap (λ (q : Path). h (record { path = q; entry = e })) (append-nil node.path))
  one_weight h n node (Fork e a b) = omega (
    arith,
    ap (λ (q : Path). h (record { path = q; entry = e })) (append-nil node.path),
    weigh_append (λ m. h (shift node.path m)) (map (under true) (located a)) (map (under false) (located b)),
    half_weight h node.path true a,
    half_weight h node.path false b,
  )

  pub order_weight : (h : Placed R → ℕ) (f n : ℕ) (ws : List (Waiting R)) → total ws ≡ f → weigh (λ it. h (placed it.node it.entry)) (order f n ws) ≡ weigh (λ w. tree_weight h w.node.path w.tree) ws
  order_weight h zero n [] len = refl
  order_weight h zero n (w ∷ ws) len = absurd (omega (arith, len, size_positive w.tree))
  order_weight h (suc f) n [] len = absurd (omega (arith, len))
  order_weight h (suc f) n (w ∷ ws) len =
      omega (
        arith,
        order_weight h f (suc n) (ws ++ kids n w.node w.tree) (omega (arith, len, kids_total n w.node w.tree, weigh_append (λ (v : Waiting R). size v.tree) ws (kids n w.node w.tree))),
        weigh_append (λ (v : Waiting R). tree_weight h v.node.path v.tree) ws (kids n w.node w.tree),
        one_weight h n w.node w.tree,
      )

  -- ## Handled and left

  abbrev pub if_handled : (Placed R → ℕ) → Placed R → ℕ
  if_handled h m = cond (is_left m.entry.end) 0 (h m)

  abbrev pub if_left : (Path → ℕ) → Placed R → ℕ
  if_left h m = cond (is_left m.entry.end) (h m.path) 0

  one_handled : (h : Placed R → ℕ) (node : Node R) (e : Entry R) (end : End) → weigh (λ m. h (at_its_path m)) (branch_by node e end) + weigh (λ m. h (at_its_path m)) (leaf_by node e end) ≡ cond (is_left end) 0 (h (placed node e))
  one_handled h node e Leaf = omega arith
  one_handled h node e Left = omega arith
  one_handled h node e (Branch v) = omega arith

  pub handled_weight : (h : Placed R → ℕ) (its : List (Item R)) → weigh (λ m. h (at_its_path m)) (branch_items its) + weigh (λ m. h (at_its_path m)) (leaf_items its) ≡ weigh (λ it. if_handled h (placed it.node it.entry)) its
  handled_weight h [] = omega arith
  handled_weight h (it ∷ its) = omega (
    arith,
    handled_weight h its,
    one_handled h it.node it.entry it.entry.end,
    weigh_append (λ (m : Handled R). h (at_its_path m)) (branch_by it.node it.entry it.entry.end) (branch_items its),
    weigh_append (λ (m : Handled R). h (at_its_path m)) (leaf_by it.node it.entry it.entry.end) (leaf_items its),
  )

  one_left : (h : Path → ℕ) (node : Node R) (end : End) → weigh (λ n. h n.path) (node_by node end) ≡ cond (is_left end) (h node.path) 0
  one_left h node Leaf = refl
  one_left h node Left = omega arith
  one_left h node (Branch v) = refl

  pub left_weight : (h : Path → ℕ) (its : List (Item R)) → weigh (λ n. h n.path) (left_items its) ≡ weigh (λ it. if_left h (placed it.node it.entry)) its
  left_weight h [] = refl
  left_weight h (it ∷ its) = omega (arith, left_weight h its, one_left h it.node it.entry.end, weigh_append (λ (n : Node R). h n.path) (node_by it.node it.entry.end) (left_items its))

  pub more_weight : (its : List (Item R)) → weigh more_of its ≡ weigh (λ it. if_handled (λ _. 1) (placed it.node it.entry)) its
  more_weight [] = refl
  more_weight (it ∷ its) = omega (arith, more_weight its, one_more it.entry.end)

  -- ## Over the journals

  is_handled : (h : Placed R → ℕ) (e : Placed R) → is_left e.entry.end ≡ false → if_handled h e ≡ h e
  is_handled h e is = rw is refl

  is_not_left : (h : Path → ℕ) (e : Placed R) → is_left e.entry.end ≡ false → if_left h e ≡ 0
  is_not_left h e is = rw is refl

  entries_handled : (h : Placed R → ℕ) (es : List (Placed R)) → Every (λ e. is_left e.entry.end ≡ false) es → weigh (if_handled h) es ≡ weigh h es
  entries_handled h [] ended = refl
  entries_handled h (e ∷ es) ended = omega (arith, entries_handled h es ended.1, is_handled h e ended.0)

  entries_not_left : (h : Path → ℕ) (es : List (Placed R)) → Every (λ e. is_left e.entry.end ≡ false) es → weigh (if_left h) es ≡ 0
  entries_not_left h [] ended = refl
  entries_not_left h (e ∷ es) ended = omega (arith, entries_not_left h es ended.1, is_not_left h e ended.0)

  lefts_not_handled : (h : Placed R → ℕ) (left : List Path) → weigh (if_handled h) (map left_at left) ≡ 0
  lefts_not_handled h [] = refl
  lefts_not_handled h (x ∷ left) = omega (arith, lefts_not_handled h left)

  pub all_handled : (h : Placed R → ℕ) (es : List (Placed R)) (left : List Path) → Every (λ e. is_left e.entry.end ≡ false) es → weigh (if_handled h) (all_nodes es left) ≡ weigh h es
  all_handled h es left ended = omega (arith, weigh_append (if_handled h) es (map left_at left), entries_handled h es ended, lefts_not_handled h left)

  pub all_left : (h : Path → ℕ) (es : List (Placed R)) (left : List Path) → Every (λ e. is_left e.entry.end ≡ false) es → weigh (if_left h) (all_nodes es left) ≡ weigh h left
  all_left h es left ended = omega (arith, weigh_append (if_left h) es (map left_at left), entries_not_left h es ended, lefts_left R h left)
