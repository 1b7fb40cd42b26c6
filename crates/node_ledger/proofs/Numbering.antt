-- Journals are whole by every numbering, or by none; and the list of all nodes.
use Rattle.std.proofs.Common.{◌≡◌, ℕ, ◌+◌, Bool, true, false, cond, List, [], ◌∷◌, ◌++◌, map, refl, ap, ◌∙◌, sym, arith}
use Rattle.zero_one_rows.specs.declared.program.Var.{Var}
use Rattle.zero_one_rows.specs.declared.program.Row.{Row}
use Rattle.certificate.specs.declared.tree.End.{End}
use Rattle.certificate.specs.declared.tree.End.TheVariants.{Leaf, Left, Branch}
use Rattle.certificate.specs.declared.journals.Entry.{Entry}
use Rattle.search_core.specs.Bags.{weigh, Every}
use Rattle.search_core.specs.Journals.{Path, Placed, branches, is_left, halves, left_at, all_nodes}
use Rattle.certificate.specs.Entries.{end_of, record_of}
use Rattle.node_ledger.specs.Gathered.{entries, placed, AreWhole}
use Rattle.node_ledger.specs.Preorder.{left_node}

module _ (m n : Var → ℕ) where
  same_branches : (x : End) → branches (end_of m x) ≡ branches (end_of n x)
  same_branches Leaf = refl
  same_branches Left = refl
  same_branches (Branch x) = refl

  same_left : (x : End) → is_left (end_of m x) ≡ is_left (end_of n x)
  same_left Leaf = refl
  same_left Left = refl
  same_left (Branch x) = refl

  same_halves : (h : Path → ℕ) (e : Entry) → halves h (placed m e) ≡ halves h (placed n e)
  same_halves h e = ap (λ (b : Bool). cond b (h (e.path ++ true ∷ []) + h (e.path ++ false ∷ [])) 0) (same_branches e.record_of.end)

  weigh_halves : (h : Path → ℕ) (es : List Entry) → weigh (halves h) (map (placed m) es) ≡ weigh (halves h) (map (placed n) es)
  weigh_halves h [] = refl
  weigh_halves h (e ∷ es) = omega (arith, same_halves h e, weigh_halves h es)

  weigh_paths : (h : Path → ℕ) (es : List Entry) → weigh (λ (p : Placed Row). h p.path) (map (placed m) es) ≡ weigh (λ (p : Placed Row). h p.path) (map (placed n) es)
  weigh_paths h [] = refl
  weigh_paths h (e ∷ es) = omega (arith, weigh_paths h es)

  all_ended : (es : List Entry) → Every (λ (p : Placed Row). is_left p.entry.end ≡ false) (map (placed m) es) → Every (λ (p : Placed Row). is_left p.entry.end ≡ false) (map (placed n) es)
  all_ended [] h = tt
  all_ended (e ∷ es) h = (sym (same_left e.record_of.end) ∙ h.0, all_ended es h.1)

  pub whole_by_any : (journals : List (List Entry)) (left : List Path) → AreWhole m journals left → AreWhole n journals left
  whole_by_any journals left w =
      let es : List Entry = entries journals in
      record { ended = all_ended es w.ended; bag = λ h. omega (arith, w.bag h, weigh_paths h es, weigh_halves h es) }

module _ (number : Var → ℕ) where
  lefts : (left : List Path) → map (placed number) (map left_node left) ≡ map left_at left
  lefts [] = refl
  lefts (p ∷ left) = ap (λ (ns : List (Placed Row)). left_at p ∷ ns) (lefts left)

  pub as_nodes : (es : List Entry) (left : List Path) → map (placed number) (es ++ map left_node left) ≡ all_nodes (map (placed number) es) left
  as_nodes [] left = lefts left
  as_nodes (e ∷ es) left = ap (λ (ns : List (Placed Row)). placed number e ∷ ns) (as_nodes es left)

  pub same_records : (es : List Entry) → map (record_of number) (map (λ (e : Entry). e.record_of) es) ≡ map (λ (p : Placed Row). p.entry) (map (placed number) es)
  same_records [] = refl
  same_records (e ∷ es) = ap (λ rs. record_of number e.record_of ∷ rs) (same_records es)
