use Rattle.std.proofs.Common.{◌≡◌, ◌∙◌, sym, subst, ap, ◌++◌, List, map, ℕ}
use Rattle.std.specs.List.Sorted.{IsPermutation}
use Rattle.std.proofs.lemmas.List.Sorted.{IsPermutation-map}
use Rattle.std.proofs.lemmas.Result.{IfOk-weaker}
use Rattle.zero_one_rows.specs.declared.program.Var.{Var}
use Rattle.zero_one_rows.specs.declared.program.Row.{Row}
use Rattle.certificate.specs.declared.tree.Record.{Record}
use Rattle.certificate.specs.declared.journals.Entry.{Entry}
use Rattle.search_core.specs.Journals.{Placed, Path, Gathers, Tree}
use Rattle.node_ledger.specs.Gathered.{entries, placed, placed_entries, nodes_of, IsGathered}
use Rattle.node_ledger.specs.Preorder.{InPreorder, left_node}
use Rattle.node_ledger.proofs.Numbering.{whole_by_any, as_nodes, same_records}
use Rattle.node_ledger.proofs.Shuffles.{from_permutation, gathers_moved}
use Rattle.node_ledger.proofs.Order.{sorted_rises, rising_map, in_preorder}
use Rattle.node_ledger.proofs.gathering.gather.Goals as goal

gathered : (number : Var → ℕ) (journals : List (List Entry)) (left : List Path) (found sorted : List Entry) (t : Tree Row) → Gathers (nodes_of number journals left) t
    → found ≡ entries journals ++ map left_node left → IsPermutation found sorted → InPreorder sorted → IsGathered number journals left (map (λ (e : Entry). e.record_of) sorted)
gathered number journals left found sorted t is all same up =
    let moved : IsPermutation (nodes_of number journals left) (map (placed number) sorted) =
    subst (λ (ns : List (Placed Row)). IsPermutation ns (map (placed number) sorted)) (ap (map (placed number)) all ∙ as_nodes number (entries journals) left) (IsPermutation-map (placed number) found sorted same) in
    let gathers : Gathers (map (placed number) sorted) t = gathers_moved t (nodes_of number journals left) (map (placed number) sorted) (from_permutation (nodes_of number journals left) (map (placed number) sorted) moved) is in
    record { tree = t; gathers = is; in_preorder = same_records number sorted ∙ in_preorder t (map (placed number) sorted) (rising_map (placed number) (λ (n : Placed Row). n.path) sorted (sorted_rises sorted up)) gathers }

pub returns : goal.returns
returns c =
    let sorted : List Entry = c.sort_nodes.new.nodes.items in
    let tree : (number : Var → ℕ) → (t : Tree Row) × Gathers (nodes_of number c.args.journals c.args.left) t =
    λ number. c.journals_are_a_tree.ensures.tree (placed_entries number c.args.journals) c.args.left (whole_by_any c.requires.whole.0 number c.args.journals c.args.left c.requires.whole.1) in
    record {
      gathered =
          IfOk-weaker c.records_of.result (λ (records : List Record). records ≡ map (λ (e : Entry). e.record_of) sorted) (λ (records : List Record). (number : Var → ℕ) → IsGathered number c.args.journals c.args.left records) (
          λ records is number.
          subst (IsGathered number c.args.journals c.args.left) (sym is)
          (gathered number c.args.journals c.args.left c.in_ok-found.found.items sorted (tree number).0 (tree number).1 c.in_ok-found.ensures c.sort_nodes.ensures.same c.sort_nodes.ensures.order)
          ) c.records_of.ensures;
    }
