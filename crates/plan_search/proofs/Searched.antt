-- What a search found, as one tree of a certificate.
use Rattle.std.proofs.Common.{◌≡◌, ℕ, ◌<◌, ◌≤◌, ◌^◌, Bool, true, false, cond, List, [], ◌∷◌, length, map, Option, Some, None, ℤ, pos, ◌≤ℤ◌, refl, sym, ap, subst, ◌∙◌, arith, inl, inr}
use Rattle.std.specs.Prelude.{◌⊎◌}
use Rattle.std.proofs.lemmas.Bool.{both_ways}
use Rattle.std.proofs.lemmas.List.Sums.{sum_by-cons}
use borrow.Author.Differences.{ints}
use Rattle.zero_one_rows.specs.declared.program.Raise.{Raise}
use Rattle.zero_one_rows.specs.declared.program.Row.{Row}
use Rattle.zero_one_rows.specs.Variables.{Voyage, variables}
use Rattle.zero_one_rows.specs.Rows.{whole}
use Rattle.zero_one_rows.specs.Counted.{base_rows}
use Rattle.zero_one_rows.specs.Ordered.{ListsBaseRows}
use Rattle.proof_trees.specs.Boxes.{Box, at, tightened}
use Rattle.proof_trees.specs.Multipliers.{Multipliers, worth, raised_all}
use Rattle.proof_trees.specs.Trees.{End, Leaf, Left, Branch, Entry, Pending, begun, root, Proves}
use Rattle.certificate.specs.declared.tree.Record.{Record}
use Rattle.certificate.specs.declared.tree.End.TheVariants as cert
use Rattle.certificate.specs.declared.tree.End as ends
use Rattle.certificate.specs.Entries.{same_row, raise_of, number_of, end_of, entry_of}
use Rattle.model_bridge.specs.Pairs.{is_one, ones}
use Rattle.search_core.specs.Bags.{weigh}
use Rattle.search_core.specs.Journals.{Placed, Tree, preorder, Gathers, all_nodes, branches, is_left, known, nothing_done, Settled}
use Rattle.search_core.specs.Machine.{Node, Handled, begins, bit_of, is_full, price}
use Rattle.search_core.specs.Outcomes.{path_of, nodes_of}
use Rattle.search_core.specs.Along.{is_root, Begins, IsOfNode, HoldAll, HoldsAlong}
use Rattle.search_core.proofs.Weights.{every_in}
use Rattle.search_core.proofs.Along.{hold_more}
use Rattle.node_ledger.specs.Gathered.{placed_entries, IsGathered}
use Rattle.node_solver.specs.Work as node
use Rattle.steal_pool.specs.declared.found.Found.{Found}
use Rattle.steal_pool.specs.Found.{IsWorked, HasBest, IsFound}
use Rattle.plan_search.specs.Trees.{was_handled, handled, empty_record, LeavesEmpty}
use Rattle.plan_search.specs.Found.{IsFullAt, IsBest, IsSearched}
use Rattle.plan_search.proofs.AtZero.{LeavesWorth, KeepsWorth, worth_started, proves_none}
use Rattle.plan_search.proofs.TreeSizes.{counts, few_records}
use Rattle.plan_search.proofs.FullBox.{all_fixed, none_broken, full_fixed, full_unbroken, priced}
use Rattle.plan_search.proofs.Program.{costs_from}

-- ## Raises

module _ (m : Voyage) where
  rises : (b : Box) (ms : Multipliers Row) (rs : List (Row × ℤ)) → node.EachRises m b ms rs → pos 0 ≤ℤ worth (whole m) b ms → pos 0 ≤ℤ worth (whole m) b (known (raised_all same_row (Some ms) rs))
  rises b ms [] h from = from
  rises b ms (r ∷ rs) h from =
      let next : pos 0 ≤ℤ worth (whole m) b h.0 = let more = h.2 in omega (arith, ints) in
      subst (λ (o : Option (Multipliers Row)). pos 0 ≤ℤ worth (whole m) b (known (raised_all same_row o rs))) (sym h.1) (rises b h.0 rs h.3 next)

  leaves_worth : (end : End) (b : Box) (ms : Multipliers Row) → is_left end ≡ false → (branches end ≡ true → pos 0 ≤ℤ worth (whole m) b ms) → LeavesWorth same_row (whole m) end b ms
  leaves_worth Leaf b ms ended worth = tt
  leaves_worth Left b ms ended worth = absurd (cc)
  leaves_worth (Branch v) b ms ended worth = worth refl

  -- a record that was worked on leaves its box worth no less than 0
  worked_keeps : (start : ℕ) (top : Bool) (q : Pending Row) (e : Entry Row) → IsWorked m start top q e → is_left e.end ≡ false → KeepsWorth same_row (whole m) top q e
  worked_keeps start top q e w ended from =
      leaves_worth e.end _ _ ended (λ divides. rises (tightened (whole m) q.box e.steps) (begun e.from_zero q.multipliers) e.raises (w.earnest divides).rising (worth_started (whole m) (costs_from m) q e from))

  -- so does an empty one
  empty_keeps : (top : Bool) (q : Pending Row) → KeepsWorth same_row (whole m) top q nothing_done
  empty_keeps top q from = from

  -- ## Counts

  end_counts : (x : ends.End) → counts (end_of (number_of m) x) ≡ cond (was_handled x) 1 0
  end_counts cert.Leaf = refl
  end_counts cert.Left = refl
  end_counts (cert.Branch x) = refl

  pub handled_counts : (tree : List Record) → weigh (λ e. counts e.end) (map (entry_of m) tree) ≡ handled tree
  handled_counts [] = refl
  handled_counts (r ∷ rs) = omega (arith, sum_by-cons (λ (x : Record). cond (was_handled x.end) 1 0) r rs, end_counts r.end, handled_counts rs)

-- the record of a node that was left open
empty_of : (z : Bool) (ss : List Row) (rs : List Raise) (x : ends.End) → z ≡ false → ss ≡ [] → rs ≡ [] → x ≡ cert.Left → record { from_zero = z; steps = ss; raises = rs; end = x } ≡ empty_record
empty_of z ss rs x a b c d = rw (a, b, c, d) refl

none_mapped : {A B : Type 0} (f : A → B) (xs : List A) → [] ≡ map f xs → xs ≡ []
none_mapped f [] h = refl
none_mapped f (x ∷ xs) h = absurd (cc)

-- a list is empty, or longer
ended_by : {A : Type 0} {P Q : Type 0} (xs : List A) → (xs ≡ [] → P) → (0 < length xs → Q) → Q ⊎ P
ended_by [] none some = inr (none refl)
ended_by (x ∷ xs) none some = inl (some (omega arith))

length_map : {A B : Type 0} (f : A → B) (xs : List A) → length (map f xs) ≡ length xs
length_map f [] = refl
length_map f (x ∷ xs) = omega (arith, length_map f xs)

same_bit : (o : Option Bool) → is_one o ≡ bit_of o
same_bit None = refl
same_bit (Some y) = refl

-- a full box that violates none of the listed base rows breaks no base row
full_at : (m : Voyage) (best : ℕ) (b : Box) → ListsBaseRows → length b ≡ length (variables m) → is_full (whole m) (base_rows m) b ≡ true → price (whole m) b ≡ best → IsFullAt m best b
full_at m best b listed long full cost = record {
  full = record { long = long; fixed = all_fixed (length (variables m)) b long (full_fixed (whole m) b (base_rows m) full) };
  rows = λ r h. none_broken (whole m) b (base_rows m) r (full_unbroken (whole m) b (base_rows m) full) ((listed m r).1 h);
  costs = priced (whole m) (costs_from m) b (ones b) (λ v. same_bit (at b v)) ∙ ap pos cost;
}

best_of : (m : Voyage) (start best : ℕ) (o : Option Box) → ListsBaseRows → HasBest m start best o → IsBest m start best o
best_of m start best None listed h = h
best_of m start best (Some b) listed h = (full_at m best b listed h.0 h.1 h.2, h.3)

module _ (m : Voyage) (start budget : ℕ) (f : Found) (tree : List Record) (found : IsFound m start budget f) where
  abbrev entries : List (Handled Row)
  entries = found.entries

  abbrev records : List (Entry Row)
  records = map (entry_of m) tree

  keeps_moved : (top : Bool) (q : Pending Row) (e : Entry Row) (n : Node Row) → Begins same_row (whole m) top q n → KeepsWorth same_row (whole m) (is_root n.path) (begins same_row (whole m) n) e → KeepsWorth same_row (whole m) top q e
  keeps_moved top q e n at h = subst (λ (r : Pending Row). KeepsWorth same_row (whole m) top r e) at.1 h

  keeps : (top : Bool) (q : Pending Row) (e : Entry Row) → IsOfNode same_row (whole m) entries found.nodes top q e → KeepsWorth same_row (whole m) top q e
  keeps top q e (inl h) =
      let worked = every_in (λ (x : Handled Row). IsWorked m start (is_root x.node.path) (begins same_row (whole m) x.node) x.entry) entries h.0 found.worked h.1 in
      let ended = every_in (λ (x : Handled Row). is_left x.entry.end ≡ false) entries h.0 found.searched.nodes.ended h.1 in
      subst (KeepsWorth same_row (whole m) top q) h.3 (keeps_moved top q h.0.entry h.0.node h.2 (worked_keeps m start (is_root h.0.node.path) (begins same_row (whole m) h.0.node) h.0.entry worked ended))
  keeps top q e (inr h) = subst (KeepsWorth same_row (whole m) top q) h.3 (empty_keeps m top q)

  gathers : (g : IsGathered (number_of m) f.journals f.left tree) → Gathers (nodes_of entries found.nodes) g.tree
  gathers g =
      subst (λ (es : List (Placed Row)). Gathers (all_nodes es (map path_of found.nodes)) g.tree) (sym found.journals)
      (subst (λ (left : List (List Bool)). Gathers (all_nodes (placed_entries (number_of m) f.journals) left) g.tree) (sym found.left) g.gathers)

  -- each record of the tree is that of its node
  pub along_tree : IsGathered (number_of m) f.journals f.left tree → ((t : Tree Row) → Gathers (nodes_of entries found.nodes) t → HoldsAlong same_row (whole m) (IsOfNode same_row (whole m) entries found.nodes) (preorder t))
      → HoldsAlong same_row (whole m) (IsOfNode same_row (whole m) entries found.nodes) records
  along_tree g law = subst (λ (es : List (Entry Row)). HoldsAlong same_row (whole m) (IsOfNode same_row (whole m) entries found.nodes) es) (sym g.in_preorder) (law g.tree (gathers g))

  records_open : (top : Bool) (q : Pending Row) (r : Record) → IsOfNode same_row (whole m) entries found.nodes top q (entry_of m r) → r.end ≡ cert.Left → r ≡ empty_record
  records_open top q r (inl h) e =
      let ended = every_in (λ (x : Handled Row). is_left x.entry.end ≡ false) entries h.0 found.searched.nodes.ended h.1 in
      let closed : is_left (entry_of m r).end ≡ false = subst (λ (x : Entry Row). is_left x.end ≡ false) h.3 ended in
      absurd (both_ways (is_left (entry_of m r).end) closed (ap (λ (x : ends.End). is_left (end_of (number_of m) x)) e))
  records_open top q r (inr h) e = empty_of r.from_zero r.steps r.raises r.end (sym (ap (λ (x : Entry Row). x.from_zero) h.3)) (sym (ap (λ (x : Entry Row). x.steps) h.3)) (none_mapped raise_of r.raises (ap (λ (x : Entry Row). x.raises) h.3)) e

  leaves_empty : (top : Bool) (waiting : List (Pending Row)) (rs : List Record) → HoldAll same_row (whole m) (IsOfNode same_row (whole m) entries found.nodes) top waiting (map (entry_of m) rs) → LeavesEmpty rs
  leaves_empty top waiting [] h = tt
  leaves_empty top [] (r ∷ rs) h = absurd h
  leaves_empty top (q ∷ waiting) (r ∷ rs) h = (records_open top q r h.0, leaves_empty false _ rs h.1)

  pub searched : budget ≤ 100000 → ListsBaseRows
      → Settled same_row (whole m) records f.best → (f.left ≡ [] → Proves same_row (whole m) records f.best)
      → HoldsAlong same_row (whole m) (IsWorked m start) records → weigh (λ e. counts e.end) records ≡ f.handled
      → HoldsAlong same_row (whole m) (IsOfNode same_row (whole m) entries found.nodes) records
      → IsSearched m budget start (record { tree = tree; nodes = f.handled; best = f.best; full = f.full })
  searched few listed settled proved worked counted along =
      let within = found.searched.within in
      let nodes : f.handled ≡ handled tree = sym counted ∙ handled_counts m tree in
      let short = few_records same_row (whole m) (IsWorked m start) true (root (whole m) ∷ []) records worked in
      let long = length_map (entry_of m) tree in
      let more : length tree < 2 ^ 32 = omega (arith, short, long, counted, found.handled, within, few) in
      record {
        nodes = nodes;
        within = omega (arith, found.handled, within);
        few = more;
        lean = hold_more same_row (whole m) (IsWorked m start) (λ top q e. node.IsLean m q (node.most_raises top) e) (λ top q e w. w.lean) true (root (whole m) ∷ []) records worked;
        earnest = hold_more same_row (whole m) (IsWorked m start) (λ top q e. branches e.end ≡ true → node.IsEarnest m q start (node.most_raises top) e) (λ top q e w. w.earnest) true (root (whole m) ∷ []) records worked;
        settled = settled;
        empty = leaves_empty true (root (whole m) ∷ []) tree along;
        proves_none = proves_none same_row (whole m) (costs_from m) f.best records (hold_more same_row (whole m) (IsOfNode same_row (whole m) entries found.nodes) (KeepsWorth same_row (whole m)) keeps true (root (whole m) ∷ []) records along) settled;
        ended = ended_by f.left proved (λ some. let used = found.searched.used in let left = ap (λ (xs : List (List Bool)). length xs) found.left in let lefts = length_map {A = Node Row} path_of found.nodes in let spent : length entries ≡ budget = used (omega (arith, left, lefts, some)) in omega (arith, found.handled, spent));
        best = best_of m start f.best f.full listed found.full;
      }
