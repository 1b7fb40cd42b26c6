-- A tree that is settled at a value is walked past the subtrees of which no node was left open: they are proved at that value.
use Rattle.std.proofs.Common.{◌≡◌, ◌≢◌, ℕ, zero, suc, ◌+◌, ◌<◌, ◌≤◌, inl, inr, Bool, true, false, ◌&&◌, cond, nat_lt, List, [], ◌∷◌, length, drop, map, get_or, set, replicate, Option, Some, None, Result, Ok, Err, arith, refl, sym, ◌∙◌, ap, subst}
use Rattle.std.specs.Prelude.{IfOk, IfErr, IfSome}
use Rattle.std.specs.Option.{is_none, option_or}
use Rattle.std.specs.Result.{result_ok}
use borrow.Author.Differences.{ints}
use Rattle.std.proofs.lemmas.Bool.Decides.{eqb_tells}
use Rattle.std.proofs.lemmas.List.{get_or-set_same, get_or-set_other}
use Rattle.zero_one_rows.specs.declared.program.Row.{Row}
use Rattle.zero_one_rows.specs.Variables.{Voyage}
use Rattle.zero_one_rows.specs.Rows.{whole}
use Rattle.proof_trees.specs.Boxes.{Box, at, fixed, tightened}
use Rattle.proof_trees.specs.Multipliers.{Multipliers, Closes}
use Rattle.proof_trees.specs.Trees.{End, Leaf, Left, Branch, Entry, Pending, begun, root}
use Rattle.certificate.specs.declared.tree.Record.{Record}
use Rattle.certificate.specs.declared.tree.End.TheVariants as leaf
use Rattle.certificate.specs.declared.refusals.BoundNo.{BoundNo}
use Rattle.certificate.specs.declared.refusals.BoundNo.TheVariants.{BranchFixed, NoMemory}
use Rattle.certificate.specs.Entries.{same_row, entry_of, end_of, number_of}
use Rattle.search_core.specs.Journals.{is_left, multipliers_after, EndSettles, SettleAll, Anything}
use Rattle.bound_checker.specs.declared.walk.Walk.{Walk}
use Rattle.bound_checker.specs.Entries.{ProvesBound, SettlesBound, IsBestBound}
use Rattle.bound_checker.specs.Faults.{end_fault, tree_fault, first_fault}
use Rattle.bound_checker.specs.Walks.{Stands, StandsSome, IsAt, Narrows, behind_end, IsBehind, Takes}
use Rattle.bound_checker.specs.Subtrees.{Shape, Tip, Fork, size_of, Divides, Begins, IsSubtree, AreSizes, Stays}
use Rattle.bound_checker.proofs.Bounding.{best_of, up_to}
use Rattle.bound_checker.proofs.FirstFault.{no_step, rows_same, closed, and_true, below_is, no_fault}
use Rattle.bound_checker.proofs.Walks.{opened_fault, behind, ends, tree_fails}

-- ## Sizes

length_begins : (s : Shape) (rs rest : List Record) → Begins s rs rest → length rs ≡ size_of s + length rest
length_begins Tip [] rest h = absurd h
length_begins Tip (r ∷ rs) rest h = omega (arith, ap (λ (xs : List Record). length xs) h.1)
length_begins (Fork a b) [] rest h = absurd h
length_begins (Fork a b) (r ∷ rs) rest h = omega (arith, length_begins a rs h.1.0 h.1.1, length_begins b h.1.0 rest h.1.2)

dropped_length : (k : ℕ) (rs : List Record) → length (drop k rs) ≤ length rs
dropped_length zero rs = omega arith
dropped_length (suc k) [] = omega arith
dropped_length (suc k) (r ∷ rs) = omega (arith, dropped_length k rs)

size_some : (s : Shape) → 0 < size_of s
size_some Tip = omega arith
size_some (Fork a b) = omega arith

pub subtree_within : (records : List Record) (place size : ℕ) → IsSubtree records place size → size ≤ length records
subtree_within records place size sub = omega (arith, length_begins sub.shape _ _ sub.begins, dropped_length place records, sub.counts)

pub subtree_some : (records : List Record) (place size : ℕ) → IsSubtree records place size → 0 < size
subtree_some records place size sub = omega (arith, size_some sub.shape, sub.counts)

front : (rs : List Record) (k : ℕ) (d : Record) → k < length rs → drop k rs ≡ get_or rs k d ∷ drop (suc k) rs
front [] k d lt = absurd (omega arith)
front (r ∷ rs) zero d lt = refl
front (r ∷ rs) (suc k) d lt = front rs k d (omega arith)

pub leaf_subtree : (records : List Record) (place : ℕ) (d : Record) → place < length records → (get_or records place d).end ≡ leaf.Leaf → IsSubtree records place 1
leaf_subtree records place d lt is = record {
  shape = Tip;
  begins = subst (λ (rs : List Record). Begins Tip rs (drop (place + 1) records)) (sym (front records place d lt)) (is, ap (λ (k : ℕ). drop k records) (let e : suc place ≡ place + 1 = omega arith in e));
  counts = refl;
}

pub fork_subtree : (records : List Record) (place first second : ℕ) (d : Record) → place < length records → Divides (get_or records place d).end → IsSubtree records (place + 1) first → IsSubtree records (place + 1 + first) second
    → IsSubtree records place (1 + first + second)
fork_subtree records place first second d lt is a b =
    let next : place + 1 ≡ suc place = omega arith in
    let last : place + 1 + first + second ≡ place + (1 + first + second) = omega arith in
    record {
      shape = Fork a.shape b.shape;
      begins = subst (λ (rs : List Record). Begins (Fork a.shape b.shape) rs (drop (place + (1 + first + second)) records)) (sym (front records place d lt))
          (is, (drop (place + 1 + first) records, subst (λ (k : ℕ). Begins a.shape (drop k records) (drop (place + 1 + first) records)) next a.begins, subst (λ (k : ℕ). Begins b.shape (drop (place + 1 + first) records) (drop k records)) last b.begins));
      counts = omega (arith, a.counts, b.counts);
    }

abbrev unknown : Option ℕ
unknown = None

none_at : (n place : ℕ) → get_or (replicate n unknown) place unknown ≡ unknown
none_at zero place = refl
none_at (suc n) zero = refl
none_at (suc n) (suc place) = none_at n place

if_known : (P : ℕ → Type 0) (known other : Option ℕ) → known ≡ other → IfSome other P → IfSome known P
if_known P known other is h = subst (λ (o : Option ℕ). IfSome o P) (sym is) h

pub no_sizes : (records : List Record) (n : ℕ) (sizes : List (Option ℕ)) → sizes ≡ replicate n None → AreSizes records sizes
no_sizes records n sizes is place = if_known (IsSubtree records place) (get_or sizes place None) None (ap (λ (xs : List (Option ℕ)). get_or xs place None) is ∙ none_at n place) tt

pub sizes_set : (records : List Record) (sizes : List (Option ℕ)) (place : ℕ) (known : Option ℕ) → AreSizes records sizes → place < length sizes → IfSome known (IsSubtree records place) → AreSizes records (set sizes place known)
sizes_set records sizes place known are lt is other = elim (eqb_tells other place) [
  | inl same ↦ subst (λ (k : ℕ). IfSome (get_or (set sizes place known) k None) (IsSubtree records k)) (sym same.1) (if_known (IsSubtree records place) _ known (get_or-set_same sizes place known None lt) is)
  | inr far ↦ if_known (IsSubtree records other) _ _ (get_or-set_other sizes place other known None far.1) (are other)
]

-- ## A record whose node wasn't left open

ok_of : {A E : Type 0} (o : Result A E) (x : A) → result_ok o ≡ Some x → o ≡ Ok x
ok_of (Ok y) x h = let e : y ≡ x = cc in ap Ok e
ok_of (Err f) x h = let bad : ⊥ = cc in absurd bad

module _ (m : Voyage) (most : ℕ) where
  abbrev Settles : List (Pending Row) → List (Entry Row) → Type 0
  Settles boxes es = SettleAll same_row (whole m) Anything most boxes es

  abbrev after_steps : Pending Row → Entry Row → Multipliers Row → Pending Row
  after_steps q e ms = record { box = tightened (whole m) q.box e.steps; multipliers = ms }

  closes_lesser : (b : Box) (ms : Multipliers Row) (bound : ℕ) → bound ≤ most → Closes (whole m) b ms most → Closes (whole m) b ms bound
  closes_lesser b ms bound le h = omega (arith, ints)

  -- what comes behind is settled
  end_settles : (Rest : List (Pending Row) → Type 0) (waiting : List (Pending Row)) (q : Pending Row) (end : End) → EndSettles same_row (whole m) Anything most Rest waiting q.box (Some q.multipliers) end → Rest (behind_end waiting q end)
  end_settles Rest waiting q Leaf h = h.1
  end_settles Rest waiting q Left h = h.1
  end_settles Rest waiting q (Branch v) h = h.2

  -- up to the value, the first fault is the first of what comes behind
  end_passes : (Rest : List (Pending Row) → Type 0) (waiting : List (Pending Row)) (q : Pending Row) (end : End) → is_left end ≡ false → EndSettles same_row (whole m) Anything most Rest waiting q.box (Some q.multipliers) end
      → (bound node : ℕ) → bound ≤ most → (R : List (Pending Row) → Option BoundNo) → end_fault (whole m) bound R node waiting q.box (Ok q.multipliers) end ≡ R (behind_end waiting q end)
  end_passes Rest waiting q Leaf ended h bound node le R = ap (λ (o : Option BoundNo). option_or o (R waiting)) (closed (whole m) bound node q.box q.multipliers (closes_lesser q.box q.multipliers bound le h.0))
  end_passes Rest waiting q Left ended h bound node le R = let bad : ⊥ = cc in absurd bad
  end_passes Rest waiting q (Branch v) ended h bound node le R =
      let free : (nat_lt v (whole m).vars && is_none (at q.box v)) ≡ true = and_true (whole m) bound (nat_lt v (whole m).vars) (is_none (at q.box v)) (below_is (whole m) bound v (whole m).vars h.0) (ap (λ (o : Option Bool). is_none o) h.1) in
      ap (λ (t : Bool). cond t (R (record { box = fixed q.box v true; multipliers = q.multipliers } ∷ record { box = fixed q.box v false; multipliers = q.multipliers } ∷ waiting)) (Some (BranchFixed node))) free

  -- the multipliers behind the record
  settled_known : (Rest : List (Pending Row) → Type 0) (waiting : List (Pending Row)) (b : Box) (o : Option (Multipliers Row)) (end : End) → EndSettles same_row (whole m) Anything most Rest waiting b o end → (ms : Multipliers Row) × (o ≡ Some ms)
  settled_known Rest waiting b None end h = absurd h
  settled_known Rest waiting b (Some ms) end h = (ms, refl)

  -- a settled record that a walk takes: what is left is settled too
  pub settled_behind : (node : ℕ) (qs : List (Pending Row)) (e : Entry Row) (es : List (Entry Row)) (rest : List (Pending Row)) → Settles qs (e ∷ es) → IsBehind m node qs e rest → Settles rest es
  settled_behind node [] e es rest h is = absurd is
  settled_behind node (q ∷ waiting) e es rest h is =
      let raised : multipliers_after same_row (whole m) q e ≡ Some is.0 = sym (rows_same (whole m) 0 node e.raises (begun e.from_zero q.multipliers) h.1) ∙ ap (λ (o : Result (Multipliers Row) BoundNo). result_ok o) is.1 in
      subst (λ (boxes : List (Pending Row)). Settles boxes es) (sym is.2)
      (end_settles (λ boxes. Settles boxes es) waiting (after_steps q e is.0) e.end
      (subst (λ (o : Option (Multipliers Row)). EndSettles same_row (whole m) Anything most (λ boxes. Settles boxes es) waiting (tightened (whole m) q.box e.steps) o e.end) raised h.2))

  -- a settled record with this end, which leaves no node open
  record Passes (q : Pending Row) (waiting : List (Pending Row)) (e : Entry Row) (es : List (Entry Row)) (end : End) : Type 0 where
    multipliers : Multipliers Row
    settled : Settles (behind_end waiting (after_steps q e multipliers) end) es
    same : (bound node : ℕ) → bound ≤ most → tree_fault (whole m) bound node (q ∷ waiting) (e ∷ es) ≡ tree_fault (whole m) bound (node + 1) (behind_end waiting (after_steps q e multipliers) end) es

  record_passes : (q : Pending Row) (waiting : List (Pending Row)) (e : Entry Row) (es : List (Entry Row)) (end : End) → e.end ≡ end → is_left end ≡ false → Settles (q ∷ waiting) (e ∷ es) → Passes q waiting e es end
  record_passes q waiting e es end is ended h =
      let known = settled_known (λ boxes. Settles boxes es) waiting (tightened (whole m) q.box e.steps) (multipliers_after same_row (whole m) q e) e.end h.2 in
      let here : EndSettles same_row (whole m) Anything most (λ boxes. Settles boxes es) waiting (tightened (whole m) q.box e.steps) (Some known.0) end =
      subst (λ (o : Option (Multipliers Row)). EndSettles same_row (whole m) Anything most (λ boxes. Settles boxes es) waiting (tightened (whole m) q.box e.steps) o end) known.1
      (subst (λ (x : End). EndSettles same_row (whole m) Anything most (λ boxes. Settles boxes es) waiting (tightened (whole m) q.box e.steps) (multipliers_after same_row (whole m) q e) x) is h.2) in
      record {
        multipliers = known.0;
        settled = end_settles (λ boxes. Settles boxes es) waiting (after_steps q e known.0) end here;
        same = λ bound node le.
            opened_fault m (record { low = 0; high = 0 }) node bound q waiting e known.0 es (no_step (whole m) bound node e.steps h.0) (ok_of _ known.0 (rows_same (whole m) bound node e.raises (begun e.from_zero q.multipliers) h.1 ∙ known.1))
            ∙ ap (λ (x : End). end_fault (whole m) bound (λ boxes. tree_fault (whole m) bound (node + 1) boxes es) node waiting (tightened (whole m) q.box e.steps) (Ok known.0) x) is
            ∙ end_passes (λ boxes. Settles boxes es) waiting (after_steps q e known.0) end ended here bound node le (λ boxes. tree_fault (whole m) bound (node + 1) boxes es);
      }

  -- ## A subtree of which no node was left open

  abbrev entries : List Record → List (Entry Row)
  entries rs = map (entry_of m) rs

  nothing_settled : (s : Shape) (rs rest : List Record) → Begins s rs rest → Settles [] (entries rs) → ⊥
  nothing_settled Tip [] rest h k = h
  nothing_settled (Fork a b) [] rest h k = h
  nothing_settled Tip (r ∷ rs) rest h k = k
  nothing_settled (Fork a b) (r ∷ rs) rest h k = k

  record SubtreePasses (s : Shape) (q : Pending Row) (waiting : List (Pending Row)) (rs rest : List Record) : Type 0 where
    settled : Settles waiting (entries rest)
    same : (bound node : ℕ) → bound ≤ most → tree_fault (whole m) bound node (q ∷ waiting) (entries rs) ≡ tree_fault (whole m) bound (node + size_of s) waiting (entries rest)

  subtree_passes : (s : Shape) (rs rest : List Record) → Begins s rs rest → (q : Pending Row) (waiting : List (Pending Row)) → Settles (q ∷ waiting) (entries rs) → SubtreePasses s q waiting rs rest
  subtree_passes Tip [] rest h q waiting settled = absurd h
  subtree_passes Tip (r ∷ rs) rest h q waiting settled =
      let p = record_passes q waiting (entry_of m r) (entries rs) Leaf (ap (end_of (number_of m)) h.0) refl settled in
      record {
        settled = subst (λ (xs : List Record). Settles waiting (entries xs)) h.1 p.settled;
        same = λ bound node le. p.same bound node le ∙ ap (λ (xs : List Record). tree_fault (whole m) bound (node + 1) waiting (entries xs)) h.1;
      }
  subtree_passes (Fork a b) [] rest h q waiting settled = absurd h
  subtree_passes (Fork a b) (r ∷ rs) rest h q waiting settled =
      let p = record_passes q waiting (entry_of m r) (entries rs) (Branch (number_of m h.0.0)) (ap (end_of (number_of m)) h.0.1) refl settled in
      let half : Bool → Pending Row = λ y. record { box = fixed (tightened (whole m) q.box (entry_of m r).steps) (number_of m h.0.0) y; multipliers = p.multipliers } in
      let one = subtree_passes a rs h.1.0 h.1.1 (half true) (half false ∷ waiting) p.settled in
      let other = subtree_passes b h.1.0 rest h.1.2 (half false) waiting one.settled in
      record {
        settled = other.settled;
        same = λ bound node le.
            let far : node + 1 + size_of a + size_of b ≡ node + (1 + (size_of a + size_of b)) = omega arith in
            p.same bound node le ∙ one.same bound (node + 1) le ∙ other.same bound (node + 1 + size_of a) le ∙ ap (λ (k : ℕ). tree_fault (whole m) bound k waiting (entries rest)) far;
      }

  -- ## Where a walk stands

  module _ (records : List Record) (place best : ℕ) (w : Walk) (stays : Stays m most records place best w) where
    stands_with : (s : Shape) (rest : List Record) → Begins s (drop place records) rest → (boxes : List (Pending Row)) → IsAt m w boxes → Settles boxes (entries (drop place records)) → StandsSome m w
    stands_with s rest begins [] at settled = absurd (nothing_settled s (drop place records) rest begins settled)
    stands_with s rest begins (q ∷ waiting) at settled = (q, waiting, at)

    pub stands_there : (size : ℕ) → IsSubtree records place size → StandsSome m w
    stands_there size sub = stands_with sub.shape _ sub.begins stays.boxes stays.at stays.settled

    pub somewhere : (boxes : List (Pending Row)) × IsAt m w boxes
    somewhere = (stays.boxes, stays.at)

    pub passed_by : (size : ℕ) (v : Walk) → IsSubtree records place size → ((q : Pending Row) (qs : List (Pending Row)) → Stands m w q qs → IsAt m v qs) → Stays m most records (place + size) best v
    passed_by size v sub leaves = by stays.boxes stays.at stays.settled stays.narrows
      where
        by : (boxes : List (Pending Row)) → IsAt m w boxes → Settles boxes (entries (drop place records))
            → Narrows 0 most best (λ bound. first_fault m records bound ≡ tree_fault (whole m) bound (place + 1) boxes (entries (drop place records))) (λ bound. first_fault m records bound ≢ None) → Stays m most records (place + size) best v
        by [] at settled narrows = absurd (nothing_settled sub.shape (drop place records) _ sub.begins settled)
        by (q ∷ waiting) at settled narrows =
            let p = subtree_passes sub.shape (drop place records) (drop (place + size) records) sub.begins q waiting settled in
            let far : place + 1 + size_of sub.shape ≡ place + size + 1 = omega (arith, sub.counts) in
            record {
              boxes = waiting;
              at = leaves q waiting at;
              settled = p.settled;
              narrows = record {
                from = narrows.from;
                to = narrows.to;
                passes = λ bound le. narrows.passes bound le ∙ p.same bound (place + 1) (omega (arith, le, narrows.to)) ∙ ap (λ (k : ℕ). tree_fault (whole m) bound k waiting (entries (drop (place + size) records))) far;
                fails = narrows.fails;
              };
            }

    module _ (r : Record) (lt : place < length records) (is : r ≡ get_or records place r) where
      there : entries (drop place records) ≡ entry_of m r ∷ entries (drop (place + 1) records)
      there = behind (entry_of m) records place r lt is

      abbrev TakesOn : ℕ → Walk → Type 0
      TakesOn best' v = (rest : List (Pending Row)) × IsAt m v rest × Narrows 0 best best'
          (λ bound. (es : List (Entry Row)) → tree_fault (whole m) bound (place + 1) stays.boxes (entry_of m r ∷ es) ≡ tree_fault (whole m) bound (place + 1 + 1) rest es)
          (λ bound. (es : List (Entry Row)) → tree_fault (whole m) bound (place + 1) stays.boxes (entry_of m r ∷ es) ≢ None)
          × IsBehind m (place + 1) stays.boxes (entry_of m r) rest

      so_far : (bound : ℕ) → bound ≤ best → first_fault m records bound ≡ tree_fault (whole m) bound (place + 1) stays.boxes (entry_of m r ∷ entries (drop (place + 1) records))
      so_far bound le = stays.narrows.passes bound le ∙ ap (λ (es : List (Entry Row)). tree_fault (whole m) bound (place + 1) stays.boxes es) there

      pub record_taken : (v : Walk) (r' : Result ℕ BoundNo) → ((qs : List (Pending Row)) → IsAt m w qs → Takes m (record { low = 0; high = best }) (place + 1) qs (entry_of m r) r' v) → IfOk r' (λ best. Stays m most records (place + 1) best v)
      record_taken v (Err f) takes = tt
      record_taken v (Ok best') takes =
          let t : TakesOn best' v = takes stays.boxes stays.at in
          let less : best' ≤ best = t.2.to in
          record {
            boxes = t.0;
            at = t.1;
            settled = settled_behind (place + 1) stays.boxes (entry_of m r) (entries (drop (place + 1) records)) t.0 (subst (λ (es : List (Entry Row)). Settles stays.boxes es) there stays.settled) t.3;
            narrows = record {
              from = t.2.from;
              to = omega (arith, less, stays.narrows.to);
              passes = λ bound le. so_far bound (omega (arith, less, le)) ∙ t.2.passes bound le (entries (drop (place + 1) records));
              fails = λ bound lt le none. elim (up_to bound best) [ inl here ↦ t.2.fails bound lt here (entries (drop (place + 1) records)) (sym (so_far bound here) ∙ none) | inr above ↦ stays.narrows.fails bound above le none ];
            };
          }

      pub none_refused : (v : Walk) (r' : Result ℕ BoundNo) → ((qs : List (Pending Row)) → IsAt m w qs → Takes m (record { low = 0; high = best }) (place + 1) qs (entry_of m r) r' v) → ProvesBound m records 0 → IfErr r' (λ fault. fault ≢ NoMemory → ⊥)
      none_refused v (Ok best') takes proves = tt
      none_refused v (Err f) takes proves = λ other.
          let none : first_fault m records 0 ≡ None = no_fault (whole m) 0 1 (root (whole m) ∷ []) (entries records) proves in
          let some : first_fault m records 0 ≡ Some f = tree_fails m 0 most (first_fault m records) best (place + 1) w v (entry_of m r) (entries (drop (place + 1) records)) (entries (drop place records)) f there (stays.boxes, stays.at, stays.narrows) takes other in
          let bad : ⊥ = cc in bad

    -- all records are passed
    pub gone_through : length records ≤ place → IsBestBound m records most best
    gone_through le = best_of m records most best (record {
      from = stays.narrows.from;
      to = stays.narrows.to;
      passes = λ bound less. stays.narrows.passes bound less ∙ by bound stays.boxes stays.settled;
      fails = stays.narrows.fails;
    })
      where
        by : (bound : ℕ) (boxes : List (Pending Row)) → Settles boxes (entries (drop place records)) → tree_fault (whole m) bound (place + 1) boxes (entries (drop place records)) ≡ None
        by bound boxes settled = rw (ends m records place le) (none bound boxes (subst (λ (es : List (Entry Row)). Settles boxes es) (ends m records place le) settled))
          where
            none : (bound : ℕ) (boxes : List (Pending Row)) → Settles boxes [] → tree_fault (whole m) bound (place + 1) boxes [] ≡ None
            none bound [] h = refl
            none bound (q ∷ qs) h = absurd h

  -- a walk begins at the root
  pub stays_at_root : (records : List Record) (w : Walk) → SettlesBound m records most → IsAt m w (root (whole m) ∷ []) → Stays m most records 0 most w
  stays_at_root records w settled at = record {
    boxes = root (whole m) ∷ [];
    at = at;
    settled = settled;
    narrows = record { from = omega arith; to = omega arith; passes = λ bound le. refl; fails = λ bound lt le. absurd (omega arith) };
  }
